-- Before a copy is placed among moved records: the buffer that takes it stands as it was, or begins in the first free block.
use Rattle.std.proofs.Common.{◌≡◌, ◌≢◌, ◌⊎◌, inl, inr, ⊎_elim, ℕ, ◌≤◌, ◌<◌, Bool, true, false, ◌||◌, List, [], ◌∷◌, length, refl, sym, ◌∙◌, ap, subst, arith}
use Rattle.std.specs.Prelude.{◌==◌, Some, Contains, count_by}
use Rattle.std.specs.List.{list_any}
use Rattle.std.proofs.lemmas.Bool.{or_from, ne_eqb, eq-eqb, both_ways}
use Rattle.std.proofs.lemmas.List.Folds.{list_any-append}
use Rattle.std.proofs.lemmas.List.Elements.{Contains-append_cases, Contains-append_right}
use Rattle.law_lists.proofs.Counts.{count_changed, count_joined, count_none, only_found}
use Rattle.law_lists.proofs.Each.{all_at, all_from}
use Rattle.law_lists.proofs.Finding.{any_there, find_there}
use Rattle.law_lists.proofs.Members.{cons_cases, map_there, map_from, first_there}
use Rattle.model_device.specs.Book.{Setup, Buffer, Book, Stream, client, defrag, Phase, filling, sealed, opening, same_stream, sealed_if, seal_stream}
use Rattle.model_device.specs.Book.{first_block, filling_buffer, has_buffer, use_of, with_new_buffer}
use Rattle.law_start.specs.Holding.{AreRising}
use Rattle.law_trail.specs.Trail.{places_of}
use Rattle.law_trail.proofs.Books.{free_has_nothing}
use Rattle.law_trail.proofs.Flushing.{one_place}
use Rattle.law_trail.proofs.Places.{buffer_place}
use Rattle.law_trail.proofs.Placing.{place, sealed_place, new_places, first_free}
use Rattle.law_room.specs.Tidy.{IsTidy, fills}
use Rattle.law_room.proofs.Quiet.{sealed_fills}

-- ---- buffers

-- of one number there is one buffer
one_number : (bs : List Buffer) (x y : Buffer) → AreRising bs → Contains bs x → Contains bs y → x.number ≡ y.number → x ≡ y
one_number [] x y rising in_x in_y same = absurd (omega (arith, in_x.1))
one_number (b ∷ bs) x y rising in_x in_y same = by (cons_cases b bs x in_x) (cons_cases b bs y in_y) (λ more_x more_y. one_number bs x y rising.1 more_x more_y same)
  where
    above : (z : Buffer) → Contains bs z → b.number < z.number
    above z there = all_at (λ (c : Buffer). b.number < c.number) bs z rising.0 there

    by : (b ≡ x) ⊎ Contains bs x → (b ≡ y) ⊎ Contains bs y → (Contains bs x → Contains bs y → x ≡ y) → x ≡ y
    by (inl a) (inl c) rest = sym a ∙ c
    by (inl a) (inr c) rest = let here : b.number ≡ x.number = ap (λ (z : Buffer). z.number) a in absurd (omega (arith, above y c, here, same))
    by (inr a) (inl c) rest = let here : b.number ≡ y.number = ap (λ (z : Buffer). z.number) c in absurd (omega (arith, above x a, here, same))
    by (inr a) (inr c) rest = rest a c

-- a buffer's block has one
pub has_own : (book : Book) (b : Buffer) → Contains book.buffers b → has_buffer book b.block ≡ true
has_own book b there = any_there (λ c. c.block == b.block) book.buffers b there (eq-eqb b.block b.block refl)

-- what a new buffer brings to the blocks that have one
pub new_has : (stream : Stream) (book : Book) (block : ℕ) → has_buffer (with_new_buffer stream book) block ≡ (has_buffer book block || ((first_block book.free == block) || false))
new_has stream book block =
    buffer_place (with_new_buffer stream book) block ∙ ap (list_any (λ (p : ℕ × ℕ). p.1 == block)) (new_places stream book)
    ∙ list_any-append (λ (p : ℕ × ℕ). p.1 == block) (places_of book) ((book.next_number, first_block book.free) ∷ [])
    ∙ ap (λ t. t || ((first_block book.free == block) || false)) (sym (buffer_place book block))

-- ---- a buffer that takes moved records

-- The same is live, free and queued. This buffer takes the records, and is alone in its block and with its number. No block has a buffer
-- that had none, but one in which nothing was live.
pub record IsReadied (book ready : Book) (x : Buffer) : Type 0 where
  pub live : ready.live ≡ book.live
  pub free : ready.free ≡ book.free
  pub queue : ready.queue ≡ book.queue
  pub holds : ready.holds ≡ book.holds
  pub found : filling_buffer defrag ready.buffers ≡ Some x
  pub single : (y : Buffer) → Contains ready.buffers y → y.number ≡ x.number → y ≡ x
  pub lone : (y : Buffer) → Contains ready.buffers y → y.block ≡ x.block → y ≡ x
  pub alone : (stream : Stream) → count_by (fills stream) ready.buffers ≤ 1
  pub buffered : (block : ℕ) → 1 ≤ use_of book block → has_buffer ready block ≡ has_buffer book block
  pub unused : (block : ℕ) → Contains book.free block → block ≢ x.block → has_buffer ready block ≡ false

module _ (setup : Setup) (book : Book) (tidy : IsTidy setup book) where
  -- the buffer has room
  pub same_readied : (x : Buffer) → filling_buffer defrag book.buffers ≡ Some x → IsReadied book book x
  same_readied x found = record {
    live = refl;
    free = refl;
    queue = refl;
    holds = refl;
    found = found;
    single = λ y there same. one_number book.buffers y x tidy.numbered.rising there in_x same;
    lone = λ y there same.
        one_number book.buffers y x tidy.numbered.rising there in_x
        (ap (λ (p : ℕ × ℕ). p.0) (one_place (places_of book) (place y) (place x) tidy.booked.apart (map_there place book.buffers y there) (map_there place book.buffers x in_x) same));
    alone = tidy.alone;
    buffered = λ block some. refl;
    unused = λ block there other. (free_has_nothing book block tidy.booked there).buffer;
  }
    where
      in_x : Contains book.buffers x
      in_x = find_there (fills defrag) book.buffers x found

  -- ---- a new buffer

  module _ (some : 1 ≤ length book.free) where
    abbrev pub fresh : Buffer
    fresh = record { number = book.next_number; block = first_block book.free; stream = defrag; used = 0; phase = filling }

    abbrev seals : Buffer → Buffer
    seals b = sealed_if (same_stream defrag b.stream) b

    is_free : Contains book.free (first_block book.free)
    is_free = first_free book.free some

    pub fresh_unused : use_of book (first_block book.free) ≡ 0
    fresh_unused = (free_has_nothing book (first_block book.free) tidy.booked is_free).live

    -- a buffer of before, or the new one
    fresh_cases : (y : Buffer) → Contains (with_new_buffer defrag book).buffers y → ((z : Buffer) × Contains book.buffers z × (place z ≡ place y)) ⊎ (fresh ≡ y)
    fresh_cases y there =
        ⊎_elim (λ (old : Contains (seal_stream defrag book.buffers) y).
        let z = map_from seals book.buffers y old in
        inl (z.0, z.1, sym (sealed_place (same_stream defrag z.0.stream) z.0) ∙ ap place z.2))
        (λ (new : Contains (fresh ∷ []) y).
        ⊎_elim (λ (e : fresh ≡ y). inr e) (λ (none : Contains [] y). absurd (omega (arith, none.1))) (cons_cases fresh [] y new))
        (Contains-append_cases (seal_stream defrag book.buffers) (fresh ∷ []) y there)

    sealed_none : (y : Buffer) → fills defrag (seals y) ≡ false
    sealed_none y = by y.stream y.phase
      where
        by : (stream : Stream) (phase : Phase) → fills defrag (seals (record y { stream = stream; phase = phase })) ≡ false
        by client phase = refl
        by defrag filling = refl
        by defrag sealed = refl
        by defrag opening = refl

    new_alone : (stream : Stream) → count_by (fills stream) (with_new_buffer defrag book).buffers ≤ 1
    new_alone client =
        let old = count_changed (fills client) (fills client) seals book.buffers (λ y there. sealed_fills client (same_stream defrag y.stream) y) in
        let one : count_by (fills client) (fresh ∷ []) ≡ 0 = refl in
        omega (arith, count_joined (fills client) (seal_stream defrag book.buffers) (fresh ∷ []), old, one, tidy.alone client)
    new_alone defrag =
        let old = count_changed (fills defrag) (λ y. false) seals book.buffers (λ y there is. sym (sealed_none y) ∙ is) in
        let none = count_none (λ (y : Buffer). false) book.buffers (all_from (λ y. false ≡ false) book.buffers (λ y there. refl)) in
        let one : count_by (fills defrag) (fresh ∷ []) ≡ 1 = refl in
        omega (arith, count_joined (fills defrag) (seal_stream defrag book.buffers) (fresh ∷ []), old, none, one)

    new_found : filling_buffer defrag (with_new_buffer defrag book).buffers ≡ Some fresh
    new_found =
        only_found (fills defrag) (with_new_buffer defrag book).buffers fresh (new_alone defrag)
        (Contains-append_right (seal_stream defrag book.buffers) (fresh ∷ []) fresh (first_there fresh [])) refl

    pub new_readied : IsReadied book (with_new_buffer defrag book) fresh
    new_readied = record {
      live = refl;
      free = refl;
      queue = refl;
      holds = refl;
      found = new_found;
      single = λ y there same.
          ⊎_elim (λ (old : (z : Buffer) × Contains book.buffers z × (place z ≡ place y)).
          let lt = all_at (λ (b : Buffer). b.number < book.next_number) book.buffers old.0 tidy.numbered.below old.1 in
          let is : old.0.number ≡ y.number = ap (λ (p : ℕ × ℕ). p.0) old.2 in
          absurd (omega (arith, lt, is, same))) (λ (e : fresh ≡ y). sym e) (fresh_cases y there);
      lone = λ y there same.
          ⊎_elim (λ (old : (z : Buffer) × Contains book.buffers z × (place z ≡ place y)).
          let is : old.0.block ≡ first_block book.free = ap (λ (p : ℕ × ℕ). p.1) old.2 ∙ same in
          absurd (both_ways (has_buffer book (first_block book.free)) (free_has_nothing book (first_block book.free) tidy.booked is_free).buffer
          (subst (λ (n : ℕ). has_buffer book n ≡ true) is (has_own book old.0 old.1)))) (λ (e : fresh ≡ y). sym e) (fresh_cases y there);
      alone = new_alone;
      buffered = λ block used.
          new_has defrag book block
          ∙ ap (λ t. has_buffer book block || (t || false)) (ne_eqb (first_block book.free) block
          (λ same. let zero_use = subst (λ (n : ℕ). use_of book n ≡ 0) same fresh_unused in absurd (omega (arith, zero_use, used))))
          ∙ or_none (has_buffer book block);
      unused = λ block there other.
          new_has defrag book block
          ∙ or_from (has_buffer book block) ((first_block book.free == block) || false) (free_has_nothing book block tidy.booked there).buffer
          (or_from (first_block book.free == block) false (ne_eqb (first_block book.free) block (λ same. other (sym same))) refl);
    }
      where
        or_none : (t : Bool) → (t || (false || false)) ≡ t
        or_none true = refl
        or_none false = refl
