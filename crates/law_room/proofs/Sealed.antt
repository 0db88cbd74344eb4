-- What a seal of what is due leaves: which buffers take records, and how many blocks may come into the queue.
use Rattle.std.proofs.Common.{◌≡◌, ◌⊎◌, inl, inr, ◌+◌, ◌-◌, ◌*◌, ◌<◌, ◌≤◌, Bool, true, false, not, cond, ◌&&◌, List, [], ◌∷◌, ◌++◌, map, Option, Some, None, refl, ap, sym, subst, ◌∙◌, arith}
use Rattle.std.proofs.Math.Nat.{mul-le-mul_right}
use Rattle.std.proofs.lemmas.Bool.{and_parts, or_cases, cond-false, cond_both, false≢true, ltb-true, eqb-true, not-false, and_right, and_cases}
use Rattle.std.specs.Prelude.{find, count_by}
use Rattle.law_lists.proofs.Counts.{one_if, count_cons, count_changed}
use Rattle.model_device.specs.Book.{Setup, Book, Buffer, Stream, client, defrag, Phase, filling, sealed, opening, is_filling, same_stream, sealed_if, seal_stream, filling_buffer, use_of}
use Rattle.model_device.specs.Device.{State}
use Rattle.model_device.specs.Steps.{after_step, after_steps}
use Rattle.model_device.proofs.Blocks.{empty_is}
use Rattle.model_device.specs.Legal.{seal_if, is_due, is_short, is_empty, has_gathered}
use Rattle.law_trail.proofs.Unchanged.{other_found}
use Rattle.law_room.specs.Room.{is_below, gathers_live, may_come}
use Rattle.law_room.specs.Tidy.{fills}
use Rattle.law_room.proofs.Quiet.{sealed_fills}
use Rattle.law_room.proofs.Emptying.{filling_of}

-- ---- which buffers take records

abbrev pub sealed_where : Bool → Stream → List Buffer → List Buffer
sealed_where true stream bs = seal_stream stream bs
sealed_where false stream bs = bs

abbrev pub sealed_low : (first second : Bool) → List Buffer → List Buffer
sealed_low first second bs = sealed_where second defrag (sealed_where first client bs)

pub after_seals : (setup : Setup) (first second : Bool) (s : State)
    → (after_steps setup (seal_if first client ++ seal_if second defrag) s).book ≡ record s.book { buffers = sealed_low first second s.book.buffers }
unfolding after_step
after_seals setup true true s = refl
after_seals setup true false s = refl
after_seals setup false true s = refl
after_seals setup false false s = refl

-- that of the stream doesn't
own_gone : (stream : Stream) (bs : List Buffer) → filling_buffer stream (seal_stream stream bs) ≡ None
own_gone client [] = refl
own_gone defrag [] = refl
own_gone client (b ∷ bs) = by b.stream b.phase (own_gone client bs)
  where
    by : (stream : Stream) (phase : Phase) → filling_buffer client (seal_stream client bs) ≡ None → filling_buffer client (seal_stream client (record b { stream = stream; phase = phase } ∷ bs)) ≡ None
    by client filling rest = rest
    by client sealed rest = rest
    by client opening rest = rest
    by defrag phase rest = rest
own_gone defrag (b ∷ bs) = by b.stream b.phase (own_gone defrag bs)
  where
    by : (stream : Stream) (phase : Phase) → filling_buffer defrag (seal_stream defrag bs) ≡ None → filling_buffer defrag (seal_stream defrag (record b { stream = stream; phase = phase } ∷ bs)) ≡ None
    by client phase rest = rest
    by defrag filling rest = rest
    by defrag sealed rest = rest
    by defrag opening rest = rest

pub client_found : (first second : Bool) (bs : List Buffer) → filling_buffer client (sealed_low first second bs) ≡ cond first None (filling_buffer client bs)
client_found true true bs = other_found client defrag refl (seal_stream client bs) ∙ own_gone client bs
client_found true false bs = own_gone client bs
client_found false true bs = other_found client defrag refl bs
client_found false false bs = refl

pub defrag_found : (first second : Bool) (bs : List Buffer) → filling_buffer defrag (sealed_low first second bs) ≡ cond second None (filling_buffer defrag bs)
defrag_found true true bs = own_gone defrag (seal_stream client bs)
defrag_found true false bs = other_found defrag client refl bs
defrag_found false true bs = own_gone defrag bs
defrag_found false false bs = refl

-- those that aren't filling are none of them
pub filling_found : (stream : Stream) (bs : List Buffer) → filling_buffer stream (filling_of bs) ≡ filling_buffer stream bs
filling_found stream [] = refl
filling_found stream (b ∷ bs) = by (is_filling b.phase) refl (filling_found stream bs)
  where
    by : (f : Bool) → is_filling b.phase ≡ f → filling_buffer stream (filling_of bs) ≡ filling_buffer stream bs
        → filling_buffer stream (cond f (b ∷ filling_of bs) (filling_of bs)) ≡ cond (same_stream stream b.stream && f) (Some b) (filling_buffer stream bs)
    by true is rest = λ i. cond (same_stream stream b.stream && is i) (Some b) (rest i)
    by false is rest = rest ∙ sym (cond-false (same_stream stream b.stream && false) (Some b) (filling_buffer stream bs) (and_right _ _ refl))

-- ---- how many count

count_same : (test : Buffer → Bool) (change : Buffer → Buffer) → ((b : Buffer) → test (change b) ≡ test b) → (bs : List Buffer) → count_by test (map change bs) ≡ count_by test bs
count_same test change same [] = refl
count_same test change same (b ∷ bs) =
    count_cons test (change b) (map change bs) ∙ (λ i. one_if (same b i) + count_same test change same bs i) ∙ sym (count_cons test b bs)

-- where one element alone changes
module _ (own test : Buffer → Bool) (change : Buffer → Buffer) (others : (b : Buffer) → own b ≡ false → test (change b) ≡ test b) where
  none_changed : (bs : List Buffer) → count_by own bs ≤ 0 → count_by test (map change bs) ≡ count_by test bs
  none_changed [] few = refl
  none_changed (b ∷ bs) few = by (own b) refl (none_changed bs)
    where
      by : (o : Bool) → own b ≡ o → (count_by own bs ≤ 0 → count_by test (map change bs) ≡ count_by test bs) → count_by test (map change (b ∷ bs)) ≡ count_by test (b ∷ bs)
      by true is rest = let one : one_if (own b) ≡ 1 = ap one_if is in absurd (omega (arith, few, count_cons own b bs, one))
      by false is rest =
          count_cons test (change b) (map change bs)
          ∙ (λ i. one_if (others b is i) + rest (omega (arith, few, count_cons own b bs)) i) ∙ sym (count_cons test b bs)

  -- the counts differ as it does
  abbrev Changed : List Buffer → Option Buffer → Type 0
  Changed bs None = count_by test (map change bs) ≡ count_by test bs
  Changed bs (Some b) = count_by test (map change bs) + cond (test b) 1 0 ≡ count_by test bs + cond (test (change b)) 1 0

  one_changed : (bs : List Buffer) → count_by own bs ≤ 1 → Changed bs (find own bs)
  one_changed [] few = refl
  one_changed (b ∷ bs) few = by (own b) refl (one_changed bs) (none_changed bs)
    where
      first : count_by test (map change (b ∷ bs)) ≡ cond (test (change b)) 1 0 + count_by test (map change bs)
      first = count_cons test (change b) (map change bs)

      second : count_by test (b ∷ bs) ≡ cond (test b) 1 0 + count_by test bs
      second = count_cons test b bs

      further : (o : Option Buffer) → own b ≡ false → Changed bs o → Changed (b ∷ bs) o
      further None is rest = let same : cond (test (change b)) 1 0 ≡ cond (test b) 1 0 = ap one_if (others b is) in omega (arith, first, second, same, rest)
      further (Some c) is rest = let same : cond (test (change b)) 1 0 ≡ cond (test b) 1 0 = ap one_if (others b is) in omega (arith, first, second, same, rest)

      by : (o : Bool) → own b ≡ o → (count_by own bs ≤ 1 → Changed bs (find own bs)) → (count_by own bs ≤ 0 → count_by test (map change bs) ≡ count_by test bs)
          → Changed (b ∷ bs) (cond o (Some b) (find own bs))
      by true is rest none =
          let one : one_if (own b) ≡ 1 = ap one_if is in
          let same = none (omega (arith, few, count_cons own b bs, one)) in omega (arith, first, second, same)
      by false is rest none = further (find own bs) is (rest (omega (arith, few, count_cons own b bs)))

-- a client's buffer counts as before
client_same : (setup : Setup) (book : Book) (b : Buffer) → may_come setup book (sealed_if (same_stream client b.stream) b) ≡ may_come setup book b
client_same setup book b = by b.stream b.phase
  where
    by : (stream : Stream) (phase : Phase) → may_come setup book (sealed_if (same_stream client stream) (record b { stream = stream; phase = phase }))
        ≡ may_come setup book (record b { stream = stream; phase = phase })
    by client filling = refl
    by client sealed = refl
    by client opening = refl
    by defrag phase = refl

-- and one that takes no moved records
other_same : (setup : Setup) (book : Book) (b : Buffer) → fills defrag b ≡ false → may_come setup book (sealed_if (same_stream defrag b.stream) b) ≡ may_come setup book b
other_same setup book b none =
    ap (may_come setup book) (cond-false (same_stream defrag b.stream && is_filling b.phase) (record b { phase = sealed }) b none)

-- ---- what the seals of what is due change

-- No more blocks may come into the queue; or one more may, where nothing is queued, and then no buffer takes moved records.
abbrev pub CountsOver : Setup → (old new : Book) → Type 0
CountsOver setup old new =
    (count_by (may_come setup new) new.buffers ≤ count_by (may_come setup old) old.buffers)
    ⊎ ((old.queue ≡ []) × (filling_buffer defrag new.buffers ≡ None) × (count_by (may_come setup new) new.buffers ≤ count_by (may_come setup old) old.buffers + 1))

module _ (setup : Setup) (book : Book) (half : setup.lwm ≤ 50) where
  abbrev counts : Buffer → Bool
  counts = may_come setup book

  abbrev seal : Buffer → Buffer
  seal b = sealed_if (same_stream defrag b.stream) b

  sealed_below : (b : Buffer) → counts (seal b) ≡ true → is_below setup book b.block ≡ true
  sealed_below b =
      cond_both (same_stream defrag b.stream && is_filling b.phase) (record b { phase = sealed }) b (λ (c : Buffer). counts c ≡ true → is_below setup book b.block ≡ true)
      (λ _ is. (and_parts _ _ is).0) (λ _ is. (and_parts _ _ is).0)

  -- what a buffer has that comes to count
  pub record Comes (b : Buffer) : Type 0 where
    pub below : use_of book b.block * 100 < setup.lwm * setup.capacity
    pub live : use_of book b.block ≡ b.used

  comes_new : (b : Buffer) → counts b ≡ false → counts (seal b) ≡ true → Comes b
  comes_new b was is =
      let below = sealed_below b is in
      record {
        below = ltb-true (use_of book b.block * 100) (setup.lwm * setup.capacity) below;
        live = gathers (and_cases (is_below setup book b.block) (not (gathers_live book b)) was) below;
      }
    where
      gathers : (is_below setup book b.block ≡ false) ⊎ (not (gathers_live book b) ≡ false) → is_below setup book b.block ≡ true → use_of book b.block ≡ b.used
      gathers (inl none) below = absurd (false≢true (sym none ∙ below))
      gathers (inr some) below = eqb-true (use_of book b.block) b.used (and_parts _ _ (not-false (gathers_live book b) some)).1

  -- one that is short of room and has all of its records live is used to the mark
  not_short : (b : Buffer) → Comes b → is_short setup (Some b) ≡ true → ⊥
  not_short b comes short =
      let lacks : (setup.capacity - b.used) * 100 < setup.lwm * setup.capacity = ltb-true ((setup.capacity - b.used) * 100) (setup.lwm * setup.capacity) short in
      let most : setup.lwm * setup.capacity ≤ 50 * setup.capacity = mul-le-mul_right setup.capacity half in
      omega (arith, lacks, most, comes.below, comes.live)

  -- the book with these buffers
  abbrev with_these : List Buffer → Book
  with_these bs = record book { buffers = bs }

  client_counts : (first : Bool) → count_by counts (sealed_where first client book.buffers) ≡ count_by counts book.buffers
  client_counts true = count_same counts (λ b. sealed_if (same_stream client b.stream) b) (client_same setup book) book.buffers
  client_counts false = refl

  client_few : (first : Bool) (stream : Stream) → count_by (fills stream) book.buffers ≤ 1 → count_by (fills stream) (sealed_where first client book.buffers) ≤ 1
  client_few true stream few = omega (
    arith,
    few,
    count_changed (fills stream) (fills stream) (λ b. sealed_if (same_stream client b.stream) b) book.buffers
        (λ b there. sealed_fills stream (same_stream client b.stream) b),
  )
  client_few false stream few = few

  module _ (first : Bool) where
    abbrev mid : List Buffer
    mid = sealed_where first client book.buffers

    -- the buffer of moved records is sealed
    second_counts : (o : Option Buffer) → filling_buffer defrag book.buffers ≡ o → has_gathered setup book defrag ≡ true → Changed (fills defrag) counts seal (other_same setup book) mid o
        → CountsOver setup book (with_these (seal_stream defrag mid))
    second_counts None found gathered same = inl (omega (arith, same, client_counts first))
    second_counts (Some b) found gathered changed = by (counts b) (counts (seal b)) refl refl changed
      where
        new : (or : (is_empty book.queue ≡ true) ⊎ ((is_empty book.free && is_short setup (filling_buffer defrag book.buffers)) ≡ true)) → Comes b
            → count_by counts (seal_stream defrag mid) ≡ count_by counts mid + 1 → CountsOver setup book (with_these (seal_stream defrag mid))
        new (inl nothing) comes more = inr (empty_is book.queue nothing, own_gone defrag mid, omega (arith, more, client_counts first))
        new (inr both) comes more = absurd (not_short b comes (sym (ap (is_short setup) found) ∙ (and_parts _ _ both).1))

        by : (x y : Bool) → counts b ≡ x → counts (seal b) ≡ y → count_by counts (seal_stream defrag mid) + cond x 1 0 ≡ count_by counts mid + cond y 1 0
            → CountsOver setup book (with_these (seal_stream defrag mid))
        by x false is_x is_y changed = inl (omega (arith, changed, client_counts first))
        by true true is_x is_y changed = inl (omega (arith, changed, client_counts first))
        by false true is_x is_y changed =
            new (or_cases (is_empty book.queue) (is_empty book.free && is_short setup (filling_buffer defrag book.buffers)) gathered) (comes_new b is_x is_y) (omega (arith, changed))

    pub seals_count : (second : Bool) → (second ≡ true → has_gathered setup book defrag ≡ true) → ((stream : Stream) → count_by (fills stream) book.buffers ≤ 1)
        → CountsOver setup book (with_these (sealed_low first second book.buffers))
    seals_count false gathered alone = inl (omega (arith, client_counts first))
    seals_count true gathered alone =
        second_counts (filling_buffer defrag book.buffers) refl (gathered refl)
        (subst (Changed (fills defrag) counts seal (other_same setup book) mid) (defrag_found first false book.buffers)
        (one_changed (fills defrag) counts seal (other_same setup book) mid (client_few first defrag (alone defrag))))

-- what is due has gathered
pub due_gathered : (setup : Setup) (book : Book) (stream : Stream) → is_due setup book stream ≡ true → has_gathered setup book stream ≡ true
due_gathered setup book stream due = (and_parts _ _ due).1
