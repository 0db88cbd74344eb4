-- No move makes more buffers whose blocks may come into the queue.
use Rattle.std.proofs.Common.{◌≡◌, ◌≢◌, ℕ, ◌+◌, ◌*◌, ◌≤◌, ◌<◌, Bool, true, false, not, cond, ◌&&◌, [], ◌∷◌, length, refl, sym, ◌∙◌, ap, subst, arith}
use Rattle.std.specs.Prelude.{◌==◌, nat_lt, Some, Contains, count_by}
use Rattle.std.proofs.lemmas.Bool.{eqb-true, eq-eqb, both_ways, and_parts, and_from, not-true, ltb-true, lt-ltb, leb-false}
use Rattle.law_lists.proofs.Counts.{count_changed, count_joined, count_none, only_found}
use Rattle.rec_format.specs.declared.version.Digest.{Digest}
use Rattle.model_device.specs.Book.{Setup, Buffer, Book, Live, Stream, client, defrag, Phase, filling, sealed, opening, is_filling, same_stream, sealed_if}
use Rattle.model_device.specs.Book.{seal_stream, filling_buffer, has_buffer, has_room, fits_in, use_of, with_new_buffer, used_more, live_of}
use Rattle.law_room.specs.Tidy.{IsTidy, fills}
use Rattle.law_room.specs.Room.{may_come}
use Rattle.law_room.proofs.Moving as moving
use Rattle.law_room.proofs.Readying.{IsReadied, has_own, fresh, fresh_unused}

-- the test on a buffer, by what it asks of it
abbrev comes : (live mark : ℕ) → Stream → Phase → (used : ℕ) → Bool
comes live mark stream phase used = nat_lt (live * 100) mark && not (same_stream defrag stream && is_filling phase && (live == used))

-- as much more is live as is used
comes_more : (live mark more used : ℕ) (stream : Stream) (phase : Phase) → comes (more + live) mark stream phase (used + more) ≡ true → comes live mark stream phase used ≡ true
comes_more live mark more used stream phase e =
    let two = and_parts (nat_lt ((more + live) * 100) mark) (not (same_stream defrag stream && is_filling phase && ((more + live) == (used + more)))) e in
    let lt = ltb-true ((more + live) * 100) mark two.0 in
    and_from (nat_lt (live * 100) mark) (not (same_stream defrag stream && is_filling phase && (live == used))) (lt-ltb (live * 100) mark (omega (arith, lt)))
    (by (same_stream defrag stream && is_filling phase) (live == used) refl two.1)
  where
    by : (f t : Bool) → (live == used) ≡ t → not (f && ((more + live) == (used + more))) ≡ true → not (f && t) ≡ true
    by false t is e = refl
    by true false is e = refl
    by true true is e =
        let same = eqb-true live used is in
        absurd (both_ways ((more + live) == (used + more)) (not-true ((more + live) == (used + more)) e) (eq-eqb (more + live) (used + more) (omega (arith, same))))

-- a full buffer, all live, isn't below the mark
comes_full : (live mark capacity units used : ℕ) → mark ≤ 50 * capacity → units * 100 < mark → capacity < used + units
    → comes live mark defrag sealed used ≡ true → comes live mark defrag filling used ≡ true
comes_full live mark capacity units used half small full e =
    let lt = ltb-true (live * 100) mark (and_parts (nat_lt (live * 100) mark) true e).0 in by lt (live == used) refl
  where
    by : live * 100 < mark → (t : Bool) → (live == used) ≡ t → comes live mark defrag filling used ≡ true
    by lt true is = let same = eqb-true live used is in absurd (omega (arith, lt, same, half, small, full))
    by lt false is = and_from (nat_lt (live * 100) mark) (not (live == used)) (lt-ltb (live * 100) mark lt) (ap not is)

-- ---- a new buffer begins

module _ (setup : Setup) (book : Book) (tidy : IsTidy setup book) (units : ℕ) (half : setup.lwm * setup.capacity ≤ 50 * setup.capacity) (small : units * 100 < setup.lwm * setup.capacity)
    (none : has_room setup defrag units book ≡ false) (some : 1 ≤ length book.free) where
  -- the buffer that took moved records is full
  is_full : (y : Buffer) → filling_buffer defrag book.buffers ≡ Some y → setup.capacity < y.used + units
  is_full y found = leb-false (y.used + units) setup.capacity (sym (ap (fits_in setup.capacity units) found) ∙ none)

  seals_come : (y : Buffer) → Contains book.buffers y → may_come setup (with_new_buffer defrag book) (sealed_if (same_stream defrag y.stream) y) ≡ true → may_come setup book y ≡ true
  seals_come y there = by y.stream y.phase refl refl
    where
      found : fills defrag y ≡ true → filling_buffer defrag book.buffers ≡ Some y
      found is = only_found (fills defrag) book.buffers y (tidy.alone defrag) there is

      by : (stream : Stream) (phase : Phase) → y.stream ≡ stream → y.phase ≡ phase
          → may_come setup (with_new_buffer defrag book) (sealed_if (same_stream defrag stream) (record y { stream = stream; phase = phase })) ≡ true
          → may_come setup book (record y { stream = stream; phase = phase }) ≡ true
      by client phase of_stream of_phase e = e
      by defrag filling of_stream of_phase e =
          comes_full (use_of book y.block) (setup.lwm * setup.capacity) setup.capacity units y.used half small
          (is_full y (found (ap (λ (s : Stream). same_stream defrag s && is_filling y.phase) of_stream ∙ ap is_filling of_phase))) e
      by defrag sealed of_stream of_phase e = e
      by defrag opening of_stream of_phase e = e

  new_buffer_gathers : may_come setup (with_new_buffer defrag book) (fresh setup book tidy some) ≡ false
  new_buffer_gathers =
      ap (λ (n : ℕ). comes n (setup.lwm * setup.capacity) defrag filling 0) (fresh_unused setup book tidy some) ∙ by (nat_lt (0 * 100) (setup.lwm * setup.capacity))
    where
      by : (t : Bool) → (t && false) ≡ false
      by true = refl
      by false = refl

  -- no more buffers may bring their block into the queue
  pub begun_come : count_by (may_come setup (with_new_buffer defrag book)) (with_new_buffer defrag book).buffers ≤ count_by (may_come setup book) book.buffers
  begun_come =
      let seals : Buffer → Buffer = λ y. sealed_if (same_stream defrag y.stream) y in
      let begun : Buffer → Bool = may_come setup (with_new_buffer defrag book) in
      let new = fresh setup book tidy some in
      let old = count_changed begun (may_come setup book) seals book.buffers seals_come in
      let one = count_none begun (new ∷ []) (new_buffer_gathers, tt) in
      omega (arith, count_joined begun (seal_stream defrag book.buffers) (new ∷ []), old, one)

-- ---- the copy is placed

module _ (setup : Setup) (book ready : Book) (x : Buffer) (is : IsReadied book ready x) (digest : Digest) (copy : Live) (tidy : IsTidy setup book)
    (live : live_of digest book.live ≡ Some copy) (bare : has_buffer book copy.block ≡ false) where
  abbrev new : Book
  new = moving.new setup book ready x is digest copy tidy live bare

  placed_comes : (y : Buffer) → Contains ready.buffers y → may_come setup new (used_more x.number copy.units y) ≡ true → may_come setup ready y ≡ true
  placed_comes y there = by (y.number == x.number) refl
    where
      ready_use : use_of ready y.block ≡ use_of book y.block
      ready_use = moving.ready_use setup book ready x is digest copy tidy live bare y.block

      by : (t : Bool) → (y.number == x.number) ≡ t → may_come setup new (cond t (record y { used = y.used + copy.units }) y) ≡ true → may_come setup ready y ≡ true
      by true same e =
          let block : y.block ≡ x.block = ap (λ (b : Buffer). b.block) (is.single y there (eqb-true y.number x.number same)) in
          let more : use_of new y.block ≡ copy.units + use_of ready y.block =
          ap (use_of new) block ∙ moving.new_here setup book ready x is digest copy tidy live bare ∙ ap (λ (n : ℕ). copy.units + n) (ap (use_of book) (sym block) ∙ sym ready_use) in
          comes_more (use_of ready y.block) (setup.lwm * setup.capacity) copy.units y.used y.stream y.phase
          (subst (λ (n : ℕ). comes n (setup.lwm * setup.capacity) y.stream y.phase (y.used + copy.units) ≡ true) more e)
      by false other e =
          let to : y.block ≢ x.block = λ block. both_ways (y.number == x.number) other (eq-eqb y.number x.number (ap (λ (b : Buffer). b.number) (is.lone y there block))) in
          let from : y.block ≢ copy.block = λ block.
          both_ways (has_buffer ready copy.block) (moving.ready_bare setup book ready x is digest copy tidy live bare) (subst (λ (n : ℕ). has_buffer ready n ≡ true) block (has_own ready y there)) in
          let still : use_of new y.block ≡ use_of ready y.block = moving.new_other setup book ready x is digest copy tidy live bare y.block from to ∙ sym ready_use in
          subst (λ (n : ℕ). comes n (setup.lwm * setup.capacity) y.stream y.phase y.used ≡ true) still e

  pub placed_come : count_by (may_come setup new) new.buffers ≤ count_by (may_come setup ready) ready.buffers
  placed_come =
      let all = count_changed (may_come setup new) (may_come setup ready) (used_more x.number copy.units) ready.buffers placed_comes in
      let same = ap (count_by (may_come setup new)) (moving.new_buffers setup book ready x is digest copy tidy live bare) in
      omega (arith, all, same)
