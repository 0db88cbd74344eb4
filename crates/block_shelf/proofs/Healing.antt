-- What a healing makes of a shelf, block after block: which gates it closes, how many, and that no gate is unsure behind it.
use Rattle.std.proofs.Common.{◌≡◌, ◌≢◌, ℕ, ◌+◌, ◌<◌, ◌≤◌, Bool, true, false, cond, List, [], ◌∷◌, length, Result, Ok, Err, refl, sym, ◌∙◌, ap, subst, arith, below_more}
use Rattle.std.specs.Prelude.{◌&&◌, not, ◌==◌, count_by, slice_set}
use Rattle.std.specs.List.{AllByRecursion, range_with_len}
use Rattle.std.proofs.lemmas.Bool.{cond-true, cond-false, both_ways, ne_eqb, and_left, and_right, and_from, and_parts}
use Rattle.std.proofs.lemmas.List.{get_or-set_same, get_or-set_other, set-get_or, length-set}
use Rattle.std.proofs.lemmas.List.Elements.{All-from_get_or, recursion_from_All}
use Rattle.std.proofs.lemmas.List.FromFn.{length-range_with_len}
use Rattle.std.proofs.lemmas.List.Sums.{count_by-le-length}
use Rattle.law_lists.proofs.Counts.{count_joined, count_cons, one_if}
use Rattle.law_lists.proofs.Each.{all_both}
use Rattle.law_lists.proofs.Finding.{any_none}
use Rattle.law_lists.proofs.Ranges.{range_next}
use Rattle.disk_model.specs.Disk.{DiskView, IsDisk, IsHonest, TellsTorn, TornFrom, meanwhile}
use Rattle.model_device.specs.Book.{Setup}
use Rattle.model_device.specs.Device.{State}
use Rattle.block_format.specs.declared.geometry.Gate.{Gate}
use Rattle.block_format.specs.declared.geometry.Gate.TheVariants.{Shut, Set, Unsure}
use Rattle.block_format.specs.Layout.{block_place}
use Rattle.law_images.specs.Gates.{GateStands}
use Rattle.write_buffer.specs.Buffers.{BufferState}
use Rattle.block_shelf.specs.View.{ShelfView, IsShelf, AreSure, gate_at, has_begun}
use Rattle.block_shelf.specs.Disks.{IsLater}
use Rattle.block_shelf.specs.Standing.{StandsFor}
use Rattle.block_shelf.specs.Calls.{Goes}
use Rattle.block_shelf.specs.Changes.{has_buffer_in}
use Rattle.block_shelf.specs.Sure.{StaysSure}
use Rattle.block_shelf.specs.Heals.{Covers, HealsBelow, StopsHealing, ClosesUnsure, HealsBlock, is_unsure, is_to_heal, to_heal_below}
use Rattle.block_shelf.proofs.FlushStages.{later_then}
use Rattle.block_shelf.proofs.Going.{goes_none, goes_then}
use Rattle.block_shelf.proofs.Roomed.{later_none}
use Rattle.block_shelf.proofs.Surely.{sure_kept, sure_then}
use Rattle.block_shelf.proofs.Unsure.{sure_at, closed_shelf, goes_unclosed}

-- ---- one gate

shut_sure : Shut ≢ Unsure
shut_sure e = grind (arith, e)

true_false : true ≢ false
true_false e = both_ways true e refl

unsure_told : (gate : Gate) → is_unsure gate ≡ true → gate ≡ Unsure
unsure_told Shut is = absurd (true_false (sym is))
unsure_told Set is = absurd (true_false (sym is))
unsure_told Unsure is = refl

sure_told : (gate : Gate) → gate ≢ Unsure → is_unsure gate ≡ false
sure_told Shut sure = refl
sure_told Set sure = refl
sure_told Unsure sure = absurd (sure refl)

-- no error is an answer, and no answer is two
answers_apart : {E : Type 0} → (r : Result Bool E) → r ≡ Ok true → r ≡ Ok false → ⊥
answers_apart r one other = true_false cc

no_answer : {A E : Type 0} (a : A) (e : E) → Err e ≡ Ok a → ⊥
no_answer a e same = cc

by_bool : (b : Bool) (P : Type 0) → (b ≡ true → P) → (b ≡ false → P) → P
by_bool true P is other = is refl
by_bool false P is other = other refl

-- what was told of some buffers is so of those that they are
pub told_of : {b : Bool} → (seen buffers : List BufferState) (block : ℕ) → seen ≡ buffers → {r : Bool} → r ≡ has_buffer_in seen block → r ≡ b → has_buffer_in buffers block ≡ b
told_of seen buffers block same told is = sym (told ∙ ap (λ (bs : List BufferState). has_buffer_in bs block) same) ∙ is

-- ---- a block more

module _ {D : Type 0} (old : ShelfView D) where
  sure_stays : (block : ℕ) → gate_at old.gates block ≢ Unsure → is_to_heal old block ≡ false
  sure_stays block sure = and_left (is_unsure (gate_at old.gates block)) (not (has_buffer_in old.buffers block)) (sure_told (gate_at old.gates block) sure)

  -- where no gate is unsure none is to heal
  pub none_to_heal : AreSure old.gates → (block : ℕ) → is_to_heal old block ≡ false
  none_to_heal sure block = sure_stays block (sure_at old.gates block sure)

  pub count_more : (n : ℕ) → to_heal_below (n + 1) old ≡ to_heal_below n old + one_if (is_to_heal old n)
  count_more n =
      let one : count_by (is_to_heal old) (n ∷ []) ≡ one_if (is_to_heal old n) = omega (arith, count_cons (is_to_heal old) n []) in
      ap (count_by (is_to_heal old)) (range_next n) ∙ count_joined (is_to_heal old) (range_with_len 0 n) (n ∷ []) ∙ ap (λ (k : ℕ). to_heal_below n old + k) one

  pub count_within : (n : ℕ) → to_heal_below n old ≤ n
  count_within n = omega (arith, count_by-le-length (is_to_heal old) (range_with_len 0 n), length-range_with_len 0 n)

  pub heals_none : HealsBelow 0 old old
  heals_none = record { below = λ block lt. absurd (omega (arith, lt)); behind = λ block le. refl; same_length = refl }

  abbrev healed : ShelfView D → (block : ℕ) → Type 0
  healed new block = gate_at new.gates block ≡ cond (is_to_heal old block) Shut (gate_at old.gates block)

  module _ (n : ℕ) (mid new : ShelfView D) (heals : HealsBelow n old mid) where
    -- it wasn't to heal
    pub heals_past : is_to_heal old n ≡ false → new.gates ≡ mid.gates → HealsBelow (n + 1) old new
    heals_past other same =
        let at = λ (block : ℕ). ap (λ (l : List Gate). gate_at l block) same in
        record {
          below = below_more (healed new) n (λ block lt. at block ∙ heals.below block lt)
              (at n ∙ heals.behind n (omega arith) ∙ sym (cond-false (is_to_heal old n) Shut (gate_at old.gates n) other));
          behind = λ block le. at block ∙ heals.behind block (omega (arith, le));
          same_length = ap length same ∙ heals.same_length;
        }

    -- it was, and is shut
    pub heals_more : n < length old.gates → is_to_heal old n ≡ true → new.gates ≡ slice_set mid.gates n Shut → HealsBelow (n + 1) old new
    heals_more lt is set =
        let at = λ (block : ℕ). ap (λ (l : List Gate). gate_at l block) set in
        let other = λ (block : ℕ) (apart : block ≢ n). at block ∙ get_or-set_other mid.gates n block Shut Shut apart in
        record {
          below = below_more (healed new) n (λ block lt. other block (λ e. omega (arith, lt, e)) ∙ heals.below block lt)
              (at n ∙ get_or-set_same mid.gates n Shut Shut (omega (arith, lt, heals.same_length)) ∙ sym (cond-true (is_to_heal old n) Shut (gate_at old.gates n) is));
          behind = λ block le. other block (λ e. omega (arith, le, e)) ∙ heals.behind block (omega (arith, le));
          same_length = ap length set ∙ length-set mid.gates n Shut ∙ heals.same_length;
        }

    -- what was to heal before the block was reached is so yet
    pub still_to_heal : mid.buffers ≡ old.buffers → is_to_heal mid n ≡ is_to_heal old n
    still_to_heal same =
        ap (λ (gate : Gate). is_unsure gate && not (has_buffer_in mid.buffers n)) (heals.behind n (omega arith))
        ∙ ap (λ (bs : List BufferState). is_unsure (gate_at old.gates n) && not (has_buffer_in bs n)) same

-- ---- no gate is unsure behind it

module _ {D : Type 0} (view : D → DiskView) (old new : ShelfView D) (is : IsShelf view old) where
  pub heals_sure : AllByRecursion (λ b. has_begun b.phase ≡ false) old.buffers → HealsBelow old.geometry.blocks old new → AreSure new.gates
  heals_sure waiting heals = recursion_from_All (λ (gate : Gate). gate ≢ Unsure) new.gates (All-from_get_or (λ (gate : Gate). gate ≢ Unsure) new.gates Shut each)
    where
      none_has : (block : ℕ) → gate_at old.gates block ≡ Unsure → has_buffer_in old.buffers block ≡ false
      none_has block unsure =
          any_none (λ b. b.block == block) old.buffers
          (all_both (λ b. has_begun b.phase ≡ false) (λ b. has_begun b.phase ≡ false → gate_at old.gates b.block ≡ Shut) (λ b. (b.block == block) ≡ false)
          (λ b begun waits. ne_eqb b.block block (λ at. shut_sure (sym (waits begun) ∙ ap (gate_at old.gates) at ∙ unsure)))
          old.buffers waiting is.waits)

      each : (block : ℕ) → block < length new.gates → gate_at new.gates block ≢ Unsure
      each block lt unsure =
          let known = heals.below block (omega (arith, lt, heals.same_length, is.gates)) in
          by_bool (is_to_heal old block) ⊥
          (λ healed. shut_sure (sym (cond-true (is_to_heal old block) Shut (gate_at old.gates block) healed) ∙ sym known ∙ unsure))
          (λ other.
          let was : gate_at old.gates block ≡ Unsure = sym (cond-false (is_to_heal old block) Shut (gate_at old.gates block) other) ∙ sym known ∙ unsure in
          both_ways (is_to_heal old block) other
          (and_from (is_unsure (gate_at old.gates block)) (not (has_buffer_in old.buffers block)) (ap is_unsure was) (ap not (none_has block was))))

-- ---- all of it

module _ {D : Type 0} (view : D → DiskView) (is_disk : (disk : D) → IsDisk (view disk)) (old : ShelfView D) where
  -- the blocks below a number were looked at, and so many gates closed
  pub record HealsTo (n closed : ℕ) (new : ShelfView D) : Type 0 where
    pub count : closed ≡ to_heal_below n old
    pub gates : HealsBelow n old new
    pub goes : (setup : Setup) (s : State) → StandsFor setup old s → Goes view setup [] old s new
    pub quiet : ((block : ℕ) → is_to_heal old block ≡ false) → new ≡ old
    pub rest : new ≡ record old { disk = new.disk; gates = new.gates }
    pub later : IsLater (view old.disk) (view new.disk)
    pub honest : IsHonest (view old.disk) → IsHonest (view new.disk)

  pub heals_first : HealsTo 0 0 old
  heals_first = record {
    count = refl;
    gates = heals_none old;
    goes = λ setup s stands. goes_none view setup old s (is_disk old.disk) stands;
    quiet = λ none. refl;
    rest = refl;
    later = later_none (view old.disk) (is_disk old.disk);
    honest = λ honest. honest;
  }

  module _ (n closed : ℕ) (mid new : ShelfView D) (heals : HealsTo n closed mid) where
    same : is_to_heal mid n ≡ is_to_heal old n
    same = still_to_heal old n mid mid heals.gates (ap (λ (v : ShelfView D). v.buffers) heals.rest)

    module _ {E : Type 0} (result : Result Bool E) (block : HealsBlock view n mid new result) where
      goes_on : (setup : Setup) (s : State) → StandsFor setup old s → Goes view setup [] old s new
      goes_on setup s stands = let first = heals.goes setup s stands in goes_then view setup [] [] old mid new s heals.honest first (block.goes setup s first.stands)

      rest_on : new ≡ record old { disk = new.disk; gates = new.gates }
      rest_on = block.rest ∙ ap (λ (v : ShelfView D). record v { disk = new.disk; gates = new.gates }) heals.rest

      quiet_on : ((block : ℕ) → is_to_heal old block ≡ false) → new ≡ old
      quiet_on none = (block.quiet (same ∙ none n)).1 ∙ heals.quiet none

      heals_on : (more : ℕ) → more ≡ to_heal_below (n + 1) old → HealsBelow (n + 1) old new → HealsTo (n + 1) more new
      heals_on more count gates = record {
        count = count;
        gates = gates;
        goes = goes_on;
        quiet = quiet_on;
        rest = rest_on;
        later = later_then (view old.disk) (view mid.disk) (view new.disk) heals.later block.later;
        honest = λ honest. block.honest (heals.honest honest);
      }

    -- the gate of this block was closed
    heals_yes : {E : Type 0} → n < length old.gates → HealsBlock {E = E} view n mid new (Ok true) → HealsTo (n + 1) (closed + 1) new
    heals_yes lt block =
        by_bool (is_to_heal mid n) (HealsTo (n + 1) (closed + 1) new)
        (λ to_heal.
        let was : is_to_heal old n ≡ true = sym same ∙ to_heal in
        let more : one_if (is_to_heal old n) ≡ 1 = ap one_if was in
        heals_on (Ok true) block (closed + 1) (omega (arith, heals.count, count_more old n, more)) (heals_more old n mid new heals.gates lt was (block.shut to_heal).1))
        (λ other. absurd (answers_apart (Ok true) refl (block.quiet other).0))

    -- or wasn't to heal
    heals_no : {E : Type 0} → HealsBlock {E = E} view n mid new (Ok false) → HealsTo (n + 1) closed new
    heals_no block =
        by_bool (is_to_heal mid n) (HealsTo (n + 1) closed new)
        (λ to_heal. absurd (true_false (sym (block.shut to_heal).0)))
        (λ other.
        let was : is_to_heal old n ≡ false = sym same ∙ other in
        let none : one_if (is_to_heal old n) ≡ 0 = ap one_if was in
        heals_on (Ok false) block closed (omega (arith, heals.count, count_more old n, none))
        (heals_past old n mid new heals.gates was (ap (λ (v : ShelfView D). v.gates) (block.quiet other).1)))

    -- as it was answered, and counted
    pub heals_counted : {E : Type 0} → (told : Bool) → told ≡ true → n < length old.gates → HealsBlock {E = E} view n mid new (Ok told) → (more : ℕ) → more ≡ closed + 1 → HealsTo (n + 1) more new
    heals_counted {E} told is lt block more one =
        subst (λ (k : ℕ). HealsTo (n + 1) k new) (sym one) (heals_yes lt (subst (λ (b : Bool). HealsBlock {E = E} view n mid new (Ok b)) is block))

    pub heals_passed : {E : Type 0} → (told : Bool) → told ≡ false → HealsBlock {E = E} view n mid new (Ok told) → (more : ℕ) → more ≡ closed → HealsTo (n + 1) more new
    heals_passed {E} told is block more same =
        subst (λ (k : ℕ). HealsTo (n + 1) k new) (sym same) (heals_no (subst (λ (b : Bool). HealsBlock {E = E} view n mid new (Ok b)) is block))

    -- or couldn't be closed: the gates are those that were known, and some gate was to heal
    module _ {E : Type 0} (e : E) (block : HealsBlock view n mid new (Err e)) where
      failed_at : is_to_heal old n ≡ true
      failed_at = by_bool (is_to_heal mid n) (is_to_heal old n ≡ true) (λ to_heal. sym same ∙ to_heal) (λ other. absurd (no_answer false e (block.quiet other).0))

      pub heals_failed : n < old.geometry.blocks → StopsHealing old new
      heals_failed lt =
          let stays : new.gates ≡ mid.gates = block.shut (same ∙ failed_at) in
          record {
            block = n;
            below = lt;
            to_heal = failed_at;
            before = record {
              below = λ k lt. ap (λ (l : List Gate). gate_at l k) stays ∙ heals.gates.below k lt;
              behind = λ k le. ap (λ (l : List Gate). gate_at l k) stays ∙ heals.gates.behind k le;
              same_length = ap length stays ∙ heals.gates.same_length;
            };
          }

      pub failed_goes : (setup : Setup) (s : State) → StandsFor setup old s → Goes view setup [] old s new
      failed_goes = goes_on (Err e) block

      pub failed_quiet : ((block : ℕ) → is_to_heal old block ≡ false) → new ≡ old
      failed_quiet = quiet_on (Err e) block

      pub failed_rest : new ≡ record old { disk = new.disk; gates = new.gates }
      failed_rest = rest_on (Err e) block

  -- no gate becomes unsure
  pub heals_surely : (new : ShelfView D) → IsLater (view old.disk) (view new.disk) → (((block : ℕ) → is_to_heal old block ≡ false) → new ≡ old) → StaysSure view old new
  heals_surely new later quiet = sure_kept view old new later.count (λ sure. ap (λ (v : ShelfView D). v.gates) (quiet (none_to_heal old sure)))

-- ---- one block

module _ {D : Type 0} (view : D → DiskView) (is_disk : (disk : D) → IsDisk (view disk)) (block : ℕ) (old : ShelfView D) {E : Type 0} where
  -- a pending buffer has it
  pub buffer_keeps : has_buffer_in old.buffers block ≡ true → HealsBlock {E = E} view block old old (Ok false)
  buffer_keeps has =
      let other : is_to_heal old block ≡ false = and_right (is_unsure (gate_at old.gates block)) (not (has_buffer_in old.buffers block)) (ap not has) in
      record {
        goes = λ setup s stands. goes_none view setup old s (is_disk old.disk) stands;
        quiet = λ none. (refl, refl);
        shut = λ to_heal. absurd (both_ways (is_to_heal old block) other to_heal);
        rest = refl;
        cause = tt;
        later = later_none (view old.disk) (is_disk old.disk);
        honest = λ honest. honest;
      }

  -- none has it
  pub heals_closed : (new : ShelfView D) (result : Result Bool E) → has_buffer_in old.buffers block ≡ false → ClosesUnsure view block old new result → HealsBlock view block old new result
  heals_closed new result none closes = record {
    goes = closes.goes;
    quiet = λ other. closes.quiet (λ unsure. both_ways (is_to_heal old block) other (and_from (is_unsure (gate_at old.gates block)) (not (has_buffer_in old.buffers block)) (ap is_unsure unsure) (ap not none)));
    shut = λ to_heal. closes.known (unsure_told (gate_at old.gates block) (and_parts (is_unsure (gate_at old.gates block)) (not (has_buffer_in old.buffers block)) to_heal).0);
    rest = closes.rest;
    cause = closes.cause;
    later = closes.later;
    honest = closes.honest;
  }

-- ---- a closed gate is written over an unsure one

module _ {D : Type 0} (view : D → DiskView) (is_disk : (disk : D) → IsDisk (view disk)) where
  pub covers_none : (old : ShelfView D) → Covers view old old
  covers_none old = record {
    goes = λ setup s stands. goes_none view setup old s (is_disk old.disk) stands;
    rest = refl;
    later = later_none (view old.disk) (is_disk old.disk);
    honest = λ honest. honest;
  }

  pub covers_then : (old mid new : ShelfView D) → Covers view old mid → Covers view mid new → Covers view old new
  covers_then old mid new first more = record {
    goes = λ setup s stands. let goes = first.goes setup s stands in goes_then view setup [] [] old mid new s first.honest goes (more.goes setup s goes.stands);
    rest = more.rest ∙ ap (λ (v : ShelfView D). record v { disk = new.disk }) first.rest;
    later = later_then (view old.disk) (view mid.disk) (view new.disk) first.later more.later;
    honest = λ honest. more.honest (first.honest honest);
  }

  module _ (old : ShelfView D) (disk : D) (block : ℕ) (is : IsShelf view old) (lt : block < old.geometry.blocks) (unbuffered : AllByRecursion (λ b. b.block ≢ block) old.buffers)
      (unsure : gate_at old.gates block ≡ Unsure) (later : IsLater (view old.disk) (view disk))
      (honest : IsHonest (view old.disk) → IsHonest (view disk)) (was_honest : IsHonest (view disk) → IsHonest (view old.disk))
      (torn : IsHonest (view old.disk) → TornFrom (block_place old.geometry block) 4096 (view old.disk).may_leave (meanwhile (view old.disk) (view disk)))
      (stands : IsHonest (view disk) → GateStands old.geometry (view disk).may_leave block Unsure) where
    same_gates : old.gates ≡ slice_set old.gates block Unsure
    same_gates = sym (ap (slice_set old.gates block) (sym unsure) ∙ set-get_or old.gates block Shut)

    stands_so : IsHonest (view disk) → GateStands old.geometry (view disk).may_leave block (gate_at old.gates block)
    stands_so now = subst (GateStands old.geometry (view disk).may_leave block) (sym unsure) (stands now)

    pub covered_shelf : ((view disk).tells → (view old.disk).tells) → TellsTorn (block_place old.geometry block) 4096 (view old.disk) (view disk) → IsShelf view (record old { disk = disk })
    covered_shelf was_told bytes = closed_shelf view is_disk old disk block is lt unbuffered later honest was_honest torn old.gates stands_so was_told bytes Unsure same_gates

    pub covers_one : Covers view old (record old { disk = disk })
    covers_one = record {
      goes = λ setup s stands. goes_unclosed view is_disk old disk block is lt unbuffered later honest was_honest torn old.gates stands_so unsure setup s stands same_gates;
      rest = refl;
      later = later;
      honest = honest;
    }

  -- a healing that a fault ended, and then a closed gate over what is left
  module _ (old mid new : ShelfView D) (rest : mid ≡ record old { disk = mid.disk; gates = mid.gates }) (covers : Covers view mid new) where
    same_after : new.gates ≡ mid.gates
    same_after = ap (λ (v : ShelfView D). v.gates) covers.rest

    pub stops_covered : StopsHealing old mid → StopsHealing old new
    stops_covered stops = record {
      block = stops.block;
      below = stops.below;
      to_heal = stops.to_heal;
      before = record {
        below = λ k lt. ap (λ (l : List Gate). gate_at l k) same_after ∙ stops.before.below k lt;
        behind = λ k le. ap (λ (l : List Gate). gate_at l k) same_after ∙ stops.before.behind k le;
        same_length = ap length same_after ∙ stops.before.same_length;
      };
    }

    pub rest_covered : new ≡ record old { disk = new.disk; gates = new.gates }
    rest_covered =
        covers.rest ∙ ap (λ (v : ShelfView D). record v { disk = new.disk }) rest ∙ ap (λ (l : List Gate). record old { disk = new.disk; gates = l }) (sym same_after)

    pub goes_covered : (setup : Setup) (s : State) → (IsHonest (view old.disk) → IsHonest (view mid.disk)) → Goes view setup [] old s mid → Goes view setup [] old s new
    goes_covered setup s honest goes = goes_then view setup [] [] old mid new s honest goes (covers.goes setup s goes.stands)

    pub sure_covered : StaysSure view old mid → StaysSure view old new
    sure_covered stays = sure_then view old mid new stays (sure_kept view mid new covers.later.count (λ sure. same_after))
