-- The order of the turns is the model's, and a book that stands for a raid stands for it after each turn.
use Rattle.std.proofs.Common.{◌≡◌, ℕ, ◌+◌, Bool, true, false, not, eqb, ltb, cond, List, [], ◌∷◌, ◌++◌, Option, Some, None, refl, sym, ap, subst, ◌∙◌, ⊎_elim}
use Rattle.std.specs.Prelude.{filter, map, ◌==◌}
use Rattle.std.proofs.lemmas.Bool.{cond-true, cond-false, eq-eqb, eqb-true, ne_eqb, not_from_false, cases_eq}
use Rattle.std.proofs.lemmas.List.Elements.{filter-append}
use Rattle.law_lists.proofs.Filters.{filter_out, filter_twice}
use Rattle.rec_format.specs.declared.version.Digest.{Digest}
use Rattle.rec_format.specs.declared.version.Stamp.{Stamp}
use Rattle.model_device.specs.Book.{Setup}
use Rattle.model_device.specs.Device.{State, RaidState, mark_turn, scan_turn, drop_turn, finished, part_of}
use Rattle.model_device.specs.Steps as steps
use Rattle.model_device.specs.Steps.{part_total, after_step, scanned_block, marked_part, compared_part, done_part}
use Rattle.block_format.specs.declared.geometry.Found.{Found}
use Rattle.raid_book.specs.declared.found.FoundCopy.{FoundCopy}
use Rattle.raid_book.specs.declared.turn.RaidNext.{RaidNext}
use Rattle.raid_book.specs.declared.turn.RaidNext.TheVariants.{Mark, Scan, Apply, Drop, Finished}
use Rattle.raid_book.specs.Found.{copy_in, copies_for, without_part, least_part, with_parts}
use Rattle.raid_book.specs.Turns.{turn_of, after_mark, after_drop, turn_with}
use Rattle.raid_book.specs.Books.{BookState, with_scan, after_turn}
use Rattle.raid_book.specs.Raids.{TurnsStand, RaidStands, RaidStandsBut, found_copies, found_parts}
use Rattle.raid_book.proofs.Rows.{copies_for-own, copies_for-other}
use Rattle.raid_book.proofs.Leasts.{least_part-same}

-- ---- the order of the turns

turn_of-cond : (b : Bool) (x y : RaidNext) → turn_of (cond b x y) ≡ cond b (turn_of x) (turn_of y)
turn_of-cond true x y = refl
turn_of-cond false x y = refl

after_mark-same : (setup : Setup) (parts part : ℕ) → parts ≡ part_total setup → turn_of (after_mark parts part) ≡ steps.after_mark setup part
after_mark-same setup parts part same =
    turn_of-cond (ltb (part + 1) parts) (Mark (part + 1)) (Scan 0) ∙ ap (λ (n : ℕ). cond (ltb (part + 1) n) (mark_turn (part + 1)) (scan_turn 0)) same

after_drop-same : (setup : Setup) (parts part : ℕ) → parts ≡ part_total setup → turn_of (after_drop parts part) ≡ steps.after_drop setup part
after_drop-same setup parts part same =
    turn_of-cond (ltb (part + 1) parts) (Drop (part + 1)) Finished ∙ ap (λ (n : ℕ). cond (ltb (part + 1) n) (drop_turn (part + 1)) finished) same

turn_with-same : (setup : Setup) (blocks scanned : ℕ) (o : Option ℕ) → blocks ≡ setup.blocks → turn_of (turn_with blocks scanned o) ≡ steps.turn_with setup scanned o
turn_with-same setup blocks scanned (Some part) same = refl
turn_with-same setup blocks scanned None same =
    turn_of-cond (ltb scanned blocks) (Scan scanned) (Drop 0) ∙ ap (λ (n : ℕ). cond (ltb scanned n) (scan_turn scanned) (drop_turn 0)) same

-- ---- the found copies of each part

abbrev of_part : Setup → ℕ → List (Digest × Stamp) → List (Digest × Stamp)
of_part setup part found = filter (λ f. part_of setup f.0 == part) found

-- the turn after a scan or a comparison
next_same : (setup : Setup) (blocks scanned : ℕ) (row : List FoundCopy) (found : List (Digest × Stamp)) → blocks ≡ setup.blocks → ((part : ℕ) → copies_for part row ≡ of_part setup part found)
    → turn_of (turn_with blocks scanned (least_part row)) ≡ steps.after_scan setup scanned found
next_same setup blocks scanned row found same copies =
    turn_with-same setup blocks scanned (least_part row) same ∙ ap (steps.turn_with setup scanned) (least_part-same setup row found copies)

with_parts-model : (setup : Setup) (found : List Found) (part : ℕ) → copies_for part (with_parts found (found_parts setup found)) ≡ of_part setup part (found_copies found)
with_parts-model setup [] part = refl
with_parts-model setup (f ∷ found) part =
    let place = part_of setup f.head.digest in
    let copy : FoundCopy = record { part = place; digest = f.head.digest; stamp = f.head.stamp } in
    let row = with_parts found (found_parts setup found) in
    let rest = of_part setup part (found_copies found) in
    ⊎_elim
    (λ same. copies_for-own part copy row same ∙ ap (λ l. copy_in copy ∷ l) (with_parts-model setup found part) ∙ sym (cond-true (eqb place part) (copy_in copy ∷ rest) rest (eq-eqb place part same)))
    (λ differ. copies_for-other part copy row differ ∙ with_parts-model setup found part
    ∙ sym (cond-false (eqb place part) (copy_in copy ∷ rest) rest (ne_eqb place part differ))) (cases_eq place part)

-- another part than the one that goes
differing : {X : Type 0} (part_for : X → ℕ) (part other : ℕ) → (other ≡ part → ⊥) → (x : X) → eqb (part_for x) other ≡ true → not (eqb (part_for x) part) ≡ true
differing part_for part other differs x is = not_from_false _ (ne_eqb _ _ (λ same. differs (sym (eqb-true _ _ is) ∙ same)))

without_part-same : (setup : Setup) (part : ℕ) (row : List FoundCopy) (found : List (Digest × Stamp)) → ((other : ℕ) → (other ≡ part → ⊥) → copies_for other row ≡ of_part setup other found)
    → (other : ℕ) → copies_for other (without_part part row) ≡ of_part setup other (filter (λ f. not (part_of setup f.0 == part)) found)
without_part-same setup part row found same other =
    let own = λ (c : FoundCopy). c.part in
    let place = λ (f : Digest × Stamp). part_of setup f.0 in
    ⊎_elim
    (λ here. subst (λ (p : ℕ). copies_for p (without_part part row) ≡ of_part setup p (filter (λ f. not (part_of setup f.0 == part)) found)) (sym here)
    (ap (map copy_in) (filter_out (λ c. eqb (own c) part) row) ∙ sym (filter_out (λ f. eqb (place f) part) found)))
    (λ differs. ap (map copy_in) (filter_twice (λ c. eqb (own c) other) (λ c. not (eqb (own c) part)) (differing own part other differs) row) ∙ same other differs
    ∙ sym (filter_twice (λ f. eqb (place f) other) (λ f. not (eqb (place f) part)) (differing place part other differs) found)) (cases_eq other part)

-- ---- the turns

-- the book and the raid went on alike
went_on : (setup : Setup) (b : BookState) (row : List FoundCopy) (next : RaidNext) (old new : RaidState) → TurnsStand setup b old → new.number ≡ old.number → new.scanned ≡ old.scanned
    → turn_of next ≡ new.next
    → TurnsStand setup (record b { next = next; found = row }) new
went_on setup b row next old new turns number scanned same = record {
  number = turns.number ∙ sym number;
  next = same;
  scanned = turns.scanned ∙ sym scanned;
  parts = turns.parts;
  blocks = turns.blocks;
}

pub marked_stands : (setup : Setup) (s : State) (b : BookState) (part now : ℕ) → RaidStands setup b s.raid
    → RaidStands setup (record b { next = after_mark b.parts part }) (after_step setup (marked_part part now) s).raid
unfolding after_step
marked_stands setup s b part now stands = record {
  turns = went_on setup b b.found (after_mark b.parts part) s.raid (after_step setup (marked_part part now) s).raid stands.turns refl refl (after_mark-same setup b.parts part stands.turns.parts);
  copies = stands.copies;
}

pub scanned_stands : (setup : Setup) (s : State) (b : BookState) (row : List FoundCopy) (found : List Found) → b.found ≡ [] → RaidStands setup b s.raid
    → ((part : ℕ) → copies_for part row ≡ copies_for part (with_parts found (found_parts setup found)))
    → RaidStands setup (with_scan row b) (after_step setup (scanned_block (found_copies found)) s).raid
unfolding after_step
scanned_stands setup s b row found none stands copies =
    let same = λ (part : ℕ).
    copies part ∙ with_parts-model setup found part
    ∙ sym (filter-append (λ f. eqb (part_of setup f.0) part) s.raid.found (found_copies found)
    ∙ ap (λ l. l ++ of_part setup part (found_copies found)) (sym (stands.copies part) ∙ ap (copies_for part) none)) in
    record {
      turns = record {
        number = stands.turns.number;
        next = next_same setup b.blocks (b.scanned + 1) row (s.raid.found ++ found_copies found) stands.turns.blocks same
            ∙ ap (λ (n : ℕ). steps.after_scan setup (n + 1) (s.raid.found ++ found_copies found)) stands.turns.scanned;
        scanned = ap (λ (n : ℕ). n + 1) stands.turns.scanned;
        parts = stands.turns.parts;
        blocks = stands.turns.blocks;
      };
      copies = same;
    }

pub compared_stands : (setup : Setup) (s : State) (b : BookState) (part : ℕ) → RaidStandsBut part setup b s.raid
    → RaidStands setup (after_turn (Apply part) part b) (after_step setup (compared_part part) s).raid
unfolding after_step
compared_stands setup s b part stands =
    let row = without_part part b.found in
    let left = filter (λ (f : Digest × Stamp). not (part_of setup f.0 == part)) s.raid.found in
    let same = without_part-same setup part b.found s.raid.found stands.copies in
    let next = next_same setup b.blocks b.scanned row left stands.turns.blocks same ∙ ap (λ (n : ℕ). steps.after_scan setup n left) stands.turns.scanned in
    record {
      turns = went_on setup b row (turn_with b.blocks b.scanned (least_part row)) s.raid (after_step setup (compared_part part) s).raid stands.turns refl refl next;
      copies = same;
    }

pub ended_stands : (setup : Setup) (s : State) (b : BookState) (part : ℕ) → RaidStands setup b s.raid
    → RaidStands setup (record b { next = after_drop b.parts part }) (after_step setup (done_part part) s).raid
unfolding after_step
ended_stands setup s b part stands = record {
  turns = went_on setup b b.found (after_drop b.parts part) s.raid (after_step setup (done_part part) s).raid stands.turns refl refl (after_drop-same setup b.parts part stands.turns.parts);
  copies = stands.copies;
}
