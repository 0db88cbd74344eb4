-- Each turn of a raid leaves fewer turns.
use Rattle.std.proofs.Common.{◌≡◌, ◌≢◌, ℕ, suc, ◌+◌, ◌-◌, ◌*◌, ◌<◌, ◌≤◌, max, Bool, true, false, not, cond, List, [], ◌∷◌, Option, Some, None, refl, sym, ◌∙◌, ap, subst, arith}
use Rattle.std.proofs.Math.Nat.{suc-mul}
use Rattle.std.specs.Prelude.{◌==◌, nat_lt}
use Rattle.std.specs.List.{All}
use Rattle.std.proofs.lemmas.Bool.{eq-eqb}
use Rattle.std.proofs.lemmas.List.Elements.{All-head, All-tail}
use Rattle.model_device.specs.Steps.{least}
use Rattle.raid_book.specs.declared.found.FoundCopy.{FoundCopy}
use Rattle.raid_book.specs.declared.turn.RaidNext.{RaidNext}
use Rattle.raid_book.specs.declared.turn.RaidNext.TheVariants.{Mark, Scan, Apply, Drop, Finished}
use Rattle.raid_book.specs.Books.{BookState, FitsTurn, with_scan, after_turn}
use Rattle.raid_book.specs.Found.{least_part, without_part}
use Rattle.raid_book.specs.Turns.{after_mark, after_drop, turn_with}
use Rattle.block_shelf.specs.View.{ShelfView}
use Rattle.shard_raid.specs.Raids.{turns_left}

-- the least part of the other copies is above the part
later_part : (part : ℕ) (found : List FoundCopy) → All (λ c. part ≤ c.part) found → (q : ℕ) → least_part (without_part part found) ≡ Some q → part < q
later_part part [] above q is = absurd cc
later_part part (c ∷ found) above q is = by (c.part == part) refl is (later_part part found (All-tail (λ d. part ≤ d.part) c found above))
  where
    first : part ≤ c.part
    first = All-head (λ d. part ≤ d.part) c found above

    among : c.part ≢ part → (o : Option ℕ) → ((n : ℕ) → o ≡ Some n → part < n) → Some (least o c.part) ≡ Some q → part < q
    among apart None rest same = let one : c.part ≡ q = cc in omega (arith, first, one, λ (e : part ≡ c.part). apart (sym e))
    among apart (Some m) rest same = one (nat_lt m c.part) refl same
      where
        one : (b : Bool) → nat_lt m c.part ≡ b → Some (cond b m c.part) ≡ Some q → part < q
        one true is same = let it : m ≡ q = cc in omega (arith, rest m refl, it)
        one false is same = let it : c.part ≡ q = cc in omega (arith, first, it, λ (e : part ≡ c.part). apart (sym e))

    by : (b : Bool) → (c.part == part) ≡ b → least_part (cond (not b) (c ∷ without_part part found) (without_part part found)) ≡ Some q
        → ((n : ℕ) → least_part (without_part part found) ≡ Some n → part < n) → part < q
    by true same is rest = rest q is
    by false other is rest = among (λ same. absurd (let yes = eq-eqb c.part part same in let never : true ≡ false = sym yes ∙ other in cc)) (least_part (without_part part found)) rest is

module _ (old : BookState) where
  abbrev parts : ℕ
  parts = max old.parts 1

  abbrev blocks : ℕ
  blocks = max old.blocks 1

  -- a part is marked
  marked : (part : ℕ) → part < parts → turns_left (record old { next = after_mark old.parts part }) < (parts - part) + blocks * (old.parts + 1) + parts
  marked part below = by (nat_lt (part + 1) old.parts)
    where
      whole : (blocks - 0) * (old.parts + 1) ≡ blocks * (old.parts + 1)
      whole = ap (λ (n : ℕ). n * (old.parts + 1)) (let all : blocks - 0 ≡ blocks = omega arith in all)

      by : (b : Bool) → turns_left (record old { next = cond b (Mark (part + 1)) (Scan 0) }) < (parts - part) + blocks * (old.parts + 1) + parts
      by true = omega (arith, below)
      by false = omega (arith, below, whole)

  -- a block is scanned
  module _ (block : ℕ) (below : block < blocks) (found : List FoundCopy) (at : old.scanned ≡ block) where
    one_less : (blocks - block) * (old.parts + 1) ≡ (blocks - (block + 1)) * (old.parts + 1) + (old.parts + 1)
    one_less = let more : blocks - block ≡ suc (blocks - (block + 1)) = omega (arith, below) in ap (λ (n : ℕ). n * (old.parts + 1)) more ∙ suc-mul (blocks - (block + 1)) (old.parts + 1)

    scanned : turns_left (with_scan found old) < (blocks - block) * (old.parts + 1) + parts
    scanned = by (least_part found)
      where
        same : (blocks - (old.scanned + 1)) * (old.parts + 1) ≡ (blocks - (block + 1)) * (old.parts + 1)
        same = ap (λ (n : ℕ). (blocks - (n + 1)) * (old.parts + 1)) at

        next : (b : Bool) → turns_left (record old { scanned = old.scanned + 1; found = found; next = cond b (Scan (old.scanned + 1)) (Drop 0) }) < (blocks - block) * (old.parts + 1) + parts
        next true = omega (arith, one_less, same)
        next false = omega (arith, one_less, same)

        by : (o : Option ℕ) → turns_left (record old { scanned = old.scanned + 1; found = found; next = turn_with old.blocks (old.scanned + 1) o }) < (blocks - block) * (old.parts + 1) + parts
        by (Some part) = omega (arith, one_less, same)
        by None = next (nat_lt (old.scanned + 1) old.blocks)

  -- what was found of a part is compared
  compared : (part : ℕ) → part < old.parts → All (λ c. part ≤ c.part) old.found → turns_left (after_turn (Apply part) part old) < (blocks - old.scanned) * (old.parts + 1) + (old.parts - part) + parts
  compared part below above = by (least_part (without_part part old.found)) (later_part part old.found above)
    where
      next : (b : Bool) → turns_left (record old { found = without_part part old.found; next = cond b (Scan old.scanned) (Drop 0) }) < (blocks - old.scanned) * (old.parts + 1) +
          (old.parts - part) + parts
      next true = omega (arith, below)
      next false = omega (arith, below)

      by : (o : Option ℕ) → ((q : ℕ) → o ≡ Some q → part < q)
          → turns_left (record old { found = without_part part old.found; next = turn_with old.blocks old.scanned o }) < (blocks - old.scanned) * (old.parts + 1) + (old.parts - part) + parts
      by (Some q) later = omega (arith, below, later q refl)
      by None later = next (nat_lt old.scanned old.blocks)

  -- a part ends
  ended : (part : ℕ) → part < parts → turns_left (record old { next = after_drop old.parts part }) < parts - part
  ended part below = by (nat_lt (part + 1) old.parts) refl
    where
      by : (b : Bool) → nat_lt (part + 1) old.parts ≡ b → turns_left (record old { next = cond b (Drop (part + 1)) Finished }) < parts - part
      by true is = omega (arith, below)
      by false is = omega (arith, below)

-- ---- each turn

module _ (old : BookState) (fits : FitsTurn old.next old) where
  -- of a part
  module _ (part : ℕ) where
    pub mark_nearer : old.next ≡ Mark part → turns_left (after_turn old.next part old) < turns_left old
    mark_nearer at =
        subst (λ (n : RaidNext). turns_left (after_turn n part old) < turns_left (record old { next = n })) (sym at)
        (let is : FitsTurn (Mark part) old = subst (λ (n : RaidNext). FitsTurn n old) at fits in marked old part is.0)

    pub apply_nearer : old.next ≡ Apply part → turns_left (after_turn old.next part old) < turns_left old
    apply_nearer at =
        subst (λ (n : RaidNext). turns_left (after_turn n part old) < turns_left (record old { next = n })) (sym at)
        (let is : FitsTurn (Apply part) old = subst (λ (n : RaidNext). FitsTurn n old) at fits in compared old part is.0 is.1)

    pub drop_nearer : old.next ≡ Drop part → turns_left (after_turn old.next part old) < turns_left old
    drop_nearer at =
        subst (λ (n : RaidNext). turns_left (after_turn n part old) < turns_left (record old { next = n })) (sym at)
        (let is : FitsTurn (Drop part) old = subst (λ (n : RaidNext). FitsTurn n old) at fits in ended old part is.0)

  -- of a block
  pub scan_nearer : (block : ℕ) (found : List FoundCopy) → old.next ≡ Scan block → turns_left (with_scan found old) < turns_left old
  scan_nearer block found at =
      subst (λ (n : RaidNext). turns_left (with_scan found old) < turns_left (record old { next = n })) (sym at)
      (let is : FitsTurn (Scan block) old = subst (λ (n : RaidNext). FitsTurn n old) at fits in scanned old block is.0 found is.1)

-- where copies of the part were taken out before
pub compared_nearer : {D : Type 0} (old mid new : ShelfView D) (part : ℕ) → old.raid.next ≡ Apply part → mid ≡ record old { raid = record old.raid { found = mid.raid.found } }
    → FitsTurn mid.raid.next mid.raid
    → new ≡ record mid { raid = after_turn mid.raid.next part mid.raid } → turns_left new.raid < turns_left old.raid
compared_nearer {D} old mid new part at rest fits put =
    let is : mid.raid ≡ record old.raid { found = mid.raid.found } = ap (λ (v : ShelfView D). v.raid) rest in
    let mid_at : mid.raid.next ≡ Apply part = ap (λ (b : BookState). b.next) is ∙ at in
    let same : turns_left mid.raid ≡ turns_left old.raid =
    ap turns_left is ∙ ap (λ (n : RaidNext). turns_left (record old.raid { found = mid.raid.found; next = n })) at ∙ sym (ap (λ (n : RaidNext). turns_left (record old.raid { next = n })) at) in
    let less = apply_nearer mid.raid fits part mid_at in
    subst (λ (b : BookState). turns_left b < turns_left old.raid) (sym (ap (λ (v : ShelfView D). v.raid) put)) (omega (arith, less, same))
