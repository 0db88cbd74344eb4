-- The number of each block is the sum of the units that are live in it, as copies come and go.
use Rattle.std.proofs.Common.{◌≡◌, ℕ, zero, suc, ◌+◌, ◌-◌, ◌<◌, ◌≤◌, List, [], ◌∷◌, ◌++◌, length, refl, ap, sym, ◌∙◌, arith}
use Rattle.std.specs.Prelude.{slice_set, replicate, None, IsSomeAnd}
use Rattle.std.specs.List.{AllByRecursion}
use Rattle.std.proofs.lemmas.List.{get_or-map, map-set}
use Rattle.std.proofs.lemmas.List.Sums.{sum_by_push}
use Rattle.law_lists.proofs.Each.{all_set}
use Rattle.unit_ledger.specs.Uses.{use_at, with_use}
use Rattle.block_shelf.specs.Lives.{LiveCopy, copies_in, units_of, use_in, uses_of, copy_at, without_unit, HaveOwnUnits, AreCounted, lives_with, lives_without}
use Rattle.block_shelf.proofs.OwnUnits.{own_units-push, Dropped, dropped}

-- none is live in any block
pub none_counted : (blocks : ℕ) → AreCounted (replicate blocks 0) (replicate blocks [])
none_counted blocks = record { sums = sums blocks; own = own blocks }
  where
    sums : (n : ℕ) → replicate n 0 ≡ uses_of (replicate n [])
    sums zero = refl
    sums (suc n) = ap (λ (l : List ℕ). 0 ∷ l) (sums n)

    own : (n : ℕ) → AllByRecursion HaveOwnUnits (replicate n [])
    own zero = tt
    own (suc n) = (tt, own n)

module _ (uses : List ℕ) (lives : List (List LiveCopy)) (counted : AreCounted uses lives) (block : ℕ) (within : block < length lives) where
  pub counted_use : use_at block uses ≡ use_in block lives
  counted_use = ap (use_at block) counted.sums ∙ get_or-map units_of lives block [] 0 within

  pub counted_own : HaveOwnUnits (copies_in block lives)
  counted_own = all_in lives block counted.own
    where
      all_in : (ls : List (List LiveCopy)) (k : ℕ) → AllByRecursion HaveOwnUnits ls → HaveOwnUnits (copies_in k ls)
      all_in [] k all = tt
      all_in (l ∷ ls) zero all = all.0
      all_in (l ∷ ls) (suc k) all = all_in ls k all.1

  -- one block has other copies, and its number is the sum of their units
  counted_set : (used : ℕ) (copies : List LiveCopy) → used ≡ units_of copies → HaveOwnUnits copies → AreCounted (with_use block used uses) (slice_set lives block copies)
  counted_set used copies is own = record {
    sums = (λ i. with_use block (is i) (counted.sums i)) ∙ sym (map-set units_of lives block copies);
    own = all_set HaveOwnUnits lives block copies counted.own own;
  }

  pub counted_with : (c : LiveCopy) → copy_at c.unit (copies_in block lives) ≡ None → AreCounted (with_use block (use_at block uses + c.units) uses) (lives_with block c lives)
  counted_with c absent =
      counted_set (use_at block uses + c.units) (copies_in block lives ++ c ∷ [])
      (ap (λ (n : ℕ). n + c.units) counted_use ∙ sym (sum_by_push (λ (x : LiveCopy). x.units) (copies_in block lives) c)) (own_units-push c (copies_in block lives) counted_own absent)

  module _ (unit units : ℕ) (live : IsSomeAnd (copy_at unit (copies_in block lives)) (λ c. c.units ≡ units)) where
    parts : Dropped units (copies_in block lives) (without_unit unit (copies_in block lives))
    parts = dropped unit units (copies_in block lives) (without_unit unit (copies_in block lives)) counted_own live refl

    pub counted_enough : units ≤ use_at block uses
    counted_enough = let whole = parts.sum in omega (arith, whole, counted_use)

    pub counted_without : AreCounted (with_use block (use_at block uses - units) uses) (lives_without block unit lives)
    counted_without = counted_set (use_at block uses - units) (without_unit unit (copies_in block lives)) (let whole = parts.sum in omega (arith, whole, counted_use)) parts.own
