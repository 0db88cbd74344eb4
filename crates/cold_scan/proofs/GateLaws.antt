-- What the gates of a device tell, gate by gate.
use Rattle.std.proofs.Common.{◌≡◌, inl, inr, ℕ, ◌+◌, suc, zero, Bool, true, false, cond, List, [], ◌∷◌, ◌++◌, length, take, drop, refl, sym, ◌∙◌, ap, subst, arith}
use Rattle.std.specs.Prelude.{Option, Some, None, slice_get, option_map}
use Rattle.std.specs.List.{AllByRecursion}
use Rattle.std.proofs.lemmas.Bool.{false≢true}
use Rattle.std.proofs.lemmas.List.{take-take}
use Rattle.law_lists.proofs.Each.{all_joined}
use Rattle.law_lists.proofs.Places.{place_cases}
use Rattle.block_format.specs.declared.geometry.Geometry.{Geometry}
use Rattle.block_format.specs.declared.geometry.Gate.{Gate}
use Rattle.block_format.specs.declared.geometry.Gate.TheVariants.{Shut, Set, Unsure}
use Rattle.block_format.specs.Layout.{gate_sector, block_place}
use Rattle.cold_scan.specs.Found.{is_set, IsSure, TellsSector, AreGates, set_blocks}

-- ---- read one after another

-- 16 bytes of a gate sector tell whether it is open
pub same_gate : (g : Geometry) (block : ℕ) (bytes seen gate : List ℕ) (place : ℕ) → gate ≡ take 16 (drop place seen) → seen ≡ bytes → place ≡ block_place g block
    → take 16 gate ≡ take 16 (gate_sector g block bytes)
same_gate g block bytes seen gate place read same is =
    ap (take 16) (read ∙ (λ i. take 16 (drop (is i) (same i)))) ∙ take-take 16 16 (drop (block_place g block) bytes) (omega arith)
    ∙ sym (take-take 16 4096 (drop (block_place g block) bytes) (omega arith))

abbrev gate_or : Gate → Option Gate → Gate
gate_or other None = other
gate_or other (Some gate) = gate

pub gates_more : (g : Geometry) (bytes : List ℕ) (gates new : List Gate) (gate : Gate) (k : ℕ) → new ≡ gates ++ gate ∷ [] → length gates ≡ k → AreGates g bytes gates
    → TellsSector gate (gate_sector g k bytes) → AreGates g bytes new
gates_more g bytes gates new gate k pushed count are told j other there =
    elim (place_cases gates gate j other (subst (λ (l : List Gate). slice_get l j ≡ Some other) pushed there)) [
      | inl before ↦ are j other before
      | inr here ↦ subst (λ (t : Gate). TellsSector t (gate_sector g j bytes)) (ap (gate_or gate) here.1) (subst (λ (n : ℕ). TellsSector gate (gate_sector g n bytes)) (sym (here.0 ∙ count)) told)
    ]

pub sure_more : (gates new : List Gate) (gate : Gate) → new ≡ gates ++ gate ∷ [] → AllByRecursion IsSure gates → IsSure gate → AllByRecursion IsSure new
sure_more gates new gate pushed all sure = subst (λ (l : List Gate). AllByRecursion IsSure l) (sym pushed) (all_joined IsSure gates (gate ∷ []) all (sure, tt))

-- ---- one of them

abbrev bool_or : Bool → Option Bool → Bool
bool_or other None = other
bool_or other (Some b) = b

-- a gate that is looked at is there
pub gate_there : (gates : List Gate) (k : ℕ) (opened : Bool) → option_map is_set (slice_get gates k) ≡ Some opened → (gate : Gate) × (slice_get gates k ≡ Some gate) × (is_set gate ≡ opened)
gate_there gates k opened is = of (slice_get gates k) refl is
  where
    of : (o : Option Gate) → slice_get gates k ≡ o → option_map is_set o ≡ Some opened → (gate : Gate) × (slice_get gates k ≡ Some gate) × (is_set gate ≡ opened)
    of None at e = cc
    of (Some gate) at e = (gate, at, ap (bool_or (is_set gate)) e)

set_is : (gate : Gate) → is_set gate ≡ true → gate ≡ Set
set_is Shut e = absurd (false≢true e)
set_is Set e = refl
set_is Unsure e = absurd (false≢true e)

-- that of an open block
pub gate_set : (gates : List Gate) (k : ℕ) → option_map is_set (slice_get gates k) ≡ Some true → slice_get gates k ≡ Some Set
gate_set gates k is = let at = gate_there gates k true is in at.1 ∙ ap Some (set_is at.0 at.2)

-- a gate that isn't set and is told is closed
pub told_shut : (gate : Gate) (sector : List ℕ) → is_set gate ≡ false → TellsSector gate sector → TellsSector Shut sector
told_shut Shut sector e told = told
told_shut Set sector e told = absurd (false≢true (sym e))
told_shut Unsure sector e told = absurd told

-- ---- the blocks that they open

abbrev end_of : (opened : Bool) → ℕ → List ℕ
end_of opened k = cond opened (k ∷ []) []

set_from : (b : ℕ) (gates : List Gate) (k : ℕ) (gate : Gate) → slice_get gates k ≡ Some gate → set_blocks b (take (suc k) gates) ≡ set_blocks b (take k gates) ++ end_of (is_set gate) (b + k)
set_from b [] k gate is = cc
set_from b (Shut ∷ gates) zero gate is = subst (λ (x : Gate). [] ≡ end_of (is_set x) (b + 0)) (ap (gate_or Shut) is) refl
set_from b (Set ∷ gates) zero gate is = subst (λ (x : Gate). b ∷ [] ≡ end_of (is_set x) (b + 0)) (ap (gate_or Set) is) (ap (λ (n : ℕ). n ∷ []) (omega arith))
set_from b (Unsure ∷ gates) zero gate is = subst (λ (x : Gate). [] ≡ end_of (is_set x) (b + 0)) (ap (gate_or Unsure) is) refl
set_from b (Shut ∷ gates) (suc k) gate is = set_from (b + 1) gates k gate is ∙ ap (λ (n : ℕ). set_blocks (b + 1) (take k gates) ++ end_of (is_set gate) n) (omega arith)
set_from b (Set ∷ gates) (suc k) gate is = ap (λ (l : List ℕ). b ∷ l) (set_from (b + 1) gates k gate is ∙ ap (λ (n : ℕ). set_blocks (b + 1) (take k gates) ++ end_of (is_set gate) n) (omega arith))
set_from b (Unsure ∷ gates) (suc k) gate is = set_from (b + 1) gates k gate is ∙ ap (λ (n : ℕ). set_blocks (b + 1) (take k gates) ++ end_of (is_set gate) n) (omega arith)

-- one gate more
pub set_more : (gates : List Gate) (k : ℕ) (opened : Bool) → option_map is_set (slice_get gates k) ≡ Some opened → set_blocks 0 (take (k + 1) gates) ≡ set_blocks 0 (take k gates) ++ end_of opened k
set_more gates k opened is =
    let at = gate_there gates k opened is in
    let next : k + 1 ≡ suc k = omega arith in
    let here : 0 + k ≡ k = omega arith in
    ap (λ (n : ℕ). set_blocks 0 (take n gates)) next ∙ set_from 0 gates k at.0 at.1 ∙ ap (λ (b : Bool). set_blocks 0 (take k gates) ++ end_of b (0 + k)) at.2
    ∙ ap (λ (n : ℕ). set_blocks 0 (take k gates) ++ end_of opened n) here
