-- Sprigs that stay as they were: all of them, and where one is set to another that says the same.
use Rattle.std.proofs.Common.{◌≡◌, ℕ, zero, suc, List, [], ◌∷◌, set, Some, refl, sym, subst}
use Rattle.sprig_tree.specs.State.{SprigState}
use Rattle.shard_core.specs.Sprigs.{AreSame}
use Rattle.law_steps.specs.Sprigs.{SameSprig}
use Rattle.std.specs.Prelude.{slice_get}

pub all_same : (xs : List SprigState) → AreSame xs xs
all_same [] = tt
all_same (x ∷ xs) = (record { entries = refl; high = refl }, all_same xs)

pub set_same : (xs : List SprigState) (i : ℕ) (x y : SprigState) → slice_get xs i ≡ Some x → SameSprig x y → AreSame xs (set xs i y)
set_same [] i x y at same = tt
set_same (z ∷ xs) zero x y at same = let one : z ≡ x = cc in (subst (λ (w : SprigState). SameSprig w y) (sym one) same, all_same xs)
set_same (z ∷ xs) (suc i) x y at same = (record { entries = refl; high = refl }, set_same xs i x y at same)
