-- The blocks of a device that open gates name.
use Rattle.std.proofs.Common.{◌≡◌, ◌≢◌, ℕ, ◌+◌, ◌<◌, List, [], ◌∷◌, arith}
use Rattle.std.specs.List.{AllByRecursion}
use Rattle.block_format.specs.declared.geometry.Gate.{Gate}
use Rattle.block_format.specs.declared.geometry.Gate.TheVariants.{Shut, Set, Unsure}
use Rattle.block_shelf.specs.View.{AreApart}
use Rattle.cold_scan.specs.Found.{set_blocks}

set_above : (k b : ℕ) (gates : List Gate) → k < b → AllByRecursion (λ x. k ≢ x) (set_blocks b gates)
set_above k b [] lt = tt
set_above k b (Shut ∷ gates) lt = set_above k (b + 1) gates (omega arith)
set_above k b (Set ∷ gates) lt = (λ same. apart b same lt, set_above k (b + 1) gates (omega arith))
  where
    apart : (c : ℕ) → k ≡ c → k < c → ⊥
    apart c same less = omega arith
set_above k b (Unsure ∷ gates) lt = set_above k (b + 1) gates (omega arith)

-- each of them once
pub opened_apart : (b : ℕ) (gates : List Gate) → AreApart (set_blocks b gates)
opened_apart b [] = tt
opened_apart b (Shut ∷ gates) = opened_apart (b + 1) gates
opened_apart b (Set ∷ gates) = (set_above b (b + 1) gates (omega arith), opened_apart (b + 1) gates)
opened_apart b (Unsure ∷ gates) = opened_apart (b + 1) gates
