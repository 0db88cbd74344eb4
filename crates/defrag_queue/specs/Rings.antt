-- A ring of numbers that are linked both ways, from its end round to its end.
use Rattle.std.specs.Prelude.{◌≡◌, ℕ, zero, suc, ◌+◌, List, [], ◌∷◌, length, slice_index_or}

abbrev pub link_of : List ℕ → ℕ → ℕ
link_of links number = slice_index_or links number 0

-- so many numbers, one after the other
abbrev pub walk : (next : List ℕ) (count from : ℕ) → List ℕ
walk next zero from = []
walk next (suc n) from = link_of next from ∷ walk next n (link_of next from)

-- the numbers of the list come between the first and the end, and are linked both ways
abbrev pub Linked : (next prev : ℕ → ℕ) (end from : ℕ) → List ℕ → Type 0
Linked next prev end from [] = (next from ≡ end) × (prev end ≡ from)
Linked next prev end from (x ∷ xs) = (next from ≡ x) × (prev x ≡ from) × Linked next prev end x xs

pub record Ring (next prev : List ℕ) (end : ℕ) (numbers : List ℕ) : Type 0 where
  pub linked : Linked (link_of next) (link_of prev) end end numbers
  pub nexts : length next ≡ end + 1
  pub prevs : length prev ≡ end + 1
