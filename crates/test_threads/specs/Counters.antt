-- For the tests: the events add an amount to one part and to the hub.
use Rattle.std.specs.Prelude.{◌≡◌, ℕ, ◌+◌, ◌==◌, List, [], ◌∷◌, ◌++◌, Some, if◌then◌else◌}
use Rattle.std.proofs.Common.{ap, cond, ne_eqb}

-- all amounts
abbrev pub total : List (ℕ × ℕ) → ℕ
total [] = 0
total (e ∷ es) = e.1 + total es

-- the amounts for one part
abbrev pub amount_of : ℕ → List (ℕ × ℕ) → ℕ
amount_of k [] = 0
amount_of k (e ∷ es) = (if e.0 == k then e.1 else 0) + amount_of k es

pub amount_of-push_other : (k : ℕ) (es : List (ℕ × ℕ)) (e : ℕ × ℕ) → ¬ (Some e.0 ≡ Some k) → amount_of k (es ++ e ∷ []) ≡ amount_of k es
amount_of-push_other k [] e other = ap (λ b. cond b e.1 0 + 0) (ne_eqb e.0 k (λ same. other (ap Some same)))
amount_of-push_other k (x ∷ xs) e other = ap (λ n. cond (x.0 == k) x.1 0 + n) (amount_of-push_other k xs e other)
