-- Crate node_replies. All devices, one after another.
use Rattle.std.specs.Prelude.{◌≡◌, ℕ, zero, suc, List, [], ◌∷◌}

-- Each of the first k elements takes its turn, in which the sum so far is taken up, and the others are as they were.
abbrev pub Through : {A S : Type 0} → (Turn : A → S → S → A → Type 0) → (k : ℕ) → A → (olds news : List S) → A → Type 0
Through Turn zero a olds news b = (news ≡ olds) × (b ≡ a)
Through Turn (suc k) a [] news b = ⊥
Through Turn (suc k) a (old ∷ olds) [] b = ⊥
Through {A} Turn (suc k) a (old ∷ olds) (new ∷ news) b = (mid : A) × Turn a old new mid × Through Turn k mid olds news b
