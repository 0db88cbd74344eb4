-- A loop over all devices, turn by turn.
use Rattle.std.proofs.Common.{◌≡◌, ℕ, zero, suc, ◌+◌, ◌<◌, ◌≤◌, List, [], ◌∷◌, length, get_or, set, refl, ap, subst, arith}
use Rattle.node_replies.specs.Through.{Through}

module _ {A S : Type 0} (Turn : A → S → S → A → Type 0) where
  -- the next element takes its turn
  pub through_step : (k : ℕ) (a : A) (olds mid : List S) (b : A) (d x : S) (c : A) → Through Turn k a olds mid b → k < length mid → Turn b (get_or mid k d) x c
      → Through Turn (suc k) a olds (set mid k x) c
  through_step zero a [] mid b d x c through there turn = let none : length mid ≡ 0 = ap length through.0 in absurd (omega (arith, none))
  through_step zero a (o ∷ olds) [] b d x c through there turn = absurd (omega arith)
  through_step zero a (o ∷ olds) (m ∷ mid) b d x c through there turn =
      let first : m ≡ o = cc in
      let rest : mid ≡ olds = cc in
      (c, subst (λ (s : S). Turn a s x c) first (subst (λ (n : A). Turn n m x c) through.1 turn), (rest, refl))
  through_step (suc k) a [] mid b d x c through there turn = absurd through
  through_step (suc k) a (o ∷ olds) [] b d x c through there turn = absurd through
  through_step (suc k) a (o ∷ olds) (m ∷ mid) b d x c through there turn =
      (through.0, through.1, through_step k through.0 olds mid b d x c through.2 (omega arith) turn)

  pub through_length : (k : ℕ) (a : A) (olds news : List S) (b : A) → Through Turn k a olds news b → length news ≡ length olds
  through_length zero a olds news b through = ap length through.0
  through_length (suc k) a [] news b through = absurd through
  through_length (suc k) a (o ∷ olds) [] b through = absurd through
  through_length (suc k) a (o ∷ olds) (x ∷ news) b through = ap suc (through_length k through.0 olds news b through.2)

  pub through_within : (k : ℕ) (a : A) (olds news : List S) (b : A) → Through Turn k a olds news b → k ≤ length olds
  through_within zero a olds news b through = omega arith
  through_within (suc k) a [] news b through = absurd through
  through_within (suc k) a (o ∷ olds) [] b through = absurd through
  through_within (suc k) a (o ∷ olds) (x ∷ news) b through = let less = through_within k through.0 olds news b through.2 in omega (arith, less)

  -- and it is the next by its index
  pub through_next : (k : ℕ) (a : A) (olds mid : List S) (b : A) (d x : S) (c : A) → Through Turn k a olds mid b → k < length mid → Turn b (get_or mid k d) x c
      → Through Turn (k + 1) a olds (set mid k x) c
  through_next k a olds mid b d x c through there turn =
      let next : suc k ≡ k + 1 = omega arith in subst (λ (n : ℕ). Through Turn n a olds (set mid k x) c) next (through_step k a olds mid b d x c through there turn)

  -- all took their turns
  pub through_all : (k : ℕ) (a : A) (olds news : List S) (b : A) → Through Turn k a olds news b → (k < length news → ⊥) → Through Turn (length olds) a olds news b
  through_all k a olds news b through over =
      let within = through_within k a olds news b through in
      let same = through_length k a olds news b through in
      let all : k ≡ length olds = omega (arith, within, same, over) in
      subst (λ (n : ℕ). Through Turn n a olds news b) all through
