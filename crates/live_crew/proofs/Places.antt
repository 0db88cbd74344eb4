-- What stands at the places of two lists, and numbers that are summed over both.
use Rattle.std.proofs.Common.{◌≡◌, ◌≢◌, ℕ, zero, suc, ◌+◌, ◌<◌, ◌≤◌, List, [], ◌∷◌, ◌++◌, length, get_or, set, refl, ap, ◌∙◌, arith}
use Rattle.std.specs.Prelude.{Some, slice_get, unwrap_or, option_map}
use Rattle.std.specs.List.{All}

module _ {A : Type 0} (f : A → ℕ) where
  -- the number of what stands at a place, if there is anything
  abbrev pub there : List A → ℕ → ℕ
  there xs k = unwrap_or (option_map f (slice_get xs k)) 0

  -- one is written anew
  pub there_set : (xs : List A) (k : ℕ) (old new : A) (less more : ℕ) → k < length xs → old ≡ get_or xs k old → f new + less ≡ f old + more → there (set xs k new) k + less ≡ there xs k + more
  there_set [] k old new less more within is one = absurd (omega arith)
  there_set (x ∷ xs) zero old new less more within is one = one ∙ ap (λ (y : A). f y + more) is
  there_set (x ∷ xs) (suc k) old new less more within is one = there_set xs k old new less more (omega arith) is one

  pub there_other : (xs : List A) (k d : ℕ) (new : A) → d ≢ k → there (set xs k new) d ≡ there xs d
  there_other [] k d new apart = refl
  there_other (x ∷ xs) zero zero new apart = absurd (apart refl)
  there_other (x ∷ xs) zero (suc d) new apart = refl
  there_other (x ∷ xs) (suc k) zero new apart = refl
  there_other (x ∷ xs) (suc k) (suc d) new apart = there_other xs k d new (λ same. apart (ap suc same))

  -- one gives to another, which is put behind others
  pub there_given : (xs ys : List A) (k d : ℕ) (old new other : A) → k < length xs → k ≡ length ys → old ≡ get_or xs k old → f new + f other ≡ f old
      → there (set xs k new) d + there (ys ++ other ∷ []) d ≡ there xs d + there ys d
  there_given [] ys k d old new other within last is one = absurd (omega arith)
  there_given (x ∷ xs) [] zero zero old new other within last is one = let here : f old ≡ f x = ap f is in omega arith
  there_given (x ∷ xs) [] zero (suc d) old new other within last is one = refl
  there_given (x ∷ xs) [] (suc k) d old new other within last is one = absurd (omega arith)
  there_given (x ∷ xs) (y ∷ ys) zero d old new other within last is one = absurd (omega arith)
  there_given (x ∷ xs) (y ∷ ys) (suc k) zero old new other within last is one = refl
  there_given (x ∷ xs) (y ∷ ys) (suc k) (suc d) old new other within last is one = there_given xs ys k d old new other (omega arith) (omega arith) is one

  -- the last of others comes back to one
  pub there_back : (xs ys : List A) (k d : ℕ) (old new other : A) → k < length xs → k ≡ length ys → old ≡ get_or xs k old → f new ≡ f old + f other
      → there (set xs k new) d + there ys d ≡ there xs d + there (ys ++ other ∷ []) d
  there_back [] ys k d old new other within last is one = absurd (omega arith)
  there_back (x ∷ xs) [] zero zero old new other within last is one = let here : f old ≡ f x = ap f is in omega arith
  there_back (x ∷ xs) [] zero (suc d) old new other within last is one = refl
  there_back (x ∷ xs) [] (suc k) d old new other within last is one = absurd (omega arith)
  there_back (x ∷ xs) (y ∷ ys) zero d old new other within last is one = absurd (omega arith)
  there_back (x ∷ xs) (y ∷ ys) (suc k) zero old new other within last is one = refl
  there_back (x ∷ xs) (y ∷ ys) (suc k) (suc d) old new other within last is one = there_back xs ys k d old new other (omega arith) (omega arith) is one

  -- where each has the same
  pub there_all : (n : ℕ) (xs : List A) → ((k : ℕ) → k < length xs → there xs k ≡ n) → All (λ x. f x ≡ n) xs
  there_all n [] each k d below = absurd (omega arith)
  there_all n (x ∷ xs) each zero d below = each 0 (omega arith)
  there_all n (x ∷ xs) each (suc k) d below = there_all n xs (λ j within. each (suc j) (omega arith)) k d (omega arith)

  pub there_most : (most : ℕ) (xs : List A) → All (λ x. f x ≤ most) xs → (k : ℕ) → there xs k ≤ most
  there_most most [] all k = omega arith
  there_most most (x ∷ xs) all zero = all 0 x (omega arith)
  there_most most (x ∷ xs) all (suc k) = there_most most xs (λ j d below. all (suc j) d (omega arith)) k

module _ {A : Type 0} where
  pub get_set : (xs : List A) (k : ℕ) (y : A) → k < length xs → slice_get (set xs k y) k ≡ Some y
  get_set [] k y below = absurd (omega arith)
  get_set (x ∷ xs) zero y below = refl
  get_set (x ∷ xs) (suc k) y below = get_set xs k y (omega arith)

  pub get_seam : (xs : List A) (y : A) (ys : List A) → slice_get (xs ++ y ∷ ys) (length xs) ≡ Some y
  get_seam [] y ys = refl
  get_seam (x ∷ xs) y ys = get_seam xs y ys
