-- Two lists, place by place.
use Rattle.std.proofs.Common.{◌≡◌, ℕ, zero, suc, ◌<◌, List, [], ◌∷◌, length, get_or, set, refl, sym, ap, subst, arith}
use Rattle.live_store.specs.Pairs.{EachPair}

module _ {A B : Type 0} (Is : A → B → Type 0) where
  pub pairs_length : (xs : List A) (ys : List B) → EachPair Is xs ys → length ys ≡ length xs
  pairs_length [] [] each = refl
  pairs_length [] (y ∷ ys) each = absurd each
  pairs_length (x ∷ xs) [] each = absurd each
  pairs_length (x ∷ xs) (y ∷ ys) each = ap suc (pairs_length xs ys each.1)

  -- the elements at one place
  pub pair_at : (xs : List A) (ys : List B) (k : ℕ) (x : A) (y : B) → EachPair Is xs ys → k < length xs → x ≡ get_or xs k x → y ≡ get_or ys k y → Is x y
  pair_at [] ys k x y each there x_is y_is = absurd (omega arith)
  pair_at (a ∷ xs) [] k x y each there x_is y_is = absurd each
  pair_at (a ∷ xs) (b ∷ ys) zero x y each there x_is y_is = subst (λ (z : A). Is z y) (sym x_is) (subst (λ (z : B). Is a z) (sym y_is) each.0)
  pair_at (a ∷ xs) (b ∷ ys) (suc k) x y each there x_is y_is = pair_at xs ys k x y each.1 (omega arith) x_is y_is

  -- another element at one place
  pub pair_set : (xs : List A) (ys : List B) (k : ℕ) (x : A) (y : B) → EachPair Is xs ys → k < length xs → x ≡ get_or xs k x → Is x y → EachPair Is xs (set ys k y)
  pair_set [] ys k x y each there x_is one = absurd (omega arith)
  pair_set (a ∷ xs) [] k x y each there x_is one = absurd each
  pair_set (a ∷ xs) (b ∷ ys) zero x y each there x_is one = (subst (λ (z : A). Is z y) x_is one, each.1)
  pair_set (a ∷ xs) (b ∷ ys) (suc k) x y each there x_is one = (each.0, pair_set xs ys k x y each.1 (omega arith) x_is one)

  -- one of which all holds that held of the one at its place
  pub pair_then : (xs : List A) (ys : List B) (k : ℕ) (old new : B) → EachPair Is xs ys → k < length ys → old ≡ get_or ys k old → ((x : A) → Is x old → Is x new) → EachPair Is xs (set ys k new)
  pair_then [] [] k old new each there is then = absurd (omega arith)
  pair_then [] (b ∷ ys) k old new each there is then = absurd each
  pair_then (a ∷ xs) [] k old new each there is then = absurd each
  pair_then (a ∷ xs) (b ∷ ys) zero old new each there is then = (then a (subst (Is a) (sym is) each.0), each.1)
  pair_then (a ∷ xs) (b ∷ ys) (suc k) old new each there is then = (each.0, pair_then xs ys k old new each.1 (omega arith) is then)

pub pairs_same : {A : Type 0} (Is : A → A → Type 0) → ((x : A) → Is x x) → (xs : List A) → EachPair Is xs xs
pairs_same Is same [] = tt
pairs_same Is same (x ∷ xs) = (same x, pairs_same Is same xs)

pub pairs_then : {A : Type 0} (Is : A → A → Type 0) → ((x y z : A) → Is x y → Is y z → Is x z) → (xs ys zs : List A) → EachPair Is xs ys → EachPair Is ys zs → EachPair Is xs zs
pairs_then Is then [] [] [] first next = tt
pairs_then Is then [] [] (z ∷ zs) first next = absurd next
pairs_then Is then [] (y ∷ ys) zs first next = absurd first
pairs_then Is then (x ∷ xs) [] zs first next = absurd first
pairs_then Is then (x ∷ xs) (y ∷ ys) [] first next = absurd next
pairs_then Is then (x ∷ xs) (y ∷ ys) (z ∷ zs) first next = (then x y z first.0 next.0, pairs_then Is then xs ys zs first.1 next.1)
