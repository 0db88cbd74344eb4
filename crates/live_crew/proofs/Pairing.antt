-- Two lists, place by place.
use Rattle.std.proofs.Common.{◌≡◌, ℕ, zero, suc, List, [], ◌∷◌, ◌++◌, length, refl, subst, arith}
use Rattle.std.specs.Prelude.{Some, IsSomeAnd, slice_get}
use Rattle.live_store.specs.Pairs.{EachPair}

module _ {A B : Type 0} (Is : A → B → Type 0) where
  -- a pair more
  pub pair_push : (xs : List A) (ys : List B) (x : A) (y : B) → EachPair Is xs ys → Is x y → EachPair Is (xs ++ x ∷ []) (ys ++ y ∷ [])
  pair_push [] [] x y each one = (one, tt)
  pair_push [] (b ∷ ys) x y each one = absurd each
  pair_push (a ∷ xs) [] x y each one = absurd each
  pair_push (a ∷ xs) (b ∷ ys) x y each one = (each.0, pair_push xs ys x y each.1 one)

  -- where each of the one has one of the other at its place
  pub pairs_from : (xs : List A) (ys : List B) → length ys ≡ length xs → ((k : ℕ) (x : A) → slice_get xs k ≡ Some x → IsSomeAnd (slice_get ys k) (Is x)) → EachPair Is xs ys
  pairs_from [] [] same each = tt
  pairs_from [] (y ∷ ys) same each = absurd (omega arith)
  pairs_from (x ∷ xs) [] same each = absurd (omega arith)
  pairs_from (x ∷ xs) (y ∷ ys) same each = (each 0 x refl, pairs_from xs ys (omega arith) (λ k z there. each (suc k) z there))

  pub pairs_at : (xs : List A) (ys : List B) → EachPair Is xs ys → (k : ℕ) (x : A) → slice_get xs k ≡ Some x → IsSomeAnd (slice_get ys k) (Is x)
  pairs_at [] ys each k x there = absurd cc
  pairs_at (a ∷ xs) [] each k x there = absurd each
  pairs_at (a ∷ xs) (b ∷ ys) each zero x there = let is : a ≡ x = cc in subst (λ (z : A). Is z b) is each.0
  pairs_at (a ∷ xs) (b ∷ ys) each (suc k) x there = pairs_at xs ys each.1 k x there

-- what holds of pairs where it held of others
pub pairs_weaker : {A B C : Type 0} (Is : A → B → Type 0) (Then : A → C → Type 0) (Goes : B → C → Type 0) → ((x : A) (y : B) (z : C) → Is x y → Goes y z → Then x z)
    → (xs : List A) (ys : List B) (zs : List C) → EachPair Is xs ys → EachPair Goes ys zs → EachPair Then xs zs
pairs_weaker Is Then Goes then [] [] [] each goes = tt
pairs_weaker Is Then Goes then [] [] (z ∷ zs) each goes = absurd goes
pairs_weaker Is Then Goes then [] (y ∷ ys) zs each goes = absurd each
pairs_weaker Is Then Goes then (x ∷ xs) [] zs each goes = absurd each
pairs_weaker Is Then Goes then (x ∷ xs) (y ∷ ys) [] each goes = absurd goes
pairs_weaker Is Then Goes then (x ∷ xs) (y ∷ ys) (z ∷ zs) each goes = (then x y z each.0 goes.0, pairs_weaker Is Then Goes then xs ys zs each.1 goes.1)
