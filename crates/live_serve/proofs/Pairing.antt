-- Two lists, place by place.
use Rattle.std.proofs.Common.{◌≡◌, List, [], ◌∷◌, ◌++◌, suc, subst, arith}
use Rattle.std.specs.List.{All}
use Rattle.live_store.specs.Pairs.{EachPair}

module _ {A B : Type 0} (Is : A → B → Type 0) where
  -- a pair more
  pub pair_push : (xs : List A) (ys : List B) (x : A) (y : B) → EachPair Is xs ys → Is x y → EachPair Is (xs ++ x ∷ []) (ys ++ y ∷ [])
  pair_push [] [] x y each one = (one, tt)
  pair_push [] (b ∷ ys) x y each one = absurd each
  pair_push (a ∷ xs) [] x y each one = absurd each
  pair_push (a ∷ xs) (b ∷ ys) x y each one = (each.0, pair_push xs ys x y each.1 one)

  -- pairs, and others behind them
  pub pair_append : (xs : List A) (ys : List B) (xs' : List A) (ys' : List B) → EachPair Is xs ys → EachPair Is xs' ys' → EachPair Is (xs ++ xs') (ys ++ ys')
  pair_append [] [] xs' ys' each more = more
  pair_append [] (b ∷ ys) xs' ys' each more = absurd each
  pair_append (a ∷ xs) [] xs' ys' each more = absurd each
  pair_append (a ∷ xs) (b ∷ ys) xs' ys' each more = (each.0, pair_append xs ys xs' ys' each.1 more)

  -- the first pair, and those behind it
  pub first_pair : (xs xs' : List A) (ys ys' : List B) (x : A) (y : B) → EachPair Is xs ys → xs ≡ x ∷ xs' → ys ≡ y ∷ ys' → Is x y × EachPair Is xs' ys'
  first_pair xs xs' ys ys' x y each is_xs is_ys = subst (λ (l : List A). EachPair Is l (y ∷ ys')) is_xs (subst (EachPair Is xs) is_ys each)

  -- for the first of the one there is one of the other
  pub no_second : (xs xs' : List A) (ys : List B) (x : A) → EachPair Is xs ys → xs ≡ x ∷ xs' → ys ≡ [] → ⊥
  no_second xs xs' ys x each is_xs is_ys = subst (λ (l : List A). EachPair Is l []) is_xs (subst (EachPair Is xs) is_ys each)

-- what holds of all holds of the first, and of those behind it
pub first_all : {A : Type 0} (P : A → Type 0) (xs xs' : List A) (x : A) → All P xs → xs ≡ x ∷ xs' → P x × All P xs'
first_all {A} P xs xs' x all is =
    let every : All P (x ∷ xs') = subst (All P) is all in
    (every 0 x (omega arith), λ k d below. every (suc k) d (omega arith))
