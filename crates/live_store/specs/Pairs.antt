-- Crate live_store. Two lists of the same length, place by place.
use Rattle.std.specs.Prelude.{List, [], ◌∷◌}
use Rattle.std.specs.Coded.{×_prop, Unit-prop}
use mathlib.Core.HLevel.{⊥_prop}

-- so many elements stand in the one as in the other, and each is to the one at its place
abbrev pub EachPair : {A B : Type 0} → (A → B → Type 0) → List A → List B → Type 0
EachPair Is [] [] = Unit {0}
EachPair Is [] (y ∷ ys) = ⊥
EachPair Is (x ∷ xs) [] = ⊥
EachPair Is (x ∷ xs) (y ∷ ys) = Is x y × EachPair Is xs ys

-- There is at most one proof of it, where there is of each pair.
pub EachPair-prop : {A B : Type 0} (Is : A → B → Type 0) → ((x : A) (y : B) → IsProp (Is x y)) → (xs : List A) (ys : List B) → IsProp (EachPair Is xs ys)
EachPair-prop Is one [] [] = Unit-prop
EachPair-prop Is one [] (y ∷ ys) = ⊥_prop
EachPair-prop Is one (x ∷ xs) [] = ⊥_prop
EachPair-prop Is one (x ∷ xs) (y ∷ ys) = ×_prop (one x y) (EachPair-prop Is one xs ys)
