-- What stands at a place of a list, behind a write too.
use Rattle.std.proofs.Common.{◌≡◌, ◌≢◌, ◌⊎◌, inl, inr, ℕ, zero, suc, ◌+◌, ◌<◌, List, [], ◌∷◌, ◌++◌, length, map, take, drop, set, get_or, reverse}
use Rattle.std.proofs.Common.{Option, Some, None, Bor, refl, sym, ◌∙◌, ap, arith, append_assoc}
use Rattle.std.specs.List.{slice_get}
use Rattle.std.specs.Option.{option_copied}
use Rattle.std.specs.Slice.{IsItemAt}
use Rattle.std.proofs.lemmas.Option.{slice_get_past, slice_get-get_or}
use Rattle.std.proofs.lemmas.List.{drop_more, take_more, map-append, set_at, get_or_at, length-map, length-take-le, reverse-append, set-get_or}

-- a place within a list has an element
pub place_there : {X : Type 0} (xs : List X) (i : ℕ) → i < length xs → (x : X) × (slice_get xs i ≡ Some x)
place_there [] i lt = absurd (omega (arith, lt))
place_there (x ∷ xs) zero lt = (x, refl)
place_there (x ∷ xs) (suc i) lt = place_there xs i (omega (arith, lt))

pub slice_get-drop : {X : Type 0} (xs : List X) (i : ℕ) → slice_get (drop i xs) 0 ≡ slice_get xs i
slice_get-drop xs zero = refl
slice_get-drop [] (suc i) = refl
slice_get-drop (x ∷ xs) (suc i) = slice_get-drop xs i

-- what `get` lends
pub item_copied : {X : Type 0} (xs : List X) (i : ℕ) (r : Option (Bor X)) → IsItemAt xs i r → option_copied r ≡ slice_get xs i
item_copied xs i None h = sym (slice_get_past xs i h.3)
item_copied xs i (Some x) h = ap (λ y. Some y) (h.3.1 x.now) ∙ sym (slice_get-get_or xs i x.now h.3.0)

-- ---- one more

pub place_cases : {X : Type 0} (xs : List X) (y : X) (k : ℕ) (v : X) → slice_get (xs ++ y ∷ []) k ≡ Some v → (slice_get xs k ≡ Some v) ⊎ ((k ≡ length xs) × (Some y ≡ Some v))
place_cases [] y zero v is = inr (refl, is)
place_cases [] y (suc k) v is = cc
place_cases (x ∷ xs) y zero v is = inl is
place_cases (x ∷ xs) y (suc k) v is = elim (place_cases xs y k v is) [
  | inl before ↦ inl before
  | inr here ↦ inr (ap suc here.0, here.1)
]

-- one more at the end is the first where the list is turned around
pub reverse_push : {X : Type 0} (front : List X) (last : X) → reverse (front ++ last ∷ []) ≡ last ∷ reverse front
reverse_push front last = reverse-append front (last ∷ [])

-- ---- writes

-- what was there, written there, changes nothing
pub set_unchanged : {X : Type 0} (xs : List X) (i : ℕ) (x : X) → x ≡ get_or xs i x → set xs i x ≡ xs
set_unchanged xs i x at = ap (set xs i) at ∙ set-get_or xs i x

-- what stands at a place behind a write
pub set_cases : {X : Type 0} (xs : List X) (k i : ℕ) (y x : X) → slice_get (set xs k y) i ≡ Some x → ((i ≡ k) × (x ≡ y)) ⊎ ((i ≢ k) × (slice_get xs i ≡ Some x))
set_cases [] k i y x found = absurd cc
set_cases (z ∷ xs) zero zero y x found = inl (refl, cc)
set_cases (z ∷ xs) zero (suc i) y x found = inr ((λ same. absurd (omega arith)), found)
set_cases (z ∷ xs) (suc k) zero y x found = inr ((λ same. absurd (omega arith)), found)
set_cases (z ∷ xs) (suc k) (suc i) y x found = by (set_cases xs k i y x found)
  where
    by : ((i ≡ k) × (x ≡ y)) ⊎ ((i ≢ k) × (slice_get xs i ≡ Some x)) → ((suc i ≡ suc k) × (x ≡ y)) ⊎ ((suc i ≢ suc k) × (slice_get xs i ≡ Some x))
    by (inl both) = inl (ap suc both.0, both.1)
    by (inr both) = inr ((λ same. both.0 (omega arith)), both.1)

pub set_other : {X : Type 0} (xs : List X) (k i : ℕ) (y : X) → i ≢ k → slice_get (set xs k y) i ≡ slice_get xs i
set_other [] k i y apart = refl
set_other (z ∷ xs) zero zero y apart = absurd (apart refl)
set_other (z ∷ xs) zero (suc i) y apart = refl
set_other (z ∷ xs) (suc k) zero y apart = refl
set_other (z ∷ xs) (suc k) (suc i) y apart = set_other xs k i y (λ same. apart (ap suc same))

-- a loop that changes one element after another
pub map_step : {X : Type 0} (f : X → X) (xs ys : List X) (i : ℕ) (x : X) → ys ≡ map f (take i xs) ++ drop i xs → i < length xs
    → set ys i (f (get_or ys i x)) ≡ map f (take (i + 1) xs) ++ drop (i + 1) xs
map_step {X} f xs ys i x is below =
    ap (λ (y : X). set ys i (f y)) (ap (λ (l : List X). get_or l i x) parts ∙ get_or_at (map f (take i xs)) here (drop (i + 1) xs) x i size)
    ∙ ap (λ (l : List X). set l i (f here)) parts
    ∙ set_at (map f (take i xs)) here (drop (i + 1) xs) (f here) i size
    ∙ sym (append_assoc (map f (take i xs)) (f here ∷ []) (drop (i + 1) xs))
    ∙ ap (λ (l : List X). l ++ drop (i + 1) xs) (sym (ap (map f) (take_more xs i x below) ∙ map-append f (take i xs) (here ∷ [])))
  where
    here : X
    here = get_or xs i x

    parts : ys ≡ map f (take i xs) ++ here ∷ drop (i + 1) xs
    parts = is ∙ ap (λ (l : List X). map f (take i xs) ++ l) (drop_more xs i x below)

    size : length (map f (take i xs)) ≡ i
    size = length-map (take i xs) f ∙ length-take-le i xs (omega arith)
