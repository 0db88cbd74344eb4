-- What a test keeps of a list: all of it, nothing, what another test keeps; and what is made of each element.
use Rattle.std.proofs.Common.{◌≡◌, Bool, true, false, cond, not, List, [], ◌∷◌, map, refl, sym, ◌∙◌, ap, ⊎_elim}
use Rattle.std.specs.Prelude.{filter}
use Rattle.std.specs.List.{AllByRecursion}
use Rattle.std.proofs.lemmas.Bool.{both_ways, cases_Bool, cond-true, cond-false, false_from_ne_true, not-true}
use Rattle.std.proofs.lemmas.List.Elements.{recursion_from_All, filter_passes}
use Rattle.law_lists.proofs.Each.{all_map}

pub filter_all : {X : Type 0} (p : X → Bool) (xs : List X) → AllByRecursion (λ x. p x ≡ true) xs → filter p xs ≡ xs
filter_all p [] all = refl
filter_all {X} p (x ∷ xs) all = cond-true (p x) (x ∷ filter p xs) (filter p xs) all.0 ∙ ap (λ (l : List X). x ∷ l) (filter_all p xs all.1)

pub filter_none : {X : Type 0} (p : X → Bool) (xs : List X) → AllByRecursion (λ x. p x ≡ false) xs → filter p xs ≡ []
filter_none p [] all = refl
filter_none {X} p (x ∷ xs) all = cond-false (p x) (x ∷ filter p xs) (filter p xs) all.0 ∙ filter_none p xs all.1

-- two tests that agree at each element of a list keep the same ones
pub filter_each : {X : Type 0} (p q : X → Bool) (xs : List X) → AllByRecursion (λ x. p x ≡ q x) xs → filter p xs ≡ filter q xs
filter_each p q [] each = refl
filter_each p q (x ∷ xs) each = λ i. cond (each.0 i) (x ∷ filter_each p q xs each.1 i) (filter_each p q xs each.1 i)

-- ---- two tests, one behind the other

-- what another test lets through
pub filter_out : {X : Type 0} (p : X → Bool) (xs : List X) → filter p (filter (λ x. not (p x)) xs) ≡ []
filter_out p xs =
    filter_none p (filter (λ x. not (p x)) xs)
    (all_map (λ x. not (p x) ≡ true) (λ x. p x ≡ false) (filter (λ x. not (p x)) xs) (λ x passes. not-true (p x) passes)
    (recursion_from_All (λ x. not (p x) ≡ true) (filter (λ x. not (p x)) xs) (filter_passes (λ x. not (p x)) xs)))

-- the first test keeps whatever of the list passes the second
pub filter_within : {X : Type 0} (p q : X → Bool) (xs : List X) → AllByRecursion (λ x. p x ≡ true → q x ≡ true) xs → filter p (filter q xs) ≡ filter p xs
filter_within p q [] all = refl
filter_within {X} p q (x ∷ xs) all = by (q x) (p x) refl refl (filter_within p q xs all.1)
  where
    by : (b c : Bool) → q x ≡ b → p x ≡ c → filter p (filter q xs) ≡ filter p xs → filter p (cond b (x ∷ filter q xs) (filter q xs)) ≡ cond c (x ∷ filter p xs) (filter p xs)
    by true true is has rest = cond-true (p x) (x ∷ filter p (filter q xs)) (filter p (filter q xs)) has ∙ ap (λ (l : List X). x ∷ l) rest
    by true false is has rest = cond-false (p x) (x ∷ filter p (filter q xs)) (filter p (filter q xs)) has ∙ rest
    by false true is has rest = absurd (both_ways (q x) is (all.0 has))
    by false false is has rest = rest

pub filter_twice : {X : Type 0} (p q : X → Bool) → ((x : X) → p x ≡ true → q x ≡ true) → (xs : List X) → filter p (filter q xs) ≡ filter p xs
filter_twice p q within [] = refl
filter_twice p q within (x ∷ xs) = ⊎_elim
    (λ yes. ap (filter p) (cond-true (q x) (x ∷ filter q xs) (filter q xs) yes) ∙ ap (λ l. cond (p x) (x ∷ l) l) (filter_twice p q within xs))
    (λ no. ap (filter p) (cond-false (q x) (x ∷ filter q xs) (filter q xs) no) ∙ filter_twice p q within xs
    ∙ sym (cond-false (p x) (x ∷ filter p xs) (filter p xs) (false_from_ne_true (p x) (λ is. both_ways (q x) no (within x is))))) (cases_Bool (q x))

pub filter_swapped : {X : Type 0} (p q : X → Bool) (xs : List X) → filter p (filter q xs) ≡ filter q (filter p xs)
filter_swapped p q [] = refl
filter_swapped {X} p q (x ∷ xs) = by (q x) refl (p x) refl (filter_swapped p q xs)
  where
    by : (b : Bool) → q x ≡ b → (c : Bool) → p x ≡ c → filter p (filter q xs) ≡ filter q (filter p xs)
        → filter p (cond b (x ∷ filter q xs) (filter q xs)) ≡ filter q (cond c (x ∷ filter p xs) (filter p xs))
    by true keeps true is rest =
        cond-true (p x) (x ∷ filter p (filter q xs)) (filter p (filter q xs)) is ∙ ap (λ (l : List X). x ∷ l) rest ∙ sym (cond-true (q x) (x ∷ filter q (filter p xs)) (filter q (filter p xs)) keeps)
    by true keeps false is rest = cond-false (p x) (x ∷ filter p (filter q xs)) (filter p (filter q xs)) is ∙ rest
    by false drops true is rest = rest ∙ sym (cond-false (q x) (x ∷ filter q (filter p xs)) (filter q (filter p xs)) drops)
    by false drops false is rest = rest

-- ---- images

pub map_kept : {X Y : Type 0} (f : X → Y) (test : Y → Bool) (xs : List X) → map f (filter (λ x. test (f x)) xs) ≡ filter test (map f xs)
map_kept f test [] = refl
map_kept f test (x ∷ xs) = by (test (f x)) (map_kept f test xs)
  where
    by : (b : Bool) → map f (filter (λ x. test (f x)) xs) ≡ filter test (map f xs)
        → map f (cond b (x ∷ filter (λ x. test (f x)) xs) (filter (λ x. test (f x)) xs)) ≡ cond b (f x ∷ filter test (map f xs)) (filter test (map f xs))
    by true rest = ap (λ l. f x ∷ l) rest
    by false rest = rest

-- what is shown of each element stays
pub map_shows : {X Y : Type 0} (show : X → Y) (change : X → X) → ((x : X) → show (change x) ≡ show x) → (xs : List X) → map show (map change xs) ≡ map show xs
map_shows show change same [] = refl
map_shows show change same (x ∷ xs) = ap (λ y. y ∷ map show (map change xs)) (same x) ∙ ap (λ l. show x ∷ l) (map_shows show change same xs)

pub map_nothing : {X : Type 0} (f : X → X) (xs : List X) → AllByRecursion (λ x. f x ≡ x) xs → map f xs ≡ xs
map_nothing f [] h = refl
map_nothing f (x ∷ xs) h = (λ i. h.0 i ∷ map f xs) ∙ ap (λ l. x ∷ l) (map_nothing f xs h.1)
