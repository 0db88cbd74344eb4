-- What is in a list, and in the lists that are made of it.
use Rattle.std.proofs.Common.{◌≡◌, ◌⊎◌, inl, inr, ⊎_elim, Bool, true, false, cond, List, [], ◌∷◌, ◌++◌, map, refl, sym, ◌∙◌, ap, subst, arith}
use Rattle.std.specs.Prelude.{Option, Some, None, Contains, filter, flat_map}
use Rattle.std.specs.List.{cons_option, filter_map}
use Rattle.std.proofs.lemmas.Bool.{false≢true}
use Rattle.std.proofs.lemmas.List.Elements.{Contains-append_left, Contains-append_right, Contains-append_cases, Contains-push, Contains-push_cases}

pub cons_cases : {X : Type 0} (x : X) (xs : List X) (y : X) → Contains (x ∷ xs) y → (x ≡ y) ⊎ Contains xs y
cons_cases x xs y there =
    ⊎_elim (λ (first : Contains (x ∷ []) y). ⊎_elim (λ (none : Contains [] y). absurd (omega (arith, none.1))) (λ (e : x ≡ y). inl e) (Contains-push_cases [] x y first))
    (λ (rest : Contains xs y). inr rest)
    (Contains-append_cases (x ∷ []) xs y there)

pub first_there : {X : Type 0} (x : X) (xs : List X) → Contains (x ∷ xs) x
first_there x xs = Contains-append_left (x ∷ []) xs x (Contains-push [] x)

pub rest_there : {X : Type 0} (x : X) (xs : List X) (y : X) → Contains xs y → Contains (x ∷ xs) y
rest_there x xs y there = Contains-append_right (x ∷ []) xs y there

-- ---- images

pub map_there : {X Y : Type 0} (f : X → Y) (xs : List X) (x : X) → Contains xs x → Contains (map f xs) (f x)
map_there f [] x there = absurd (omega (arith, there.1))
map_there f (y ∷ xs) x there = by (cons_cases y xs x there) (map_there f xs x)
  where
    by : (y ≡ x) ⊎ Contains xs x → (Contains xs x → Contains (map f xs) (f x)) → Contains (map f (y ∷ xs)) (f x)
    by (inl e) rest = subst (λ (z : _). Contains (map f (y ∷ xs)) (f z)) e (first_there (f y) (map f xs))
    by (inr more) rest = rest_there (f y) (map f xs) (f x) (rest more)

-- what is in a list of images comes from an element
pub map_from : {X Y : Type 0} (f : X → Y) (xs : List X) (y : Y) → Contains (map f xs) y → (x : X) × Contains xs x × (f x ≡ y)
map_from f [] y there = absurd (omega (arith, there.1))
map_from f (x ∷ xs) y there = by (cons_cases (f x) (map f xs) y there) (map_from f xs y)
  where
    by : (f x ≡ y) ⊎ Contains (map f xs) y → (Contains (map f xs) y → (z : _) × Contains xs z × (f z ≡ y)) → (z : _) × Contains (x ∷ xs) z × (f z ≡ y)
    by (inl e) rest = (x, first_there x xs, e)
    by (inr more) rest = let r = rest more in (r.0, rest_there x xs r.0 r.1, r.2)

pub flat_map_there : {X Y : Type 0} (f : X → List Y) (xs : List X) (x : X) (y : Y) → Contains xs x → Contains (f x) y → Contains (flat_map f xs) y
flat_map_there f [] x y there in_part = absurd (omega (arith, there.1))
flat_map_there f (z ∷ xs) x y there in_part = by (cons_cases z xs x there) (λ more. flat_map_there f xs x y more in_part)
  where
    by : (z ≡ x) ⊎ Contains xs x → (Contains xs x → Contains (flat_map f xs) y) → Contains (f z ++ flat_map f xs) y
    by (inl e) rest = Contains-append_left (f z) (flat_map f xs) y (subst (λ (w : _). Contains (f w) y) (sym e) in_part)
    by (inr more) rest = Contains-append_right (f z) (flat_map f xs) y (rest more)

pub filter_map_from : {X Y : Type 0} (f : X → Option Y) (xs : List X) (y : Y) → Contains (filter_map f xs) y → (x : X) × (f x ≡ Some y)
filter_map_from f [] y there = absurd (omega (arith, there.1))
filter_map_from {X} {Y} f (x ∷ xs) y there = by (f x) refl there (filter_map_from f xs y)
  where
    by : (o : Option Y) → f x ≡ o → Contains (cons_option o (filter_map f xs)) y → (Contains (filter_map f xs) y → (z : X) × (f z ≡ Some y)) → (z : X) × (f z ≡ Some y)
    by None is kept rest = rest kept
    by (Some z) is kept rest = ⊎_elim (λ (same : z ≡ y). (x, is ∙ ap Some same)) rest (cons_cases z (filter_map f xs) y kept)

-- ---- what a test keeps

-- an element that passes a test is kept by it
pub filter_there : {X : Type 0} (p : X → Bool) (xs : List X) (x : X) → p x ≡ true → Contains xs x → Contains (filter p xs) x
filter_there p [] x passes there = absurd (omega (arith, there.1))
filter_there p (y ∷ xs) x passes there = by (cons_cases y xs x there) (p y) refl (filter_there p xs x passes)
  where
    by : (y ≡ x) ⊎ Contains xs x → (b : Bool) → p y ≡ b → (Contains xs x → Contains (filter p xs) x) → Contains (cond b (y ∷ filter p xs) (filter p xs)) x
    by (inl e) true is rest = subst (Contains (y ∷ filter p xs)) e (first_there y (filter p xs))
    by (inl e) false is rest = absurd (false≢true (sym is ∙ ap p e ∙ passes))
    by (inr more) true is rest = rest_there y (filter p xs) x (rest more)
    by (inr more) false is rest = rest more

-- what a test keeps was there, and passes it
pub filter_from : {X : Type 0} (p : X → Bool) (xs : List X) (x : X) → Contains (filter p xs) x → Contains xs x × (p x ≡ true)
filter_from p [] x there = absurd (omega (arith, there.1))
filter_from p (y ∷ xs) x there = by (p y) refl there (filter_from p xs x)
  where
    first : p y ≡ true → (y ≡ x) ⊎ Contains (filter p xs) x → (Contains (filter p xs) x → Contains xs x × (p x ≡ true)) → Contains (y ∷ xs) x × (p x ≡ true)
    first is (inl e) rest = (subst (Contains (y ∷ xs)) e (first_there y xs), sym (ap p e) ∙ is)
    first is (inr more) rest = let r = rest more in (rest_there y xs x r.0, r.1)

    by : (b : Bool) → p y ≡ b → Contains (cond b (y ∷ filter p xs) (filter p xs)) x → (Contains (filter p xs) x → Contains xs x × (p x ≡ true)) → Contains (y ∷ xs) x × (p x ≡ true)
    by true is kept rest = first is (cons_cases y (filter p xs) x kept) rest
    by false is kept rest = let r = rest kept in (rest_there y xs x r.0, r.1)
