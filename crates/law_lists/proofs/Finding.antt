-- Whether an element of a list passes a test, and the first that does.
use Rattle.std.proofs.Common.{◌≡◌, ◌⊎◌, inl, inr, ⊎_elim, ℕ, ◌<◌, Bool, true, false, cond, ◌||◌, List, [], ◌∷◌, ◌++◌, map, refl, sym, ◌∙◌, ap, subst, arith}
use Rattle.std.specs.Prelude.{◌==◌, Option, Some, None, Contains, IfSome, filter, find}
use Rattle.std.specs.List.{AllByRecursion, list_any}
use Rattle.std.proofs.lemmas.Bool.{false≢true, or_cases, or_left, or_right, or_from, both_ways, false_from_ne_true, cond-false, eqb-true}
use Rattle.law_lists.proofs.Each.{all_from}
use Rattle.law_lists.proofs.Members.{cons_cases, first_there, rest_there, filter_from}

-- ---- whether one passes

-- an element passes
pub any_there : {X : Type 0} (p : X → Bool) (xs : List X) (x : X) → Contains xs x → p x ≡ true → list_any p xs ≡ true
any_there p [] x there is = absurd (omega (arith, there.1))
any_there p (y ∷ xs) x there is =
    ⊎_elim (λ (e : y ≡ x). or_left (p y) (list_any p xs) (ap p e ∙ is)) (λ (more : Contains xs x). or_right (p y) (list_any p xs) (any_there p xs x more is)) (cons_cases y xs x there)

-- where one passes it is there
pub some_at : {X : Type 0} (p : X → Bool) (xs : List X) → list_any p xs ≡ true → (x : X) × Contains xs x × (p x ≡ true)
some_at p [] some = absurd (false≢true some)
some_at p (x ∷ xs) some = by (or_cases (p x) (list_any p xs) some) (some_at p xs)
  where
    by : (p x ≡ true) ⊎ (list_any p xs ≡ true) → (list_any p xs ≡ true → (y : _) × Contains xs y × (p y ≡ true)) → (y : _) × Contains (x ∷ xs) y × (p y ≡ true)
    by (inl is) rest = (x, first_there x xs, is)
    by (inr more) rest = let one = rest more in (one.0, rest_there x xs one.0 one.1, one.2)

-- none passes
pub none_at : {X : Type 0} (p : X → Bool) (xs : List X) (x : X) → list_any p xs ≡ false → Contains xs x → p x ≡ false
none_at p xs x none there = false_from_ne_true (p x) (λ is. both_ways (list_any p xs) none (any_there p xs x there is))

pub any_none : {X : Type 0} (p : X → Bool) (xs : List X) → AllByRecursion (λ x. p x ≡ false) xs → list_any p xs ≡ false
any_none p [] all = refl
any_none p (x ∷ xs) all = or_from (p x) (list_any p xs) all.0 (any_none p xs all.1)

pub none_from : {X : Type 0} (p : X → Bool) (xs : List X) → ((x : X) → Contains xs x → p x ≡ false) → list_any p xs ≡ false
none_from p xs each = any_none p xs (all_from (λ x. p x ≡ false) xs each)

-- ---- other tests, and other lists

pub any_more : {X : Type 0} (p q : X → Bool) → ((x : X) → p x ≡ true → q x ≡ true) → (xs : List X) → list_any p xs ≡ true → list_any q xs ≡ true
any_more p q step xs some = let one = some_at p xs some in any_there q xs one.0 one.1 (step one.0 one.2)

pub any_map : {X Y : Type 0} (p : Y → Bool) (f : X → Y) (xs : List X) → list_any p (map f xs) ≡ list_any (λ x. p (f x)) xs
any_map p f [] = refl
any_map p f (x ∷ xs) = ap (λ (b : Bool). p (f x) || b) (any_map p f xs)

-- two tests that agree below a limit
pub any_same : (limit : ℕ) (p q : ℕ → Bool) (numbers : List ℕ) → ((m : ℕ) → m < limit → q m ≡ p m) → AllByRecursion (λ m. m < limit) numbers → list_any q numbers ≡ list_any p numbers
any_same limit p q [] same below = refl
any_same limit p q (n ∷ numbers) same below = ap (λ (b : Bool). b || list_any q numbers) (same n below.0) ∙ ap (λ (b : Bool). p n || b) (any_same limit p q numbers same below.1)

-- two lists with the same elements that pass
pub any_alike : {X : Type 0} (p : X → Bool) (xs ys : List X) → ((x : X) → p x ≡ true → Contains xs x → Contains ys x) → ((x : X) → p x ≡ true → Contains ys x → Contains xs x)
    → list_any p xs ≡ list_any p ys
any_alike p xs ys to back = by (list_any p xs) refl
  where
    by : (b : Bool) → list_any p xs ≡ b → b ≡ list_any p ys
    by true some = let one = some_at p xs some in sym (any_there p ys one.0 (to one.0 one.2 one.1) one.2)
    by false none = sym (none_from p ys (λ y there. false_at y there (p y) refl))
      where
        false_at : (y : _) → Contains ys y → (b : Bool) → p y ≡ b → p y ≡ false
        false_at y there false is = is
        false_at y there true is = absurd (both_ways (list_any p xs) none (any_there p xs y (back y is there) is))

-- what none of a list passes none of a part of it does
pub none_fewer : {X : Type 0} (test p : X → Bool) (xs : List X) → list_any test xs ≡ false → list_any test (filter p xs) ≡ false
none_fewer test p xs none = none_from test (filter p xs) (λ x there. none_at test xs x none (filter_from p xs x there).0)

pub any_fewer : {X : Type 0} (test p : X → Bool) (xs : List X) → list_any test (filter p xs) ≡ true → list_any test xs ≡ true
any_fewer test p xs some =
    let one = some_at test (filter p xs) some in any_there test xs one.0 (filter_from p xs one.0 one.1).0 one.2

-- a number among those below a limit is below it
pub any_below : (limit : ℕ) (ns : List ℕ) (q : ℕ) → AllByRecursion (λ m. m < limit) ns → list_any (λ n. q == n) ns ≡ true → q < limit
any_below limit [] q all some = absurd (false≢true some)
any_below limit (n ∷ ns) q all some = by (or_cases (q == n) (list_any (λ m. q == m) ns) some) (any_below limit ns q all.1)
  where
    by : ((q == n) ≡ true) ⊎ (list_any (λ m. q == m) ns ≡ true) → (list_any (λ m. q == m) ns ≡ true → q < limit) → q < limit
    by (inl here) rest = subst (λ (m : ℕ). m < limit) (sym (eqb-true q n here)) all.0
    by (inr more) rest = rest more

-- ---- the first that passes

pub find_there : {X : Type 0} (test : X → Bool) (xs : List X) (x : X) → find test xs ≡ Some x → Contains xs x
find_there test [] x found = absurd (cc)
find_there {X} test (y ∷ xs) x found = by (test y) found (find_there test xs x)
  where
    by : (b : Bool) → cond b (Some y) (find test xs) ≡ Some x → (find test xs ≡ Some x → Contains xs x) → Contains (y ∷ xs) x
    by true found rest = let same : y ≡ x = cc in subst (λ (z : X). Contains (y ∷ xs) z) same (first_there y xs)
    by false found rest = rest_there y xs x (rest found)

-- what is found passes the test, and what holds of each element holds of it
pub found_is : {X : Type 0} (P : X → Type 0) (test : X → Bool) (xs : List X) (x : X) → AllByRecursion P xs → find test xs ≡ Some x → P x × (test x ≡ true)
found_is P test [] x all found = absurd (cc)
found_is {X} P test (y ∷ xs) x all found = by (test y) refl found (found_is P test xs x all.1)
  where
    by : (b : Bool) → test y ≡ b → cond b (Some y) (find test xs) ≡ Some x → (find test xs ≡ Some x → P x × (test x ≡ true)) → P x × (test x ≡ true)
    by true is found rest = let same : y ≡ x = cc in subst (λ (z : X). P z × (test z ≡ true)) same (all.0, is)
    by false is found rest = rest found

pub found_passes : {X : Type 0} (test : X → Bool) (xs : List X) (x : X) → find test xs ≡ Some x → test x ≡ true
found_passes test [] x found = absurd (cc)
found_passes {X} test (y ∷ xs) x found = by (test y) refl found (found_passes test xs x)
  where
    by : (b : Bool) → test y ≡ b → cond b (Some y) (find test xs) ≡ Some x → (find test xs ≡ Some x → test x ≡ true) → test x ≡ true
    by true is found rest = let same : y ≡ x = cc in subst (λ (z : X). test z ≡ true) same is
    by false is found rest = rest found

-- where one passes, one is found
pub found_first : {X : Type 0} (p : X → Bool) (xs : List X) (x : X) → Contains xs x → p x ≡ true → (y : X) × (find p xs ≡ Some y) × Contains xs y × (p y ≡ true)
found_first p [] x there passes = absurd (omega (arith, there.1))
found_first {X} p (z ∷ xs) x there passes = by (p z) refl (found_first p xs x)
  where
    by : (b : Bool) → p z ≡ b → (Contains xs x → p x ≡ true → (y : X) × (find p xs ≡ Some y) × Contains xs y × (p y ≡ true)) → (y : X) × (cond b (Some z) (find p xs) ≡ Some y)
        × Contains (z ∷ xs) y × (p y ≡ true)
    by true is rest = (z, refl, first_there z xs, is)
    by false is rest = ⊎_elim (λ (e : z ≡ x). absurd (let one : p z ≡ true = ap p e ∙ passes in cc))
        (λ (more : Contains xs x). let y = rest more passes in (y.0, y.1, rest_there z xs y.0 y.2, y.3)) (cons_cases z xs x there)

-- whatever is found is there and passes the test
pub found_any : {X : Type 0} (p : X → Bool) (xs : List X) → IfSome (find p xs) (λ x. Contains xs x × (p x ≡ true))
found_any p [] = tt
found_any {X} p (z ∷ xs) = by (p z) refl (find p xs) (found_any p xs)
  where
    by : (b : Bool) → p z ≡ b → (o : Option X) → IfSome o (λ x. Contains xs x × (p x ≡ true)) → IfSome (cond b (Some z) o) (λ x. Contains (z ∷ xs) x × (p x ≡ true))
    by true is o rest = (first_there z xs, is)
    by false is None rest = tt
    by false is (Some x) rest = (rest_there z xs x rest.0, rest.1)

pub find_behind : {X : Type 0} (p : X → Bool) (xs ys : List X) → AllByRecursion (λ x. p x ≡ false) xs → find p (xs ++ ys) ≡ find p ys
find_behind p [] ys h = refl
find_behind p (x ∷ xs) ys h = cond-false (p x) (Some x) (find p (xs ++ ys)) h.0 ∙ find_behind p xs ys h.1

pub find_nothing : {X : Type 0} (p : X → Bool) (xs : List X) → AllByRecursion (λ x. p x ≡ false) xs → find p xs ≡ None
find_nothing p [] h = refl
find_nothing p (x ∷ xs) h = cond-false (p x) (Some x) (find p xs) h.0 ∙ find_nothing p xs h.1
