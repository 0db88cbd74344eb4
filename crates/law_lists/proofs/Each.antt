-- What holds of each element of a list, and of the lists that are made of it.
use Rattle.std.proofs.Common.{◌≡◌, ℕ, zero, suc, ◌<◌, ◌≤◌, Bool, true, List, [], ◌∷◌, ◌++◌, length, get_or, set, take, drop, map, refl, subst, arith}
use Rattle.std.specs.Prelude.{Some, Contains, filter, slice_get}
use Rattle.std.specs.List.{AllByRecursion}
use Rattle.std.proofs.lemmas.Bool.{cond_both}
use Rattle.std.proofs.lemmas.List.Elements.{All-from_recursion, recursion_from_All, All-contains, All-weaker, All-contains_itself}

pub all_map : {X : Type 0} (P Q : X → Type 0) (xs : List X) → ((x : X) → P x → Q x) → AllByRecursion P xs → AllByRecursion Q xs
all_map P Q [] step all = tt
all_map P Q (x ∷ xs) step all = (step x all.0, all_map P Q xs step all.1)

pub all_both : {X : Type 0} (P Q R : X → Type 0) → ((x : X) → P x → Q x → R x) → (xs : List X) → AllByRecursion P xs → AllByRecursion Q xs → AllByRecursion R xs
all_both P Q R step [] one other = tt
all_both P Q R step (x ∷ xs) one other = (step x one.0 other.0, all_both P Q R step xs one.1 other.1)

-- ---- what is in the list

pub all_at : {X : Type 0} (P : X → Type 0) (xs : List X) (x : X) → AllByRecursion P xs → Contains xs x → P x
all_at P xs x all there = All-contains P xs x (All-from_recursion P xs all) there

pub all_from : {X : Type 0} (P : X → Type 0) (xs : List X) → ((x : X) → Contains xs x → P x) → AllByRecursion P xs
all_from P xs each = recursion_from_All P xs (All-weaker (Contains xs) P each xs (All-contains_itself xs))

-- ---- two lists in a row

pub all_joined : {X : Type 0} (P : X → Type 0) (xs ys : List X) → AllByRecursion P xs → AllByRecursion P ys → AllByRecursion P (xs ++ ys)
all_joined P [] ys front back = back
all_joined P (x ∷ xs) ys front back = (front.0, all_joined P xs ys front.1 back)

pub all_parted : {X : Type 0} (P : X → Type 0) (xs ys : List X) → AllByRecursion P (xs ++ ys) → AllByRecursion P xs × AllByRecursion P ys
all_parted P [] ys all = (tt, all)
all_parted P (x ∷ xs) ys all = let rest = all_parted P xs ys all.1 in ((all.0, rest.0), rest.1)

pub all_front : {X : Type 0} (P : X → Type 0) (xs ys : List X) → AllByRecursion P (xs ++ ys) → AllByRecursion P xs
all_front P xs ys all = (all_parted P xs ys all).0

pub all_back : {X : Type 0} (P : X → Type 0) (xs ys : List X) → AllByRecursion P (xs ++ ys) → AllByRecursion P ys
all_back P xs ys all = (all_parted P xs ys all).1

-- ---- what a test keeps, and what is made of each

pub all_fewer : {X : Type 0} (P : X → Type 0) (test : X → Bool) (xs : List X) → AllByRecursion P xs → AllByRecursion P (filter test xs)
all_fewer P test [] all = tt
all_fewer P test (x ∷ xs) all = let rest = all_fewer P test xs all.1 in cond_both (test x) (x ∷ filter test xs) (filter test xs) (AllByRecursion P) (λ _. (all.0, rest)) (λ _. rest)

-- of what passes the test more holds
pub all_kept : {X : Type 0} (P Q : X → Type 0) (test : X → Bool) (xs : List X) → ((x : X) → P x → test x ≡ true → Q x) → AllByRecursion P xs → AllByRecursion Q (filter test xs)
all_kept P Q test [] more all = tt
all_kept P Q test (x ∷ xs) more all =
    let rest = all_kept P Q test xs more all.1 in
    cond_both (test x) (x ∷ filter test xs) (filter test xs) (AllByRecursion Q) (λ is. (more x all.0 is, rest)) (λ _. rest)

pub all_to_map : {X Y : Type 0} (P : X → Type 0) (Q : Y → Type 0) (f : X → Y) → ((x : X) → P x → Q (f x)) → (xs : List X) → AllByRecursion P xs → AllByRecursion Q (map f xs)
all_to_map P Q f step [] all = tt
all_to_map P Q f step (x ∷ xs) all = (step x all.0, all_to_map P Q f step xs all.1)

pub all_before_map : {X Y : Type 0} (P : X → Type 0) (Q : Y → Type 0) (f : X → Y) → ((x : X) → Q (f x) → P x) → (xs : List X) → AllByRecursion Q (map f xs) → AllByRecursion P xs
all_before_map P Q f step [] all = tt
all_before_map P Q f step (x ∷ xs) all = (step x all.0, all_before_map P Q f step xs all.1)

-- ---- places

module _ {X : Type 0} (P : X → Type 0) where
  pub all_get : (xs : List X) (i : ℕ) (x : X) → AllByRecursion P xs → slice_get xs i ≡ Some x → P x
  all_get [] i x all at = absurd cc
  all_get (y ∷ xs) zero x all at = let same : y ≡ x = cc in subst P same all.0
  all_get (y ∷ xs) (suc i) x all at = all_get xs i x all.1 at

  pub all_set : (xs : List X) (i : ℕ) (x : X) → AllByRecursion P xs → P x → AllByRecursion P (set xs i x)
  all_set [] i x all here = tt
  all_set (y ∷ xs) zero x all here = (here, all.1)
  all_set (y ∷ xs) (suc i) x all here = (all.0, all_set xs i x all.1 here)

  pub all_from_places : (xs : List X) → ((i : ℕ) (x : X) → slice_get xs i ≡ Some x → P x) → AllByRecursion P xs
  all_from_places [] each = tt
  all_from_places (x ∷ xs) each = (each 0 x refl, all_from_places xs (λ i y at. each (suc i) y at))

  -- what holds at each place below i, and from i on
  pub all_taken : (xs : List X) (i : ℕ) → ((k : ℕ) (d : X) → k < i → P (get_or xs k d)) → AllByRecursion P (take i xs)
  all_taken xs zero h = tt
  all_taken [] (suc i) h = tt
  all_taken (x ∷ xs) (suc i) h = (h 0 x (omega arith), all_taken xs i (λ k d lt. h (suc k) d (omega arith)))

  all_everywhere : (xs : List X) → ((k : ℕ) (d : X) → k < length xs → P (get_or xs k d)) → AllByRecursion P xs
  all_everywhere [] h = tt
  all_everywhere (x ∷ xs) h = (h 0 x (omega arith), all_everywhere xs (λ k d lt. h (suc k) d (omega arith)))

  pub all_dropped : (xs : List X) (i : ℕ) → ((k : ℕ) (d : X) → i ≤ k → k < length xs → P (get_or xs k d)) → AllByRecursion P (drop i xs)
  all_dropped xs zero h = all_everywhere xs (λ k d lt. h k d (omega arith) lt)
  all_dropped [] (suc i) h = tt
  all_dropped (x ∷ xs) (suc i) h = all_dropped xs i (λ k d le lt. h (suc k) d (omega arith) (omega arith))
