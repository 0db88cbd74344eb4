-- How many of a list pass a test, where no more than one does, and sums over a list.
use Rattle.std.proofs.Common.{◌≡◌, ◌⊎◌, inl, inr, ⊎_elim, ℕ, ◌+◌, ◌≤◌, Bool, true, false, cond, ◌&&◌, List, [], ◌∷◌, ◌++◌, map, refl, sym, ◌∙◌, ap, arith}
use Rattle.std.specs.Prelude.{Some, Contains, filter, find, count_by, sum_by}
use Rattle.std.specs.List.{AllByRecursion}
use Rattle.std.proofs.lemmas.Bool.{false≢true, cond_both}
use Rattle.std.proofs.lemmas.List.Sums.{sum_by-cons, sum_by-append}
use Rattle.law_lists.proofs.Members.{cons_cases, first_there, rest_there}

abbrev pub one_if : Bool → ℕ
one_if b = cond b 1 0

pub count_cons : {X : Type 0} (p : X → Bool) (x : X) (xs : List X) → count_by p (x ∷ xs) ≡ one_if (p x) + count_by p xs
count_cons p x xs = sum_by-cons (λ y. one_if (p y)) x xs

pub count_joined : {X : Type 0} (p : X → Bool) (xs ys : List X) → count_by p (xs ++ ys) ≡ count_by p xs + count_by p ys
count_joined p xs ys = sum_by-append (λ y. one_if (p y)) xs ys

-- those between others count as they do alone
pub count_at : {X : Type 0} (p : X → Bool) (front : List X) (x : X) (xs : List X) → count_by p (front ++ x ∷ xs) ≡ count_by p (front ++ xs) + one_if (p x)
count_at p front x xs = omega (arith, count_joined p front (x ∷ xs), count_cons p x xs, count_joined p front xs)

pub count_none : {X : Type 0} (p : X → Bool) (xs : List X) → AllByRecursion (λ x. p x ≡ false) xs → count_by p xs ≡ 0
count_none p [] all = refl
count_none p (x ∷ xs) all = count_cons p x xs ∙ (λ i. one_if (all.0 i) + count_none p xs all.1 i)

pub count_nothing : {X : Type 0} (p : X → Bool) (xs : List X) → ((x : X) → p x ≡ false) → count_by p xs ≡ 0
count_nothing p [] none = refl
count_nothing p (x ∷ xs) none = omega (arith, count_cons p x xs, ap one_if (none x), count_nothing p xs none)

-- one that passes is counted
pub count_some : {X : Type 0} (p : X → Bool) (xs : List X) (x : X) → Contains xs x → p x ≡ true → 1 ≤ count_by p xs
count_some p [] x there is = absurd (omega (arith, there.1))
count_some {X} p (y ∷ xs) x there is =
    ⊎_elim (λ (e : y ≡ x). let one : one_if (p y) ≡ 1 = ap one_if (ap p e ∙ is) in omega (arith, count_cons p y xs, one))
    (λ (more : Contains xs x). omega (arith, count_cons p y xs, count_some p xs x more is)) (cons_cases y xs x there)

-- ---- other lists, and other tests

pub one_if_le : (a b : Bool) → (a ≡ true → b ≡ true) → one_if a ≤ one_if b
one_if_le true true to = omega arith
one_if_le true false to = absurd (false≢true (to refl))
one_if_le false b to = omega arith

-- where each that passes behind a change passed before, no more pass
pub count_changed : {X Y : Type 0} (p : Y → Bool) (q : X → Bool) (change : X → Y) (xs : List X) → ((x : X) → Contains xs x → p (change x) ≡ true → q x ≡ true)
    → count_by p (map change xs) ≤ count_by q xs
count_changed p q change [] each = omega arith
count_changed p q change (x ∷ xs) each =
    let rest = count_changed p q change xs (λ y there. each y (rest_there x xs y there)) in
    omega (arith, count_cons p (change x) (map change xs), count_cons q x xs, one_if_le (p (change x)) (q x) (each x (first_there x xs)), rest)

-- nor do of fewer
pub count_fewer : {X : Type 0} (p kept : X → Bool) (xs : List X) → count_by p (filter kept xs) ≤ count_by p xs
count_fewer p kept [] = omega arith
count_fewer {X} p kept (x ∷ xs) =
    let rest = count_fewer p kept xs in
    cond_both (kept x) (x ∷ filter kept xs) (filter kept xs) (λ (l : List X). count_by p l ≤ count_by p (x ∷ xs))
    (λ _. omega (arith, count_cons p x (filter kept xs), count_cons p x xs, rest)) (λ _. omega (arith, count_cons p x xs, rest))

-- each that passes the first passes one of the others
pub count_both : {X : Type 0} (p q r : X → Bool) (xs : List X) → ((x : X) → one_if (p x) ≡ one_if (q x) + one_if (r x)) → count_by p xs ≡ count_by q xs + count_by r xs
count_both p q r [] each = refl
count_both p q r (x ∷ xs) each = omega (arith, count_cons p x xs, count_cons q x xs, count_cons r x xs, each x, count_both p q r xs each)

-- of those that pass one test, how many pass another
pub count_filter : {X : Type 0} (p q : X → Bool) (xs : List X) → count_by q (filter p xs) ≡ count_by (λ x. p x && q x) xs
count_filter p q [] = refl
count_filter p q (x ∷ xs) = by (p x) (count_filter p q xs) ∙ sym (count_cons (λ y. p y && q y) x xs)
  where
    by : (b : Bool) → count_by q (filter p xs) ≡ count_by (λ x. p x && q x) xs → count_by q (cond b (x ∷ filter p xs) (filter p xs)) ≡ one_if (b && q x) + count_by (λ x. p x && q x) xs
    by true rest = count_cons q x (filter p xs) ∙ ap (λ (n : ℕ). one_if (q x) + n) rest
    by false rest = omega (arith, rest)

-- where no more than one passes, it is the one that is found
pub only_found : {X : Type 0} (p : X → Bool) (xs : List X) (x : X) → count_by p xs ≤ 1 → Contains xs x → p x ≡ true → find p xs ≡ Some x
only_found p [] x alone there is = absurd (omega (arith, there.1))
only_found {X} p (y ∷ xs) x alone there is = by (p y) refl (cons_cases y xs x there) (λ le more. only_found p xs x le more is)
  where
    by : (b : Bool) → p y ≡ b → (y ≡ x) ⊎ Contains xs x → (count_by p xs ≤ 1 → Contains xs x → find p xs ≡ Some x) → cond b (Some y) (find p xs) ≡ Some x
    by true one (inl e) rest = ap (λ (z : X). Some z) e
    by true one (inr more) rest =
        let here : one_if (p y) ≡ 1 = ap one_if one in
        absurd (omega (arith, count_cons p y xs, here, count_some p xs x more is, alone))
    by false none (inl e) rest = absurd (false≢true (sym none ∙ ap p e ∙ is))
    by false none (inr more) rest =
        let here : one_if (p y) ≡ 0 = ap one_if none in
        rest (omega (arith, count_cons p y xs, here, alone)) more

-- ---- sums

pub part_of_sum : {X : Type 0} (f : X → ℕ) (xs : List X) (x : X) → Contains xs x → f x ≤ sum_by f xs
part_of_sum f [] x there = absurd (omega (arith, there.1))
part_of_sum f (y ∷ xs) x there =
    ⊎_elim (λ (e : y ≡ x). let same : f y ≡ f x = ap f e in omega (arith, sum_by-cons f y xs, same))
    (λ (more : Contains xs x). omega (arith, sum_by-cons f y xs, part_of_sum f xs x more)) (cons_cases y xs x there)
