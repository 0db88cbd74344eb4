-- Lists in which no element stands twice: by a test, or by equality.
use Rattle.std.proofs.Common.{◌≡◌, ◌≢◌, ◌⊎◌, inl, inr, ℕ, zero, suc, ◌+◌, ◌<◌, ◌≤◌, Bool, true, false, cond, List, [], ◌∷◌, ◌++◌, length, refl, sym, ◌∙◌, ap, arith}
use Rattle.std.specs.Prelude.{◌==◌, Contains, filter, sum_by}
use Rattle.std.specs.List.{AllByRecursion, IsDistinct, range_with_len}
use Rattle.std.proofs.lemmas.Bool.{both_ways, cases_eq, cond-true, cond_both, eq-eqb, ne_eqb}
use Rattle.std.proofs.lemmas.Map.Keys.{IsDistinct-head, IsDistinct-tail, IsDistinct-cons}
use Rattle.std.proofs.lemmas.List.Sums.{sum_by-cons, sum_by-append}
use Rattle.law_lists.proofs.Each.{all_at, all_fewer, all_joined}
use Rattle.law_lists.proofs.Members.{first_there, rest_there}
use Rattle.law_lists.proofs.Between.{parted}

-- ---- by a test

-- where no two elements are the same, none of fewer are
module _ {X : Type 0} (e : X → X → Bool) where
  pub distinct_fewer : (p : X → Bool) (xs : List X) → IsDistinct e xs → IsDistinct e (filter p xs)
  distinct_fewer p [] once = once
  distinct_fewer p (x ∷ xs) once =
      let rest = distinct_fewer p xs (IsDistinct-tail e x xs once) in
      cond_both (p x) (x ∷ filter p xs) (filter p xs) (IsDistinct e)
      (λ _. IsDistinct-cons e x (filter p xs) (all_fewer (λ y. e x y ≡ false) p xs (IsDistinct-head e x xs once)) rest) (λ _. rest)

  pub distinct_joined : (xs ys : List X) → IsDistinct e xs → IsDistinct e ys → AllByRecursion (λ x. AllByRecursion (λ y. e x y ≡ false) ys) xs → IsDistinct e (xs ++ ys)
  distinct_joined [] ys one other apart = other
  distinct_joined (x ∷ xs) ys one other apart =
      IsDistinct-cons e x (xs ++ ys) (all_joined (λ y. e x y ≡ false) xs ys (IsDistinct-head e x xs one) apart.0)
      (distinct_joined xs ys (IsDistinct-tail e x xs one) other apart.1)

range_above : (low from n : ℕ) → low < from → AllByRecursion (λ b. (low == b) ≡ false) (range_with_len from n)
range_above low from zero lt = tt
range_above low from (suc n) lt = (ne_eqb low from (λ (same : low ≡ from). absurd (omega (arith, same))), range_above low (from + 1) n (omega arith))

pub range_once : (from n : ℕ) → IsDistinct (λ a b. a == b) (range_with_len from n)
unfolding IsDistinct
range_once from zero = tt
range_once from (suc n) = IsDistinct-cons (λ a b. a == b) from (range_with_len (from + 1) n) (range_above from (from + 1) n (omega arith)) (range_once (from + 1) n)

-- where all but one of some numbers that differ pass, no more than one is lost
pub kept_all : (p : ℕ → Bool) (bs : List ℕ) → ((b : ℕ) → Contains bs b → p b ≡ true) → length bs ≤ length (filter p bs)
kept_all p [] all = omega arith
kept_all p (b ∷ bs) all =
    let rest = kept_all p bs (λ c there. all c (rest_there b bs c there)) in
    let one = ap length (cond-true (p b) (b ∷ filter p bs) (filter p bs) (all b (first_there b bs))) in omega (arith, rest, one)

pub kept_but_one : (p : ℕ → Bool) (k : ℕ) (bs : List ℕ) → IsDistinct (λ a b. a == b) bs → ((b : ℕ) → Contains bs b → b ≢ k → p b ≡ true) → length bs ≤ length (filter p bs) + 1
kept_but_one p k [] once all = omega arith
kept_but_one p k (b ∷ bs) once all = by (p b) (cases_eq b k) refl (kept_but_one p k bs (IsDistinct-tail (λ a c. a == c) b bs once) (λ c there. all c (rest_there b bs c there)))
  where
    by : (t : Bool) → (b ≡ k) ⊎ (b ≢ k) → p b ≡ t → length bs ≤ length (filter p bs) + 1 → suc (length bs) ≤ length (cond t (b ∷ filter p bs) (filter p bs)) + 1
    by true same is rest = omega (arith, rest)
    by false (inl e) is rest =
        let others = kept_all p bs (λ c there. all c (rest_there b bs c there)
        (λ (same : c ≡ k). both_ways (b == c) (all_at (λ d. (b == d) ≡ false) bs c (IsDistinct-head (λ a d. a == d) b bs once) there) (eq-eqb b c (e ∙ sym same)))) in
        omega (arith, others)
    by false (inr other) is rest = absurd (both_ways (p b) is (all b (first_there b bs) other))

-- ---- by equality

abbrev pub StandOnce : {X : Type 0} → List X → Type 0
StandOnce [] = Unit {0}
StandOnce (x ∷ xs) = AllByRecursion (λ y. x ≢ y) xs × StandOnce xs

pub once_kept : {X : Type 0} (p : X → Bool) (xs : List X) → StandOnce xs → StandOnce (filter p xs)
once_kept p [] once = tt
once_kept {X} p (x ∷ xs) once = by (p x) (once_kept p xs once.1)
  where
    by : (b : Bool) → StandOnce (filter p xs) → StandOnce (cond b (x ∷ filter p xs) (filter p xs))
    by true rest = (all_fewer (λ y. x ≢ y) p xs once.0, rest)
    by false rest = rest

-- those that stand once within a list sum up to no more
pub sum_within : {X : Type 0} (f : X → ℕ) (xs ys : List X) → StandOnce xs → ((x : X) → Contains xs x → Contains ys x) → sum_by f xs ≤ sum_by f ys
sum_within f [] ys once within = omega arith
sum_within {X} f (x ∷ xs) ys once within =
    let is = parted x ys (within x (first_there x xs)) in
    let rest = sum_within f xs (is.front ++ is.behind) once.1 (λ y there. is.others y (all_at (λ z. x ≢ z) xs y once.0 there) (within y (rest_there x xs y there))) in
    let sum : sum_by f ys ≡ sum_by f (is.front ++ x ∷ is.behind) = ap (sum_by f) is.parts in
    omega (arith, rest, sum, sum_by-cons f x xs, sum_by-append f is.front (x ∷ is.behind), sum_by-cons f x is.behind, sum_by-append f is.front is.behind)

-- two lists of the same elements, in whatever order, have one sum
pub same_sum : {X : Type 0} (f : X → ℕ) (xs ys : List X) → StandOnce xs → StandOnce ys → ((x : X) → Contains xs x → Contains ys x) → ((x : X) → Contains ys x → Contains xs x)
    → sum_by f xs ≡ sum_by f ys
same_sum f xs ys once_xs once_ys to back = omega (arith, sum_within f xs ys once_xs to, sum_within f ys xs once_ys back)
