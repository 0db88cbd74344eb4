-- The numbers of a range: which are there, what holds of each, what a test keeps of them, and one more of them.
use Rattle.std.proofs.Common.{◌≡◌, ◌≢◌, ⊎_elim, ℕ, zero, suc, ◌+◌, ◌<◌, ◌≤◌, Bool, true, false, cond, List, [], ◌∷◌, ◌++◌, refl, sym, ◌∙◌, ap, subst, arith}
use Rattle.std.specs.Prelude.{Contains, filter}
use Rattle.std.specs.List.{AllByRecursion, range_with_len}
use Rattle.std.proofs.lemmas.Bool.{cond-true, cond-false, cases_eq}
use Rattle.std.proofs.lemmas.List.{append-nil}
use Rattle.std.proofs.lemmas.List.Elements.{Contains-get_or, filter-append}
use Rattle.std.proofs.lemmas.List.FromFn.{length-range_with_len, get_or-range_with_len}
use Rattle.law_lists.proofs.Each.{all_fewer}
use Rattle.law_lists.proofs.Members.{first_there, rest_there}

-- ---- which are there

pub range_there : (n k : ℕ) → k < n → Contains (range_with_len 0 n) k
range_there n k lt =
    let same : 0 + k ≡ k = omega arith in
    subst (Contains (range_with_len 0 n)) (get_or-range_with_len 0 n k 0 lt ∙ same) (Contains-get_or (range_with_len 0 n) k 0 (omega (arith, length-range_with_len 0 n)))

pub in_range : (from n b : ℕ) → from ≤ b → b < from + n → Contains (range_with_len from n) b
in_range from zero b low high = absurd (omega arith)
in_range from (suc n) b low high =
    ⊎_elim (λ (e : from ≡ b). subst (Contains (range_with_len from (suc n))) e (first_there from (range_with_len (from + 1) n)))
    (λ (other : from ≢ b). rest_there from (range_with_len (from + 1) n) b (in_range (from + 1) n b (omega (arith, other)) (omega arith))) (cases_eq from b)

-- what is there is below the end
pub range_within : (n k : ℕ) → Contains (range_with_len 0 n) k → k < n
range_within n k there =
    let at : there.0 < n = omega (arith, there.1, length-range_with_len 0 n) in
    let same : 0 + there.0 ≡ k = sym (get_or-range_with_len 0 n there.0 k at) ∙ there.2 in
    omega arith

pub range_below : (from n limit : ℕ) → from + n ≤ limit → AllByRecursion (λ b. b < limit) (range_with_len from n)
range_below from zero limit le = tt
range_below from (suc n) limit le = (omega arith, range_below (from + 1) n limit (omega arith))

-- what holds of each number of a range holds of all its numbers
pub range_all : (P : ℕ → Type 0) (from n : ℕ) → ((k : ℕ) → from ≤ k → k < from + n → P k) → AllByRecursion P (range_with_len from n)
range_all P from zero each = tt
range_all P from (suc n) each = (each from (omega arith) (omega arith), range_all P (from + 1) n (λ k low high. each k (omega arith) (omega arith)))

-- ---- two ranges in a row

pub range_parts : (from m n : ℕ) → range_with_len from (m + n) ≡ range_with_len from m ++ range_with_len (from + m) n
range_parts from zero n =
    let none : zero + n ≡ n = omega arith in let same : from ≡ from + zero = omega arith in
    ap (λ (k : ℕ). range_with_len from k) none ∙ ap (λ (k : ℕ). range_with_len k n) same
range_parts from (suc m) n =
    let one_more : suc m + n ≡ suc (m + n) = omega arith in let moved : from + 1 + m ≡ from + suc m = omega arith in
    ap (λ (k : ℕ). range_with_len from k) one_more
    ∙ ap (λ (l : List ℕ). from ∷ l) (range_parts (from + 1) m n)
    ∙ ap (λ (k : ℕ). from ∷ range_with_len (from + 1) m ++ range_with_len k n) moved

-- one number more
pub range_more : (from n : ℕ) → range_with_len from (n + 1) ≡ range_with_len from n ++ (from + n) ∷ []
range_more from n = range_parts from n 1

pub range_next : (n : ℕ) → range_with_len 0 (n + 1) ≡ range_with_len 0 n ++ n ∷ []
range_next n = let none : 0 + n ≡ n = omega arith in range_more 0 n ∙ ap (λ (k : ℕ). range_with_len 0 n ++ k ∷ []) none

-- ---- what a test keeps

pub range_kept_below : (p : ℕ → Bool) (n : ℕ) → AllByRecursion (λ b. b < n) (filter p (range_with_len 0 n))
range_kept_below p n = all_fewer (λ b. b < n) p (range_with_len 0 n) (range_below 0 n n (omega arith))

-- a test that no number of a range passes, and one that no other does
pub range_none : (p : ℕ → Bool) (from n : ℕ) → ((b : ℕ) → from ≤ b → b < from + n → p b ≡ false) → filter p (range_with_len from n) ≡ []
range_none p from zero none = refl
range_none p from (suc n) none =
    cond-false (p from) (from ∷ filter p (range_with_len (from + 1) n)) (filter p (range_with_len (from + 1) n)) (none from (omega arith) (omega arith))
    ∙ range_none p (from + 1) n (λ b low high. none b (omega (arith, low)) (omega (arith, high)))

pub range_one : (p : ℕ → Bool) (k from n : ℕ) → from ≤ k → k < from + n → ((b : ℕ) → from ≤ b → b < from + n → b ≢ k → p b ≡ false)
    → filter p (range_with_len from n) ≡ cond (p k) (k ∷ []) []
range_one p k from zero low high others = absurd (omega arith)
range_one p k from (suc n) low high others =
    ⊎_elim (λ (e : from ≡ k).
    ap (λ l. cond (p from) (from ∷ l) l) (range_none p (from + 1) n
    (λ b above within. others b (omega (arith, above)) (omega (arith, within)) (λ (same : b ≡ k). absurd (omega (arith, above, same, e)))))
    ∙ ap (λ x. cond (p x) (x ∷ []) []) e)
    (λ (other : from ≢ k).
    cond-false (p from) (from ∷ filter p (range_with_len (from + 1) n)) (filter p (range_with_len (from + 1) n)) (others from (omega arith) (omega arith) other)
    ∙ range_one p k (from + 1) n (omega (arith, other)) (omega arith) (λ b above within. others b (omega (arith, above)) (omega (arith, within)))) (cases_eq from k)

-- of one number more
pub filter_next : (p : ℕ → Bool) (n : ℕ) → filter p (range_with_len 0 (n + 1)) ≡ filter p (range_with_len 0 n) ++ cond (p n) (n ∷ []) []
filter_next p n = ap (filter p) (range_next n) ∙ filter-append p (range_with_len 0 n) (n ∷ [])

pub filter_passing : (p : ℕ → Bool) (k : ℕ) (found new : List ℕ) → found ≡ filter p (range_with_len 0 k) → p k ≡ true → new ≡ found ++ k ∷ [] → new ≡ filter p (range_with_len 0 (k + 1))
filter_passing p k found new is passes more =
    more ∙ ap (λ (l : List ℕ). l ++ k ∷ []) is ∙ sym (filter_next p k ∙ ap (λ (l : List ℕ). filter p (range_with_len 0 k) ++ l) (cond-true (p k) (k ∷ []) [] passes))

pub filter_failing : (p : ℕ → Bool) (k : ℕ) (found : List ℕ) → found ≡ filter p (range_with_len 0 k) → p k ≡ false → found ≡ filter p (range_with_len 0 (k + 1))
filter_failing p k found is fails =
    is ∙ sym (filter_next p k ∙ ap (λ (l : List ℕ). filter p (range_with_len 0 k) ++ l) (cond-false (p k) (k ∷ []) [] fails) ∙ append-nil (filter p (range_with_len 0 k)))
