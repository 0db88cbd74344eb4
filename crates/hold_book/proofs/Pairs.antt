-- A list of pairs as a set of holds, and how many of them name a block.
use Rattle.std.proofs.Common.{◌≡◌, ℕ, ◌+◌, ◌<◌, ◌≢◌, Bool, true, false, ◌&&◌, ◌||◌, eqb, List, [], ◌∷◌, Option, Some, None, is_some, unwrap_or, Equal}
use Rattle.std.proofs.Common.{refl, ap, sym, ◌∙◌, ⊎_elim, zero-add, arith}
use Rattle.std.specs.Prelude.{count_by}
use Rattle.std.specs.List.{list_any}
use Rattle.std.specs.List.Sorted.{IsPermutation}
use Rattle.std.specs.Ordering.{nat_cmp, eq_by_cmp}
use Rattle.std.specs.Cmp.{IsTotalOrder, unsigned_ties, both_tied}
use Rattle.std.specs.FinSet as set
use Rattle.std.proofs.lemmas.Bool.{false≢true, cases_Bool, and_from, and_parts, or_cases, or_left, or_right, eq-eqb, ne_eqb, eqb-true, cases_eq}
use Rattle.std.proofs.lemmas.Cmp.{nat_cmp_total, on_total, then_total}
use Rattle.std.proofs.lemmas.Map.Lookups.{exact_unsigned, exact_pairs}
use Rattle.std.proofs.lemmas.List.Sorted.{sum_by-IsPermutation}
use Rattle.law_lists.proofs.Counts.{one_if, count_cons}
use Rattle.hold_book.specs.Holds.{pair_cmp, IsHeld, with_pair}

pub pair_order : IsTotalOrder pair_cmp
pair_order = then_total (on_total (λ (p : ℕ × ℕ). p.0) nat_cmp_total) (on_total (λ (p : ℕ × ℕ). p.1) nat_cmp_total)

pub pair_exact : (x y : ℕ × ℕ) → pair_cmp x y ≡ Equal → x ≡ y
pair_exact = exact_pairs nat_cmp nat_cmp exact_unsigned exact_unsigned

abbrev pub same_pair : ℕ × ℕ → ℕ × ℕ → Bool
same_pair q k = eqb q.0 k.0 && eqb q.1 k.1

pub same_pair-tied : (q k : ℕ × ℕ) → eq_by_cmp pair_cmp q k ≡ same_pair q k
same_pair-tied q k = sym (both_tied (eqb q.0 k.0) (eqb q.1 k.1) (nat_cmp q.0 k.0) (nat_cmp q.1 k.1) (unsigned_ties q.0 k.0) (unsigned_ties q.1 k.1))

-- whether a list has a pair
abbrev pub has : List (ℕ × ℕ) → ℕ × ℕ → Bool
has ks q = list_any (same_pair q) ks

same_any : (q : ℕ × ℕ) (ks : List (ℕ × ℕ)) → list_any (eq_by_cmp pair_cmp q) ks ≡ has ks q
same_any q [] = refl
same_any q (k ∷ ks) = λ i. same_pair-tied q k i || same_any q ks i

pub contains-pairs : (ks : List (ℕ × ℕ)) (q : ℕ × ℕ) → set.contains (set.from_list {R = pair_cmp} ks) q ≡ has ks q
contains-pairs ks q = set.contains-from_list pair_order ks q ∙ same_any q ks

-- one more pair
pub hold_added : (ks ls : List (ℕ × ℕ)) (p : ℕ × ℕ) → ((q : ℕ × ℕ) → has ls q ≡ (same_pair q p || has ks q)) → set.from_list {R = pair_cmp} ls ≡ with_pair (set.from_list ks) p.0 p.1
hold_added ks ls p updated =
    set.same_set pair_order pair_exact (set.from_list ls) (with_pair (set.from_list ks) p.0 p.1)
    (λ q. contains-pairs ls q ∙ updated q ∙ (λ i. sym (same_pair-tied q p) i || sym (contains-pairs ks q) i) ∙ sym (set.contains-insert pair_order (set.from_list ks) p q))

-- ---- how many pairs name a block

abbrev pub names : ℕ → ℕ × ℕ → Bool
names block p = eqb p.1 block

pub one_more : (f : ℕ × ℕ → Bool) (p : ℕ × ℕ) (ks : List (ℕ × ℕ)) → f p ≡ true → count_by f (p ∷ ks) ≡ 1 + count_by f ks
one_more f p ks passes = count_cons f p ks ∙ ap (λ b. one_if b + count_by f ks) passes

pub no_more : (f : ℕ × ℕ → Bool) (p : ℕ × ℕ) (ks : List (ℕ × ℕ)) → f p ≡ false → count_by f (p ∷ ks) ≡ count_by f ks
no_more f p ks fails = count_cons f p ks ∙ ap (λ b. one_if b + count_by f ks) fails ∙ zero-add (count_by f ks)

pub named : (block : ℕ) (ks : List (ℕ × ℕ)) → 0 < count_by (names block) ks → (buffer : ℕ) × (has ks (buffer, block) ≡ true)
named block [] some = absurd (omega arith)
named block (p ∷ ks) some =
    ⊎_elim
    (λ here. (p.0, or_left (same_pair (p.0, block) p) (has ks (p.0, block)) (and_from (eqb p.0 p.0) (eqb block p.1) (eq-eqb p.0 p.0 refl) (eq-eqb block p.1 (sym (eqb-true p.1 block here))))))
    (λ (other : eqb p.1 block ≡ false).
    let less = no_more (names block) p ks other in
    let rest = named block ks (omega arith) in
    (rest.0, or_right (same_pair (rest.0, block) p) (has ks (rest.0, block)) rest.1))
    (cases_Bool (eqb p.1 block))

pub name_counts : (buffer block : ℕ) (ks : List (ℕ × ℕ)) → has ks (buffer, block) ≡ true → 0 < count_by (names block) ks
name_counts buffer block [] there = absurd (false≢true there)
name_counts buffer block (p ∷ ks) there =
    ⊎_elim
    (λ (here : same_pair (buffer, block) p ≡ true).
    let more = one_more (names block) p ks (eq-eqb p.1 block (sym (eqb-true block p.1 (and_parts (eqb buffer p.0) (eqb block p.1) here).1))) in
    omega arith)
    (λ (later : has ks (buffer, block) ≡ true). let rest = name_counts buffer block ks later in let first = count_cons (names block) p ks in omega arith)
    (or_cases (same_pair (buffer, block) p) (has ks (buffer, block)) there)

-- a block is held where a pair names it
pub held_by_count : (block : ℕ) (ks : List (ℕ × ℕ)) → 0 < count_by (names block) ks → IsHeld (set.from_list ks) block
held_by_count block ks some = let one = named block ks some in (one.0, contains-pairs ks (one.0, block) ∙ one.1)

pub count_by_held : (block : ℕ) (ks : List (ℕ × ℕ)) → IsHeld (set.from_list ks) block → 0 < count_by (names block) ks
count_by_held block ks held = name_counts held.0 block ks (sym (contains-pairs ks (held.0, block)) ∙ held.1)

-- a number that isn't zero is there exactly where the count is above zero
pub some_counts : (o : Option ℕ) → (o ≡ Some 0 → ⊥) → is_some o ≡ true → 0 < unwrap_or o 0
some_counts None some is = absurd (false≢true is)
some_counts (Some n) some is = by_zero n (λ e. some (ap (λ k. Some k) e))
  where
    by_zero : (n : ℕ) → (n ≡ 0 → ⊥) → 0 < n
    by_zero n ne = omega arith

pub counts_some : (o : Option ℕ) → 0 < unwrap_or o 0 → is_some o ≡ true
counts_some None some = absurd (omega arith)
counts_some (Some n) some = refl

-- one more pair counts once more for its block
pub count_added : (ks ls : List (ℕ × ℕ)) (p : ℕ × ℕ) (old new : ℕ → ℕ) → IsPermutation (p ∷ ks) ls → ((b : ℕ) → old b ≡ count_by (names b) ks)
    → new p.1 ≡ old p.1 + 1 → ((b : ℕ) → b ≢ p.1 → new b ≡ old b) → (b : ℕ) → new b ≡ count_by (names b) ls
count_added ks ls p old new moved exact at others b =
    let whole = sum_by-IsPermutation (λ (x : ℕ × ℕ). one_if (names b x)) (p ∷ ks) ls moved in
    ⊎_elim
    (λ (here : b ≡ p.1).
    let more = one_more (names b) p ks (eq-eqb p.1 b (sym here)) in
    ap new here ∙ at ∙ ap (λ n. old n + 1) (sym here) ∙ (let e : old b + 1 ≡ count_by (names b) ls = omega (arith, exact b) in e))
    (λ (other : b ≢ p.1).
    let less = no_more (names b) p ks (ne_eqb p.1 b (λ e. other (sym e))) in
    others b other ∙ (let e : old b ≡ count_by (names b) ls = omega (arith, exact b) in e))
    (cases_eq b p.1)
