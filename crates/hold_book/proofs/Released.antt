-- The holds without those of one buffer.
use Rattle.std.proofs.Common.{◌≡◌, ℕ, ◌+◌, ◌<◌, Bool, true, false, not, cond, ◌&&◌, ◌||◌, eqb, List, [], ◌∷◌, refl, ap, sym, subst, ◌∙◌, ◌↔◌, ⊎_elim, zero-add, arith}
use Rattle.std.specs.Prelude.{filter, count_by}
use Rattle.std.specs.FinSet as set
use Rattle.std.proofs.lemmas.Bool.{false≢true, cases_Bool, cond_both, and_parts, or_cases, or_left, or_right, eqb-true}
use Rattle.std.proofs.lemmas.Cmp.{nat_eq_equiv}
use Rattle.law_lists.proofs.Counts.{one_if, count_cons}
use Rattle.hold_book.specs.Holds.{pair_cmp, IsHeld, without_buffer}
use Rattle.hold_book.specs.Counts.{held_by, held_by_another}
use Rattle.hold_book.proofs.Pairs.{pair_order, pair_exact, same_pair, has, contains-pairs, names, one_more, no_more, held_by_count, count_by_held}
use Rattle.hold_book.proofs.Lowered.{of, of_others}

-- ---- a buffer's own pairs

pub same_as_held : (buffer block : ℕ) (p : ℕ × ℕ) → same_pair (buffer, block) p ≡ held_by buffer block p
same_as_held buffer block p = λ i. nat_eq_equiv.symm buffer p.0 i && nat_eq_equiv.symm block p.1 i

pub has_from_count : (buffer block : ℕ) (ks : List (ℕ × ℕ)) → 0 < of buffer block ks → has ks (buffer, block) ≡ true
has_from_count buffer block [] some = absurd (omega arith)
has_from_count buffer block (p ∷ ks) some =
    ⊎_elim
    (λ here. or_left (same_pair (buffer, block) p) (has ks (buffer, block)) (same_as_held buffer block p ∙ here))
    (λ (other : held_by buffer block p ≡ false).
    let less = no_more (held_by buffer block) p ks other in
    or_right (same_pair (buffer, block) p) (has ks (buffer, block)) (has_from_count buffer block ks (omega arith)))
    (cases_Bool (held_by buffer block p))

pub count_from_has : (buffer block : ℕ) (ks : List (ℕ × ℕ)) → has ks (buffer, block) ≡ true → 0 < of buffer block ks
count_from_has buffer block [] there = absurd (false≢true there)
count_from_has buffer block (p ∷ ks) there =
    ⊎_elim
    (λ (here : same_pair (buffer, block) p ≡ true).
    let more = one_more (held_by buffer block) p ks (sym (same_as_held buffer block p) ∙ here) in
    omega arith)
    (λ (later : has ks (buffer, block) ≡ true). let rest = count_from_has buffer block ks later in let first = count_cons (held_by buffer block) p ks in omega arith)
    (or_cases (same_pair (buffer, block) p) (has ks (buffer, block)) there)

-- ---- the pairs of others

abbrev pub is_others : ℕ → ℕ × ℕ → Bool
is_others buffer p = not (eqb p.0 buffer)

count_cond : (f : ℕ × ℕ → Bool) (b : Bool) (p : ℕ × ℕ) (ks : List (ℕ × ℕ)) → count_by f (cond b (p ∷ ks) ks) ≡ one_if (b && f p) + count_by f ks
count_cond f true p ks = count_cons f p ks
count_cond f false p ks = sym (zero-add (count_by f ks))

pub count-others : (buffer block : ℕ) (ks : List (ℕ × ℕ)) → count_by (names block) (filter (is_others buffer) ks) ≡ of_others buffer block ks
count-others buffer block [] = refl
count-others buffer block (p ∷ ks) =
    count_cond (names block) (is_others buffer p) p (filter (is_others buffer) ks)
    ∙ ap (λ n. one_if (is_others buffer p && eqb p.1 block) + n) (count-others buffer block ks)
    ∙ sym (count_cons (held_by_another buffer block) p ks)

key_of : (q k : ℕ × ℕ) → same_pair q k ≡ true → q ≡ k
key_of q k same =
    let both = and_parts (eqb q.0 k.0) (eqb q.1 k.1) same in
    λ i. (eqb-true q.0 k.0 both.0 i, eqb-true q.1 k.1 both.1 i)

whole : (a b f : Bool) → (a ≡ true → f ≡ true) → (a || (b && f)) ≡ ((a || b) && f)
whole true b f given = sym (given refl)
whole false b f given = refl

none : (a b f : Bool) → (a ≡ true → f ≡ false) → (b && f) ≡ ((a || b) && f)
none true b f given = (λ i. b && given refl i) ∙ never b ∙ sym (given refl)
  where
    never : (b : Bool) → (b && false) ≡ false
    never true = refl
    never false = refl
none false b f given = refl

has-others : (f : ℕ × ℕ → Bool) (ks : List (ℕ × ℕ)) (q : ℕ × ℕ) → has (filter f ks) q ≡ (has ks q && f q)
has-others f [] q = refl
has-others f (k ∷ ks) q =
    let step = has-others f ks q in
    cond_both (f k) (k ∷ filter f ks) (filter f ks) (λ l. has l q ≡ ((same_pair q k || has ks q) && f q))
    (λ kept. ap (λ b. same_pair q k || b) step ∙ whole (same_pair q k) (has ks q) (f q) (λ same. ap f (key_of q k same) ∙ kept))
    (λ gone. step ∙ none (same_pair q k) (has ks q) (f q) (λ same. ap f (key_of q k same) ∙ gone))

pub holds-others : (buffer : ℕ) (ks : List (ℕ × ℕ)) → set.from_list {R = pair_cmp} (filter (is_others buffer) ks) ≡ without_buffer (set.from_list ks) buffer
holds-others buffer ks =
    set.same_set pair_order pair_exact (set.from_list (filter (is_others buffer) ks)) (without_buffer (set.from_list ks) buffer)
    (λ q.
    contains-pairs (filter (is_others buffer) ks) q
    ∙ has-others (is_others buffer) ks q
    ∙ ap (λ b. b && is_others buffer q) (sym (contains-pairs ks q))
    ∙ sym (set.contains-retain (set.from_list ks) (is_others buffer) q (λ x tied. ap (is_others buffer) (sym (pair_exact q x tied)))))

-- ---- the holds of others

pub held_besides_is : (ks : List (ℕ × ℕ)) (buffer block : ℕ) → IsHeld (without_buffer (set.from_list ks) buffer) block ↔ (0 < of_others buffer block ks)
held_besides_is ks buffer block = (
  λ held. (let some = count_by_held block (filter (is_others buffer) ks) (subst (λ h. IsHeld h block) (sym (holds-others buffer ks)) held) in omega (arith, some, count-others buffer block ks)),
  λ some. subst (λ h. IsHeld h block) (holds-others buffer ks) (held_by_count block (filter (is_others buffer) ks) (omega (arith, some, count-others buffer block ks))),
)
