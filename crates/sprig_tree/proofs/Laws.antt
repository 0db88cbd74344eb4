-- Laws of lists of entries for callers: what a look-up finds after an edit, that an edit keeps the order, how long the
-- list is then, and that the next entries go over the list from end to end.
use Rattle.std.proofs.Common.{◌≡◌, ℕ, suc, ◌+◌, Bool, true, false, not, cond, List, [], ◌∷◌, ◌++◌, length, Option, Some, None, IsSome, Ordering, Less, Equal, Greater, refl, ap, sym, subst, ◌∙◌, arith}
use Rattle.std.specs.List.{slice_get}
use Rattle.std.proofs.lemmas.Bool.{false≢true, both_ways, cond-true, cond-false, cond_both, not-true, not-false, not_from_false}
use Rattle.std.proofs.lemmas.List.{length-map}
use Rattle.std.proofs.lemmas.Cmp.{tied_itself}
use Rattle.std.proofs.lemmas.Option.{slice_get_within, get_or_from_slice_get}
use Rattle.rec_format.specs.declared.version.Digest.{Digest}
use Rattle.rec_format.specs.declared.entry.Entry.{Entry}
use Rattle.rec_format.specs.Places.{digest_cmp, same_digest, digest_before}
use Rattle.rec_format.proofs.Laws.{same_digest_is, same_digest_refl}
use Rattle.sprig_tree.specs.Entries.{IsInDigestOrder, entry_of, entry_after, with_entry, with_replaced, without_digest}
use Rattle.sprig_tree.specs.Search.{IsPlaceOf}
use Rattle.sprig_tree.proofs.Digests.{digest_order, greater_back, less_back, same_at}
use Rattle.sprig_tree.proofs.Parted.{AllBelow, AllAbove, with_entry-between, entry_of_above}
use Rattle.sprig_tree.proofs.Order.{order_rest, order_first, order-cons, order_between, order_replaced}
use Rattle.sprig_tree.proofs.Found.{entry_after_place_of, has_entry}

-- ---- one digest against another

other_of : (d a b : Digest) → same_digest d a ≡ false → same_digest a b ≡ true → same_digest d b ≡ false
other_of d a b other same = ap (same_digest d) (sym (same_digest_is a b same)) ∙ other

absent_first : (d : Digest) (e : Entry) (es : List Entry) → entry_of d (e ∷ es) ≡ None → same_digest d e.digest ≡ false
absent_first d e es absent = by (same_digest d e.digest) refl
  where
    by : (b : Bool) → same_digest d e.digest ≡ b → b ≡ false
    by false is = refl
    by true is = let found = cond-true (same_digest d e.digest) (Some e) (entry_of d es) is in absurd (let h : Some e ≡ None = sym found ∙ absent in cc)

absent_rest : (d : Digest) (e : Entry) (es : List Entry) → entry_of d (e ∷ es) ≡ None → entry_of d es ≡ None
absent_rest d e es absent = sym (cond-false (same_digest d e.digest) (Some e) (entry_of d es) (absent_first d e es absent)) ∙ absent

-- ---- look-ups after edits

pub entry_of-with_entry_same : (entry : Entry) (es : List Entry) → entry_of entry.digest es ≡ None → entry_of entry.digest (with_entry entry es) ≡ Some entry
entry_of-with_entry_same entry [] absent = cond-true (same_digest entry.digest entry.digest) (Some entry) None (same_digest_refl entry.digest)
entry_of-with_entry_same entry (e ∷ es) absent =
    cond_both (digest_before entry.digest e.digest) (entry ∷ e ∷ es) (e ∷ with_entry entry es) (λ l. entry_of entry.digest l ≡ Some entry)
    (λ _. cond-true (same_digest entry.digest entry.digest) (Some entry) (entry_of entry.digest (e ∷ es)) (same_digest_refl entry.digest))
    (λ _. cond-false (same_digest entry.digest e.digest) (Some e) (entry_of entry.digest (with_entry entry es)) (absent_first entry.digest e es absent)
    ∙ entry_of-with_entry_same entry es (absent_rest entry.digest e es absent))

pub entry_of-with_entry_other : (d : Digest) (entry : Entry) (es : List Entry) → same_digest d entry.digest ≡ false → entry_of d (with_entry entry es) ≡ entry_of d es
entry_of-with_entry_other d entry [] other = cond-false (same_digest d entry.digest) (Some entry) None other
entry_of-with_entry_other d entry (e ∷ es) other =
    cond_both (digest_before entry.digest e.digest) (entry ∷ e ∷ es) (e ∷ with_entry entry es) (λ l. entry_of d l ≡ entry_of d (e ∷ es))
    (λ _. cond-false (same_digest d entry.digest) (Some entry) (entry_of d (e ∷ es)) other)
    (λ _. ap (λ o. cond (same_digest d e.digest) (Some e) o) (entry_of-with_entry_other d entry es other))

pub entry_of-with_replaced_same : (entry : Entry) (es : List Entry) → IsSome (entry_of entry.digest es) → entry_of entry.digest (with_replaced entry es) ≡ Some entry
entry_of-with_replaced_same entry [] there = absurd (false≢true there)
entry_of-with_replaced_same entry (e ∷ es) there =
    let d = entry.digest in
    let rest = with_replaced entry es in
    cond_both (same_digest d e.digest) entry e (λ x. entry_of d (x ∷ rest) ≡ Some entry)
    (λ _. cond-true (same_digest d d) (Some entry) (entry_of d rest) (same_digest_refl d))
    (λ other.
    cond-false (same_digest d e.digest) (Some e) (entry_of d rest) other
    ∙ entry_of-with_replaced_same entry es (subst (λ (o : Option Entry). IsSome o) (cond-false (same_digest d e.digest) (Some e) (entry_of d es) other) there))

pub entry_of-with_replaced_other : (d : Digest) (entry : Entry) (es : List Entry) → same_digest d entry.digest ≡ false → entry_of d (with_replaced entry es) ≡ entry_of d es
entry_of-with_replaced_other d entry [] other = refl
entry_of-with_replaced_other d entry (e ∷ es) other =
    let rest = with_replaced entry es in
    let step = entry_of-with_replaced_other d entry es other in
    cond_both (same_digest entry.digest e.digest) entry e (λ x. entry_of d (x ∷ rest) ≡ entry_of d (e ∷ es))
    (λ same.
    cond-false (same_digest d entry.digest) (Some entry) (entry_of d rest) other
    ∙ step
    ∙ sym (cond-false (same_digest d e.digest) (Some e) (entry_of d es) (other_of d entry.digest e.digest other same)))
    (λ _. ap (λ o. cond (same_digest d e.digest) (Some e) o) step)

pub entry_of-without_digest_same : (d : Digest) (es : List Entry) → entry_of d (without_digest d es) ≡ None
entry_of-without_digest_same d [] = refl
entry_of-without_digest_same d (e ∷ es) =
    cond_both (not (same_digest d e.digest)) (e ∷ without_digest d es) (without_digest d es) (λ l. entry_of d l ≡ None)
    (λ other. cond-false (same_digest d e.digest) (Some e) (entry_of d (without_digest d es)) (not-true (same_digest d e.digest) other) ∙ entry_of-without_digest_same d es)
    (λ _. entry_of-without_digest_same d es)

pub entry_of-without_digest_other : (d q : Digest) (es : List Entry) → same_digest d q ≡ false → entry_of d (without_digest q es) ≡ entry_of d es
entry_of-without_digest_other d q [] other = refl
entry_of-without_digest_other d q (e ∷ es) other =
    let step = entry_of-without_digest_other d q es other in
    cond_both (not (same_digest q e.digest)) (e ∷ without_digest q es) (without_digest q es) (λ l. entry_of d l ≡ entry_of d (e ∷ es))
    (λ _. ap (λ o. cond (same_digest d e.digest) (Some e) o) step)
    (λ gone. step ∙ sym (cond-false (same_digest d e.digest) (Some e) (entry_of d es) (other_of d q e.digest other (not-false (same_digest q e.digest) gone))))

-- what is found is of the digest that was asked for
same_some : (a b : Entry) → Some a ≡ Some b → a ≡ b
same_some a b h = cc

pub entry_of-digest : (d : Digest) (es : List Entry) (e : Entry) → entry_of d es ≡ Some e → e.digest ≡ d
entry_of-digest d [] e found = cc
entry_of-digest d (x ∷ xs) e found =
    cond_both (same_digest d x.digest) (Some x) (entry_of d xs) (λ o. o ≡ Some e → e.digest ≡ d)
    (λ same here. subst (λ (y : Entry). y.digest ≡ d) (same_some x e here) (sym (same_digest_is d x.digest same)))
    (λ _ later. entry_of-digest d xs e later) found

-- where a digest has no entry, nothing is taken out
pub without_absent : (d : Digest) (es : List Entry) → entry_of d es ≡ None → without_digest d es ≡ es
without_absent d [] absent = refl
without_absent d (e ∷ es) absent =
    cond-true (not (same_digest d e.digest)) (e ∷ without_digest d es) (without_digest d es) (not_from_false (same_digest d e.digest) (absent_first d e es absent))
    ∙ ap (λ l. e ∷ l) (without_absent d es (absent_rest d e es absent))

-- ---- order after edits

-- where a digest has no entry, the list falls into what is below it and what is above it
record IsParted (d : Digest) (es : List Entry) : Type 0 where
  front : List Entry
  rest : List Entry
  parts : es ≡ front ++ rest
  below : AllBelow d front
  above : AllAbove d rest

all_above : (d : Digest) (e : Entry) (es : List Entry) → digest_cmp e.digest d ≡ Greater → AllAbove e.digest es → AllAbove d es
all_above d e [] greater above = tt
all_above d e (x ∷ xs) greater above =
    (greater_back d x.digest (digest_order.trans d e.digest x.digest (less_back e.digest d greater) (less_back x.digest e.digest above.0)), all_above d e xs greater above.1)

parted_first : (d : Digest) (e : Entry) (es : List Entry) → IsInDigestOrder (e ∷ es) → same_digest d e.digest ≡ false → IsParted d es → IsParted d (e ∷ es)
parted_first d e es order other rest = by (digest_cmp e.digest d) refl
  where
    by : (o : Ordering) → digest_cmp e.digest d ≡ o → IsParted d (e ∷ es)
    by Less is = record { front = e ∷ rest.front; rest = rest.rest; parts = ap (λ l. e ∷ l) rest.parts; below = (is, rest.below); above = rest.above }
    by Equal is = absurd (both_ways (same_digest d e.digest) other (same_at e.digest d is))
    by Greater is = record { front = []; rest = e ∷ es; parts = refl; below = tt; above = (is, all_above d e es is (order_first e es order)) }

parted : (d : Digest) (es : List Entry) → IsInDigestOrder es → entry_of d es ≡ None → IsParted d es
parted d [] order absent = record { front = []; rest = []; parts = refl; below = tt; above = tt }
parted d (e ∷ es) order absent = parted_first d e es order (absent_first d e es absent) (parted d es (order_rest e es order) (absent_rest d e es absent))

pub order-with_entry : (entry : Entry) (es : List Entry) → IsInDigestOrder es → entry_of entry.digest es ≡ None → IsInDigestOrder (with_entry entry es)
order-with_entry entry es order absent =
    let p = parted entry.digest es order absent in
    let made = ap (with_entry entry) p.parts ∙ with_entry-between entry p.front p.rest p.below p.above in
    subst IsInDigestOrder (sym made) (order_between entry p.front p.rest p.below p.above (subst IsInDigestOrder p.parts order))

pub order-with_replaced : (entry : Entry) (es : List Entry) → IsInDigestOrder es → IsInDigestOrder (with_replaced entry es)
order-with_replaced = order_replaced

kept_above : (d q : Digest) (es : List Entry) → AllAbove d es → AllAbove d (without_digest q es)
kept_above d q [] above = tt
kept_above d q (e ∷ es) above = cond_both (not (same_digest q e.digest)) (e ∷ without_digest q es) (without_digest q es) (AllAbove d) (λ _. (above.0, kept_above d q es above.1))
    (λ _. kept_above d q es above.1)

pub order-without_digest : (d : Digest) (es : List Entry) → IsInDigestOrder es → IsInDigestOrder (without_digest d es)
order-without_digest d [] order = order
order-without_digest d (e ∷ es) order =
    let rest = order-without_digest d es (order_rest e es order) in
    cond_both (not (same_digest d e.digest)) (e ∷ without_digest d es) (without_digest d es) IsInDigestOrder
    (λ _. order-cons e (without_digest d es) (kept_above e.digest d es (order_first e es order)) rest) (λ _. rest)

-- ---- how long a list is after edits

pub length-with_entry : (entry : Entry) (es : List Entry) → length (with_entry entry es) ≡ length es + 1
length-with_entry entry [] = refl
length-with_entry entry (e ∷ es) =
    cond_both (digest_before entry.digest e.digest) (entry ∷ e ∷ es) (e ∷ with_entry entry es) (λ l. length l ≡ suc (length es) + 1)
    (λ _. omega arith) (λ _. omega (arith, length-with_entry entry es))

pub length-with_replaced : (entry : Entry) (es : List Entry) → length (with_replaced entry es) ≡ length es
length-with_replaced entry es = length-map es (λ (e : Entry). cond (same_digest entry.digest e.digest) entry e)

-- no later entry has the digest of the first
absent_later : (e : Entry) (es : List Entry) → AllAbove e.digest es → entry_of e.digest es ≡ None
absent_later e es above = entry_of_above e.digest es above

pub length-without_absent : (d : Digest) (es : List Entry) → entry_of d es ≡ None → length (without_digest d es) ≡ length es
length-without_absent d [] absent = refl
length-without_absent d (e ∷ es) absent =
    let other = absent_first d e es absent in
    ap length (cond-true (not (same_digest d e.digest)) (e ∷ without_digest d es) (without_digest d es) (not_from_false (same_digest d e.digest) other))
    ∙ ap suc (length-without_absent d es (absent_rest d e es absent))

pub length-without_present : (d : Digest) (es : List Entry) → IsInDigestOrder es → IsSome (entry_of d es) → length (without_digest d es) + 1 ≡ length es
length-without_present d [] order there = absurd (false≢true there)
length-without_present d (e ∷ es) order there =
    let later = λ (other : same_digest d e.digest ≡ false). subst (λ (o : Option Entry). IsSome o) (cond-false (same_digest d e.digest) (Some e) (entry_of d es) other) there in
    cond_both (not (same_digest d e.digest)) (e ∷ without_digest d es) (without_digest d es) (λ l. length l + 1 ≡ suc (length es))
    (λ other. let step = length-without_present d es (order_rest e es order) (later (not-true (same_digest d e.digest) other)) in omega arith)
    (λ same.
    let key = same_digest_is d e.digest (not-false (same_digest d e.digest) same) in
    let step = length-without_absent d es (subst (λ q. entry_of q es ≡ None) (sym key) (absent_later e es (order_first e es order))) in
    omega arith)

-- ---- walks

-- each entry is found by its digest, and the next after it is the one at the next place
is_place_of : (es : List Entry) (i : ℕ) (e : Entry) → slice_get es i ≡ Some e → IsPlaceOf e.digest es i
is_place_of es i e at =
    record {
      in_range = slice_get_within es i e at;
      same = λ d. (λ j. digest_cmp (get_or_from_slice_get es i e d at j).digest e.digest) ∙ tied_itself digest_order e.digest;
    }

pub entry_of-at : (es : List Entry) (i : ℕ) (e : Entry) → IsInDigestOrder es → slice_get es i ≡ Some e → entry_of e.digest es ≡ Some e
entry_of-at es i e order at = has_entry e.digest es i order (is_place_of es i e at) e ∙ ap (λ x. Some x) (get_or_from_slice_get es i e e at)

-- The first is the entry after nothing (entry_after-start), and behind the last there is none (slice_get_past).
pub entry_after-at : (es : List Entry) (i : ℕ) (e : Entry) → IsInDigestOrder es → slice_get es i ≡ Some e → entry_after (Some e.digest) es ≡ slice_get es (i + 1)
entry_after-at es i e order at = entry_after_place_of e.digest es i order (is_place_of es i e at)

-- what a walk has still to come to is the same after an edit of a digest that it has passed
not_before_of : (d a b : Digest) → digest_before d a ≡ false → same_digest a b ≡ true → digest_before d b ≡ false
not_before_of d a b passed same = ap (digest_before d) (sym (same_digest_is a b same)) ∙ passed

pub entry_after-with_replaced : (d : Digest) (entry : Entry) (es : List Entry) → digest_before d entry.digest ≡ false → entry_after (Some d) (with_replaced entry es) ≡ entry_after (Some d) es
entry_after-with_replaced d entry [] passed = refl
entry_after-with_replaced d entry (e ∷ es) passed =
    let rest = with_replaced entry es in
    let step = entry_after-with_replaced d entry es passed in
    cond_both (same_digest entry.digest e.digest) entry e (λ x. entry_after (Some d) (x ∷ rest) ≡ entry_after (Some d) (e ∷ es))
    (λ same.
    cond-false (digest_before d entry.digest) (Some entry) (entry_after (Some d) rest) passed
    ∙ step
    ∙ sym (cond-false (digest_before d e.digest) (Some e) (entry_after (Some d) es) (not_before_of d entry.digest e.digest passed same)))
    (λ _. ap (λ o. cond (digest_before d e.digest) (Some e) o) step)

pub entry_after-without_digest : (d q : Digest) (es : List Entry) → digest_before d q ≡ false → entry_after (Some d) (without_digest q es) ≡ entry_after (Some d) es
entry_after-without_digest d q [] passed = refl
entry_after-without_digest d q (e ∷ es) passed =
    let step = entry_after-without_digest d q es passed in
    cond_both (not (same_digest q e.digest)) (e ∷ without_digest q es) (without_digest q es) (λ l. entry_after (Some d) l ≡ entry_after (Some d) (e ∷ es))
    (λ _. ap (λ o. cond (digest_before d e.digest) (Some e) o) step)
    (λ gone. step ∙ sym (cond-false (digest_before d e.digest) (Some e) (entry_after (Some d) es) (not_before_of d q e.digest passed (not-false (same_digest q e.digest) gone))))
