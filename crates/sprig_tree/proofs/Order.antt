-- Digest order, and the edits that keep it.
use Rattle.std.proofs.Common.{◌≡◌, ◌+◌, List, [], ◌∷◌, ◌++◌, get_or, Less, Greater, refl, ap, sym, subst, ◌∙◌, arith}
use Rattle.std.specs.List.{AllByRecursion}
use Rattle.std.specs.List.Sorted.{IsStrictlySortedBy, IsSortedBy, IsNonDecreasingBy}
use Rattle.std.specs.Ordering.{is_lt, ordering_index}
use Rattle.std.proofs.lemmas.Bool.{cond_both}
use Rattle.std.proofs.lemmas.List.{length-map, get_or-map}
use Rattle.std.proofs.lemmas.List.Sorted.{searchable_from_sorted}
use Rattle.std.proofs.lemmas.Map.Keys.{Less-from_sorted}
use Rattle.law_lists.proofs.Each.{all_joined, all_front, all_back}
use Rattle.rec_format.specs.declared.version.Digest.{Digest}
use Rattle.rec_format.specs.declared.entry.Entry.{Entry}
use Rattle.rec_format.specs.Places.{digest_cmp, same_digest}
use Rattle.rec_format.proofs.Laws.{same_digest_is}
use Rattle.sprig_tree.specs.Entries.{digests_in, IsInDigestOrder, with_replaced}
use Rattle.sprig_tree.proofs.Digests.{digest_order, greater_back, less_back}
use Rattle.sprig_tree.proofs.Parted.{AllBelow, AllAbove}

-- a digest is below those of all later entries
above_first : (digest : Digest) (es : List Entry) → AllByRecursion (λ y. digest_cmp digest y ≡ Less) (digests_in es) → AllAbove digest es
above_first digest [] h = tt
above_first digest (e ∷ es) h = (greater_back digest e.digest h.0, above_first digest es h.1)

first_below : (digest : Digest) (es : List Entry) → AllAbove digest es → AllByRecursion (λ y. digest_cmp digest y ≡ Less) (digests_in es)
first_below digest [] h = tt
first_below digest (e ∷ es) h = (less_back e.digest digest h.0, first_below digest es h.1)

pub order-nil : IsInDigestOrder []
unfolding IsStrictlySortedBy
order-nil = tt

pub order_first : (e : Entry) (es : List Entry) → IsInDigestOrder (e ∷ es) → AllAbove e.digest es
unfolding IsStrictlySortedBy
order_first e es h = above_first e.digest es h.0

pub order_rest : (e : Entry) (es : List Entry) → IsInDigestOrder (e ∷ es) → IsInDigestOrder es
unfolding IsStrictlySortedBy
order_rest e es h = h.1

pub order-cons : (e : Entry) (es : List Entry) → AllAbove e.digest es → IsInDigestOrder es → IsInDigestOrder (e ∷ es)
unfolding IsStrictlySortedBy
order-cons e es above h = (first_below e.digest es above, h)

-- what stands on the two sides of an entry
pub sides : (front rest : List Entry) (e : Entry) → IsInDigestOrder (front ++ e ∷ rest) → AllBelow e.digest front × AllAbove e.digest rest
sides [] rest e h = (tt, order_first e rest h)
sides (x ∷ xs) rest e h =
    let above : AllAbove x.digest (e ∷ rest) = all_back (λ y. digest_cmp y.digest x.digest ≡ Greater) xs (e ∷ rest) (order_first x (xs ++ e ∷ rest) h) in
    let inner = sides xs rest e (order_rest x (xs ++ e ∷ rest) h) in
    ((less_back e.digest x.digest above.0, inner.0), inner.1)

pub order_between : (entry : Entry) (front rest : List Entry) → AllBelow entry.digest front → AllAbove entry.digest rest → IsInDigestOrder (front ++ rest) → IsInDigestOrder (front ++ entry ∷ rest)
order_between entry [] rest below above h = order-cons entry rest above h
order_between entry (x ∷ xs) rest below above h =
    let P = λ (y : Entry). digest_cmp y.digest x.digest ≡ Greater in
    let old = order_first x (xs ++ rest) h in
    order-cons x (xs ++ entry ∷ rest) (all_joined P xs (entry ∷ rest) (all_front P xs rest old) (greater_back x.digest entry.digest below.0, all_back P xs rest old))
    (order_between entry xs rest below.1 above (order_rest x (xs ++ rest) h))

pub order_without : (front rest : List Entry) (e : Entry) → IsInDigestOrder (front ++ e ∷ rest) → IsInDigestOrder (front ++ rest)
order_without [] rest e h = order_rest e rest h
order_without (x ∷ xs) rest e h =
    let P = λ (y : Entry). digest_cmp y.digest x.digest ≡ Greater in
    let old = order_first x (xs ++ e ∷ rest) h in
    let after : AllAbove x.digest (e ∷ rest) = all_back P xs (e ∷ rest) old in
    order-cons x (xs ++ rest) (all_joined P xs rest (all_front P xs (e ∷ rest) old) after.1) (order_without xs rest e (order_rest x (xs ++ e ∷ rest) h))

-- a replacement keeps each digest
pub digests_in-with_replaced : (entry : Entry) (es : List Entry) → digests_in (with_replaced entry es) ≡ digests_in es
digests_in-with_replaced entry [] = refl
digests_in-with_replaced entry (e ∷ es) =
    let same = cond_both (same_digest entry.digest e.digest) entry e (λ z. z.digest ≡ e.digest) (same_digest_is entry.digest e.digest) (λ _. refl) in
    λ i. same i ∷ digests_in-with_replaced entry es i

pub order_replaced : (entry : Entry) (es : List Entry) → IsInDigestOrder es → IsInDigestOrder (with_replaced entry es)
order_replaced entry es h = subst (IsStrictlySortedBy digest_cmp) (sym (digests_in-with_replaced entry es)) h

-- what a search by halving asks: the comparisons with a digest rise along the list
neighbours : (es : List Entry) → IsInDigestOrder es → IsSortedBy (λ a b. is_lt (digest_cmp a.digest b.digest)) es
neighbours es h k d low within =
    let ds = digests_in es in
    let size = length-map es (λ (e : Entry). e.digest) in
    let less = Less-from_sorted digest_cmp ds k (k + 1) d.digest h (omega arith) (omega arith) in
    let one = get_or-map (λ (e : Entry). e.digest) es k d d.digest (omega arith) in
    let two = get_or-map (λ (e : Entry). e.digest) es (k + 1) d d.digest (omega arith) in
    ap is_lt (greater_back (get_or es k d).digest (get_or es (k + 1) d).digest ((λ i. digest_cmp (sym one i) (sym two i)) ∙ less))

pub comparisons_rise : (es : List Entry) (digest : Digest) → IsInDigestOrder es → IsNonDecreasingBy (λ e. ordering_index (digest_cmp e.digest digest)) es
comparisons_rise es digest h = searchable_from_sorted digest_order (λ (e : Entry). e.digest) es digest (neighbours es h)
