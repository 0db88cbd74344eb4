-- Lists of digests in digest order, and the digests of entries.
use Rattle.std.proofs.Common.{◌≡◌, Bool, true, false, cond, ◌&&◌, ◌||◌, List, [], ◌∷◌, Some, None, Ordering, Less, Equal, Greater, refl, sym, ◌∙◌, ap, subst}
use Rattle.std.specs.Prelude.{filter}
use Rattle.std.specs.List.{AllByRecursion}
use Rattle.std.specs.List.Sorted.{IsStrictlySortedBy}
use Rattle.std.specs.Ordering.{is_eq, is_lt}
use Rattle.std.proofs.lemmas.Bool.{cond_both, cond-true, both_ways, false≢true, or_left}
use Rattle.rec_format.specs.declared.version.Digest.{Digest}
use Rattle.rec_format.specs.declared.entry.Entry.{Entry}
use Rattle.rec_format.specs.Places.{digest_cmp, same_digest, digest_before, with_digest}
use Rattle.rec_format.proofs.Laws.{same_digest_is, same_digest_refl}
use Rattle.sprig_tree.specs.Entries.{digests_in, IsInDigestOrder, entry_of}
use Rattle.law_sprig.specs.Tests.{has_digest, passes_test}
use Rattle.sprig_tree.proofs.Digests.{digest_order, less_back}
use Rattle.sprig_tree.proofs.Order.{order_first, order_rest}
use Rattle.sprig_tree.proofs.Parted.{entry_of_above}

abbrev pub AreInOrder : List Digest → Type 0
AreInOrder digests = IsStrictlySortedBy digest_cmp digests

abbrev pub IsBelowAll : Digest → List Digest → Type 0
IsBelowAll d digests = AllByRecursion (λ e. digest_cmp d e ≡ Less) digests

none_below : (d : Digest) (xs : List Digest) → IsBelowAll d xs → has_digest xs d ≡ false
none_below d [] below = refl
none_below d (x ∷ xs) below = ap (λ (b : Bool). b || has_digest xs d) (ap is_eq below.0) ∙ none_below d xs below.1

below_more : (d e : Digest) (xs : List Digest) → digest_cmp d e ≡ Less → IsBelowAll e xs → IsBelowAll d xs
below_more d e [] less below = tt
below_more d e (x ∷ xs) less below = (digest_order.trans d e x less below.0, below_more d e xs less below.1)

pub first_among : (d : Digest) (xs : List Digest) → has_digest (d ∷ xs) d ≡ true
first_among d xs = or_left (same_digest d d) (has_digest xs d) (same_digest_refl d)

other_among : (d e : Digest) (xs : List Digest) → same_digest d e ≡ false → has_digest (e ∷ xs) d ≡ has_digest xs d
other_among d e xs other = ap (λ (b : Bool). b || has_digest xs d) other

-- two lists in order that have the same digests are one
pub one_order : (xs ys : List Digest) → AreInOrder xs → AreInOrder ys → ((d : Digest) → has_digest xs d ≡ has_digest ys d) → xs ≡ ys
unfolding IsStrictlySortedBy
one_order [] [] first second same = refl
one_order [] (y ∷ ys) first second same = absurd (false≢true (same y ∙ first_among y ys))
one_order (x ∷ xs) [] first second same = absurd (false≢true (sym (same x) ∙ first_among x xs))
one_order (x ∷ xs) (y ∷ ys) first second same = by (digest_cmp x y) refl (λ rest. one_order xs ys first.1 second.1 rest)
  where
    tails : x ≡ y → (d : Digest) (b : Bool) → same_digest d x ≡ b → has_digest xs d ≡ has_digest ys d
    tails one d true is =
        let key = same_digest_is d x is in
        ap (has_digest xs) key ∙ none_below x xs first.0 ∙ sym (ap (has_digest ys) (key ∙ one) ∙ none_below y ys second.0)
    tails one d false other =
        sym (other_among d x xs other) ∙ same d ∙ other_among d y ys (ap (same_digest d) (sym one) ∙ other)

    by : (o : Ordering) → digest_cmp x y ≡ o → (((d : Digest) → has_digest xs d ≡ has_digest ys d) → xs ≡ ys) → x ∷ xs ≡ y ∷ ys
    by Less is rest = absurd (both_ways (has_digest (x ∷ xs) x) (same x ∙ none_below x (y ∷ ys) (is, below_more x y ys is second.0)) (first_among x xs))
    by Greater is rest =
        let less = less_back x y is in
        absurd (both_ways (has_digest (y ∷ ys) y) (sym (same y) ∙ none_below y (x ∷ xs) (less, below_more y x xs less first.0)) (first_among y ys))
    by Equal is rest =
        let one = same_digest_is x y (ap is_eq is) in
        ap (λ (d : Digest). d ∷ xs) one ∙ ap (λ (l : List Digest). y ∷ l) (rest (λ d. tails one d (same_digest d x) refl))

-- ---- a digest more

below_with : (d e : Digest) (xs : List Digest) → digest_cmp d e ≡ Less → IsBelowAll d xs → IsBelowAll d (with_digest e xs)
below_with d e [] less below = (less, tt)
below_with d e (x ∷ xs) less below = by (same_digest e x) (digest_before e x) (below_with d e xs less below.1)
  where
    by : (s b : Bool) → IsBelowAll d (with_digest e xs) → IsBelowAll d (cond s (x ∷ xs) (cond b (e ∷ x ∷ xs) (x ∷ with_digest e xs)))
    by true b rest = below
    by false true rest = (less, below)
    by false false rest = (below.0, rest)

pub order-with_digest : (d : Digest) (xs : List Digest) → AreInOrder xs → AreInOrder (with_digest d xs)
unfolding IsStrictlySortedBy
order-with_digest d [] order = (tt, tt)
order-with_digest d (x ∷ xs) order = by (digest_cmp d x) refl (order-with_digest d xs order.1)
  where
    made : (s b : Bool) → List Digest
    made s b = cond s (x ∷ xs) (cond b (d ∷ x ∷ xs) (x ∷ with_digest d xs))

    by : (o : Ordering) → digest_cmp d x ≡ o → AreInOrder (with_digest d xs) → AreInOrder (with_digest d (x ∷ xs))
    by Less is rest = subst (λ (o : Ordering). AreInOrder (made (is_eq o) (is_lt o))) (sym is) ((is, below_more d x xs is order.0), order)
    by Equal is rest = subst (λ (o : Ordering). AreInOrder (made (is_eq o) (is_lt o))) (sym is) order
    by Greater is rest = subst (λ (o : Ordering). AreInOrder (made (is_eq o) (is_lt o))) (sym is) (below_with x d xs (less_back d x is) order.0, rest)

pub among-with_digest : (e d : Digest) (xs : List Digest) → has_digest (with_digest e xs) d ≡ (same_digest d e || has_digest xs d)
among-with_digest e d [] = refl
among-with_digest e d (x ∷ xs) = by (same_digest e x) refl (digest_before e x) (among-with_digest e d xs)
  where
    twice : (p q : Bool) → p ≡ q → (q || has_digest xs d) ≡ (p || (q || has_digest xs d))
    twice true q is = ap (λ (c : Bool). c || has_digest xs d) (sym is)
    twice false q is = refl

    swapped : (p q r : Bool) → (q || (p || r)) ≡ (p || (q || r))
    swapped true true r = refl
    swapped true false r = refl
    swapped false q r = refl

    by : (s : Bool) → same_digest e x ≡ s → (b : Bool) → has_digest (with_digest e xs) d ≡ (same_digest d e || has_digest xs d)
        → has_digest (cond s (x ∷ xs) (cond b (e ∷ x ∷ xs) (x ∷ with_digest e xs))) d ≡ (same_digest d e || has_digest (x ∷ xs) d)
    by true same b rest = twice (same_digest d e) (same_digest d x) (ap (same_digest d) (same_digest_is e x same))
    by false other true rest = refl
    by false other false rest = ap (λ (c : Bool). same_digest d x || c) rest ∙ swapped (same_digest d e) (same_digest d x) (has_digest xs d)

-- ---- those that pass a test

pub among-filter : (p : Digest → Bool) (d : Digest) (xs : List Digest) → has_digest (filter p xs) d ≡ (has_digest xs d && p d)
among-filter p d [] = refl
among-filter p d (x ∷ xs) = by (p x) refl (same_digest d x) refl (among-filter p d xs)
  where
    either : (q r : Bool) → q ≡ true → (true || r) ≡ ((true || r) && q)
    either true r is = refl
    either false r is = absurd (false≢true is)

    neither : (q r : Bool) → q ≡ false → (r && q) ≡ ((true || r) && q)
    neither true r is = absurd (false≢true (sym is))
    neither false true is = refl
    neither false false is = refl

    by : (b : Bool) → p x ≡ b → (s : Bool) → same_digest d x ≡ s → has_digest (filter p xs) d ≡ (has_digest xs d && p d)
        → has_digest (cond b (x ∷ filter p xs) (filter p xs)) d ≡ ((same_digest d x || has_digest xs d) && p d)
    by true is true same rest =
        let mine : p d ≡ true = ap p (same_digest_is d x same) ∙ is in
        or_left (same_digest d x) (has_digest (filter p xs) d) same ∙ either (p d) (has_digest xs d) mine ∙ ap (λ (c : Bool). (c || has_digest xs d) && p d) (sym same)
    by true is false other rest = ap (λ (c : Bool). c || has_digest (filter p xs) d) other ∙ rest ∙ ap (λ (c : Bool). (c || has_digest xs d) && p d) (sym other)
    by false is true same rest =
        let mine : p d ≡ false = ap p (same_digest_is d x same) ∙ is in
        rest ∙ neither (p d) (has_digest xs d) mine ∙ ap (λ (c : Bool). (c || has_digest xs d) && p d) (sym same)
    by false is false other rest = rest ∙ ap (λ (c : Bool). (c || has_digest xs d) && p d) (sym other)

-- ---- entries

-- what holds of each entry that is found holds of all
pub each_entry : (P : Entry → Type 0) (es : List Entry) → IsInDigestOrder es → ((d : Digest) (e : Entry) → entry_of d es ≡ Some e → P e) → AllByRecursion P es
each_entry P [] order all = tt
each_entry P (e ∷ es) order all = (
  all e.digest e (cond-true (same_digest e.digest e.digest) (Some e) (entry_of e.digest es) (same_digest_refl e.digest)),
  each_entry P es (order_rest e es order) (λ d x found. all d x (cond_both (same_digest d e.digest) (Some e) (entry_of d es) (λ o. o ≡ Some x)
      (λ same. absurd (not_later d x same found)) (λ _. found))),
)
  where
    not_later : (d : Digest) (x : Entry) → same_digest d e.digest ≡ true → entry_of d es ≡ Some x → ⊥
    not_later d x same found =
        let none : entry_of d es ≡ None = ap (λ (k : Digest). entry_of k es) (same_digest_is d e.digest same) ∙ entry_of_above e.digest es (order_first e es order) in
        let never : None ≡ Some x = sym none ∙ found in absurd cc

pub among_entries : (test : Entry → Bool) (d : Digest) (es : List Entry) → IsInDigestOrder es → has_digest (digests_in (filter test es)) d ≡ passes_test test (entry_of d es)
among_entries test d [] order = refl
among_entries test d (e ∷ es) order = by (test e) refl (same_digest d e.digest) refl (among_entries test d es (order_rest e es order))
  where
    absent : same_digest d e.digest ≡ true → passes_test test (entry_of d es) ≡ false
    absent same = ap (λ (k : Digest). passes_test test (entry_of k es)) (same_digest_is d e.digest same) ∙ ap (passes_test test) (entry_of_above e.digest es (order_first e es order))

    by : (b : Bool) → test e ≡ b → (s : Bool) → same_digest d e.digest ≡ s → has_digest (digests_in (filter test es)) d ≡ passes_test test (entry_of d es)
        → has_digest (digests_in (cond b (e ∷ filter test es) (filter test es))) d ≡ passes_test test (cond s (Some e) (entry_of d es))
    by true is true same rest = or_left (same_digest d e.digest) (has_digest (digests_in (filter test es)) d) same ∙ sym is
    by true is false other rest = ap (λ (c : Bool). c || has_digest (digests_in (filter test es)) d) other ∙ rest
    by false is true same rest = rest ∙ absent same ∙ sym is
    by false is false other rest = rest

below_filtered : (test : Entry → Bool) (d : Digest) (es : List Entry) → IsBelowAll d (digests_in es) → IsBelowAll d (digests_in (filter test es))
below_filtered test d [] below = tt
below_filtered test d (e ∷ es) below = cond_both (test e) (e ∷ filter test es) (filter test es) (λ l. IsBelowAll d (digests_in l)) (λ _. (below.0, below_filtered test d es below.1))
    (λ _. below_filtered test d es below.1)

pub order-filtered : (test : Entry → Bool) (es : List Entry) → IsInDigestOrder es → IsInDigestOrder (filter test es)
unfolding IsStrictlySortedBy
order-filtered test [] order = tt
order-filtered test (e ∷ es) order =
    cond_both (test e) (e ∷ filter test es) (filter test es) IsInDigestOrder (λ _. (below_filtered test e.digest es order.0, order-filtered test es order.1)) (λ _. order-filtered test es order.1)
