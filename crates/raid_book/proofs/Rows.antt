-- Rows of found copies whose parts fall: where a part ends, and what is left when a copy or a part goes.
use Rattle.std.proofs.Common.{◌≡◌, ℕ, zero, suc, ◌+◌, ◌<◌, ◌≤◌, Bool, true, false, not, ◌&&◌, eqb, ltb, leb, List, [], ◌∷◌, ◌++◌, length, take, drop, get_or}
use Rattle.std.proofs.Common.{refl, sym, ap, subst, ◌∙◌, ⊎_elim, add-one, arith}
use Rattle.std.specs.Prelude.{filter, map}
use Rattle.std.specs.List.{All, remove}
use Rattle.std.specs.List.Sorted.{IsPartitionedBy, IsPartitionPoint, IsSortedBy, IsStableBy, ties}
use Rattle.std.proofs.lemmas.Bool.{cond-true, cond-false, ltb-true, ltb-false, leb-true, lt-ltb, le-ltb, le-leb, ne_eqb, eq-eqb, not_from_false, not_from_true, cases_order, cases_lt}
use Rattle.std.proofs.lemmas.List.{map-append, take-append-drop, drop_more, append-nil, get_or_default, take_all}
use Rattle.std.proofs.lemmas.List.Elements.{filter-append, filter_agree, All-nil, All-cons, All-head, All-tail, All-weaker, recursion_from_All}
use Rattle.std.proofs.lemmas.List.Sorted.{sorted_far, IsStrictWeakOrder-flip, IsStrictWeakOrder-by_number}
use Rattle.std.specs.Cmp.{IsStrictWeakOrder}
use Rattle.law_lists.proofs.Filters.{filter_all, filter_none}
use Rattle.raid_book.specs.declared.found.FoundCopy.{FoundCopy}
use Rattle.block_format.specs.declared.geometry.Found.{Found}
use Rattle.raid_book.proofs.Lists.{All-front, All-rest}
use Rattle.raid_book.specs.Found.{Falls, IsEndOf, copy_in, copies_for, without_part, with_parts}

-- ---- the copies of a part

pub copies_for-append : (part : ℕ) (xs ys : List FoundCopy) → copies_for part (xs ++ ys) ≡ copies_for part xs ++ copies_for part ys
copies_for-append part xs ys = ap (map copy_in) (filter-append (λ c. eqb c.part part) xs ys) ∙ map-append copy_in (filter (λ c. eqb c.part part) xs) (filter (λ c. eqb c.part part) ys)

pub copies_for-own : (part : ℕ) (x : FoundCopy) (xs : List FoundCopy) → x.part ≡ part → copies_for part (x ∷ xs) ≡ copy_in x ∷ copies_for part xs
copies_for-own part x xs own = ap (map copy_in) (cond-true (eqb x.part part) (x ∷ filter (λ c. eqb c.part part) xs) (filter (λ c. eqb c.part part) xs) (eq-eqb x.part part own))

pub copies_for-other : (part : ℕ) (x : FoundCopy) (xs : List FoundCopy) → (x.part ≡ part → ⊥) → copies_for part (x ∷ xs) ≡ copies_for part xs
copies_for-other part x xs other = ap (map copy_in) (cond-false (eqb x.part part) (x ∷ filter (λ c. eqb c.part part) xs) (filter (λ c. eqb c.part part) xs) (ne_eqb x.part part other))

no_copies : (part : ℕ) (xs : List FoundCopy) → All (λ c. c.part ≡ part → ⊥) xs → copies_for part xs ≡ []
no_copies part xs others =
    ap (map copy_in) (filter_none (λ c. eqb c.part part) xs (recursion_from_All (λ c. eqb c.part part ≡ false) xs
    (All-weaker (λ c. c.part ≡ part → ⊥) (λ c. eqb c.part part ≡ false) (λ c other. ne_eqb c.part part other) xs others)))

-- ---- rows whose parts fall

pub falls_to : (xs : List FoundCopy) → Falls xs → (i j : ℕ) (d : FoundCopy) → i ≤ j → j < length xs → (get_or xs j d).part ≤ (get_or xs i d).part
falls_to xs falls i j d le lt =
    ⊎_elim (λ same. subst (λ (k : ℕ). (get_or xs j d).part ≤ (get_or xs k d).part) (sym same) (omega arith))
    (λ differ. ⊎_elim (λ below. falls i j d below lt) (λ above. absurd (omega arith)) differ) (cases_order i j)

pub parted_from : (part : ℕ) (xs : List FoundCopy) → Falls xs → IsPartitionedBy (λ c. leb part c.part) xs
parted_from part xs falls i j d le lt passes = le-leb _ _ (omega (arith, leb-true _ _ passes, falls_to xs falls i j d le lt))

pub parted_above : (part : ℕ) (xs : List FoundCopy) → Falls xs → IsPartitionedBy (λ c. ltb part c.part) xs
parted_above part xs falls i j d le lt passes = lt-ltb _ _ (omega (arith, ltb-true _ _ passes, falls_to xs falls i j d le lt))

-- the first part's copies are at the end
pub without_first : (part : ℕ) (xs : List FoundCopy) (at : ℕ) → at ≤ length xs → All (λ c. part ≤ c.part) xs
    → IsPartitionPoint (λ c. ltb part c.part ≡ true) (λ c. ltb part c.part ≡ false) xs at → take at xs ≡ without_part part xs
without_first part xs at bound first point =
    let others = λ (c : FoundCopy). not (eqb c.part part) in
    let kept = All-front (λ c. others c ≡ true) xs at bound (λ k d le lt. not_from_false _ (ne_eqb _ _ (λ same. omega (arith, same, ltb-true _ _ (point.0 k d le lt))))) in
    let gone = All-rest (λ c. others c ≡ false) xs at (λ k d le lt. not_from_true _ (eq-eqb _ _ (omega (arith, first k d lt, ltb-false _ _ (point.1 k d le lt))))) in
    sym (append-nil (take at xs))
    ∙ (λ i. sym (filter_all others (take at xs) (recursion_from_All (λ c. others c ≡ true) (take at xs) kept)) i
    ++ sym (filter_none others (drop at xs) (recursion_from_All (λ c. others c ≡ false) (drop at xs) gone)) i)
    ∙ sym (filter-append others (take at xs) (drop at xs))
    ∙ ap (filter others) (take-append-drop at xs)

-- the last copy whose part is at least this one
module _ (part : ℕ) (xs : List FoundCopy) (at : ℕ) (falls : Falls xs) (end : IsEndOf part xs (at + 1)) (x : FoundCopy) (inside : at < length xs) (read : x ≡ get_or xs at x) where
  cut : xs ≡ take at xs ++ x ∷ drop (at + 1) xs
  cut = sym (take-append-drop at xs) ∙ ap (λ l. take at xs ++ l) (drop_more xs at x inside ∙ ap (λ (c : FoundCopy). c ∷ drop (at + 1) xs) (sym read))

  behind : copies_for part (drop (at + 1) xs) ≡ []
  behind = no_copies part (drop (at + 1) xs) (All-rest (λ c. c.part ≡ part → ⊥) xs (at + 1) (λ k d le lt same. omega (arith, same, end.rest k d le lt)))

  left_over : remove xs at ≡ take at xs ++ drop (at + 1) xs
  left_over = ap (λ (n : ℕ). take at xs ++ drop n xs) (sym (add-one at))

  pub taken : x.part ≡ part → copies_for part xs ≡ copies_for part (remove xs at) ++ copy_in x ∷ []
  taken own =
      let A = take at xs in
      let B = drop (at + 1) xs in
      ap (copies_for part) cut
      ∙ copies_for-append part A (x ∷ B)
      ∙ ap (λ l. copies_for part A ++ l) (copies_for-own part x B own ∙ ap (λ l. copy_in x ∷ l) behind)
      ∙ ap (λ l. l ++ copy_in x ∷ []) (sym (copies_for-append part A B ∙ ap (λ l. copies_for part A ++ l) behind ∙ append-nil (copies_for part A)))
      ∙ ap (λ l. copies_for part l ++ copy_in x ∷ []) (sym left_over)

  pub others : (other : ℕ) → (x.part ≡ other → ⊥) → copies_for other (remove xs at) ≡ copies_for other xs
  others other differs =
      let A = take at xs in
      let B = drop (at + 1) xs in
      ap (copies_for other) left_over
      ∙ copies_for-append other A B
      ∙ ap (λ l. copies_for other A ++ l) (sym (copies_for-other other x B differs))
      ∙ sym (copies_for-append other A (x ∷ B))
      ∙ ap (copies_for other) (sym cut)

  -- where that copy is of another part, this part has none
  pub none_here : (x.part ≡ part → ⊥) → copies_for part xs ≡ []
  none_here differs =
      let least : part < x.part = omega (arith, end.front at x (omega arith) (omega arith), ap (λ (c : FoundCopy). c.part) read, differs) in
      no_copies part xs (λ k d lt same. ⊎_elim
      (λ below. omega (arith, same, least, falls_to xs falls k at d (omega arith) inside, ap (λ (c : FoundCopy). c.part) (read ∙ get_or_default xs at x d inside)))
      (λ above. omega (arith, same, end.rest k d above lt)) (cases_lt k (at + 1)))

pub none_at_all : (part : ℕ) (xs : List FoundCopy) → IsEndOf part xs 0 → copies_for part xs ≡ []
none_at_all part xs end = no_copies part xs (λ k d lt same. omega (arith, same, end.rest k d (omega arith) lt))

-- ---- a stable sort by falling parts

abbrev pub is_above : FoundCopy → FoundCopy → Bool
is_above x y = ltb y.part x.part

pub is_above-order : IsStrictWeakOrder is_above
is_above-order = IsStrictWeakOrder-flip (λ x y. ltb x.part y.part) (IsStrictWeakOrder-by_number (λ (c : FoundCopy). c.part))

pub falls_sorted : (xs : List FoundCopy) → IsSortedBy is_above xs → Falls xs
falls_sorted xs up i j d lt within = ltb-false _ _ (sorted_far is_above is_above-order xs up i j d (omega arith) within)

tie_is_part : (part a : ℕ) → (not (ltb a part) && not (ltb part a)) ≡ eqb a part
tie_is_part part a = ⊎_elim
    (λ same. (λ i. not (le-ltb a part (omega arith) i) && not (le-ltb part a (omega arith) i)) ∙ sym (eq-eqb a part same))
    (λ differ. ⊎_elim
    (λ below. (λ i. not (lt-ltb a part below i) && not (le-ltb part a (omega arith) i)) ∙ sym (ne_eqb a part (λ same. omega arith)))
    (λ above. (λ i. not (le-ltb a part (omega arith) i) && not (lt-ltb part a above i)) ∙ sym (ne_eqb a part (λ same. omega arith))) differ)
    (cases_order a part)

pub copies_sorted : (xs ys : List FoundCopy) → IsStableBy is_above xs ys → (part : ℕ) → copies_for part ys ≡ copies_for part xs
copies_sorted xs ys stable part =
    let x : FoundCopy = record { part = part; digest = record { 0 = [] }; stamp = record { lut = 0; gen_ = 0 } } in
    let same = λ (zs : List FoundCopy). filter_agree (ties is_above x) (λ c. eqb c.part part) (λ c. tie_is_part part c.part) zs in
    ap (map copy_in) (sym (same ys) ∙ stable x ∙ same xs)

-- ---- records with their parts

pub with_parts_more : (found : List Found) (parts : List ℕ) (i : ℕ) (f : Found) → i < length found → i < length parts
    → with_parts (take (i + 1) found) (take (i + 1) parts) ≡ with_parts (take i found) (take i parts) ++
    (record { part = get_or parts i 0; digest = (get_or found i f).head.digest; stamp = (get_or found i f).head.stamp }) ∷ []
with_parts_more found parts i f a b = ap (λ (n : ℕ). with_parts (take n found) (take n parts)) (add-one i) ∙ one_more found parts i f a b
  where
    one_more : (found : List Found) (parts : List ℕ) (i : ℕ) (f : Found) → i < length found → i < length parts
        → with_parts (take (suc i) found) (take (suc i) parts)
        ≡ with_parts (take i found) (take i parts) ++ (record { part = get_or parts i 0; digest = (get_or found i f).head.digest; stamp = (get_or found i f).head.stamp }) ∷ []
    one_more [] parts i f a b = absurd (omega arith)
    one_more (x ∷ found) [] i f a b = absurd (omega arith)
    one_more (x ∷ found) (p ∷ parts) zero f a b = refl
    one_more (x ∷ found) (p ∷ parts) (suc i) f a b = ap (λ l. (record { part = p; digest = x.head.digest; stamp = x.head.stamp }) ∷ l) (one_more found parts i f (omega arith) (omega arith))

pub with_parts-all : (found : List Found) (parts : List ℕ) (i : ℕ) → length found ≤ i → length parts ≡ length found → with_parts (take i found) (take i parts) ≡ with_parts found parts
with_parts-all found parts i a b = λ k. with_parts (take_all i found a k) (take_all i parts (omega arith) k)

pub with_parts-below : (count : ℕ) (found : List Found) (parts : List ℕ) → All (λ p. p < count) parts → All (λ c. c.part < count) (with_parts found parts)
with_parts-below count [] parts h = All-nil (λ (c : FoundCopy). c.part < count)
with_parts-below count (f ∷ found) [] h = All-nil (λ (c : FoundCopy). c.part < count)
with_parts-below count (f ∷ found) (p ∷ parts) h =
    All-cons (λ (c : FoundCopy). c.part < count) _ _ (All-head (λ (n : ℕ). n < count) p parts h) (with_parts-below count found parts (All-tail (λ (n : ℕ). n < count) p parts h))
