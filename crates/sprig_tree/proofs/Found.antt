-- What the place of a digest in a list of entries says of look-ups and edits.
use Rattle.std.proofs.Common.{◌≡◌, ℕ, ◌+◌, List, [], ◌∷◌, ◌++◌, length, take, drop, get_or, set, Some, None, Result, Ok, Err, IfOk, IfErr, Less, Equal, Greater, ap, sym, subst, ◌∙◌, add-one, arith}
use Rattle.std.specs.List.{slice_get, insert, remove}
use Rattle.std.specs.List.Sorted.{IsSearchInRange, IsBinarySearchResult}
use Rattle.std.specs.Ordering.{is_eq}
use Rattle.std.proofs.lemmas.List.{take-append-drop, drop_more, get_or_default, set_split}
use Rattle.law_lists.proofs.Each.{all_taken, all_dropped}
use Rattle.law_lists.proofs.Places.{slice_get-drop}
use Rattle.rec_format.specs.declared.version.Digest.{Digest}
use Rattle.rec_format.specs.declared.entry.Entry.{Entry}
use Rattle.rec_format.specs.Places.{digest_cmp}
use Rattle.rec_format.proofs.Laws.{same_digest_is}
use Rattle.sprig_tree.specs.Entries.{IsInDigestOrder, entry_of, entry_after, with_entry, with_replaced, without_digest}
use Rattle.sprig_tree.specs.Search.{IsPlaceOf, IsGapFor}
use Rattle.sprig_tree.proofs.Parted
use Rattle.sprig_tree.proofs.Parted.{AllBelow, AllAbove}
use Rattle.sprig_tree.proofs.Order.{comparisons_rise, sides, order_between, order_without, order_replaced}

module _ (digest : Digest) (es : List Entry) (at : ℕ) (order : IsInDigestOrder es) (place : IsPlaceOf digest es at) (e : Entry) (read : e ≡ get_or es at e) where
  abbrev front : List Entry
  front = take at es

  abbrev rest : List Entry
  rest = drop (at + 1) es

  cut : es ≡ front ++ e ∷ rest
  cut =
      sym (take-append-drop at es)
      ∙ ap (λ l. take at es ++ l) (drop_more es at e place.in_range)
      ∙ ap (λ (x : Entry). take at es ++ x ∷ drop (at + 1) es) (sym read)

  equal : digest_cmp e.digest digest ≡ Equal
  equal = subst (λ (x : Entry). digest_cmp x.digest digest ≡ Equal) (sym read) (place.same e)

  key : e.digest ≡ digest
  key = same_digest_is e.digest digest (ap is_eq equal)

  both : AllBelow e.digest front × AllAbove e.digest rest
  both = sides front rest e (subst IsInDigestOrder cut order)

  below : AllBelow digest front
  below = subst (λ d. AllBelow d front) key both.0

  above : AllAbove digest rest
  above = subst (λ d. AllAbove d rest) key both.1

  pub entry_of_place : entry_of digest es ≡ Some e
  entry_of_place = ap (entry_of digest) cut ∙ Parted.entry_of_behind digest front (e ∷ rest) below ∙ Parted.entry_of_here digest e rest equal

  pub entry_after_place : entry_after (Some digest) es ≡ slice_get es (at + 1)
  entry_after_place =
      ap (entry_after (Some digest)) cut
      ∙ Parted.entry_after_behind digest front (e ∷ rest) below
      ∙ Parted.entry_after_here digest e rest equal
      ∙ Parted.entry_after_above digest rest above
      ∙ slice_get-drop es (at + 1)

  pub without_digest_place : without_digest digest es ≡ remove es at
  without_digest_place =
      ap (without_digest digest) cut
      ∙ Parted.without_digest_behind digest front (e ∷ rest) below
      ∙ ap (λ l. front ++ l) (Parted.without_digest_here digest e rest equal above)
      ∙ ap (λ n. take at es ++ drop n es) (add-one at)

  pub order_removed : IsInDigestOrder (remove es at)
  order_removed = subst (λ n. IsInDigestOrder (take at es ++ drop n es)) (add-one at) (order_without front rest e (subst IsInDigestOrder cut order))

module _ (entry : Entry) (es : List Entry) (at : ℕ) (order : IsInDigestOrder es) (place : IsPlaceOf entry.digest es at) where
  pub with_replaced_place : with_replaced entry es ≡ set es at entry
  with_replaced_place =
      let old = get_or es at entry in
      let read : old ≡ get_or es at old = get_or_default es at entry old place.in_range in
      ap (with_replaced entry) (cut entry.digest es at order place old read)
      ∙ Parted.with_replaced-between entry (take at es) (drop (at + 1) es) old
      (below entry.digest es at order place old read) (equal entry.digest es at order place old read) (above entry.digest es at order place old read)
      ∙ ap (λ n. take at es ++ entry ∷ drop n es) (add-one at)
      ∙ sym (set_split es at entry place.in_range)

  pub order_set : IsInDigestOrder (set es at entry)
  order_set = subst IsInDigestOrder with_replaced_place (order_replaced entry es order)

module _ (digest : Digest) (es : List Entry) (at : ℕ) (gap : IsGapFor digest es at) where
  gap_below : AllBelow digest (take at es)
  gap_below = all_taken (λ e. digest_cmp e.digest digest ≡ Less) es at (λ k d lt. gap.parted.0 k d (omega arith) lt)

  gap_above : AllAbove digest (drop at es)
  gap_above = all_dropped (λ e. digest_cmp e.digest digest ≡ Greater) es at (λ k d le lt. gap.parted.1 k d le lt)

  whole : take at es ++ drop at es ≡ es
  whole = take-append-drop at es

  pub entry_of_gap : entry_of digest es ≡ None
  entry_of_gap = ap (entry_of digest) (sym whole) ∙ Parted.entry_of_behind digest (take at es) (drop at es) gap_below ∙ Parted.entry_of_above digest (drop at es) gap_above

  pub entry_after_gap : entry_after (Some digest) es ≡ slice_get es at
  entry_after_gap =
      ap (entry_after (Some digest)) (sym whole)
      ∙ Parted.entry_after_behind digest (take at es) (drop at es) gap_below
      ∙ Parted.entry_after_above digest (drop at es) gap_above
      ∙ slice_get-drop es at

  pub without_digest_gap : without_digest digest es ≡ es
  without_digest_gap =
      ap (without_digest digest) (sym whole)
      ∙ Parted.without_digest_behind digest (take at es) (drop at es) gap_below
      ∙ ap (λ l. take at es ++ l) (Parted.without_digest_above digest (drop at es) gap_above)
      ∙ whole

module _ (entry : Entry) (es : List Entry) (at : ℕ) (gap : IsGapFor entry.digest es at) where
  pub with_entry_gap : with_entry entry es ≡ insert es at entry
  with_entry_gap =
      ap (with_entry entry) (sym (take-append-drop at es))
      ∙ Parted.with_entry-between entry (take at es) (drop at es) (gap_below entry.digest es at gap) (gap_above entry.digest es at gap)

  pub order_inserted : IsInDigestOrder es → IsInDigestOrder (insert es at entry)
  order_inserted order =
      order_between entry (take at es) (drop at es) (gap_below entry.digest es at gap) (gap_above entry.digest es at gap)
      (subst IsInDigestOrder (sym (take-append-drop at es)) order)

-- what a search by halving answers
pub searched : (digest : Digest) (es : List Entry) → IsInDigestOrder es → (r : Result ℕ ℕ) → IsSearchInRange r (length es) → IsBinarySearchResult (λ e. digest_cmp e.digest digest) es r
    → record { found : IfOk r (IsPlaceOf digest es); absent : IfErr r (IsGapFor digest es) }
searched digest es order (Ok at) within equal = record { found = record { in_range = within; same = equal }; absent = tt }
searched digest es order (Err at) within parts = record { found = tt; absent = record { in_range = within; parted = parts (comparisons_rise es digest order) } }

-- where a digest has a place, it has an entry
pub has_entry : (digest : Digest) (es : List Entry) (at : ℕ) → IsInDigestOrder es → IsPlaceOf digest es at → (d : Entry) → entry_of digest es ≡ Some (get_or es at d)
has_entry digest es at order place d = entry_of_place digest es at order place (get_or es at d) (get_or_default es at d (get_or es at d) place.in_range)

pub entry_after_place_of : (digest : Digest) (es : List Entry) (at : ℕ) → IsInDigestOrder es → IsPlaceOf digest es at → entry_after (Some digest) es ≡ slice_get es (at + 1)
entry_after_place_of digest [] at order place = absurd (omega (arith, place.in_range))
entry_after_place_of digest (x ∷ xs) at order place =
    entry_after_place digest (x ∷ xs) at order place (get_or (x ∷ xs) at x) (get_or_default (x ∷ xs) at x (get_or (x ∷ xs) at x) place.in_range)
