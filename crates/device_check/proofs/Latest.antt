-- The map that a scan leaves has what a start finds, digest by digest in their order.
use Rattle.std.proofs.Common.{◌≡◌, Bool, true, false, cond, ◌&&◌, Ordering, Less, List, [], ◌∷◌, map, Option, Some, None, refl, sym, ◌∙◌, ap, subst}
use Rattle.std.specs.Prelude as prelude
use Rattle.std.specs.Prelude.{T, option_map}
use Rattle.std.specs.Ordering.{is_eq, is_lt}
use Rattle.std.specs.List.{AllByRecursion, filter_map, cons_option, count_by}
use Rattle.std.specs.List.Sorted.{IsStrictlySortedBy}
use Rattle.std.specs.Map.{lookup, keys_of}
use Rattle.std.specs.BTreeMap.{BTreeMap, values}
use Rattle.std.specs.FinMap.Entries.{find, below_all, is_sorted, same_entries}
use Rattle.std.proofs.lemmas.List.Folds.{fold-map}
use Rattle.rec_format.specs.declared.version.Digest.{Digest}
use Rattle.rec_format.specs.Places.{digest_cmp, same_digest}
use Rattle.rec_format.proofs.Laws.{same_digest_is}
use Rattle.sprig_tree.proofs.Digests.{digest_order}
use Rattle.law_sprig.proofs.Ordered.{AreInOrder, order-with_digest}
use Rattle.law_sprig.proofs.Starting.{chosen_there}
use Rattle.block_format.specs.declared.geometry.Geometry.{Geometry}
use Rattle.block_format.specs.Copies.{Copy, cold_copy}
use Rattle.law_start.specs.Start.{names_of_copies, cold_copies}
use Rattle.law_start.proofs.StartLive.{found_first}
use Rattle.cold_scan.specs.declared.bodies.Kept.{Kept}
use Rattle.cold_scan.specs.Starting.{own_copies}
use Rattle.cold_scan.specs.Found.{kept_of, HasKept}

-- ---- the digests of what a start finds ascend

abbrev digests : List Copy → List Digest
digests found = map (λ c. c.digest) found

names_order : (copies : List Copy) → AreInOrder (names_of_copies copies)
unfolding IsStrictlySortedBy
names_order [] = tt
names_order (c ∷ copies) = order-with_digest c.digest (names_of_copies copies) (names_order copies)

module _ (copies : List Copy) where
  abbrev found_for : List Digest → List Copy
  found_for names = filter_map (λ d. cold_copy d copies) names

  each_found : (P : Digest → Type 0) (names : List Digest) → AllByRecursion P names → AllByRecursion P (digests (found_for names))
  each_found P [] all = tt
  each_found P (d ∷ names) all = by (cold_copy d copies) refl (each_found P names all.1)
    where
      by : (o : Option Copy) → cold_copy d copies ≡ o → AllByRecursion P (digests (found_for names)) → AllByRecursion P (digests (cons_option o (found_for names)))
      by None is rest = rest
      by (Some c) is rest = (subst P (same_digest_is d c.digest (chosen_there d copies c is).1) all.0, rest)

  found_order : (names : List Digest) → AreInOrder names → AreInOrder (digests (found_for names))
  unfolding IsStrictlySortedBy
  found_order [] order = tt
  found_order (d ∷ names) order = by (cold_copy d copies) refl (found_order names order.1)
    where
      by : (o : Option Copy) → cold_copy d copies ≡ o → AreInOrder (digests (found_for names)) → AreInOrder (digests (cons_option o (found_for names)))
      by None is rest = rest
      by (Some c) is rest =
          let below = each_found (λ e. digest_cmp d e ≡ Less) names order.0 in
          (subst (λ (x : Digest). AllByRecursion (λ e. digest_cmp x e ≡ Less) (digests (found_for names))) (same_digest_is d c.digest (chosen_there d copies c is).1) below, rest)

-- ---- the entries of the map

abbrev KeptEntries : Type 0
KeptEntries = List (Digest × Kept)

below_rises : (digest : Digest) (es : KeptEntries) → AllByRecursion (λ e. digest_cmp digest e ≡ Less) (keys_of es) → below_all digest_cmp digest es ≡ true
below_rises digest [] all = refl
below_rises digest (e ∷ es) all = ap (λ (o : Ordering). is_lt o && below_all digest_cmp digest es) all.0 ∙ below_rises digest es all.1

order_rises : (es : KeptEntries) → AreInOrder (keys_of es) → is_sorted digest_cmp es ≡ true
unfolding IsStrictlySortedBy
order_rises [] order = refl
order_rises (e ∷ es) order = ap (λ (b : Bool). b && is_sorted digest_cmp es) (below_rises e.0 es order.0) ∙ order_rises es order.1

looked_up : (digest : Digest) (es : KeptEntries) → find digest_cmp digest es ≡ lookup (same_digest digest) es
looked_up digest [] = refl
looked_up digest (e ∷ es) = ap (λ (o : Option Kept). cond (same_digest digest e.0) (Some e.1) o) (looked_up digest es)

abbrev kept_entry : Copy → Digest × Kept
kept_entry c = (c.digest, kept_of c)

found_entry : (digest : Digest) (found : List Copy) → find digest_cmp digest (map kept_entry found) ≡ option_map kept_of (prelude.find (λ c. same_digest digest c.digest) found)
found_entry digest [] = refl
found_entry digest (c ∷ found) = by (same_digest digest c.digest) (found_entry digest found)
  where
    by : (b : Bool) → find digest_cmp digest (map kept_entry found) ≡ option_map kept_of (prelude.find (λ x. same_digest digest x.digest) found)
        → cond b (Some (kept_of c)) (find digest_cmp digest (map kept_entry found)) ≡ option_map kept_of (cond b (Some c) (prelude.find (λ x. same_digest digest x.digest) found))
    by true rest = refl
    by false rest = rest

keys_found : (found : List Copy) → keys_of (map kept_entry found) ≡ digests found
keys_found [] = refl
keys_found (c ∷ found) = ap (λ (l : List Digest). c.digest ∷ l) (keys_found found)

module _ (g : Geometry) (copies : List Copy) (latest : BTreeMap Digest Kept) (kept : HasKept g copies latest) where
  abbrev own : List Copy
  own = own_copies g.device g.devices copies

  latest_entries : latest.entries ≡ map kept_entry (cold_copies own)
  latest_entries =
      let order = found_order own (names_of_copies own) (names_order own) in
      same_entries digest_cmp digest_order (λ a b equal. same_digest_is a b (ap is_eq equal)) latest.entries (map kept_entry (cold_copies own))
      (subst T (sym (order_rises latest.entries kept.ordered)) tt)
      (subst T (sym (order_rises (map kept_entry (cold_copies own)) (subst AreInOrder (sym (keys_found (cold_copies own))) order))) tt)
      (λ d. looked_up d latest.entries ∙ kept.each d ∙ sym (found_entry d (cold_copies own) ∙ ap (option_map kept_of) (found_first d own)))

  -- as many of its values pass a test as copies of which what is kept does
  pub latest_count : (p : Kept → Bool) → count_by p (values latest) ≡ count_by (λ c. p (kept_of c)) (cold_copies own)
  latest_count p =
      ap (λ (es : KeptEntries). count_by p (map (λ e. e.1) es)) latest_entries
      ∙ fold-map _ (λ (e : Digest × Kept). e.1) 0 (map kept_entry (cold_copies own)) ∙ fold-map _ kept_entry 0 (cold_copies own)
