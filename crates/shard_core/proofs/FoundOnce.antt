-- Of each digest a start finds one copy.
use Rattle.std.proofs.Common.{◌≡◌, false, Less, List, [], ◌∷◌, Option, Some, None, refl, sym, ◌∙◌, ap, subst}
use Rattle.std.specs.Ordering.{is_eq}
use Rattle.std.specs.List.{AllByRecursion, IsDistinct, filter_map, cons_option}
use Rattle.std.specs.List.Sorted.{IsStrictlySortedBy}
use Rattle.rec_format.specs.declared.version.Digest.{Digest}
use Rattle.rec_format.specs.Places.{digest_cmp, same_digest}
use Rattle.rec_format.proofs.Laws.{same_digest_is}
use Rattle.law_sprig.proofs.Ordered.{AreInOrder, order-with_digest}
use Rattle.law_sprig.proofs.Starting.{chosen_there}
use Rattle.block_format.specs.Copies.{Copy, cold_copy}
use Rattle.law_start.specs.Start.{names_of_copies, cold_copies}

names_order : (copies : List Copy) → AreInOrder (names_of_copies copies)
unfolding IsStrictlySortedBy
names_order [] = tt
names_order (c ∷ copies) = order-with_digest c.digest (names_of_copies copies) (names_order copies)

module _ (copies : List Copy) where
  abbrev found_for : List Digest → List Copy
  found_for names = filter_map (λ d. cold_copy d copies) names

  -- behind a digest come others
  apart : (digest : Digest) (names : List Digest) → AllByRecursion (λ e. digest_cmp digest e ≡ Less) names → AllByRecursion (λ c. same_digest digest c.digest ≡ false) (found_for names)
  apart digest [] all = tt
  apart digest (e ∷ names) all = by (cold_copy e copies) refl (apart digest names all.1)
    where
      by : (o : Option Copy) → cold_copy e copies ≡ o → AllByRecursion (λ c. same_digest digest c.digest ≡ false) (found_for names)
          → AllByRecursion (λ c. same_digest digest c.digest ≡ false) (cons_option o (found_for names))
      by None is rest = rest
      by (Some c) is rest = (ap (same_digest digest) (sym (same_digest_is e c.digest (chosen_there e copies c is).1)) ∙ ap is_eq all.0, rest)

  once_of : (names : List Digest) → AreInOrder names → IsDistinct (λ c d. same_digest c.digest d.digest) (found_for names)
  unfolding IsStrictlySortedBy IsDistinct
  once_of [] order = tt
  once_of (d ∷ names) order = by (cold_copy d copies) refl (once_of names order.1)
    where
      by : (o : Option Copy) → cold_copy d copies ≡ o → IsDistinct (λ c e. same_digest c.digest e.digest) (found_for names)
          → IsDistinct (λ c e. same_digest c.digest e.digest) (cons_option o (found_for names))
      by None is rest = rest
      by (Some c) is rest = (
        subst (λ (x : Digest). AllByRecursion (λ e. same_digest x e.digest ≡ false) (found_for names)) (same_digest_is d c.digest (chosen_there d copies c is).1)
            (apart d names order.0),
        rest,
      )

  pub found_once : IsDistinct (λ c d. same_digest c.digest d.digest) (cold_copies copies)
  found_once = once_of (names_of_copies copies) (names_order copies)
