-- The least digest that passes one of several tests.
use Rattle.std.proofs.Common.{◌≡◌, ◌⊎◌, inl, inr, Bool, true, false, cond, ◌||◌, Option, Some, None, Ordering, Less, Equal, Greater, refl, ◌∙◌, ap, subst}
use Rattle.std.specs.Ordering.{is_eq, is_lt}
use Rattle.std.proofs.lemmas.Bool.{false≢true, both_ways, or_from, or_left, or_right, or_parts, or_cases}
use Rattle.std.proofs.lemmas.Cmp.{tied_itself}
use Rattle.rec_format.specs.declared.version.Digest.{Digest}
use Rattle.rec_format.specs.Places.{digest_cmp, digest_before}
use Rattle.rec_format.proofs.Laws.{same_digest_is, same_digest_refl}
use Rattle.sprig_tree.proofs.Digests.{digest_order, before_above, not_before_at}
use Rattle.sound_scan.specs.Least.{lesser, is_found, IsLeast, NoneBefore}

-- ---- the order of digests

before_is : (a b : Digest) → digest_before a b ≡ true → digest_cmp a b ≡ Less
before_is a b = by (digest_cmp a b)
  where
    by : (o : Ordering) → is_lt o ≡ true → o ≡ Less
    by Less is = refl
    by Equal is = absurd cc
    by Greater is = absurd cc

pub before_trans : (a b c : Digest) → digest_before a b ≡ true → digest_before b c ≡ true → digest_before a c ≡ true
before_trans a b c first then = ap is_lt (digest_order.trans a b c (before_is a b first) (before_is b c then))

pub not_before_itself : (d : Digest) → digest_before d d ≡ true → ⊥
not_before_itself d before = both_ways (digest_before d d) (not_before_at d d (tied_itself digest_order d)) before

pub order_cases : (a b : Digest) → (digest_before a b ≡ true) ⊎ ((a ≡ b) ⊎ (digest_before b a ≡ true))
order_cases a b = by (digest_cmp a b) refl
  where
    by : (o : Ordering) → digest_cmp a b ≡ o → (digest_before a b ≡ true) ⊎ ((a ≡ b) ⊎ (digest_before b a ≡ true))
    by Less is = inl (ap is_lt is)
    by Equal is = inr (inl (same_digest_is a b (ap is_eq is)))
    by Greater is = inr (inr (before_above a b is))

-- what is before one that isn't behind another is before that
before_both : (d a b : Digest) → digest_before d a ≡ true → digest_before b a ≡ false → digest_before d b ≡ true
before_both d a b first other = by (order_cases a b)
  where
    by : (digest_before a b ≡ true) ⊎ ((a ≡ b) ⊎ (digest_before b a ≡ true)) → digest_before d b ≡ true
    by (inl less) = before_trans d a b first less
    by (inr (inl same)) = subst (λ (x : Digest). digest_before d x ≡ true) same first
    by (inr (inr back)) = absurd (both_ways (digest_before b a) other back)

-- ---- the least of several

pub least_or : (p q : Digest → Bool) (a b : Option Digest) → IsLeast p a → IsLeast q b → IsLeast (λ d. p d || q d) (lesser a b)
least_or p q None None x y = λ d. or_from (p d) (q d) (x d) (y d)
least_or p q None (Some b) x y = (or_right (p b) (q b) y.0, λ d before. or_from (p d) (q d) (x d) (y.1 d before))
least_or p q (Some a) None x y = (or_left (p a) (q a) x.0, λ d before. or_from (p d) (q d) (x.1 d before) (y d))
least_or p q (Some a) (Some b) x y = by (digest_before b a) refl
  where
    by : (less : Bool) → digest_before b a ≡ less → IsLeast (λ d. p d || q d) (cond less (Some b) (Some a))
    by true is = (or_right (p b) (q b) y.0, λ d before. or_from (p d) (q d) (x.1 d (before_trans d b a before is)) (y.1 d before))
    by false is = (or_left (p a) (q a) x.0, λ d before. or_from (p d) (q d) (x.1 d before) (y.1 d (before_both d a b before is)))

-- tests that answer alike have one least
pub least_same : (p q : Digest → Bool) (o : Option Digest) → ((d : Digest) → q d ≡ p d) → IsLeast p o → IsLeast q o
least_same p q None same is = λ d. same d ∙ is d
least_same p q (Some l) same is = (same l ∙ is.0, λ d before. same d ∙ is.1 d before)

-- the one digest that passes is the least
pub least_alone : (p : Digest → Bool) (l : Digest) → p l ≡ true → ((d : Digest) → digest_before d l ≡ true → p d ≡ false) → IsLeast p (Some l)
least_alone p l is none = (is, none)

-- ---- the first of three tests

pub found_is : (o : Option Digest) (l : Digest) → is_found o l ≡ true → o ≡ Some l
found_is None l is = absurd (false≢true is)
found_is (Some d) l is = ap Some (same_digest_is d l is)

pub found_other : (o : Option Digest) (l : Digest) → is_found o l ≡ false → o ≡ Some l → ⊥
found_other o l other is = both_ways (is_found o l) other (ap (λ (x : Option Digest). is_found x l) is ∙ same_digest_refl l)

-- one that isn't the least of its own test, of which none is before it, doesn't pass
not_least : (p : Digest → Bool) (o : Option Digest) (l : Digest) → IsLeast p o → (o ≡ Some l → ⊥) → ((d : Digest) → digest_before d l ≡ true → p d ≡ false) → p l ≡ false
not_least p None l is other none = is l
not_least p (Some e) l is other none = by (order_cases e l)
  where
    by : (digest_before e l ≡ true) ⊎ ((e ≡ l) ⊎ (digest_before l e ≡ true)) → p l ≡ false
    by (inl before) = absurd (both_ways (p e) (none e before) is.0)
    by (inr (inl same)) = absurd (other (ap Some same))
    by (inr (inr behind)) = is.1 l behind

module _ (p q r : Digest → Bool) where
  abbrev pub any_of : Digest → Bool
  any_of d = (p d || q d) || r d

  parted : (d : Digest) → any_of d ≡ false → (p d ≡ false) × (q d ≡ false) × (r d ≡ false)
  parted d none = let two = or_parts (p d || q d) (r d) none in let one = or_parts (p d) (q d) two.0 in (one.0, one.1, two.1)

  pub least_of_three : (stray twins bare : Option Digest) → IsLeast p stray → IsLeast q twins → IsLeast r bare → IsLeast any_of (lesser (lesser stray twins) bare)
  least_of_three stray twins bare x y z = least_or (λ d. p d || q d) r (lesser stray twins) bare (least_or p q stray twins x y) z

  pub none_of_three : IsLeast any_of None → (d : Digest) → (p d ≡ false) × (q d ≡ false) × (r d ≡ false)
  none_of_three none d = parted d (none d)

  module _ (l : Digest) (all : IsLeast any_of (Some l)) where
    none_before : NoneBefore p q r l
    none_before d before = parted d (all.1 d before)

    pub first_passes : (stray : Option Digest) → IsLeast p stray → stray ≡ Some l → (p l ≡ true) × NoneBefore p q r l
    first_passes stray x is = ((subst (IsLeast p) is x).0, none_before)

    pub second_passes : (stray twins : Option Digest) → IsLeast p stray → IsLeast q twins → (stray ≡ Some l → ⊥) → twins ≡ Some l → (p l ≡ false) × (q l ≡ true) × NoneBefore p q r l
    second_passes stray twins x y other is = (not_least p stray l x other (λ d before. (none_before d before).0), (subst (IsLeast q) is y).0, none_before)

    pub third_passes : (stray twins : Option Digest) → IsLeast p stray → IsLeast q twins → (stray ≡ Some l → ⊥) → (twins ≡ Some l → ⊥)
        → (p l ≡ false) × (q l ≡ false) × (r l ≡ true) × NoneBefore p q r l
    third_passes stray twins x y other another =
        let first = not_least p stray l x other (λ d before. (none_before d before).0) in
        let second = not_least q twins l y another (λ d before. (none_before d before).1) in
        (first, second, last first second (or_cases (p l || q l) (r l) all.0), none_before)
      where
        last : p l ≡ false → q l ≡ false → ((p l || q l) ≡ true) ⊎ (r l ≡ true) → r l ≡ true
        last first second (inl two) = absurd (both_ways (p l || q l) (or_from (p l) (q l) first second) two)
        last first second (inr is) = is
