-- The order of digests with stamps, and the entries of a map in that order.
use Rattle.std.proofs.Common.{◌≡◌, ◌⊎◌, inl, inr, ℕ, ◌<◌, Bool, true, false, cond, List, [], ◌∷◌, Some, Ordering, Less, Equal, Greater, refl, sym, ◌∙◌, ap, subst, arith}
use Rattle.std.specs.Prelude.{Contains, nat_lt, ◌==◌}
use Rattle.std.specs.List.Sorted.{IsStrictlySortedBy}
use Rattle.std.specs.Cmp.{IsTotalOrder}
use Rattle.std.specs.Ordering.{nat_cmp, ordering_then, ordering_reverse, is_eq, is_lt}
use Rattle.std.specs.Map.{lookup, keys_of}
use Rattle.std.specs.BTreeMap.{is_at}
use Rattle.std.proofs.lemmas.Bool.{false≢true, cond-true, cond-false, lt-ltb}
use Rattle.std.proofs.lemmas.Cmp.{ranked, on_total, then_total, nat_cmp_total, tied_itself}
use Rattle.law_lists.proofs.Members.{cons_cases, first_there, rest_there, map_there}
use Rattle.law_lists.proofs.Each.{all_at}
use Rattle.rec_format.specs.declared.version.Stamp.{Stamp}
use Rattle.rec_format.specs.Places.{digest_cmp, digest_before}
use Rattle.rec_format.specs.Versions.{is_later_stamp}
use Rattle.rec_format.proofs.Laws.{IsLaterStamp, later_fact, later_test, same_digest_is}
use Rattle.sprig_tree.proofs.Digests.{digest_order}
use Rattle.sound_scan.specs.declared.tally.Stamped.{Stamped}
use Rattle.sound_scan.specs.Tallied.{stamp_cmp, stamped_cmp}

-- ---- numbers and stamps

nat_less : (x y : ℕ) → x < y → nat_cmp x y ≡ Less
nat_less x y lt = cond-true (nat_lt x y) Less (cond (x == y) Equal Greater) (lt-ltb x y lt)

nat_same : (x y : ℕ) → x ≡ y → nat_cmp x y ≡ Equal
nat_same x y same = ap (nat_cmp x) (sym same) ∙ tied_itself nat_cmp_total x

later_less : (a b : Stamp) → is_later_stamp b a ≡ true → stamp_cmp a b ≡ Less
later_less a b later = by (later_fact b a later)
  where
    by : IsLaterStamp b a → stamp_cmp a b ≡ Less
    by (inl lt) = ap (λ (o : Ordering). ordering_then o (nat_cmp a.gen_ b.gen_)) (nat_less a.lut b.lut lt)
    by (inr both) = ap (λ (o : Ordering). ordering_then o (nat_cmp a.gen_ b.gen_)) (nat_same a.lut b.lut (sym both.0)) ∙ nat_less a.gen_ b.gen_ both.1

less_later : (a b : Stamp) → stamp_cmp a b ≡ Less → is_later_stamp b a ≡ true
less_later a b less = later_test b a (by (nat_cmp a.lut b.lut) refl less)
  where
    by : (o : Ordering) → nat_cmp a.lut b.lut ≡ o → ordering_then o (nat_cmp a.gen_ b.gen_) ≡ Less → IsLaterStamp b a
    by Less is e = inl (ranked a.lut b.lut Less (sym is))
    by Equal is e = inr (sym (ranked a.lut b.lut Equal (sym is)), ranked a.gen_ b.gen_ Less (sym e))
    by Greater is e = absurd cc

stamp_is : (a b : Stamp) → stamp_cmp a b ≡ Equal → a ≡ b
stamp_is a b same = by (nat_cmp a.lut b.lut) refl same
  where
    by : (o : Ordering) → nat_cmp a.lut b.lut ≡ o → ordering_then o (nat_cmp a.gen_ b.gen_) ≡ Equal → a ≡ b
    by Less is e = absurd cc
    by Equal is e =
        let time : a.lut ≡ b.lut = ranked a.lut b.lut Equal (sym is) in
        let generation : a.gen_ ≡ b.gen_ = ranked a.gen_ b.gen_ Equal (sym e) in
        λ i. record { lut = time i; gen_ = generation i }
    by Greater is e = absurd cc

-- ---- names

pub stamped_order : IsTotalOrder stamped_cmp
stamped_order =
    then_total (on_total (λ (s : Stamped). s.digest) digest_order)
    (on_total (λ (s : Stamped). s.stamp) (then_total (on_total (λ (s : Stamp). s.lut) nat_cmp_total) (on_total (λ (s : Stamp). s.gen_) nat_cmp_total)))

is_equal : (o : Ordering) → is_eq o ≡ true → o ≡ Equal
is_equal Less is = absurd (false≢true is)
is_equal Equal is = refl
is_equal Greater is = absurd (false≢true is)

pub stamped_is : (a b : Stamped) → is_eq (stamped_cmp a b) ≡ true → a ≡ b
stamped_is a b same = by (digest_cmp a.digest b.digest) refl (is_equal (stamped_cmp a b) same)
  where
    by : (o : Ordering) → digest_cmp a.digest b.digest ≡ o → ordering_then o (stamp_cmp a.stamp b.stamp) ≡ Equal → a ≡ b
    by Less is e = absurd cc
    by Equal is e =
        let one : a.digest ≡ b.digest = same_digest_is a.digest b.digest (ap is_eq is) in
        let two : a.stamp ≡ b.stamp = stamp_is a.stamp b.stamp e in
        λ i. record { digest = one i; stamp = two i }
    by Greater is e = absurd cc

pub stamped_itself : (a : Stamped) → is_eq (stamped_cmp a a) ≡ true
stamped_itself a = ap is_eq (tied_itself stamped_order a)

-- the one before another is of a digest before it, or of the same with a later stamp
pub name_cases : (a b : Stamped) → stamped_cmp a b ≡ Less → (digest_before a.digest b.digest ≡ true) ⊎ ((a.digest ≡ b.digest) × (is_later_stamp b.stamp a.stamp ≡ true))
name_cases a b less = by (digest_cmp a.digest b.digest) refl less
  where
    by : (o : Ordering) → digest_cmp a.digest b.digest ≡ o → ordering_then o (stamp_cmp a.stamp b.stamp) ≡ Less
        → (digest_before a.digest b.digest ≡ true) ⊎ ((a.digest ≡ b.digest) × (is_later_stamp b.stamp a.stamp ≡ true))
    by Less is e = inl (ap is_lt is)
    by Equal is e = inr (same_digest_is a.digest b.digest (ap is_eq is), less_later a.stamp b.stamp e)
    by Greater is e = absurd cc

-- ---- the entries of a map

module _ {X : Type 0} where
  -- what is listed under a name is found by it
  pub listed_found : (es : List (Stamped × X)) (e : Stamped × X) → IsStrictlySortedBy stamped_cmp (keys_of es) → Contains es e → lookup (is_at (stamped_cmp e.0)) es ≡ Some e.1
  unfolding IsStrictlySortedBy
  listed_found [] e sorted there = absurd (omega (arith, there.1))
  listed_found (x ∷ xs) e sorted there = by (cons_cases x xs e there) (listed_found xs e sorted.1)
    where
      by : (x ≡ e) ⊎ Contains xs e → (Contains xs e → lookup (is_at (stamped_cmp e.0)) xs ≡ Some e.1) → lookup (is_at (stamped_cmp e.0)) (x ∷ xs) ≡ Some e.1
      by (inl same) rest =
          cond-true (is_eq (stamped_cmp e.0 x.0)) (Some x.1) (lookup (is_at (stamped_cmp e.0)) xs) (ap (λ (y : Stamped × X). is_eq (stamped_cmp e.0 y.0)) same ∙ stamped_itself e.0)
          ∙ ap (λ (y : Stamped × X). Some y.1) same
      by (inr more) rest =
          let less : stamped_cmp x.0 e.0 ≡ Less = all_at (λ k. stamped_cmp x.0 k ≡ Less) (keys_of xs) e.0 sorted.0 (map_there (λ (y : Stamped × X). y.0) xs e more) in
          let back : is_eq (stamped_cmp e.0 x.0) ≡ false = ap is_eq (stamped_order.antisymm e.0 x.0 ∙ ap ordering_reverse less) in
          cond-false (is_eq (stamped_cmp e.0 x.0)) (Some x.1) (lookup (is_at (stamped_cmp e.0)) xs) back ∙ rest more

  -- and what is found by a name is listed under it
  pub found_listed : (es : List (Stamped × X)) (name : Stamped) (known : X) → lookup (is_at (stamped_cmp name)) es ≡ Some known → Contains es (name, known)
  found_listed [] name known found = absurd cc
  found_listed (x ∷ xs) name known found = by (is_eq (stamped_cmp name x.0)) refl found (found_listed xs name known)
    where
      by : (b : Bool) → is_eq (stamped_cmp name x.0) ≡ b → cond b (Some x.1) (lookup (is_at (stamped_cmp name)) xs) ≡ Some known
          → (lookup (is_at (stamped_cmp name)) xs ≡ Some known → Contains xs (name, known)) → Contains (x ∷ xs) (name, known)
      by true is e rest =
          let same : name ≡ x.0 = stamped_is name x.0 is in
          let one : x.1 ≡ known = cc in
          subst (Contains (x ∷ xs)) (λ i. (sym same i, one i)) (first_there x xs)
      by false is e rest = rest_there x xs (name, known) (rest e)
