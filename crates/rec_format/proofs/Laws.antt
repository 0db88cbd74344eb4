-- Laws of digests and stamps.
use Rattle.std.proofs.Common.{◌≡◌, ◌⊎◌, inl, inr, ⊎_elim, ℕ, ◌+◌, ◌<◌, ◌≤◌, max, Bool, true, false, cond, ◌&&◌, List, [], ◌∷◌, refl, ◌∙◌, ap, arith}
use Rattle.std.proofs.lemmas.Bool.{and_parts, and_from, or_cases, or_left, or_right, false≢true, ltb-true, lt-ltb, eqb-true, eq-eqb, cond-true, cond-false, cases_lt, le-ltb}
use Rattle.std.specs.Prelude.{nat_lt, ◌==◌}
use Rattle.std.specs.declared.cmp.Ordering.{Ordering}
use Rattle.std.proofs.Common.{Less, Equal, Greater}
use Rattle.std.specs.Ordering.{is_eq, nat_cmp, ordering_then}
use Rattle.std.specs.Cmp.Lexicographic.{slice_cmp}
use Rattle.std.proofs.lemmas.Map.Lookups.{exact_bytes}
use Rattle.rec_format.specs.declared.version.Digest.{Digest}
use Rattle.rec_format.specs.declared.version.Stamp.{Stamp}
use Rattle.rec_format.specs.Places.{same_digest}
use Rattle.rec_format.specs.Versions.{is_later_stamp, stamp_after}

-- ---- stamps

-- later, as a fact
abbrev pub IsLaterStamp : Stamp → Stamp → Type 0
IsLaterStamp a b = (b.lut < a.lut) ⊎ ((a.lut ≡ b.lut) × (b.gen_ < a.gen_))

pub later_fact : (a b : Stamp) → is_later_stamp a b ≡ true → IsLaterStamp a b
later_fact a b e =
    ⊎_elim (λ h. inl (ltb-true b.lut a.lut h)) (λ r. let both = and_parts (a.lut == b.lut) (nat_lt b.gen_ a.gen_) r in inr (eqb-true a.lut b.lut both.0, ltb-true b.gen_ a.gen_ both.1))
    (or_cases (nat_lt b.lut a.lut) (a.lut == b.lut && nat_lt b.gen_ a.gen_) e)

pub later_test : (a b : Stamp) → IsLaterStamp a b → is_later_stamp a b ≡ true
later_test a b (inl lt) = or_left (nat_lt b.lut a.lut) (a.lut == b.lut && nat_lt b.gen_ a.gen_) (lt-ltb b.lut a.lut lt)
later_test a b (inr both) =
    or_right (nat_lt b.lut a.lut) (a.lut == b.lut && nat_lt b.gen_ a.gen_) (and_from (a.lut == b.lut) (nat_lt b.gen_ a.gen_) (eq-eqb a.lut b.lut both.0) (lt-ltb b.gen_ a.gen_ both.1))

pub later_trans : (a b c : Stamp) → IsLaterStamp a b → IsLaterStamp b c → IsLaterStamp a c
later_trans a b c (inl x) (inl y) = inl (omega arith)
later_trans a b c (inl x) (inr y) = inl (omega (arith, y.0, y.1))
later_trans a b c (inr x) (inl y) = inl (omega (arith, x.0, x.1))
later_trans a b c (inr x) (inr y) = inr (x.0 ∙ y.0, omega (arith, x.1, y.1))

-- the stamp after an entry's is later than it
pub stamp_after_later : (p : Stamp) (now : ℕ) → IsLaterStamp (stamp_after p now) p
stamp_after_later p now = by (nat_lt p.gen_ 65535)
  where
    by : (b : Bool) → IsLaterStamp (cond b (record { lut = max now p.lut; gen_ = p.gen_ + 1 }) (record { lut = max now (p.lut + 1); gen_ = 1 })) p
    by true = up (cases_lt p.lut (max now p.lut))
      where
        up : (p.lut < max now p.lut) ⊎ (max now p.lut ≤ p.lut) → IsLaterStamp (record { lut = max now p.lut; gen_ = p.gen_ + 1 }) p
        up (inl lt) = inl lt
        up (inr le) = inr (omega arith, omega arith)
    by false = inl (omega arith)

-- ---- digests

nat_cmp_same : (n : ℕ) → nat_cmp n n ≡ Equal
nat_cmp_same n =
    cond-false (nat_lt n n) Less (cond (n == n) Equal Greater) (le-ltb n n (omega arith)) ∙ cond-true (n == n) Equal Greater (eq-eqb n n refl)

bytes_same : (l : List ℕ) → slice_cmp nat_cmp l l ≡ Equal
bytes_same [] = refl
bytes_same (x ∷ xs) = ap (λ o. ordering_then o (slice_cmp nat_cmp xs xs)) (nat_cmp_same x) ∙ bytes_same xs

-- a digest is itself, and what tests the same is the same
pub same_digest_refl : (d : Digest) → same_digest d d ≡ true
same_digest_refl d = ap is_eq (bytes_same d.0)

pub same_digest_is : (a b : Digest) → same_digest a b ≡ true → a ≡ b
same_digest_is a b e = ap (λ (l : List ℕ). record { 0 = l }) (exact_bytes a.0 b.0 (is_eq_Equal (slice_cmp nat_cmp a.0 b.0) e))
  where
    is_eq_Equal : (o : Ordering) → is_eq o ≡ true → o ≡ Equal
    is_eq_Equal Less h = absurd (false≢true h)
    is_eq_Equal Equal h = refl
    is_eq_Equal Greater h = absurd (false≢true h)
