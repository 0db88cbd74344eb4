-- Counts of the digests of a part, and of those of all parts below one.
use Rattle.std.proofs.Common.{◌≡◌, ◌⊎◌, inl, inr, ℕ, ◌+◌, ◌<◌, ◌≤◌, Bool, true, false, ◌&&◌, refl, sym, ◌∙◌, ap, arith}
use Rattle.std.specs.Prelude.{◌==◌, nat_lt}
use Rattle.std.proofs.lemmas.Bool.{cases_lt, lt-ltb, le-ltb, eq-eqb, ne_eqb}
use Rattle.law_lists.proofs.Counts.{one_if}

-- a part below the next is below this one, or is this one
pub below_next : (c : Bool) (n part : ℕ) → one_if (c && nat_lt n (part + 1)) ≡ one_if (c && nat_lt n part) + one_if (c && (n == part))
below_next c n part = by (cases_lt n part) (cases_lt part n)
  where
    sides : (x y z : Bool) → nat_lt n (part + 1) ≡ x → nat_lt n part ≡ y → (n == part) ≡ z → one_if (c && x) ≡ one_if (c && y) + one_if (c && z)
        → one_if (c && nat_lt n (part + 1)) ≡ one_if (c && nat_lt n part) + one_if (c && (n == part))
    sides x y z one two three e = ap (λ (b : Bool). one_if (c && b)) one ∙ e ∙ (λ i. one_if (c && sym two i) + one_if (c && sym three i))

    earlier : (b : Bool) → one_if (b && true) ≡ one_if (b && true) + one_if (b && false)
    earlier true = refl
    earlier false = refl

    here : (b : Bool) → one_if (b && true) ≡ one_if (b && false) + one_if (b && true)
    here true = refl
    here false = refl

    later : (b : Bool) → one_if (b && false) ≡ one_if (b && false) + one_if (b && false)
    later true = refl
    later false = refl

    by : (n < part) ⊎ (part ≤ n) → (part < n) ⊎ (n ≤ part) → one_if (c && nat_lt n (part + 1)) ≡ one_if (c && nat_lt n part) + one_if (c && (n == part))
    by (inl lt) other = sides true true false (lt-ltb n (part + 1) (omega arith)) (lt-ltb n part lt) (ne_eqb n part (λ e. absurd (omega (arith, lt, e)))) (earlier c)
    by (inr ge) (inl gt) = sides false false false (le-ltb n (part + 1) (omega arith)) (le-ltb n part ge) (ne_eqb n part (λ e. absurd (omega (arith, gt, e)))) (later c)
    by (inr ge) (inr le) = sides true false true (lt-ltb n (part + 1) (omega arith)) (le-ltb n part ge) (eq-eqb n part (omega arith)) (here c)
