-- Sizes of a block and of its body.
use Rattle.std.proofs.Common.{◌≡◌, ℕ, ◌+◌, ◌-◌, ◌*◌, ◌≤◌, ◌^◌, sym, ◌∙◌, ap, subst, arith}
use Rattle.std.proofs.Math.Pow.{pow_mono}
use Rattle.std.proofs.lemmas.Nat.{pow-add}
use Rattle.rec_format.specs.Versions.{block_capacity}
use Rattle.block_format.specs.Layout.{IsBlockSize}

-- what follows from a block's size
pub record Sized (size : ℕ) : Type 0 where
  pub low : 16384 ≤ size
  pub high : size ≤ 1048576
  pub whole : (q : ℕ) × (size ≡ 16 * q)

sixteen : (k : ℕ) → 14 ≤ k → 2 ^ k ≡ 16 * 2 ^ (k - 4)
sixteen k h =
    let e : k ≡ 4 + (k - 4) = omega arith in
    ap (λ (n : ℕ). 2 ^ n) e ∙ pow-add 2 4 (k - 4)

pub sized : (size : ℕ) → IsBlockSize size → Sized size
sized size is = record {
  low = subst (λ (n : ℕ). 16384 ≤ n) (sym is.3) (pow_mono {i = 14} {j = is.0} is.1);
  high = subst (λ (n : ℕ). n ≤ 1048576) (sym is.3) (pow_mono {i = is.0} {j = 20} is.2);
  whole = (2 ^ (is.0 - 4), is.3 ∙ sixteen is.0 is.1);
}

-- a body is its head and the units of its block
pub body_size : (size : ℕ) → IsBlockSize size → 32 + 16 * block_capacity size ≡ size - 4096
body_size size is =
    let s = sized size is in
    let low = s.low in
    let q : ℕ = s.whole.0 in
    let whole : size ≡ 16 * q = s.whole.1 in
    omega arith
