-- Sizes of a device's parts.
use Rattle.std.proofs.Common.{ℕ, ◌≤◌, sym, subst}
use Rattle.std.proofs.Math.Pow.{pow_mono}
use Rattle.block_format.specs.declared.geometry.Geometry.{Geometry}
use Rattle.block_format.specs.Layout.{IsGeometry}

-- a block has from 16 KiB to 1 MiB
pub size_bounds : (g : Geometry) → IsGeometry g → (16384 ≤ g.block_size) × (g.block_size ≤ 1048576)
size_bounds g is =
    let s = is.block_size in
    (subst (λ (n : ℕ). 16384 ≤ n) (sym s.3) (pow_mono {i = 14} {j = s.0} s.1), subst (λ (n : ℕ). n ≤ 1048576) (sym s.3) (pow_mono {i = s.0} {j = 20} s.2))
