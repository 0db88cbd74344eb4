-- A sector is the header of one shape alone.
use Rattle.std.proofs.Common.{◌≡◌, ℕ, ◌<◌, ◌^◌, List, take, drop, sym, ◌∙◌, ap, subst, arith}
use Rattle.std.specs.Int.{from_le_bytes, w16, w32}
use Rattle.std.proofs.lemmas.Nat.{from_le_bytes-to_le_bytes_2, from_le_bytes-to_le_bytes_4, pow_below}
use Rattle.rec_format.specs.Versions.{block_capacity}
use Rattle.block_format.specs.declared.geometry.Geometry.{Geometry}
use Rattle.block_format.specs.Layout.{IsBlockSize, IsGeometry, IsHeader}

-- sizes that four bytes hold
small_size : (n : ℕ) → IsBlockSize n → n < 2 ^ 32
small_size n is = subst (λ (m : ℕ). m < 2 ^ 32) (sym is.3) (pow_below is.0 32 (omega (arith, is.2)))

pub small_capacity : (g : Geometry) → IsGeometry g → block_capacity g.block_size < 2 ^ 32
small_capacity g is = let small = small_size g.block_size is.block_size in omega (arith, small)

-- the four numbers stand in their places
module _ (bytes : List ℕ) (g : Geometry) (header : IsHeader bytes g) where
  size_in : from_le_bytes w32 (take 4 (drop 20 bytes)) ≡ g.block_size
  size_in = ap (λ (l : List ℕ). from_le_bytes w32 (take 4 (drop 20 l))) header.text ∙ from_le_bytes-to_le_bytes_4 g.block_size (small_size g.block_size header.geometry.block_size)

  blocks_in : from_le_bytes w32 (take 4 (drop 24 bytes)) ≡ g.blocks
  blocks_in = ap (λ (l : List ℕ). from_le_bytes w32 (take 4 (drop 24 l))) header.text ∙ from_le_bytes-to_le_bytes_4 g.blocks (omega (arith, header.geometry.blocks.1))

  device_in : from_le_bytes w16 (take 2 (drop 28 bytes)) ≡ g.device
  device_in = ap (λ (l : List ℕ). from_le_bytes w16 (take 2 (drop 28 l))) header.text ∙ from_le_bytes-to_le_bytes_2 g.device (omega (arith, header.geometry.device, header.geometry.devices))

  devices_in : from_le_bytes w16 (take 2 (drop 30 bytes)) ≡ g.devices
  devices_in = ap (λ (l : List ℕ). from_le_bytes w16 (take 2 (drop 30 l))) header.text ∙ from_le_bytes-to_le_bytes_2 g.devices (omega (arith, header.geometry.devices))

pub one_header : (bytes : List ℕ) (g h : Geometry) → IsHeader bytes g → IsHeader bytes h → g ≡ h
one_header bytes g h of_g of_h = λ i. record {
  block_size = (sym (size_in bytes g of_g) ∙ size_in bytes h of_h) i;
  blocks = (sym (blocks_in bytes g of_g) ∙ blocks_in bytes h of_h) i;
  device = (sym (device_in bytes g of_g) ∙ device_in bytes h of_h) i;
  devices = (sym (devices_in bytes g of_g) ∙ devices_in bytes h of_h) i;
}
