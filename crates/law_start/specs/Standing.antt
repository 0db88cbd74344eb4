-- Crate law_start. Where a copy of an image stands.
use Rattle.std.specs.Prelude.{ℕ, ◌+◌, ◌*◌, ◌≤◌, List, Contains}
use Rattle.rec_format.specs.Versions.{version_units, block_capacity}
use Rattle.block_format.specs.declared.geometry.Geometry.{Geometry}
use Rattle.block_format.specs.Layout.{IsOpen, IsRecordAt, gate_sector, body_bytes}
use Rattle.block_format.specs.Copies.{Copy}

-- behind the open gate of one of these blocks, within the block, is the record of the copy
pub record CopyStands (g : Geometry) (image : List ℕ) (blocks : List ℕ) (c : Copy) : Type 0 where
  pub there : IsRecordAt (body_bytes g c.block image) (32 + 16 * c.unit) c.digest c.version
  pub is_open : IsOpen (gate_sector g c.block image)
  pub listed : Contains blocks c.block
  pub within : c.unit + version_units c.version ≤ block_capacity g.block_size
