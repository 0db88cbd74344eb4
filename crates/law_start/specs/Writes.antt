-- Crate law_start. Images that differ in one block.
use Rattle.std.specs.Prelude.{ℕ, ◌<◌, List, length, take, ◌≡◌, ◌≢◌}
use Rattle.block_format.specs.declared.geometry.Geometry.{Geometry}
use Rattle.block_format.specs.Layout.{gate_sector, body_bytes}

-- an image of the same length, header and blocks, but for one block
pub record DiffersIn (g : Geometry) (block : ℕ) (old new : List ℕ) : Type 0 where
  pub size : length new ≡ length old
  pub header : take 4096 new ≡ take 4096 old
  pub gates : (k : ℕ) → k < g.blocks → k ≢ block → gate_sector g k new ≡ gate_sector g k old
  pub bodies : (k : ℕ) → k < g.blocks → k ≢ block → body_bytes g k new ≡ body_bytes g k old
