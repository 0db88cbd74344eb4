-- Crate block_flusher. What the images that a crash may leave say of a block.
use Rattle.std.specs.Prelude.{ℕ, ◌≡◌, ◌≢◌, List, take}
use Rattle.rec_format.specs.Versions.{block_capacity}
use Rattle.disk_model.specs.Bytes.{range}
use Rattle.disk_model.specs.Disk.{Images}
use Rattle.block_format.specs.declared.geometry.Geometry.{Geometry}
use Rattle.block_format.specs.Layout.{IsOpen, IsClosed, Body, IsBody, block_place, gate_sector, body_bytes}

-- the block's gate is closed in each image
abbrev pub IsShut : Geometry → (block : ℕ) → Images → Type 0
IsShut g block images = (c : List ℕ) → images c → IsClosed (gate_sector g block c)

-- it is open in each image
abbrev pub IsOpened : Geometry → (block : ℕ) → Images → Type 0
IsOpened g block images = (c : List ℕ) → images c → IsOpen (gate_sector g block c)

-- each image has these bytes as the block's body
abbrev pub HasOneBody : Geometry → (block : ℕ) → (body : List ℕ) → Images → Type 0
HasOneBody g block body images = (c : List ℕ) → images c → body_bytes g block c ≡ body

-- where an image has the gate open, each image has its body
abbrev pub OpensOverOneBody : Geometry → (block : ℕ) → Images → Type 0
OpensOverOneBody g block images = (c d : List ℕ) → images c → images d → IsOpen (gate_sector g block c) → body_bytes g block d ≡ body_bytes g block c

-- these bytes are in the body grammar, as a body of this block
abbrev pub IsBodyOf : Geometry → (block : ℕ) → List ℕ → Type 0
IsBodyOf g block bytes = (body : Body) × IsBody (block_capacity g.block_size) bytes body × (body.block ≡ block)

-- where an image has the gate open, its body is in the body grammar
abbrev pub OpensOverBodies : Geometry → (block : ℕ) → Images → Type 0
OpensOverBodies g block images = (c : List ℕ) → images c → IsOpen (gate_sector g block c) → IsBodyOf g block (body_bytes g block c)

-- the header and all other blocks are as they were
pub record StaysElsewhere (g : Geometry) (block : ℕ) (old new : List ℕ) : Type 0 where
  pub header : take 4096 new ≡ take 4096 old
  pub others : (k : ℕ) → k ≢ block → range (block_place g k) g.block_size new ≡ range (block_place g k) g.block_size old

-- each image now is one of those before, but for this block
abbrev pub ChangesNoOther : Geometry → (block : ℕ) → (before now : Images) → Type 0
ChangesNoOther g block before now = (c : List ℕ) → now c → (d : List ℕ) × before d × StaysElsewhere g block d c
