-- Crate test_hist. What a block adds to the records that were read before it, and which of two versions is the later.
use Rattle.std.specs.Prelude.{ℕ, Bool, true, false, List, ◌++◌, Option, Some, None, ◌≡◌, ◌⊎◌, if◌then◌else◌}
use Rattle.rec_format.specs.declared.version.Digest.{Digest}
use Rattle.rec_format.specs.declared.version.Version.{Version}
use Rattle.rec_format.specs.Versions.{is_later, block_capacity}
use Rattle.block_format.specs.declared.geometry.Geometry.{Geometry}
use Rattle.block_format.specs.Layout.{IsOpen, IsClosed, gate_sector, body_bytes, Body, IsBody}
use Rattle.block_format.specs.Readings.{HasNoBody, body_capacity}
use Rattle.block_format.specs.Refusals.{IsBlock}

-- these bytes begin with a body of the block, whose records come behind the old ones; or they don't
abbrev pub AddsBody : List ℕ → (block : ℕ) → Bool → (old new : List (Digest × Version)) → Type 0
AddsBody bytes block true old new = (body : Body) × IsBody (body_capacity bytes) bytes body × (body.block ≡ block) × (new ≡ old ++ body.records)
AddsBody bytes block false old new = HasNoBody bytes block

-- the records behind the open gate of a block come behind the old ones, and none behind a closed gate; or it is damaged
abbrev pub AddsBlock : Geometry → List ℕ → (block : ℕ) → Bool → (old new : List (Digest × Version)) → Type 0
AddsBlock g image block true old new =
    (IsClosed (gate_sector g block image) × (new ≡ old))
    ⊎ (IsOpen (gate_sector g block image) × (body : Body) × IsBody (block_capacity g.block_size) (body_bytes g block image) body
    × (body.block ≡ block) × (new ≡ old ++ body.records))
AddsBlock g image block false old new = IsBlock g image block → ⊥

-- the later of a version and the latest behind it, of equal ones the first
abbrev pub later_version : Version → Option Version → Version
later_version v None = v
later_version v (Some w) = if is_later w v then w else v
