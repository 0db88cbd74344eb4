-- Crate core_run. Of which devices it is known of each gate whether it is set, and that calls keep it.
use Rattle.std.specs.Prelude.{◌≡◌, ℕ, ◌≤◌, ◌⊎◌, false, List, [], ◌∷◌}
use Rattle.std.specs.List.{AllByRecursion}
use Rattle.model_faults.specs.Counts.{Rose}
use Rattle.disk_model.specs.Disk.{DiskView}
use Rattle.block_shelf.specs.View.{AreSure, has_begun}
use Rattle.shard_core.specs.View.{ShardView}
use Rattle.core_run.specs.Views.{NodeView}

-- The disk's count of faults has not fallen since it was this one; and no gate of the device is unsure, or the count rose since.
pub record IsSureSince {D : Type 0} (view : D → DiskView) (count : ℕ) (shard : ShardView D) : Type 0 where
  pub later : count ≤ (view shard.shelf.disk).faults
  pub sure : AreSure shard.shelf.gates ⊎ Rose count (view shard.shelf.disk).faults

-- So it is of each of these devices, by the count at its place.
abbrev pub AreSureSince : {D : Type 0} → (view : D → DiskView) → (counts : List ℕ) → List (ShardView D) → Type 0
AreSureSince view counts [] = Unit {0}
AreSureSince view [] (shard ∷ shards) = ⊥
AreSureSince view (count ∷ counts) (shard ∷ shards) = IsSureSince view count shard × AreSureSince view counts shards

-- Of the devices that a node serves behind a call it is so since any counts since which it was so before.
abbrev pub StaySure : {D : Type 0} → (view : D → DiskView) → (old new : NodeView D) → Type 0
StaySure view old new = (counts : List ℕ) → AreSureSince view counts old.shards → AreSureSince view counts new.shards

-- On none of these devices the write of a buffer's gate has begun.
abbrev pub NoneBegun : {D : Type 0} → List (ShardView D) → Type 0
NoneBegun shards = AllByRecursion (λ shard. AllByRecursion (λ b. has_begun b.phase ≡ false) shard.shelf.buffers) shards

-- no gate of any is unsure
abbrev pub AllSure : {D : Type 0} → List (ShardView D) → Type 0
AllSure shards = AllByRecursion (λ shard. AreSure shard.shelf.gates) shards
