-- Crate core_run. For which nodes of the model a node stands: device by device.
use Rattle.std.specs.Prelude.{◌≡◌, ℕ, ◌<◌, List, [], ◌∷◌, length}
use Rattle.disk_model.specs.Disk.{DiskView, IsHonest}
use Rattle.law_start.specs.Surviving.{Survives}
use Rattle.cold_scan.specs.declared.header.StartCause.{StartCause}
use Rattle.cold_scan.specs.declared.header.StartCause.TheVariants as why
use Rattle.shard_core.specs.View.{ShardView, setup_of}
use Rattle.shard_core.specs.Stands.{Agrees, IsSafe}
use Rattle.shard_core.specs.Again.{IsNoRefusal}
use Rattle.model_node.specs.Commands.{Slot, Node}
use Rattle.model_node.specs.Outside.{counts_of, RoseOn}
use Rattle.model_node.specs.Headline.{On}
use Rattle.core_run.specs.Views.{NodeView, serving, halted, view_at, faults_of}

-- A device of the model is of the shard's shape and settings and has its disk's count of faults, and the shard stands for its state.
pub record StandsOn {D : Type 0} (view : D → DiskView) (shard : ShardView D) (slot : Slot) : Type 0 where
  pub setup_is : slot.setup ≡ setup_of shard
  pub faults_is : slot.faults ≡ (view shard.shelf.disk).faults
  pub agrees : Agrees shard slot.state

-- Its disk is honest besides, and each image that it may leave survives the state.
pub record StandsSafelyOn {D : Type 0} (view : D → DiskView) (shard : ShardView D) (slot : Slot) : Type 0 where
  pub stands : StandsOn view shard slot
  pub honest : IsHonest (view shard.shelf.disk)
  pub safe : IsSafe view shard slot.state

-- it holds of each shard and the device of the model at its place, and there are as many
abbrev pub Each : {S : Type 0} → (S → Slot → Type 0) → List S → Node → Type 0
Each Holds [] node = node ≡ []
Each Holds (shard ∷ shards) [] = ⊥
Each Holds (shard ∷ shards) (slot ∷ node) = Holds shard slot × Each Holds shards node

abbrev pub StandsFor : {D : Type 0} → (view : D → DiskView) → NodeView D → Node → Type 0
StandsFor {D} view n node = (shards : List (ShardView D)) × (n ≡ serving shards) × Each (StandsOn view) shards node

abbrev pub StandsSafely : {D : Type 0} → (view : D → DiskView) → NodeView D → Node → Type 0
StandsSafely {D} view n node = (shards : List (ShardView D)) × (n ≡ serving shards) × Each (StandsSafelyOn view) shards node

-- A restart was refused: no device is served any more, each has its disk's count of faults, and where the disk of the one that was refused
-- failed its count rose.
pub record Halts {D : Type 0} (view : D → DiskView) (n : NodeView D) (before after : Node) : Type 0 where
  pub device : ℕ
  pub cause : StartCause
  pub disks : List D
  pub is_halted : n ≡ halted (device, cause) disks
  pub there : device < length disks
  pub counts : counts_of after ≡ faults_of view disks
  pub rose : cause ≡ why.Fault → RoseOn device (counts_of before) (counts_of after)

-- Over honest disks that were safe it was refused for want of memory or a fault alone, and each image that a disk may leave survives the
-- state of its device.
pub record HaltsSafely {D : Type 0} (view : D → DiskView) (n : NodeView D) (before after : Node) : Type 0 where
  pub halts : Halts view n before after
  pub unrefused : IsNoRefusal halts.cause
  pub left : (device : ℕ) (image : List ℕ) → (view_at view halts.disks device).may_leave image → On after device (λ slot. Survives slot.setup slot.state image)
