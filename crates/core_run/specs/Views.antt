-- Crate core_run. What is seen of a node over its devices, and what is known of their disks.
use Rattle.std.specs.Prelude.{◌≡◌, ℕ, zero, suc, ◌+◌, ◌≤◌, ◌<◌, List, [], ◌∷◌, map, length, Option, Some, None}
use Rattle.disk_model.specs.Disk.{DiskView}
use Rattle.block_shelf.specs.Disks.{IsLater}
use Rattle.cold_scan.specs.declared.header.Asked.{Asked}
use Rattle.cold_scan.specs.declared.header.StartCause.{StartCause}
use Rattle.shard_core.specs.declared.settings.Settings.{Settings}
use Rattle.shard_core.specs.View.{ShardView, IsSettings}

-- What is seen of a node: the devices that it serves, in order; or, behind a restart that was refused, which device was refused and why,
-- and the disks of all, in order.
pub record NodeView (D : Type 0) : Type 0 where
  pub shards : List (ShardView D)
  pub refused : Option (ℕ × StartCause)
  pub disks : List D

abbrev pub serving : {D : Type 0} → List (ShardView D) → NodeView D
serving shards = record { shards = shards; refused = None; disks = [] }

abbrev pub halted : {D : Type 0} → ℕ × StartCause → List D → NodeView D
halted why disks = record { shards = []; refused = Some why; disks = disks }

-- one device of so many
abbrev pub asked : (device devices : ℕ) → Asked
asked device devices = record { device = device; devices = devices }

-- these are devices of so many, numbered from this one on, that are run with these settings
abbrev pub AreDevices : {D : Type 0} → Settings → (device devices : ℕ) → List (ShardView D) → Type 0
AreDevices set device devices [] = Unit {0}
AreDevices set device devices (shard ∷ shards) =
    (shard.set ≡ set) × (shard.shelf.geometry.device ≡ device) × (shard.shelf.geometry.devices ≡ devices) × AreDevices set (device + 1) devices shards

-- What each node keeps. One that serves has 1 to 16 devices, all of so many, and room for their disks; one that halted has the disks, and
-- the one that was refused is among them.
abbrev pub IsNode : {D : Type 0} → Settings → (shards_room disks_room : ℕ) → NodeView D → Type 0
IsNode {D} set shards_room disks_room n = IsSettings set × of n.refused
  where
    of : Option (ℕ × StartCause) → Type 0
    of None =
        (n.disks ≡ []) × (1 ≤ length n.shards) × (length n.shards ≤ 16) × (length n.shards ≤ disks_room) × AreDevices set 0 (length n.shards) n.shards
    of (Some why) = (n.shards ≡ []) × (why.0 < length n.disks)

-- ---- disks

abbrev pub disks_served : {D : Type 0} → List (ShardView D) → List D
disks_served shards = map (λ s. s.shelf.disk) shards

-- the disks of a node, in order
abbrev pub disks_of : {D : Type 0} → NodeView D → List D
disks_of {D} n = of n.refused
  where
    of : Option (ℕ × StartCause) → List D
    of None = disks_served n.shards
    of (Some why) = n.disks

-- Where nothing is said of what a crash leaves, no image is looked at, and every moment is one.
abbrev pub nowhere : DiskView
nowhere = record { extent = 0; tells = ⊥; seen = []; may_leave = λ image. ⊥; moment = 0; had = λ moment. Unit {0}; left_since = λ moment image. ⊥; faults = 0; calls = 0 }

abbrev pub unknown : {T : Type 0} → T → ℕ → DiskView
unknown store device = nowhere

-- what is known of the disk at a place of a list
abbrev pub view_at : {D : Type 0} → (view : D → DiskView) → List D → ℕ → DiskView
view_at view [] device = nowhere
view_at view (disk ∷ disks) zero = view disk
view_at view (disk ∷ disks) (suc device) = view_at view disks device

-- what is known of the disk of a device
abbrev pub views_of : {D : Type 0} → (view : D → DiskView) → NodeView D → ℕ → DiskView
views_of view n = view_at view (disks_of n)

-- their counts of faults
abbrev pub faults_of : {D : Type 0} → (view : D → DiskView) → List D → List ℕ
faults_of view disks = map (λ disk. (view disk).faults) disks

-- Each disk is the one at its place before, at a later time.
abbrev pub AreLater : {D : Type 0} → (view : D → DiskView) → (old new : List D) → Type 0
AreLater view [] new = new ≡ []
AreLater view (disk ∷ old) [] = ⊥
AreLater view (disk ∷ old) (later ∷ new) = IsLater (view disk) (view later) × AreLater view old new
