-- Crate core_run. How disks are formatted as the devices of a node: of which shape, what each disk is then, and how it ends.
use Rattle.std.specs.Prelude.{◌≡◌, ℕ, ◌<◌, ◌≤◌, List, length, Some, slice_get}
use Rattle.model_faults.specs.Counts.{Rose}
use Rattle.disk_model.specs.Disk.{DiskView, IsHonest, IsSettled, Advances}
use Rattle.disk_model.specs.Runs.{Leaves}
use Rattle.block_format.specs.declared.geometry.Geometry.{Geometry}
use Rattle.block_format.specs.Layout.{IsBlockSize, device_end}
use Rattle.block_format.specs.Copies.{IsFormatted}
use Rattle.shard_core.specs.Finding.{AllZeros, IsHalfFormatted}
use Rattle.core_run.specs.declared.format.FormatRefusal.{FormatRefusal}
use Rattle.core_run.specs.declared.format.FormatRefusal.TheVariants as refusal

-- ---- the shape

-- a device may have blocks of so many bytes, and so many of them
abbrev pub IsShape : (size blocks : ℕ) → Type 0
IsShape size blocks = IsBlockSize size × (8 ≤ blocks) × (blocks ≤ 65536)

-- this device of so many, of this shape
abbrev pub shaped : (size blocks devices device : ℕ) → Geometry
shaped size blocks devices device = record { block_size = size; blocks = blocks; device = device; devices = devices }

-- ---- one disk

-- Where it told its bytes, they are now a device of this shape without an open block, each gate is zeros, and a crash leaves just them.
pub record IsMade (g : Geometry) (before after : DiskView) : Type 0 where
  pub formatted : before.tells → IsFormatted g after.seen
  pub zeros : before.tells → AllZeros g after.seen g.blocks
  pub settled : before.tells → IsSettled after

-- What holds however formatting ends: a disk that tells its bytes or is honest stays so, time advances, at no moment does a crash
-- of an honest disk leave a header that wasn't there before together with an open gate, no fault is forgotten, and the size stays.
pub record GoesOn (g : Geometry) (before after : DiskView) : Type 0 where
  pub told : before.tells → after.tells
  pub honest : IsHonest before → IsHonest after
  pub time : Advances before after
  pub ordered : IsHonest before → Leaves (IsHalfFormatted g before.may_leave) before after
  pub counts : before.faults ≤ after.faults
  pub size : after.extent ≡ before.extent

-- ---- all disks

-- P of each disk, by its number: as it was, and as it is
abbrev pub EachDisk : {D : Type 0} → (view : D → DiskView) → (P : (device : ℕ) → (before after : DiskView) → Type 0) → (old new : List D) → Type 0
EachDisk {D} view P old new = (device : ℕ) (before after : D) → slice_get old device ≡ Some before → slice_get new device ≡ Some after → P device (view before) (view after)

-- each disk has the bytes that its device needs
abbrev pub AllFit : {D : Type 0} → (view : D → DiskView) → (g : (device : ℕ) → Geometry) → List D → Type 0
AllFit {D} view g disks = (device : ℕ) (disk : D) → slice_get disks device ≡ Some disk → device_end (g device) ≤ (view disk).extent

-- This disk has so many bytes, which are fewer than its device needs, and each in front of it has enough.
pub record IsFirstShort {D : Type 0} (view : D → DiskView) (g : (device : ℕ) → Geometry) (disks : List D) (device size : ℕ) : Type 0 where
  pub disk : D
  pub there : slice_get disks device ≡ Some disk
  pub size_is : size ≡ (view disk).extent
  pub short : size < device_end (g device)
  pub front : (k : ℕ) (other : D) → k < device → slice_get disks k ≡ Some other → device_end (g k) ≤ (view other).extent

-- Of this disk the count of faults rose. Those in front of it are made, and those behind it are what they were.
pub record StopsAt {D : Type 0} (view : D → DiskView) (g : (device : ℕ) → Geometry) (old new : List D) (device : ℕ) : Type 0 where
  pub there : device < length old
  pub front : EachDisk view (λ k before after. k < device → IsMade (g k) before after) old new
  pub rose : EachDisk view (λ k before after. k ≡ device → Rose before.faults after.faults) old new
  pub behind : (k : ℕ) → device < k → slice_get new k ≡ slice_get old k

-- Why the disks weren't formatted: one of them is short, and nothing was changed; or all have enough bytes, and one failed.
abbrev pub IsRefusedFor : {D : Type 0} → (view : D → DiskView) → (g : (device : ℕ) → Geometry) → (old new : List D) → FormatRefusal → Type 0
IsRefusedFor view g old new (refusal.Short device size) = IsFirstShort view g old device size × (new ≡ old)
IsRefusedFor view g old new (refusal.Fault device) = AllFit view g old × StopsAt view g old new device
