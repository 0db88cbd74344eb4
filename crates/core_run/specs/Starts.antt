-- Crate core_run. What the start of a node comes to, device by device.
use Rattle.std.specs.Prelude.{◌≡◌, ℕ, zero, suc, ◌+◌, List, [], ◌∷◌}
use Rattle.disk_model.specs.Disk.{DiskView, IsOnly, IsHonest}
use Rattle.model_device.specs.Device.{State}
use Rattle.block_format.specs.declared.geometry.Geometry.{Geometry}
use Rattle.block_format.specs.Layout.{Body}
use Rattle.law_start.specs.Start.{start_state}
use Rattle.law_start.specs.Sound.{IsSound}
use Rattle.block_shelf.specs.View.{AreSure}
use Rattle.block_shelf.specs.Disks.{OnlyRead}
use Rattle.cold_scan.specs.declared.header.Asked.{Asked}
use Rattle.cold_scan.specs.declared.header.StartCause.{StartCause}
use Rattle.cold_scan.specs.Starting.{IsRefused, IsByBytes, FaultRose, Passes}
use Rattle.shard_core.specs.declared.settings.Settings.{Settings}
use Rattle.shard_core.specs.View.{ShardView, setup_of}
use Rattle.shard_core.specs.Stands.{Agrees, IsSafe}
use Rattle.shard_core.specs.Starting.{StandsForBodies, Begins}
use Rattle.shard_core.specs.Again.{StartsAgain, IsNoRefusal}
use Rattle.core_run.specs.Views.{asked}

-- A disk was taken into use, and nothing was written. Over any disk the shard stands for the state behind a start from the bodies that
-- were read; over one that tells its bytes it begins with what they have, and a crash leaves just these. Over an honest one whose image
-- is sound it is safe; and so it is over that of a shard that stood safely for a state, behind a restart from there. No gate is unsure. No flushed
-- buffer is kept, and as many may be as the settings say.
pub record Started {D : Type 0} (view : D → DiskView) (set : Settings) (place : Asked) (disk : D) (shard : ShardView D) : Type 0 where
  pub stands : StandsForBodies view place (view disk) shard
  pub begins : (view disk).tells → Begins place (view disk).seen shard
  pub only : (view disk).tells → IsOnly (view disk).seen (view shard.shelf.disk).may_leave
  pub safe : IsHonest (view disk) → (bodies : List Body) → IsSound (setup_of shard) (view disk).seen bodies → IsSafe view shard (start_state (setup_of shard) bodies)
  pub again : IsHonest (view disk) → (old : ShardView D) (s : State) → old.shelf.disk ≡ disk → old.set ≡ set → old.shelf.geometry.device ≡ place.device
      → old.shelf.geometry.devices ≡ place.devices → Agrees old s → IsSafe view old s → StartsAgain view old s shard
  pub set_is : shard.set ≡ set
  pub kept : shard.shelf.cache ≡ record { kept = []; limit = set.cache }
  pub device_is : shard.shelf.geometry.device ≡ place.device
  pub devices_is : shard.shelf.geometry.devices ≡ place.devices
  pub read : OnlyRead (view disk) (view shard.shelf.disk)
  pub sure : AreSure shard.shelf.gates

-- A disk was not taken into use, and is handed back as it was; where its bytes are the cause, a crash leaves just these. Over the honest
-- one of a shard that stood safely for a state there was no memory, or the disk failed.
pub record NotStarted {D : Type 0} (view : D → DiskView) (set : Settings) (place : Asked) (cause : StartCause) (disk new : D) : Type 0 where
  pub read : OnlyRead (view disk) (view new)
  pub bytes : (view disk).tells → IsRefused place (view disk).seen cause
  pub settled : (view disk).tells → IsByBytes cause → IsOnly (view disk).seen (view new).may_leave
  pub rose : FaultRose cause (view disk).faults (view new).faults
  pub again : IsHonest (view disk) → (old : ShardView D) (s : State) → old.shelf.disk ≡ disk → old.set ≡ set → old.shelf.geometry.device ≡ place.device
      → old.shelf.geometry.devices ≡ place.devices → Agrees old s → IsSafe view old s → IsNoRefusal cause

-- Each disk was taken into use, numbered from this device on.
abbrev pub StartsEach : {D : Type 0} → (view : D → DiskView) → Settings → (device devices : ℕ) → List D → List (ShardView D) → Type 0
StartsEach view set device devices [] shards = shards ≡ []
StartsEach view set device devices (disk ∷ disks) [] = ⊥
StartsEach view set device devices (disk ∷ disks) (shard ∷ shards) =
    Started view set (asked device devices) disk shard × StartsEach view set (device + 1) devices disks shards

-- A disk was taken into use, and then its device was stopped, since one behind it was refused. Nothing was written, and what it reads is the one image
-- that a crash leaves, where it tells that.
pub record TakenInFront {D : Type 0} (view : D → DiskView) (place : Asked) (disk new : D) : Type 0 where
  pub read : OnlyRead (view disk) (view new)
  pub only : (view disk).tells → IsOnly (view disk).seen (view new).may_leave
  pub passes : (view disk).tells → (g : Geometry) × (bodies : List Body) × Passes place (view disk).seen g bodies

-- The disk at a place was refused. Those in front of it were taken, and read alone, and those behind it are as they were.
abbrev pub RefusesAt : {D : Type 0} → (view : D → DiskView) → Settings → (place device devices : ℕ) → StartCause → (old new : List D) → Type 0
RefusesAt view set place device devices cause [] new = ⊥
RefusesAt view set place device devices cause (disk ∷ old) [] = ⊥
RefusesAt view set zero device devices cause (disk ∷ old) (last ∷ new) = NotStarted view set (asked device devices) cause disk last × (new ≡ old)
RefusesAt view set (suc place) device devices cause (disk ∷ old) (last ∷ new) =
    TakenInFront view (asked device devices) disk last × RefusesAt view set place (device + 1) devices cause old new

-- Devices are being started: these shards are on the first of the disks, and these disks are left.
abbrev pub Starting : {D : Type 0} → (view : D → DiskView) → Settings → (device devices : ℕ) → List D → List (ShardView D) → (left : List D) → Type 0
Starting view set device devices disks [] left = left ≡ disks
Starting view set device devices [] (shard ∷ shards) left = ⊥
Starting view set device devices (disk ∷ disks) (shard ∷ shards) left =
    Started view set (asked device devices) disk shard × Starting view set (device + 1) devices disks shards left

-- The disk at a place was refused: these shards are on those in front of it, and it and those behind it are left.
abbrev pub StopsAt : {D : Type 0} → (view : D → DiskView) → Settings → (place device devices : ℕ) → StartCause → List D → List (ShardView D) → (left : List D) → Type 0
StopsAt view set place device devices cause [] shards left = ⊥
StopsAt view set zero device devices cause (disk ∷ disks) shards [] = ⊥
StopsAt view set zero device devices cause (disk ∷ disks) shards (last ∷ left) =
    (shards ≡ []) × NotStarted view set (asked device devices) cause disk last × (left ≡ disks)
StopsAt view set (suc place) device devices cause (disk ∷ disks) [] left = ⊥
StopsAt view set (suc place) device devices cause (disk ∷ disks) (shard ∷ shards) left =
    Started view set (asked device devices) disk shard × StopsAt view set place (device + 1) devices cause disks shards left
