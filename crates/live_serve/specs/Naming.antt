-- Crate live_serve. The state that the list of a device begins with.
use Rattle.std.specs.Prelude.{◌≡◌, Bool, true, false, List}
use Rattle.disk_model.specs.Disk.{DiskView, IsHonest}
use Rattle.model_device.specs.Device.{State}
use Rattle.block_format.specs.Layout.{Body}
use Rattle.law_start.specs.Start.{start_state}
use Rattle.law_start.specs.Sound.{IsSound}
use Rattle.cold_scan.specs.declared.header.Asked.{Asked}
use Rattle.cold_scan.specs.Starting.{Passes}
use Rattle.cold_scan.specs.Found.{found_state}
use Rattle.shard_core.specs.View.{ShardView, setup_of}
use Rattle.shard_core.specs.Stands.{Agrees, IsSafe}
use Rattle.turn_table.specs.declared.noted.Noted.{Noted}

-- one device of so many
abbrev pub place_of : {D : Type 0} → ShardView D → Asked
place_of shard = record { device = shard.shelf.geometry.device; devices = shard.shelf.geometry.devices }

-- Over any disk: the state behind a start from the bodies that were read, which stand behind its open gates where it tells its bytes.
pub record FoundState {D : Type 0} (view : D → DiskView) (shard : ShardView D) (s : State) : Type 0 where
  pub bodies : List Body
  pub is : s ≡ found_state (setup_of shard) bodies
  pub passes : (view shard.shelf.disk).tells → Passes (place_of shard) (view shard.shelf.disk).seen shard.shelf.geometry bodies

-- Over an honest disk whose image is sound: the start state of that image, for which the shard stands safely.
pub record SoundState {D : Type 0} (view : D → DiskView) (shard : ShardView D) (s : State) : Type 0 where
  pub bodies : List Body
  pub sound : IsSound (setup_of shard) (view shard.shelf.disk).seen bodies
  pub is : s ≡ start_state (setup_of shard) bodies
  pub honest : IsHonest (view shard.shelf.disk)
  pub safe : IsSafe view shard s

-- the one or the other, by whether the image is known to be sound
abbrev pub BeginsAs : {D : Type 0} → (view : D → DiskView) → (known : Bool) → ShardView D → State → Type 0
BeginsAs view false shard s = FoundState view shard s
BeginsAs view true shard s = SoundState view shard s

-- the state may be named for the shard
pub record MayBeNamed {D : Type 0} (view : D → DiskView) (known : Bool) (shard : ShardView D) (s : State) : Type 0 where
  pub agrees : Agrees shard s
  pub begins : BeginsAs view known shard s

-- there is a state that may be named for the shard
abbrev pub HasName : {D : Type 0} → (view : D → DiskView) → (known : Bool) → ShardView D → Type 0
HasName view known shard = (s : State) × MayBeNamed view known shard s

-- the note names such a state
abbrev pub IsNamedBy : {D : Type 0} → (view : D → DiskView) → (known : Bool) → ShardView D → Noted State → Type 0
IsNamedBy view known shard note = MayBeNamed view known shard note.value
