-- Crate live_node. What the table of a device opened with, and the state that a list of events since then gives.
use Rattle.std.specs.Prelude.{◌≡◌, ◌<◌, ◌≤◌, ℕ, List, []}
use Rattle.rec_format.specs.declared.version.Digest.{Digest}
use Rattle.rec_format.specs.Places.{device_number}
use Rattle.disk_model.specs.Disk.{DiskView, IsHonest}
use Rattle.model_device.specs.Book.{Setup}
use Rattle.model_device.specs.Device.{State, no_raid}
use Rattle.model_device.specs.Steps.{part_total}
use Rattle.model_device.specs.Events.{Event, after_events}
use Rattle.model_device.specs.Legal.{last_faults}
use Rattle.block_format.specs.declared.geometry.Geometry.{Geometry}
use Rattle.block_shelf.specs.View.{ShelfView}
use Rattle.law_steps.specs.Standing.{ShelfIsSafe}
use Rattle.shard_core.specs.declared.settings.Settings.{Settings}
use Rattle.shard_core.specs.View.{ShardView, setup_for, IsSettings}

-- The shelf as it was, with its disk, whose moment and count of faults a pass so keeps; the settings; and a state for which it stood.
pub record Opening (D : Type 0) : Type 0 where
  pub shelf : ShelfView D
  pub set : Settings
  pub state : State

-- the opening of a device that stands for a state
abbrev pub opened : {D : Type 0} → ShardView D → State → Opening D
opened shard state = record { shelf = shard.shelf; set = shard.set; state = state }

-- no device, for a type of which no value is made
abbrev pub no_state : State
no_state = record {
  log = [];
  book = record { live = []; buffers = []; holds = []; free = []; queue = []; flushed_numbers = []; next_number = 0 };
  raid = no_raid;
}

abbrev pub setup_at : {D : Type 0} → Opening D → Setup
setup_at o = setup_for o.shelf.geometry o.set

-- the digest is one of the device
abbrev pub IsOwn : {D : Type 0} → Opening D → Digest → Type 0
IsOwn o digest = device_number o.shelf.geometry.devices digest ≡ o.shelf.geometry.device

-- The number of devices and the settings are in range.
pub record IsOpening {D : Type 0} (o : Opening D) : Type 0 where
  pub devices : (o.shelf.geometry.device < o.shelf.geometry.devices) × (o.shelf.geometry.devices ≤ 16)
  pub settings : IsSettings o.set

-- A table with so many parts is that of this opening, whose shape and settings are these.
pub record IsTableOf {D : Type 0} (o : Opening D) (geometry : Geometry) (set : Settings) (parts : ℕ) : Type 0 where
  pub opening : IsOpening o
  pub is_geometry : o.shelf.geometry ≡ geometry
  pub is_set : o.set ≡ set
  pub all : parts ≡ part_total (setup_at o)

-- the state after these events, and the count of faults at which they end
abbrev pub state_at : {D : Type 0} → Opening D → List Event → State
state_at o events = after_events (setup_at o) events o.state

abbrev pub faults_at : {D : Type 0} → (view : D → DiskView) → Opening D → List Event → ℕ
faults_at view o events = last_faults (view o.shelf.disk).faults events

-- The disk was honest, and its image sound: each image that it might leave survived the state.
pub record WasSafe {D : Type 0} (view : D → DiskView) (o : Opening D) : Type 0 where
  pub honest : IsHonest (view o.shelf.disk)
  pub safe : ShelfIsSafe view (setup_at o) o.shelf o.state
