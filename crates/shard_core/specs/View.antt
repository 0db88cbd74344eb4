-- Crate shard_core. What is seen of a shard: the shelf of a device, with its settings and the sprigs of its parts.
use Rattle.std.specs.Prelude.{◌≡◌, ◌≤◌, List}
use Rattle.sprig_tree.specs.State.{SprigState}
use Rattle.rec_format.specs.Versions.{block_capacity}
use Rattle.model_device.specs.Book.{Setup}
use Rattle.block_format.specs.declared.geometry.Geometry.{Geometry}
use Rattle.block_shelf.specs.declared.place.ShelfLimits.{ShelfLimits}
use Rattle.block_shelf.specs.View.{IsSetupOf, ShelfView}
use Rattle.shard_core.specs.declared.settings.Settings.{Settings}

pub record ShardView (D : Type 0) : Type 0 where
  pub shelf : ShelfView D
  pub set : Settings
  pub sprigs : List SprigState

-- Settings within their ranges.
pub record IsSettings (set : Settings) : Type 0 where
  pub sprigs : (1 ≤ set.sprigs) × (set.sprigs ≤ 256)
  pub lwm : set.lwm ≤ 99
  pub pending : (4 ≤ set.pending) × (set.pending ≤ 64)
  pub cache : set.cache ≤ 64
  pub raid_age : set.raid_age ≤ 315360000

-- the limits of a shelf that is run with these settings
abbrev pub limits_of : Settings → ShelfLimits
limits_of set = record { sprigs = set.sprigs; lwm = set.lwm; pending = set.pending; cache = set.cache }

-- a device of this shape with these settings, as the definitions see it
abbrev pub setup_for : Geometry → Settings → Setup
setup_for g set = record {
  capacity = block_capacity g.block_size;
  blocks = g.blocks;
  device = g.device;
  devices = g.devices;
  sprigs = set.sprigs;
  lwm = set.lwm;
  pending_limit = set.pending;
  cache = set.cache;
  commit = set.commit;
  raid_age = set.raid_age;
}

-- The setup of a shelf that is run with these settings. They alone say whether a write is flushed before it is answered, and from which age
-- a tombstone may go.
pub record IsSetupBy {D : Type 0} (set : Settings) (setup : Setup) (shelf : ShelfView D) : Type 0 where
  pub of_shelf : IsSetupOf setup shelf
  pub commit : setup.commit ≡ set.commit
  pub raid_age : setup.raid_age ≡ set.raid_age

abbrev pub setup_of : {D : Type 0} → ShardView D → Setup
setup_of shard = setup_for shard.shelf.geometry shard.set

-- The shape and the settings stay.
pub record SameSetup {D : Type 0} (old new : ShardView D) : Type 0 where
  pub geometry : new.shelf.geometry ≡ old.shelf.geometry
  pub set : new.set ≡ old.set
