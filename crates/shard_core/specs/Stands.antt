-- Crate shard_core. For which states of the model a shard stands.
use Rattle.std.specs.Prelude.{◌≡◌}
use Rattle.std.specs.List.{AllByRecursion}
use Rattle.model_device.specs.Device.{State}
use Rattle.disk_model.specs.Disk.{DiskView}
use Rattle.law_sprig.specs.Parts.{FitsParts}
use Rattle.law_steps.specs.Sprigs.{HasTimes}
use Rattle.law_steps.specs.Standing.{ShelfStands, ShelfIsSafe}
use Rattle.shard_core.specs.View.{ShardView, IsSettings, limits_of, setup_of}

-- ---- the whole shard

-- Each sprig and the shelf stand for the state. This holds over every disk.
pub record Agrees {D : Type 0} (shard : ShardView D) (s : State) : Type 0 where
  pub sprigs : FitsParts (setup_of shard) shard.sprigs s
  pub times : AllByRecursion HasTimes shard.sprigs
  pub shelf : ShelfStands (setup_of shard) shard.shelf s

-- What every shard keeps: its settings are in range, the shelf is run with them, and there is a state for which it stands.
pub record IsWhole {D : Type 0} (shard : ShardView D) : Type 0 where
  pub settings : IsSettings shard.set
  pub limits : shard.shelf.limits ≡ limits_of shard.set
  pub stands : (s : State) × Agrees shard s

abbrev pub IsSafe : {D : Type 0} → (view : D → DiskView) → ShardView D → State → Type 0
IsSafe view shard s = ShelfIsSafe view (setup_of shard) shard.shelf s
