-- Crate shard_core. What a start comes to on the disk of a shard that was stopped.
use Rattle.std.specs.Prelude.{◌≡◌, ℕ, List}
use Rattle.disk_model.specs.Disk.{DiskView}
use Rattle.model_device.specs.Device.{State}
use Rattle.law_start.specs.Start.{Restarts}
use Rattle.cold_scan.specs.declared.header.StartCause.{StartCause}
use Rattle.cold_scan.specs.declared.header.StartCause.TheVariants.{NotFormatted, OtherGeometry, DamagedBlock, Memory, Fault}
use Rattle.shard_core.specs.View.{ShardView, setup_of}
use Rattle.shard_core.specs.Stands.{Agrees, IsSafe}

-- A shard that started again from the disk of one that stood safely for a state: it has the same shape, and stands safely for a state
-- that a restart may go to, from an image that the disk might have left.
pub record StartsAgain {D : Type 0} (view : D → DiskView) (old : ShardView D) (s : State) (shard : ShardView D) : Type 0 where
  pub geometry : shard.shelf.geometry ≡ old.shelf.geometry
  pub image : List ℕ
  pub left : (view old.shelf.disk).may_leave image
  pub state : State
  pub restarts : Restarts (setup_of old) s image state
  pub agrees : Agrees shard state
  pub safe : IsSafe view shard state

-- the device itself isn't refused: there was no memory, or the disk failed
abbrev pub IsNoRefusal : StartCause → Type 0
IsNoRefusal (NotFormatted first) = ⊥
IsNoRefusal (OtherGeometry kept asked size) = ⊥
IsNoRefusal (DamagedBlock block place) = ⊥
IsNoRefusal Memory = Unit {0}
IsNoRefusal Fault = Unit {0}
