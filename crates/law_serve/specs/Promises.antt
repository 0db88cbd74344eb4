-- Crate law_serve. What a server over the devices of a node promises.
use Rattle.std.specs.Prelude.{◌≡◌, ◌⊎◌, ℕ, ◌+◌, ◌<◌, ◌≤◌, Bool, List, [], ◌∷◌, length, map, Option, Some, None, IfSome, MatchOption, is_err, if◌then◌else◌}
use Rattle.disk_model.specs.Disk.{DiskView}
use Rattle.block_format.specs.declared.geometry.Geometry.{Geometry}
use Rattle.shard_core.specs.declared.settings.Settings.{Settings}
use Rattle.node_session.specs.declared.ended.Ended.{Ended}
use Rattle.node_session.specs.Turns.{Times}
use Rattle.node_serve.specs.Closing as door
use Rattle.node_serve.specs.declared.closed.Closed.{Closed}
use Rattle.node_serve.specs.declared.closed.Closed.TheVariants.{Ended as GaveNone, Failed}
use Rattle.model_node.specs.declared.run_end.RunEnd.{RunEnd}
use Rattle.model_node.specs.declared.run_end.RunEnd.TheVariants as end
use Rattle.model_node.specs.RunEnd.{HasStartCause}
use Rattle.core_run.specs.Views.{view_at, faults_of}
use Rattle.law_run.specs.Promises.{IsTold, AreNumbered, PassEach, ReadAlone, SettlesRefused, disks_between, reads_of}
use Rattle.law_run.specs.Concluding.{closed_end}
use Rattle.live_store.specs.Known.{Known}
use Rattle.live_serve.specs.declared.closing.Closing.{Closing}
use Rattle.live_serve.specs.Serving.{SeatsServe}
use Rattle.law_serve.specs.Devices.{EachHolds}

-- the first of these devices, numbered from this one on, whose disk failed in its closing flush, if any did
abbrev pub first_failed : {D : Type 0} → (device : ℕ) → List (Closing D) → Option ℕ
first_failed device [] = None
first_failed device (c ∷ closings) = if is_err c.flushed then Some device else first_failed (device + 1) closings

-- the disks of devices that were closed
abbrev pub disks_closed : {D : Type 0} → List (Closing D) → List D
disks_closed closings = map (λ c. c.shard.shelf.disk) closings

-- How a server ends: there was no memory for it; or its door failed; or it gave none, and then the closing of the devices tells, of which the first whose
-- disk failed in it is this one, if any did.
abbrev pub serving_end : Option Closed → (failed : Option ℕ) → RunEnd
serving_end None failed = end.NoMemory
serving_end (Some GaveNone) failed = closed_end failed
serving_end (Some Failed) failed = end.DoorFault

-- All devices were taken into use, each has its list of events with its closing flush, and the links of the door were served, by so many seats, as
-- many links as it gave; or there was no memory for these, and then the door wasn't asked.
pub record IsServing {D : Type 0} (view : D → DiskView) (Serves : List (Known D) → Times → Ended → List (Known D) → Times → Type 0) (known : Bool) (set : Settings)
    (seats : ℕ) (how : RunEnd) (times : Times) (olds news : List D) (faults later given after : ℕ) (ended : Bool) (SameDoor : Type 0) : Type 0 where
  pub geometries : List Geometry
  pub count : length geometries ≡ length olds
  pub place : AreNumbered 0 (length olds) geometries
  pub passes : PassEach 0 (length olds) geometries (λ device. (view_at view olds device).tells) (reads_of view olds)
  pub all : List (Known D)
  pub devices : EachHolds view known set how 0 (length olds) geometries olds news all
  pub closed : Option Closed
  pub failed : Option ℕ
  pub ends : how ≡ serving_end closed failed
  pub there : IfSome failed (λ device. device < length olds)
  pub rose : faults ≤ later
  pub links : MatchOption closed SameDoor (λ why. door.IsClosed why faults later ended × SeatsServe Serves all times seats given after)

-- A device wasn't taken into use, or there was no memory before anything was served. The disks were read alone, and the door wasn't asked.
pub record NotServing {D : Type 0} (view : D → DiskView) (how : RunEnd) (olds news : List D) (SameDoor : Type 0) : Type 0 where
  pub cause : HasStartCause how (λ device. (view_at view olds device).tells) (reads_of view olds) (faults_of view olds) (faults_of view news)
  pub settled : SettlesRefused (disks_between view olds news) how
  pub disks : ReadAlone view olds news
  pub door : SameDoor

-- The promise of a server: its status and its note tell how it ended, and what has to hold where it ended so holds.
pub record Serves {D : Type 0} (view : D → DiskView) (Link : List (Known D) → Times → Ended → List (Known D) → Times → Type 0) (known : Bool) (set : Settings)
    (seats : ℕ) (status : ℕ) (note : List ℕ) (times : Times) (olds news : List D) (faults later given after : ℕ) (ended : Bool) (SameDoor : Type 0) : Type 0 where
  pub end : RunEnd
  pub told : IsTold end status note
  pub kept : NotServing view end olds news SameDoor ⊎ IsServing view Link known set seats end times olds news faults later given after ended SameDoor
