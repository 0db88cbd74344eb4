-- Crate live_node. Which hub and which sprigs fit an opening and the events since, and which events may follow.
use Rattle.std.specs.Prelude.{◌≡◌, ℕ, true, false, nat_lt, List, [], ◌∷◌, ◌++◌, Option, Some, None, if◌then◌else◌}
use Rattle.std.specs.List.{AllByRecursion}
use Rattle.disk_model.specs.Disk.{DiskView, IsHonest}
use Rattle.disk_model.specs.Runs.{OneOf, Leaves}
use Rattle.model_device.specs.Book.{Setup}
use Rattle.model_device.specs.Device.{State}
use Rattle.model_device.specs.Steps.{part_total}
use Rattle.model_device.specs.Events.{Event, Call, Answer, flush_call, counted, states_of}
use Rattle.model_device.specs.Legal.{Follows}
use Rattle.model_device.specs.Passes.{part_named}
use Rattle.law_start.specs.Surviving.{Survives}
use Rattle.sprig_tree.specs.declared.tally.Tally.{Tally}
use Rattle.sprig_tree.specs.State.{SprigState}
use Rattle.law_sprig.specs.Parts.{FitsParts}
use Rattle.block_shelf.specs.View.{ShelfView}
use Rattle.law_steps.specs.Sprigs.{HasTimes}
use Rattle.law_steps.specs.Standing.{SprigStands, ShelfStands, ShelfIsSafe}
use Rattle.shard_core.specs.Numbers.{tally_sum}
use Rattle.shard_core.specs.View.{limits_of}
use Rattle.live_node.specs.Opening.{Opening, setup_at, state_at, faults_at, WasSafe}

-- ---- events

-- a number, if it is below a limit
abbrev pub if_below : (limit : ℕ) → Option ℕ → Option ℕ
if_below limit None = None
if_below limit (Some k) = if nat_lt k limit then Some k else None

-- the part of the device that a call names; a turn of another device's raid may name one that this device doesn't have
abbrev pub own_part : Setup → Call → Option ℕ
own_part setup call = if_below (part_total setup) (part_named setup call)

-- an event of the list, with the part of the device that it names
pub record PartEvent : Type 0 where
  pub part : Option ℕ
  pub event : Event

abbrev pub no_event : PartEvent
no_event = record { part = None; event = record { call = flush_call; answer = counted 0; steps = []; faults_before = 0; faults_after = 0 } }

-- The event may come after these: by the definitions of a device over any disk, and over one that tells what it holds where it was honest
-- and its image sound at the opening.
pub record MayFollow {D : Type 0} (view : D → DiskView) (o : Opening D) (events : List Event) (e : PartEvent) : Type 0 where
  pub named : e.part ≡ own_part (setup_at o) e.event.call
  pub follows : Follows (setup_at o) false (state_at o events) (faults_at view o events) e.event
  pub told : WasSafe view o → Follows (setup_at o) true (state_at o events) (faults_at view o events) e.event

-- ---- the sprig of a part

abbrev pub PartFits : {D : Type 0} → Opening D → List Event → (part : ℕ) → SprigState → Type 0
PartFits o events part sprig = SprigStands (setup_at o) part sprig (state_at o events)

-- ---- the hub: the shelf, and how many entries of each kind there are

-- The counts are those of sprigs that fit the state.
pub record IsTallied (setup : Setup) (tally : Tally) (s : State) : Type 0 where
  pub sprigs : List SprigState
  pub fits : FitsParts setup sprigs s
  pub times : AllByRecursion HasTimes sprigs
  pub sum : tally ≡ tally_sum sprigs

-- Its disk is honest still, each image that it may leave survives the state, and each that it might have left since the opening survives a
-- state after some of the events, or after some of the steps of the next one.
pub record IsSafeSince {D : Type 0} (view : D → DiskView) (o : Opening D) (events : List Event) (shelf : ShelfView D) : Type 0 where
  pub honest : IsHonest (view shelf.disk)
  pub safe : ShelfIsSafe view (setup_at o) shelf (state_at o events)
  pub leaves : Leaves (OneOf (Survives (setup_at o)) (states_of (setup_at o) events o.state)) (view o.shelf.disk) (view shelf.disk)

pub record HubFits {D : Type 0} (view : D → DiskView) (o : Opening D) (events : List Event) (shelf : ShelfView D) (tally : Tally) : Type 0 where
  pub geometry : shelf.geometry ≡ o.shelf.geometry
  pub limits : shelf.limits ≡ limits_of o.set
  pub stands : ShelfStands (setup_at o) shelf (state_at o events)
  pub tallied : IsTallied (setup_at o) tally (state_at o events)
  pub faults : (view shelf.disk).faults ≡ faults_at view o events
  pub safe : WasSafe view o → IsSafeSince view o events shelf

-- ---- a step

-- the event is of this call, and of its answer this is said
pub record Is (call : Call) (Answered : Answer → Type 0) (e : Event) : Type 0 where
  pub is_call : e.call ≡ call
  pub answered : Answered e.answer

-- An event of the part, of which this is said, may follow, and hub and sprig fit with it.
pub record StepFits {D : Type 0} (view : D → DiskView) (o : Opening D) (events : List Event) (Said : Event → Type 0) (part : ℕ)
    (shelf : ShelfView D) (tally : Tally) (sprig : SprigState) (e : PartEvent) : Type 0 where
  pub said : Said e.event
  pub names : e.part ≡ Some part
  pub follows : MayFollow view o events e
  pub hub_fits : HubFits view o (events ++ e.event ∷ []) shelf tally
  pub part_fits : PartFits o (events ++ e.event ∷ []) part sprig

-- so does one that names no part
pub record HubStepFits {D : Type 0} (view : D → DiskView) (o : Opening D) (events : List Event) (Said : Event → Type 0) (shelf : ShelfView D) (tally : Tally) (e : PartEvent) : Type 0 where
  pub said : Said e.event
  pub names : e.part ≡ None
  pub follows : MayFollow view o events e
  pub hub_fits : HubFits view o (events ++ e.event ∷ []) shelf tally
