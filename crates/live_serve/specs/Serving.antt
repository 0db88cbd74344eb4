-- Crate live_serve. What links are served over the devices of a node, by seats that each have passes of their own.
use Rattle.std.specs.Prelude.{◌≡◌, ◌≢◌, ℕ, ◌+◌, ◌≤◌, ◌^◌, Bool, List, length, map, Option, MatchOption}
use mathlib.Core.List.{IsPrefix}
use Rattle.model_faults.specs.Counts.{Rose}
use Rattle.disk_model.specs.Disk.{DiskView}
use Rattle.io_traits.specs.Sink.{AllHandedOn}
use Rattle.node_session.specs.declared.ended.Ended.{Ended}
use Rattle.node_session.specs.declared.ended.Ended.TheVariants.{SourceFault, SinkFault}
use Rattle.node_session.specs.Turns.{Times}
use Rattle.node_serve.specs.Serving.{ServesLinks, links_served}
use Rattle.node_serve.specs.Closing as door
use Rattle.node_serve.specs.declared.closed.Closed.{Closed}
use Rattle.live_node.specs.Opening.{Opening}
use Rattle.live_node.specs.Calls.{seen_by}
use Rattle.live_store.specs.Pairs.{EachPair}
use Rattle.live_store.specs.Known.{Known}
use Rattle.live_session.specs.Sessions.{IsServed}
use Rattle.live_crew.specs.Crews.{KnowsNothing}
use Rattle.live_serve.specs.declared.closing.Closing.{Closing}
use Rattle.live_serve.specs.Devices.{Named, opening_for, IsClosedAt}

-- the most bytes that are taken from a link
abbrev pub link_limit : ℕ
link_limit = 2 ^ 40

-- A link is served by one session with the passes of a seat, which ends so: from what the seat knew of the devices to what it then knows. A fault
-- of the link is told only where its count rose, and none of its source is passed over. All that was written is handed on, but where the sink
-- failed; before a fault of the source it was. The link, as the session began, is one that may be given.
pub record ServesLink {D L : Type 0} (view : D → DiskView) (may_give : L → Type 0) (taken : L → List ℕ) (left written handed : L → Option (List ℕ)) (source_faults sink_faults : L → ℕ)
    (olds : List (Known D)) (times : Times) (how : Ended) (news : List (Known D)) (later : Times) : Type 0 where
  pub before : L
  pub after : L
  pub given : ∥ may_give before ∥₁
  pub served : IsServed view link_limit (taken before) (taken after) (left before) (left after) (written before) (written after) olds times news later how
  pub handed_on : how ≢ SinkFault → AllHandedOn (written before) (written after) (handed before) (handed after)
  pub none_waits : how ≡ SourceFault → (at : L) × (source_faults at ≡ source_faults before) × (taken at ≡ taken after) × (written at ≡ written after)
      × AllHandedOn (written before) (written at) (handed before) (handed at)
  pub none_passed_over : how ≢ SourceFault → source_faults after ≡ source_faults before
  pub source_fault : how ≡ SourceFault → Rose (source_faults before) (source_faults after)
  pub sink_fault : how ≡ SinkFault → Rose (sink_faults before) (sink_faults after)

-- A pass of the device is new: it has seen nothing, and made no call.
pub record IsNew {D : Type 0} (o : Opening D) (k : Known D) : Type 0 where
  pub opening : k.opening ≡ o
  pub pass : KnowsNothing k.pass

-- what was seen of a device by the one is the front of what was seen by the other
abbrev pub IsSeenIn : {D : Type 0} → (one other : Known D) → Type 0
IsSeenIn one other = IsPrefix (seen_by one.pass) (seen_by other.pass)

-- what the devices opened with
abbrev pub openings_of : {D : Type 0} → List (Known D) → List (Opening D)
openings_of known = map (λ k. k.opening) known

-- A seat, with new passes of the devices, served links one after the other, which ended so, at the times of its clock. What it saw of each device is
-- the front of the device's list.
pub record SeatServes {D : Type 0} (Serves : List (Known D) → Times → Ended → List (Known D) → Times → Type 0) (known : List (Known D)) (times : Times)
    (last : List (Known D)) (hows : List Ended) : Type 0 where
  pub first : List (Known D)
  pub new : EachPair IsNew (openings_of known) first
  pub later : Times
  pub links : ServesLinks Serves hows first times last later
  pub seen : EachPair IsSeenIn last known

-- So many seats did, each of which knows this of the devices in the end. Where there is a seat, they served as many links as the door gave.
pub record SeatsServe {D : Type 0} (Serves : List (Known D) → Times → Ended → List (Known D) → Times → Type 0) (known : List (Known D)) (times : Times)
    (seats : ℕ) (given after : ℕ) : Type 0 where
  pub lasts : List (List (Known D))
  pub count : length lasts ≡ seats
  pub served : List (List Ended)
  pub each : EachPair (SeatServes Serves known times) lasts served
  pub all : 1 ≤ seats → after ≡ given + links_served served

-- What became of devices that were served: each had its list of events, and behind them its closing flush. Seats served the links of a door until that
-- gave none or failed; or there was no memory for them, and then the door wasn't asked.
pub record ServedBy {D : Type 0} (view : D → DiskView) (Serves : List (Known D) → Times → Ended → List (Known D) → Times → Type 0) (all : List (Named D))
    (times : Times) (seats : ℕ) (faults later given after : ℕ) (ended : Bool) (SameDoor : Type 0) (closings : List (Closing D)) (closed : Option Closed) : Type 0 where
  pub known : List (Known D)
  pub opened : openings_of known ≡ map opening_for all
  pub are_closed : EachPair (IsClosedAt view) known closings
  pub rose : faults ≤ later
  pub done : MatchOption closed SameDoor (λ why. door.IsClosed why faults later ended × SeatsServe Serves known times seats given after)
