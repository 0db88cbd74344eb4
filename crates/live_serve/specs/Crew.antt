-- Crate live_serve. What a crew over the devices of a node has done.
use Rattle.std.specs.Prelude.{◌≡◌, ℕ, ◌+◌, ◌≤◌, List, []}
use Rattle.node_session.specs.declared.ended.Ended.{Ended}
use Rattle.node_session.specs.Turns.{Times}
use Rattle.node_serve.specs.declared.duty.Duty.TheVariants.{Seat, Worker}
use Rattle.node_serve.specs.Serving.{ServesLinks, links_served, seat_count}
use Rattle.live_node.specs.Lives.{Live}
use Rattle.live_store.specs.declared.store.LiveStore.{LiveStore}
use Rattle.live_store.specs.Pairs.{EachPair}
use Rattle.live_store.specs.Stores.{known_by}
use Rattle.live_crew.specs.Crews.{LiveDuty, IsNewAt}

-- A seat served links one after the other, which ended so, from a store that knew nothing of these devices but what they opened with, at the times of
-- its clock. A worker served none.
abbrev pub HasServed : {R D C : Type 0} → (Serves : LiveStore D R → Times → Ended → LiveStore D R → Times → Type 0) → List (Live D) → Times → LiveDuty R D C → (hows : List Ended)
    → Type 0
HasServed {R} {D} Serves lives times (Seat store clock) hows =
    (first : LiveStore D R) × EachPair IsNewAt lives (known_by first) × ((later : Times) × ServesLinks Serves hows first times store later)
HasServed Serves lives times (Worker chore clock who) hows = hows ≡ []

-- Each of these did. Where there is a seat, they served as many links as the door gave.
pub record HaveServed {R D C : Type 0} (Serves : LiveStore D R → Times → Ended → LiveStore D R → Times → Type 0) (lives : List (Live D)) (times : Times) (given after : ℕ)
    (duties : List (LiveDuty R D C)) : Type 0 where
  pub served : List (List Ended)
  pub each : EachPair (HasServed Serves lives times) duties served
  pub all : 1 ≤ seat_count duties → after ≡ given + links_served served
