-- Crate live_node. How the events of a call of several stand in the list.
use Rattle.std.specs.Prelude.{List, [], ◌∷◌, ◌++◌, map}
use Rattle.std.specs.List.{AllByRecursion}
use mathlib.Core.List.{IsPrefix}
use Rattle.disk_model.specs.Disk.{DiskView}
use Rattle.model_device.specs.Events.{Event}
use Rattle.law_refused.specs.Refusals.{RefusedLeaves}
use Rattle.live_node.specs.Opening.{Opening, setup_at, state_at}
use Rattle.live_node.specs.Calls.{LiveView, seen_by, IsRight}

-- an event, with those before it in the list
pub record Placed : Type 0 where
  pub past : List Event
  pub event : Event

abbrev pub placed_events : List Placed → List Event
placed_events list = map (λ (p : Placed). p.event) list

-- The list goes on from one beginning to another, with these events in it, in this order.
abbrev pub AreInTurn : (from : List Event) → List Placed → (to : List Event) → Type 0
AreInTurn from [] to = IsPrefix from to
AreInTurn from (p ∷ ps) to = IsPrefix from p.past × AreInTurn (p.past ++ p.event ∷ []) ps to

-- Each of these that was refused leaves the state in which it comes, but for what its kind and its cause name (`Leaves`).
abbrev pub EachLeft : {D : Type 0} → Opening D → List Placed → Type 0
EachLeft o list = AllByRecursion (λ (p : Placed). RefusedLeaves (setup_at o) (state_at o p.past) p.event) list

-- A call of these events is right for its pass, and they stand in the list that it has then seen, behind what it had seen, in this order. What those did
-- that weren't refused stands.
pub record Shows {D : Type 0} (view : D → DiskView) (o : Opening D) (before after : LiveView D) (list : List Placed) : Type 0 where
  pub right : IsRight view o before after (placed_events list)
  pub turns : AreInTurn (seen_by before) list (seen_by after)
  pub left : EachLeft o list
