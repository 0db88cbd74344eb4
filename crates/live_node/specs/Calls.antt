-- Crate live_node. What a call shows for its pass.
use Rattle.std.specs.Prelude.{◌≡◌, true, false, List, [], ◌∷◌, ◌++◌}
use mathlib.Core.List.{IsPrefix}
use Rattle.disk_model.specs.Disk.{DiskView}
use Rattle.model_device.specs.Events.{Event, Call, Answer}
use Rattle.model_device.specs.Legal.{IsLegal}
use Rattle.law_refused.specs.Refusals.{RefusedLeaves}
use Rattle.turn_table.specs.declared.noted.Noted.{Noted}
use Rattle.turn_table.specs.declared.rule.View.{View}
use Rattle.turn_table.specs.Rule.{events, events_by}
use Rattle.live_node.specs.Opening.{Opening, setup_at, state_at, WasSafe}
use Rattle.live_node.specs.Fits.{PartEvent, Is}
use Rattle.live_node.specs.Notes.{events_in}

-- what a pass of a device knows
abbrev pub LiveView : Type 0 → Type 0
LiveView D = View (Noted PartEvent) (Opening D)

-- the device's events that a pass has seen, and those of its own calls
abbrev pub seen_by : {D : Type 0} → LiveView D → List Event
seen_by v = events_in (events v.seen)

abbrev pub own_of : {D : Type 0} → LiveView D → List Event
own_of v = events_in v.mine

-- A chain of events from the opening, each with the answer that it gave; over a disk that was honest and whose image was sound each as
-- over one that tells what it holds.
pub record IsLegalFrom {D : Type 0} (view : D → DiskView) (o : Opening D) (list : List Event) : Type 0 where
  pub any : IsLegal (setup_at o) false o.state (view o.shelf.disk).faults list
  pub told : WasSafe view o → IsLegal (setup_at o) true o.state (view o.shelf.disk).faults list

-- A call that made these events is right for its pass: what it has seen goes on, its own events are those before and the call's, the list is
-- legal, and the pass's own events in it are exactly its own, in the order of its calls.
pub record IsRight {D : Type 0} (view : D → DiskView) (o : Opening D) (before after : LiveView D) (calls : List Event) : Type 0 where
  pub seen : IsPrefix before.seen after.seen
  pub mine : own_of after ≡ own_of before ++ calls
  pub legal : IsLegalFrom view o (seen_by after)
  pub own : events_by after.first after.seen ≡ after.mine

-- A call of one event, of which this is said. It is the last of the list that the pass has then seen; those before it go on from what it had
-- seen. Where it was refused the state after it is the one before it, but for what its kind and its cause name (`Leaves`).
pub record AnswersBy {D : Type 0} (view : D → DiskView) (o : Opening D) (before after : LiveView D) (Said : Event → Type 0) : Type 0 where
  pub past : List Event
  pub event : Event
  pub said : Said event
  pub begins : IsPrefix (seen_by before) past
  pub last : seen_by after ≡ past ++ event ∷ []
  pub left : RefusedLeaves (setup_at o) (state_at o past) event
  pub right : IsRight view o before after (event ∷ [])

-- it answers what the event answers
abbrev pub AnswersOnce : {D : Type 0} → (view : D → DiskView) → Opening D → (before after : LiveView D) → Call → Answer → Type 0
AnswersOnce view o before after call answer = AnswersBy view o before after (Is call (λ a. a ≡ answer))
