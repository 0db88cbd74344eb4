-- Crate live_chores. Which states of a device a turn of a chore has seen.
use Rattle.std.specs.Prelude.{List}
use mathlib.Core.List.{IsPrefix}
use Rattle.model_device.specs.Device.{State}
use Rattle.model_device.specs.Events.{Event}
use Rattle.live_node.specs.Opening.{Opening, state_at}
use Rattle.live_node.specs.Calls.{LiveView, seen_by}

-- The list begins with all that the pass had seen before the turn, and the pass has seen it all behind the turn.
pub record IsFresh {D : Type 0} (before after : LiveView D) (events : List Event) : Type 0 where
  pub since : IsPrefix (seen_by before) events
  pub seen : IsPrefix events (seen_by after)

-- this holds of the state at the end of such a list
abbrev pub HoldsFresh : {D : Type 0} → Opening D → (before after : LiveView D) → (State → Type 0) → Type 0
HoldsFresh o before after Holds = (events : List Event) × IsFresh before after events × Holds (state_at o events)
