-- Lists that a pass has seen in a turn.
use Rattle.std.proofs.Common.{List}
use mathlib.Core.List.{IsPrefix}
use Rattle.model_device.specs.Events.{Event}
use Rattle.live_node.specs.Calls.{LiveView, seen_by}
use Rattle.live_node.proofs.Right.{prefix_on}
use Rattle.live_chores.specs.Turns.{IsFresh}

module _ {D : Type 0} (u v w : LiveView D) where
  -- the list at the end of a turn's part
  pub fresh_end : IsPrefix (seen_by u) (seen_by v) → IsPrefix (seen_by v) (seen_by w) → IsFresh u w (seen_by v)
  fresh_end first then = record { since = first; seen = then }

  -- what is seen in the beginning of a turn is seen in the turn
  pub fresh_more : (events : List Event) → IsFresh u v events → IsPrefix (seen_by v) (seen_by w) → IsFresh u w events
  fresh_more events fresh more = record { since = fresh.since; seen = prefix_on events (seen_by v) (seen_by w) fresh.seen more }
