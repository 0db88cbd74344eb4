-- What the events of a legal list leave that are refused.
use Rattle.std.proofs.Common.{Bool, List, [], ◌∷◌}
use Rattle.std.specs.Prelude.{Option, Some, None, MatchOption, slice_get}
use Rattle.model_device.specs.Legal.{Follows}
use Rattle.law_refused.specs.Refusals.{RefusedLeaves}
use Rattle.law_refused.proofs.Leaving.{refused_leaves}
use Rattle.model_node.specs.Commands.{Node, NodeEvent, Slot, IsLegalOn, at_place, slot_after}
use Rattle.core_run.specs.Leaving.{EachLeavesOn}

pub each_left : (told : Bool) (node : Node) (events : List NodeEvent) → IsLegalOn told node events → EachLeavesOn node events
each_left told node [] legal = tt
each_left told node (e ∷ events) legal = (by (slice_get node e.device) legal.0, each_left told (at_place e.device (slot_after e.event) node) events legal.1)
  where
    by : (o : Option Slot) → MatchOption o ⊥ (λ slot. Follows slot.setup told slot.state slot.faults e.event) → MatchOption o ⊥ (λ slot. RefusedLeaves slot.setup slot.state e.event)
    by None follows = absurd follows
    by (Some slot) follows = refused_leaves slot.setup told slot.state e.event follows.allowed
