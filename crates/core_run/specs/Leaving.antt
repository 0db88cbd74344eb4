-- Crate core_run. What the events of a node's devices leave that are refused.
use Rattle.std.specs.Prelude.{List, [], ◌∷◌, MatchOption, slice_get}
use Rattle.law_refused.specs.Refusals.{RefusedLeaves}
use Rattle.model_node.specs.Commands.{Node, NodeEvent, at_place, slot_after}

-- Each event, where it was refused, leaves the state in which it comes on its device, but for what its kind and its cause name (`Leaves`); no other device changes by it.
abbrev pub EachLeavesOn : Node → List NodeEvent → Type 0
EachLeavesOn node [] = Unit {0}
EachLeavesOn node (e ∷ events) =
    MatchOption (slice_get node e.device) ⊥ (λ slot. RefusedLeaves slot.setup slot.state e.event)
    × EachLeavesOn (at_place e.device (slot_after e.event) node) events
