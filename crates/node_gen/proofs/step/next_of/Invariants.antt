use Rattle.std.proofs.Common.{◌≡◌, length}
use Rattle.node_gen.specs.Places.{steps_after, lines_from}
use Rattle.node_gen.proofs.step.next_of.Given as goal

abbrev pub invariant-loop-number : goal.invariant-loop-number
invariant-loop-number l = lines_from l.fn.step l.fn.from l.fn.count ≡ lines_from l.step l.from l.fn.count

abbrev pub decreases-loop-number : goal.decreases-loop-number
decreases-loop-number l = length (steps_after l.step)
