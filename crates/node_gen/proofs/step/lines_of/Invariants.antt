use Rattle.std.proofs.Common.{◌≡◌, ◌+◌, ◌*◌, ◌^◌, ◌≤◌, length}
use Rattle.std.specs.List.{flat_map}
use Rattle.node_gen.specs.Script.{script}
use Rattle.node_gen.specs.Places.{steps_after, step_lines}
use Rattle.node_gen.proofs.step.lines_of.Given as goal

abbrev pub invariant-loop-next : goal.invariant-loop-next
invariant-loop-next l = record {
  rest : l.lines + length (flat_map (λ later. step_lines later 0 l.fn.count) (steps_after l.step)) ≡ length (script l.fn.count);
  below : l.lines + length (steps_after l.step) * 2 ^ 32 ≤ 7 * 2 ^ 32;
}

abbrev pub decreases-loop-next : goal.decreases-loop-next
decreases-loop-next l = length (steps_after l.step)
