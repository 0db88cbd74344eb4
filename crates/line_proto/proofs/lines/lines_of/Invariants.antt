use Rattle.std.proofs.Common.{◌≡◌, ℕ, List, ◌++◌, length}
use Rattle.line_proto.specs.Stream.{KeepsBytes}
use Rattle.line_proto.proofs.lines.lines_of.Given as goal

abbrev pub invariant-loop-line : goal.invariant-loop-line
invariant-loop-line l = record { gone : List ℕ; parts : l.fn.bytes ≡ gone ++ l.rest; stands : KeepsBytes (record { ready = l.ready.items; partial = l.tail.partial; size = l.tail.size }) gone }

abbrev pub decreases-loop-line : goal.decreases-loop-line
decreases-loop-line l = length l.rest
