use Rattle.std.proofs.Common.{◌≤◌}
use Rattle.node_serve.proofs.desk.ask_on.Given as goal

abbrev pub invariant-loop : goal.invariant-loop
invariant-loop g l = g.G.Door.faults l.fn.door ≤ g.G.Door.faults l.door
