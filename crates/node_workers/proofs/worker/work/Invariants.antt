use Rattle.node_workers.proofs.Turning.{HasTaken}
use Rattle.node_workers.proofs.worker.work.Given as goal

abbrev pub invariant-loop : goal.invariant-loop
invariant-loop g l = HasTaken g.T.Chore.turns (g.N.Nudge.tells l.fn.nudge l.fn.who) l.count l.fn.chore (g.C.Clock.times l.fn.clock) l.chore (g.C.Clock.times l.clock)
