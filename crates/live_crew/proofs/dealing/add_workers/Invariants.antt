use Rattle.std.proofs.Common.{◌≡◌, length, vec_capacity}
use Rattle.live_crew.specs.Dealing.{AreDealt, IsCrew}
use Rattle.live_crew.proofs.dealing.add_workers.Given as goal

-- those before this one are there
abbrev pub invariant-loop-who : goal.invariant-loop-who
invariant-loop-who g l = record {
  dealt : AreDealt g.C.Clock.times (g.C.Clock.times l.clock) l.lives l.passes l.duties.items;
  crew : IsCrew (length l.lives) l.who 0 l.duties.items;
  room : vec_capacity l.duties ≡ vec_capacity l.initial.duties;
}
