use Rattle.std.proofs.Common.{◌≡◌, ◌*◌, length, vec_capacity}
use Rattle.live_crew.specs.Dealing.{AreDealt, IsCrew}
use Rattle.live_crew.proofs.dealing.add_seats.Given as goal

-- those before this one are there
abbrev pub invariant-loop-seat : goal.invariant-loop-seat
invariant-loop-seat g l = record {
  dealt : AreDealt g.C.Clock.times (g.C.Clock.times l.clock) l.lives l.passes l.duties.items;
  crew : IsCrew (length l.lives) (4 * length l.lives) l.seat l.duties.items;
  room : vec_capacity l.duties ≡ vec_capacity l.initial.duties;
}
