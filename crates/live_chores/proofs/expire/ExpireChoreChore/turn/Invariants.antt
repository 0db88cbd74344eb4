use Rattle.live_chores.specs.Expires.{expirer, looks_at}
use Rattle.live_chores.proofs.Looking.{SoFar}
use Rattle.live_chores.proofs.expire.ExpireChoreChore.turn.Given as goal

abbrev pub invariant-loop-look : goal.invariant-loop-look
invariant-loop-look g l = SoFar g.D.Disk.view (expirer l.fn.self) (looks_at l.fn.self) l.now (expirer l.self) (looks_at l.self) l._look
