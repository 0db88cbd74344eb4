use Rattle.std.proofs.Common.{vec_len}
use Rattle.live_crew.proofs.Coming.{JoinedSoFar}
use Rattle.live_crew.proofs.collecting.join_each.Given as goal

-- those behind these are joined
abbrev pub invariant-loop-pass : goal.invariant-loop-pass
invariant-loop-pass g l = JoinedSoFar l.lives l.fn.own.items l.initial.passes l.passes l.own.items

abbrev pub decreases-loop-pass : goal.decreases-loop-pass
decreases-loop-pass g l = vec_len l.own
