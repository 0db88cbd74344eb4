use Rattle.std.proofs.Common.{vec_len}
use Rattle.live_crew.proofs.Coming.{CollectedSoFar}
use Rattle.live_crew.proofs.collecting.collect.Given as goal

-- the passes of the duties behind these have come back
abbrev pub invariant-loop-duty : goal.invariant-loop-duty
invariant-loop-duty g l = CollectedSoFar l.lives l.initial.passes l.passes l.fn.duties.items l.duties.items

abbrev pub decreases-loop-duty : goal.decreases-loop-duty
decreases-loop-duty g l = vec_len l.duties
