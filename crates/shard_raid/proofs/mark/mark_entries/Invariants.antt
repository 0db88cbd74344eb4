use Rattle.std.proofs.Common.{length}
use Rattle.shard_raid.proofs.Walking.{HasWalked, left_from}
use Rattle.shard_raid.proofs.mark.mark_entries.Given as goal

abbrev pub invariant-loop-next : goal.invariant-loop-next
invariant-loop-next l = HasWalked l.mark l.age l.now l.fn.sprig l.sprig l.next l.marked

abbrev pub decreases-loop-next : goal.decreases-loop-next
decreases-loop-next l = length (left_from l.next l.fn.sprig.entries)
