use Rattle.std.proofs.Common.{length}
use Rattle.shard_raid.proofs.Walking.{left_from}
use Rattle.shard_raid.proofs.EndWalk.{HasEnded}
use Rattle.shard_raid.proofs.end.end_entries.Given as goal

abbrev pub invariant-loop-next : goal.invariant-loop-next
invariant-loop-next g l = HasEnded g.D.Disk.view l.number l.fn.sprig l.sprig l.fn.shelf l.shelf l.next l.removed l.cleared

abbrev pub decreases-loop-next : goal.decreases-loop-next
decreases-loop-next g l = length (left_from l.next l.fn.sprig.entries)
