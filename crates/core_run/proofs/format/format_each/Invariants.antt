use Rattle.std.proofs.Common.{length}
use Rattle.core_run.specs.Formatting.{shaped}
use Rattle.core_run.proofs.Formats.{MadeUpTo}
use Rattle.core_run.proofs.format.format_each.Given as goal

abbrev pub invariant-loop-index : goal.invariant-loop-index
invariant-loop-index g l = MadeUpTo g.D.Disk.view (shaped l.block_size l.blocks (length l.fn.disks)) l.fn.disks l.disks l.index
