use Rattle.std.proofs.Common.{length}
use Rattle.core_run.specs.Formatting.{shaped}
use Rattle.core_run.proofs.Formats.{FitUpTo}
use Rattle.core_run.proofs.format.refuse_short.Given as goal

abbrev pub invariant-loop-index : goal.invariant-loop-index
invariant-loop-index g l = FitUpTo g.D.Disk.view (shaped l.block_size l.blocks (length l.disks)) l.disks l.index
