use Rattle.std.proofs.Common.{None}
use Rattle.disk_model.specs.declared.disk.DiskFault.{DiskFault}
use Rattle.node_replies.specs.Through.{Through}
use Rattle.core_run.specs.Turns.{CloseTurn}
use Rattle.core_run.proofs.devices.close_each.Given as goal

abbrev pub invariant-loop-device : goal.invariant-loop-device
invariant-loop-device g l = Through (CloseTurn DiskFault g.D.Disk.view) l.device (0, None) l.initial.shards l.shards (l.device, l.failed)
