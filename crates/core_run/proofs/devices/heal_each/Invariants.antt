use Rattle.std.proofs.Common.{◌≤◌, ◌*◌, ◌^◌}
use Rattle.disk_model.specs.declared.disk.DiskFault.{DiskFault}
use Rattle.node_replies.specs.Through.{Through}
use Rattle.core_run.specs.Turns.{WorkTurn, HealsOn, plus_one}
use Rattle.core_run.proofs.devices.heal_each.Given as goal

abbrev pub invariant-loop-shard : goal.invariant-loop-shard
invariant-loop-shard g l = record {
  turns : Through (WorkTurn (HealsOn {E = DiskFault} g.D.Disk.view) plus_one) l.shard-index 0 l.initial.shards l.shards l.healed;
  few : l.healed ≤ l.shard-index * 2 ^ 60;
}
