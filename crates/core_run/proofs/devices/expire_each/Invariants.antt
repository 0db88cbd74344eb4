use Rattle.std.proofs.Common.{◌≤◌, ◌*◌, ◌^◌}
use Rattle.node_replies.specs.Through.{Through}
use Rattle.core_run.specs.Turns.{WorkTurn, ExpiresOn, plus_one}
use Rattle.core_run.proofs.devices.expire_each.Given as goal

abbrev pub invariant-loop-shard : goal.invariant-loop-shard
invariant-loop-shard g l = record {
  turns : Through (WorkTurn (ExpiresOn g.D.Disk.view l.now) plus_one) l.shard-index 0 l.initial.shards l.shards l.removed;
  few : l.removed ≤ l.shard-index * 2 ^ 52;
}
