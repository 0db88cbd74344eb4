use Rattle.std.proofs.Common.{◌≤◌, ◌*◌, ◌^◌}
use Rattle.node_replies.specs.Through.{Through}
use Rattle.core_run.specs.Turns.{WorkTurn, RaidsOn, plus_both}
use Rattle.core_run.proofs.raid.raid_each.Given as goal

abbrev pub invariant-loop-shard : goal.invariant-loop-shard
invariant-loop-shard g l = record {
  turns : Through (WorkTurn (RaidsOn g.D.Disk.view l.now) plus_both) l.shard-index (0, 0) l.initial.shards l.shards (l.removed, l.cleared);
  few_removed : l.removed ≤ l.shard-index * 2 ^ 52;
  few_cleared : l.cleared ≤ l.shard-index * 2 ^ 52;
}
