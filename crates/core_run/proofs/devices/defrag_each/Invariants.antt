use Rattle.std.proofs.Common.{◌≤◌, ◌*◌, ◌^◌}
use Rattle.node_replies.specs.Through.{Through}
use Rattle.core_run.specs.Turns.{WorkTurn, DefragsOn, plus_both}
use Rattle.core_run.proofs.devices.defrag_each.Given as goal

abbrev pub invariant-loop-shard : goal.invariant-loop-shard
invariant-loop-shard g l = record {
  turns : Through (WorkTurn (DefragsOn g.D.Disk.view) plus_both) l.shard-index (0, 0) l.initial.shards l.shards (l.moved, l.vacated);
  few_moved : l.moved ≤ l.shard-index * 2 ^ 48;
  few_vacated : l.vacated ≤ l.shard-index * 2 ^ 32;
}
