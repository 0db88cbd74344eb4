use Rattle.std.proofs.Common.{◌≡◌, ◌+◌, ◌≤◌, ◌++◌}
use Rattle.std.specs.Prelude.{reverse, vec_len, vec_capacity}
use Rattle.core_run.specs.Views.{disks_served}
use Rattle.core_run.proofs.starts.stop_each.Given as goal

abbrev pub invariant-loop-shard : goal.invariant-loop-shard
invariant-loop-shard g l = record {
  disks : l.disks.items ++ reverse (disks_served l.shards.items) ≡ l.initial.disks.items ++ reverse (disks_served l.initial.shards.items);
  room : vec_len l.disks + vec_len l.shards ≤ vec_capacity l.disks;
  shards_room : vec_capacity l.shards ≡ vec_capacity l.initial.shards;
  disks_room : vec_capacity l.disks ≡ vec_capacity l.initial.disks;
}

abbrev pub decreases-loop-shard : goal.decreases-loop-shard
decreases-loop-shard g l = vec_len l.shards
