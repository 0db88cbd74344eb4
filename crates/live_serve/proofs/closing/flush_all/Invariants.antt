use Rattle.std.proofs.Common.{◌≤◌, ◌+◌, vec_len, vec_capacity}
use Rattle.live_serve.proofs.Going.{FlushedSoFar}
use Rattle.live_serve.proofs.closing.flush_all.Given as goal

abbrev pub invariant-loop-shard : goal.invariant-loop-shard
invariant-loop-shard g l = record {
  room : vec_len l.closings + vec_len l.shards ≤ vec_capacity l.closings;
  so_far : FlushedSoFar g.D.Disk.view l.fn.shards.items l.closings.items l.shards.items;
}

abbrev pub decreases-loop-shard : goal.decreases-loop-shard
decreases-loop-shard g l = vec_len l.shards
