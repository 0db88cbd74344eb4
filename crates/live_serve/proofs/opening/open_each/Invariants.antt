use Rattle.std.proofs.Common.{◌≤◌, ◌+◌, vec_len, vec_capacity}
use Rattle.live_serve.specs.Devices.{named_each}
use Rattle.live_serve.proofs.Entering.{OpenedSoFar}
use Rattle.live_serve.proofs.opening.open_each.Given as goal

abbrev pub invariant-loop-shard : goal.invariant-loop-shard
invariant-loop-shard g l = record {
  so_far : OpenedSoFar (named_each l.fn.shards.items l.fn.states.items) l.lives.items l.passes.items l.shards.items l.states.items;
  lives : vec_len l.lives + vec_len l.shards ≤ vec_capacity l.lives;
  passes : vec_len l.passes + vec_len l.shards ≤ vec_capacity l.passes;
}

abbrev pub decreases-loop-shard : goal.decreases-loop-shard
decreases-loop-shard g l = vec_len l.shards
