use Rattle.std.proofs.Common.{◌≡◌, ◌≤◌, ◌+◌, vec_len, vec_capacity}
use Rattle.std.specs.List.{All}
use Rattle.live_node.specs.Lives.{IsPassAt}
use Rattle.live_store.specs.Pairs.{EachPair}
use Rattle.live_store.specs.Known.{known_each}
use Rattle.live_crew.specs.Crews.{HasAllNumbers}
use Rattle.live_serve.proofs.Going.{OutSoFar}
use Rattle.live_serve.proofs.closing.take_out.Given as goal

abbrev pub invariant-loop-live : goal.invariant-loop-live
invariant-loop-live g l = record {
  passes : EachPair IsPassAt l.lives.items l.passes.items;
  all : All HasAllNumbers l.passes.items;
  room : vec_len l.shards + vec_len l.lives ≤ vec_capacity l.shards;
  same : vec_capacity l.shards ≡ vec_capacity l.fn.shards;
  so_far : OutSoFar g.D.Disk.view (known_each l.fn.lives.items l.fn.passes.items) l.fn.shards.items l.shards.items l.lives.items l.passes.items;
}

abbrev pub decreases-loop-live : goal.decreases-loop-live
decreases-loop-live g l = vec_len l.lives
