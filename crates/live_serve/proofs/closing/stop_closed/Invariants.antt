use Rattle.std.proofs.Common.{◌≡◌, ◌≤◌, ◌+◌, ◌++◌, map, vec_len, vec_capacity}
use Rattle.live_serve.proofs.closing.stop_closed.Given as goal

abbrev pub invariant-loop-closing : goal.invariant-loop-closing
invariant-loop-closing g l = record {
  room : vec_len l.disks + vec_len l.closings ≤ vec_capacity l.disks;
  all : l.disks.items ++ map (λ c. c.shard.shelf.disk) l.closings.items ≡ map (λ c. c.shard.shelf.disk) l.fn.closings.items;
}

abbrev pub decreases-loop-closing : goal.decreases-loop-closing
decreases-loop-closing g l = vec_len l.closings
