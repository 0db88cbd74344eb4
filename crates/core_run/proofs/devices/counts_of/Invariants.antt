use Rattle.std.proofs.Common.{◌≡◌, ◌*◌, take}
use Rattle.model_node.specs.Commands.{Node, node_counts}
use Rattle.core_run.specs.Standing.{Each, StandsOn}
use Rattle.node_replies.proofs.Counting.{wrapped_counts, AreUnder, most_of_one}
use Rattle.core_run.proofs.devices.counts_of.Given as goal

-- the numbers of the devices so far are together, where a sum goes around at 2^64; and they are few
abbrev pub invariant-loop-shard : goal.invariant-loop-shard
invariant-loop-shard g l = (node : Node) → Each (StandsOn g.D.Disk.view) l.shards node
    → (l.sum ≡ wrapped_counts (take l.shard-index node)) × AreUnder (l.shard-index * most_of_one) (node_counts (take l.shard-index node))
