use Rattle.std.proofs.Common.{ℕ}
use Rattle.node_replies.specs.Through.{Through}
use Rattle.core_run.specs.Turns.{TendTurn}
use Rattle.core_run.proofs.devices.tend_each.Given as goal

abbrev pub invariant-loop-shard : goal.invariant-loop-shard
invariant-loop-shard g l = Through {A = ℕ} (TendTurn g.D.Disk.view) l.shard-index 0 l.initial.shards l.shards 0
