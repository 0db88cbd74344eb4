use Rattle.std.proofs.Common.{take}
use Rattle.live_store.specs.Pairs.{EachPair}
use Rattle.live_serve.specs.Naming.{IsNamedBy}
use Rattle.live_serve.proofs.naming.name_each.Given as goal

abbrev pub invariant-loop-shard : goal.invariant-loop-shard
invariant-loop-shard g l = EachPair (IsNamedBy g.D.Disk.view l.known.value) (take l.shard-index l.shards) l.states.items
