use Rattle.shard_core.specs.Vacating.{NoneLies}
use Rattle.shard_core.proofs.shard.Shard.next_in.Given as goal

-- no record of the parts before this one lies in the block
abbrev pub invariant-loop-part : goal.invariant-loop-part
invariant-loop-part g l = NoneLies l.fn.self l.block l.from l.part
