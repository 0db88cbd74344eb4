use Rattle.std.proofs.Common.{◌≡◌, take}
use Rattle.shard_core.specs.Numbers.{tally_sum}
use Rattle.shard_core.proofs.counts.tally_sum.Given as goal

-- the tallies of the sprigs before this one are together
abbrev pub invariant-loop-sprig : goal.invariant-loop-sprig
invariant-loop-sprig l = l.sum ≡ tally_sum (take l.sprig-index l.sprigs)
