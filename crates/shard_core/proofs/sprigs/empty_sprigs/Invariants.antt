use Rattle.std.proofs.Common.{◌≡◌, length}
use Rattle.std.specs.List.{AllByRecursion}
use Rattle.shard_core.specs.Sprigs.{IsEmptySprig}
use Rattle.shard_core.proofs.sprigs.empty_sprigs.Given as goal

abbrev pub invariant-loop-part : goal.invariant-loop-part
invariant-loop-part l = record {
  count : length l.sprigs.items ≡ l._part;
  empty : AllByRecursion IsEmptySprig l.sprigs.items;
}
