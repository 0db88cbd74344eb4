use Rattle.std.proofs.Common.{◌≡◌, ◌++◌, map}
use Rattle.std.specs.List.{count_by}
use Rattle.std.specs.BTreeMap.{values}
use Rattle.std.specs.Map.Iter.{deref}
use Rattle.device_check.proofs.Counted.{is_kept_put, is_kept_tomb}
use Rattle.device_check.proofs.counts.kinds_of.Given as goal

abbrev pub invariant-loop-kept : goal.invariant-loop-kept
invariant-loop-kept l = record {
  puts : l.puts ≡ count_by is_kept_put (map deref l.yielded);
  tombstones : l.tombstones ≡ count_by is_kept_tomb (map deref l.yielded);
  all : map deref l.yielded ++ l.kept-iterator ≡ values l.latest;
}
