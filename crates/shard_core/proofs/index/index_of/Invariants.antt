use Rattle.std.proofs.Common.{◌≡◌, List, ◌++◌, length}
use Rattle.model_device.specs.Steps.{part_total}
use Rattle.block_format.specs.Copies.{Copy}
use Rattle.cold_scan.specs.Starting.{own_copies}
use Rattle.cold_scan.specs.Found.{HasKept}
use Rattle.shard_core.specs.View.{setup_for}
use Rattle.shard_core.proofs.Indexed.{HaveThese}
use Rattle.shard_core.proofs.index.index_of.Given as goal

abbrev pub invariant-loop-kept : goal.invariant-loop-kept
invariant-loop-kept l = record {
  can : (goal.iterator-loop-kept).can_next l.kept-iterator;
  ends : (goal.iterator-loop-kept).is_finite l.kept-iterator;
  parts : length l.sprigs.items ≡ part_total (setup_for l.geometry l.set);
  yields : l.yielded ++ l.kept-iterator ≡ l.fn.latest.entries;
  have : (copies : List Copy) → HasKept l.geometry copies l.fn.latest → HaveThese (setup_for l.geometry l.set) (own_copies l.geometry.device l.geometry.devices copies) l.yielded l.sprigs.items;
}
