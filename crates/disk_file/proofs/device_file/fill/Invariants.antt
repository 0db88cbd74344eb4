use Rattle.std.proofs.Common.{◌-◌, ◌≤◌}
use Rattle.disk_file.specs.Devices.{AreZeros}
use Rattle.disk_file.proofs.Filling.{FilledTo}
use Rattle.disk_file.proofs.device_file.fill.Given as goal

abbrev pub invariant-loop-done : goal.invariant-loop-done
invariant-loop-done g l = record {
  zeros : AreZeros l.zeros.items;
  within : l.done ≤ l.len;
  so_far : FilledTo l.len l.done (g.F.OpenedFile.past l.fn.file) (g.F.OpenedFile.past l.file);
}

abbrev pub decreases-loop-done : goal.decreases-loop-done
decreases-loop-done g l = l.len - l.done
