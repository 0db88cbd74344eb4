use Rattle.std.proofs.Common.{◌≡◌, ◌≤◌}
use Rattle.disk_model.specs.Disk.{IsHonest}
use Rattle.disk_model.specs.Runs.{Leaves}
use Rattle.shard_core.specs.Finding.{AllZeros, HasHeaderOf}
use Rattle.shard_core.proofs.format.close_gates.Given as goal

abbrev pub invariant-loop-block : goal.invariant-loop-block
invariant-loop-block g l = record {
  zeros : (g.D.Disk.view l.fn.disk).tells → AllZeros l.geometry (g.D.Disk.view l.disk).seen l.block;
  told : (g.D.Disk.view l.fn.disk).tells → (g.D.Disk.view l.disk).tells;
  honest : IsHonest (g.D.Disk.view l.fn.disk) → IsHonest (g.D.Disk.view l.disk);
  header : Leaves (HasHeaderOf (g.D.Disk.view l.fn.disk).may_leave) (g.D.Disk.view l.fn.disk) (g.D.Disk.view l.disk);
  later : (g.D.Disk.view l.fn.disk).faults ≤ (g.D.Disk.view l.disk).faults;
  size : (g.D.Disk.view l.disk).extent ≡ (g.D.Disk.view l.fn.disk).extent;
}
