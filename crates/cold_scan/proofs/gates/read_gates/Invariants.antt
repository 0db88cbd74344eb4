use Rattle.std.proofs.Common.{◌≡◌, length}
use Rattle.std.specs.List.{AllByRecursion}
use Rattle.block_shelf.specs.Disks.{OnlyRead}
use Rattle.cold_scan.specs.Found.{IsSure, AreGates}
use Rattle.cold_scan.proofs.gates.read_gates.Given as goal

abbrev pub invariant-loop-block : goal.invariant-loop-block
invariant-loop-block g l = record {
  read : OnlyRead (g.D.Disk.view l.fn.disk) (g.D.Disk.view l.disk);
  count : length l.gates.items ≡ l.block;
  sure : AllByRecursion IsSure l.gates.items;
  gates : (g.D.Disk.view l.fn.disk).tells → AreGates l.geometry (g.D.Disk.view l.fn.disk).seen l.gates.items;
}
