use Rattle.std.proofs.Common.{◌≡◌, ◌-◌, ◌*◌, ◌≤◌, length}
use Rattle.block_shelf.specs.Disks.{OnlyRead}
use Rattle.cold_scan.proofs.Scans.{FoundIn}
use Rattle.cold_scan.proofs.bodies.take_blocks.Given as goal

abbrev pub invariant-loop-block : goal.invariant-loop-block
invariant-loop-block g l = record {
  read : OnlyRead (g.D.Disk.view l.fn.disk) (g.D.Disk.view l.disk);
  size : length l.body ≡ l.geometry.block_size - 4096;
  few : l.taken.copies ≤ 4294967295 * l.block;
  found : FoundIn l.geometry (g.D.Disk.view l.fn.disk).tells (g.D.Disk.view l.fn.disk).seen l.gates l.block l.taken;
}
