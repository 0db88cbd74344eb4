use Rattle.std.proofs.Common.{◌≡◌, ◌-◌, List, length}
use Rattle.std.specs.List.{range_with_len}
use Rattle.block_format.specs.Layout.{Body}
use Rattle.block_format.specs.Copies.{HasBodies}
use Rattle.block_shelf.specs.Disks.{OnlyRead}
use Rattle.cold_scan.specs.Found.{AreGates}
use Rattle.sound_scan.specs.Tallied.{AreOnDevice}
use Rattle.sound_scan.proofs.Blocks.{Reaches}
use Rattle.sound_scan.proofs.bodies.take_blocks.Given as goal

abbrev pub invariant-loop-block : goal.invariant-loop-block
invariant-loop-block g l = record {
  read : OnlyRead (g.D.Disk.view l.fn.disk) (g.D.Disk.view l.disk);
  body : length l.body ≡ l.geometry.block_size - 4096;
  size : length l.other ≡ l.geometry.block_size - 4096;
  known : AreOnDevice l.geometry l.tally.past;
  reaches : (g.D.Disk.view l.fn.disk).tells → AreGates l.geometry (g.D.Disk.view l.fn.disk).seen l.gates → (bodies : List Body)
      → HasBodies l.geometry (g.D.Disk.view l.fn.disk).seen (range_with_len 0 l.geometry.blocks) bodies → Reaches l.geometry (g.D.Disk.view l.fn.disk).seen bodies l.block l.tally;
}
