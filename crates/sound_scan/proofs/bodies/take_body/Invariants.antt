use Rattle.std.proofs.Common.{◌≡◌, ◌-◌, length}
use Rattle.block_shelf.specs.Disks.{OnlyRead}
use Rattle.sound_scan.specs.Tallied.{AreOnDevice}
use Rattle.sound_scan.proofs.InBodies.{TakesFront}
use Rattle.sound_scan.proofs.bodies.take_body.Given as goal

abbrev pub invariant-loop-record : goal.invariant-loop-record
invariant-loop-record g l = record {
  read : OnlyRead (g.D.Disk.view l.fn.disk) (g.D.Disk.view l.disk);
  size : length l.other ≡ l.geometry.block_size - 4096;
  known : AreOnDevice l.geometry l.tally.past;
  taken : (g.D.Disk.view l.fn.disk).tells → TakesFront l.geometry (g.D.Disk.view l.fn.disk).seen l.block l.body l.record-index l.fn.tally l.tally;
}
