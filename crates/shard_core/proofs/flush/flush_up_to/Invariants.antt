use Rattle.std.proofs.Common.{◌≡◌, ◌+◌, ◌≤◌, length}
use Rattle.std.specs.Prelude.{◌⊎◌}
use Rattle.model_device.specs.Book.{Setup}
use Rattle.model_device.specs.Device.{State}
use Rattle.disk_model.specs.Disk.{IsHonest}
use Rattle.block_shelf.specs.Disks.{IsLater}
use Rattle.block_shelf.specs.View.{IsShelf, IsSetupOf, SameShape}
use Rattle.block_shelf.specs.Sure.{StaysSure}
use Rattle.block_shelf.specs.Standing.{StandsFor}
use Rattle.shard_core.proofs.FlushLoop.{Went, FillsNone, AreUpTo, EndsWith}
use Rattle.shard_core.specs.Failing.{NoneFails}
use Rattle.shard_core.proofs.Keeping.{FlushesAlone}
use Rattle.shard_core.proofs.flush.flush_up_to.Given as goal

abbrev pub invariant-loop-number : goal.invariant-loop-number
invariant-loop-number g l = record {
  few : (l.count ≡ 0) ⊎ (l.count + length l.shelf.buffers ≤ 65536);
  went : (setup : Setup) (s : State) → IsSetupOf setup l.fn.shelf → StandsFor setup l.fn.shelf s → EndsWith l.last l.fn.shelf
      → Went g.D.Disk.view setup l.last l.count l.fn.shelf s l.shelf;
  ends : EndsWith l.last l.fn.shelf → EndsWith l.last l.shelf;
  most : AreUpTo l.last l.fn.shelf → AreUpTo l.last l.shelf;
  whole : (l.shelf ≡ l.fn.shelf) ⊎ IsShelf g.D.Disk.view l.fn.shelf;
  quiet : FillsNone l.fn.shelf → FillsNone l.shelf;
  sure : StaysSure g.D.Disk.view l.fn.shelf l.shelf;
  fails : NoneFails l.fn.shelf l.shelf;
  kept : FlushesAlone l.fn.shelf l.shelf;
  later : IsLater (g.D.Disk.view l.fn.shelf.disk) (g.D.Disk.view l.shelf.disk);
  honest : IsHonest (g.D.Disk.view l.fn.shelf.disk) → IsHonest (g.D.Disk.view l.shelf.disk);
  shape : SameShape l.fn.shelf l.shelf;
}

abbrev pub decreases-loop-number : goal.decreases-loop-number
decreases-loop-number g l = length l.shelf.buffers
