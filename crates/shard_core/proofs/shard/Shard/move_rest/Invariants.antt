use Rattle.std.proofs.Common.{◌≡◌, false}
use Rattle.model_device.specs.Book.{use_of}
use Rattle.model_device.specs.Device.{State}
use Rattle.disk_model.specs.Disk.{IsHonest}
use Rattle.block_shelf.specs.Disks.{IsLater}
use Rattle.block_shelf.specs.Sure.{StaysSure}
use Rattle.defrag_pass.specs.Choosing.{HasFew}
use Rattle.shard_core.specs.View.{SameSetup, setup_of}
use Rattle.shard_core.specs.Stands.{Agrees}
use Rattle.shard_core.specs.Keeping.{KeepsThrough}
use Rattle.shard_core.specs.Failing.{NoneFails}
use Rattle.shard_core.specs.Vacating.{MakesEvents, HaveMoved}
use Rattle.shard_core.proofs.shard.Shard.move_rest.Given as goal

-- so many were moved, and what lies in the block still is of this part or a later one
abbrev pub invariant-loop-moved : goal.invariant-loop-moved
invariant-loop-moved g l = record {
  left : (s : State) → Agrees l.fn.self s → l.left ≡ use_of s.book l.fn.block;
  moves : (s : State) → Agrees l.fn.self s → HasFew l.fn.block s.book → MakesEvents g.D.Disk.view (HaveMoved (setup_of l.fn.self) l.fn.block s l.moved l.part) l.fn.self s l.self;
  sure : StaysSure g.D.Disk.view l.fn.self.shelf l.self.shelf;
  fails : NoneFails l.fn.self.shelf l.self.shelf;
  kept : KeepsThrough false l.fn.self.shelf l.self.shelf;
  later : IsLater (g.D.Disk.view l.fn.self.shelf.disk) (g.D.Disk.view l.self.shelf.disk);
  honest : IsHonest (g.D.Disk.view l.fn.self.shelf.disk) → IsHonest (g.D.Disk.view l.self.shelf.disk);
  shape : SameSetup l.fn.self l.self;
  tells : (g.D.Disk.view l.fn.self.shelf.disk).tells → (g.D.Disk.view l.self.shelf.disk).tells;
}
