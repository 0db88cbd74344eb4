use Rattle.std.proofs.Common.{false, ◌<◌, ◌^◌, ℕ}
use Rattle.disk_model.specs.Disk.{DiskView}
use Rattle.model_device.specs.Device.{State}
use Rattle.disk_model.specs.Disk.{IsHonest}
use Rattle.block_shelf.specs.Disks.{IsLater}
use Rattle.block_shelf.specs.Sure.{StaysSure}
use Rattle.defrag_pass.specs.Choosing.{HasFew}
use Rattle.shard_core.specs.View.{ShardView, SameSetup, setup_of}
use Rattle.shard_core.specs.Stands.{Agrees}
use Rattle.shard_core.specs.Keeping.{KeepsThrough}
use Rattle.shard_core.specs.Failing.{NoneFails}
use Rattle.shard_core.specs.Vacating.{MakesEvents, HaveMoved}
use Rattle.shard_core.proofs.shard.Shard.move_listed.Given as goal

-- so many of the digests before this one were moved
abbrev pub Holds : {D : Type 0} → (view : D → DiskView) → (block : ℕ) → (old now : ShardView D) → (moved : ℕ) → Type 0
Holds view block old now moved = record {
  few : moved < 2 ^ 16;
  moves : (s : State) → Agrees old s → HasFew block s.book → MakesEvents view (HaveMoved (setup_of old) block s moved 0) old s now;
  sure : StaysSure view old.shelf now.shelf;
  fails : NoneFails old.shelf now.shelf;
  kept : KeepsThrough false old.shelf now.shelf;
  later : IsLater (view old.shelf.disk) (view now.shelf.disk);
  honest : IsHonest (view old.shelf.disk) → IsHonest (view now.shelf.disk);
  shape : SameSetup old now;
  tells : (view old.shelf.disk).tells → (view now.shelf.disk).tells;
}

abbrev pub invariant-loop-at : goal.invariant-loop-at
invariant-loop-at g l = Holds g.D.Disk.view l.fn.block l.fn.self l.self l.moved
