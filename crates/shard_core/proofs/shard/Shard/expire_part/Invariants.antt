use Rattle.std.proofs.Common.{◌≡◌, ◌≤◌, ◌^◌, length}
use Rattle.model_device.specs.Device.{State}
use Rattle.disk_model.specs.Disk.{IsHonest}
use Rattle.block_shelf.specs.Disks.{IsLater}
use Rattle.block_shelf.specs.Sure.{StaysSure}
use Rattle.block_shelf.specs.Keeping.{KeepsAll}
use Rattle.shard_core.specs.View.{SameSetup, setup_of}
use Rattle.shard_core.specs.Stands.{Agrees}
use Rattle.shard_core.specs.Vacating.{MakesEvents}
use Rattle.shard_core.specs.Keeping.{KeepsThrough}
use Rattle.shard_core.specs.Failing.{NoneFails}
use Rattle.shard_core.specs.Expiring.{AreBare, expired_left}
use Rattle.shard_core.proofs.Expiring.{HaveExpired}
use Rattle.shard_core.proofs.shard.Shard.expire_part.Given as goal

-- the entries up to the last digest that were expired were removed
abbrev pub invariant-loop-digest : goal.invariant-loop-digest
invariant-loop-digest g l = record {
  few : l.removed ≤ 2 ^ 32;
  expires : (s : State) → Agrees l.fn.self s → MakesEvents g.D.Disk.view (HaveExpired (setup_of l.fn.self) l.part l.now s l.removed l.last) l.fn.self s l.self;
  bare : AreBare l.fn.self l.part l.now → (l.self.shelf.disk ≡ l.fn.self.shelf.disk) × KeepsAll l.fn.self.shelf l.self.shelf;
  sure : StaysSure g.D.Disk.view l.fn.self.shelf l.self.shelf;
  fails : NoneFails l.fn.self.shelf l.self.shelf;
  kept : KeepsThrough l.fn.self.set.commit l.fn.self.shelf l.self.shelf;
  later : IsLater (g.D.Disk.view l.fn.self.shelf.disk) (g.D.Disk.view l.self.shelf.disk);
  honest : IsHonest (g.D.Disk.view l.fn.self.shelf.disk) → IsHonest (g.D.Disk.view l.self.shelf.disk);
  shape : SameSetup l.fn.self l.self;
}

abbrev pub decreases-loop-digest : goal.decreases-loop-digest
decreases-loop-digest g l = length (expired_left l.self l.part l.now l.last)
