-- A disk at a later time, call by call.
use Rattle.std.proofs.Common.{refl, ◌∙◌}
use Rattle.std.proofs.Math.Nat.{le_refl, le_trans}
use Rattle.disk_model.specs.Disk.{DiskView, IsDisk}
use Rattle.disk_model.specs.Runs.{leaves_none, advances_on}
use Rattle.block_shelf.specs.View.{ShelfView, SameShape}
use Rattle.block_shelf.specs.Disks.{IsLater}

module _ {D : Type 0} (view : D → DiskView) where
  pub later_none : (disk : D) → IsDisk (view disk) → IsLater (view disk) (view disk)
  later_none disk now = record {
    time = (leaves_none (view disk).may_leave (view disk) now (λ image here. here)).time;
    count = le_refl (view disk).faults;
    size = refl;
  }

  pub later_then : (a b c : D) → IsLater (view a) (view b) → IsLater (view b) (view c) → IsLater (view a) (view c)
  later_then a b c first then = record {
    time = advances_on _ _ _ first.time then.time;
    count = le_trans first.count then.count;
    size = then.size ∙ first.size;
  }

pub shape_then : {D : Type 0} (a b c : ShelfView D) → SameShape a b → SameShape b c → SameShape a c
shape_then a b c first then = record { geometry = then.geometry ∙ first.geometry; limits = then.limits ∙ first.limits; raid = then.raid ∙ first.raid }
