-- Crate block_shelf. What calls make of the gates of which it is known whether they are set.
use Rattle.std.specs.Prelude.{◌≤◌, ◌⊎◌}
use Rattle.model_faults.specs.Counts.{Rose}
use Rattle.disk_model.specs.Disk.{DiskView}
use Rattle.block_shelf.specs.View.{ShelfView, AreSure}

-- The disk's count of faults doesn't fall; and where no gate was unsure none is, or that count rose.
pub record StaysSure {D : Type 0} (view : D → DiskView) (old new : ShelfView D) : Type 0 where
  pub count : (view old.disk).faults ≤ (view new.disk).faults
  pub sure : AreSure old.gates → AreSure new.gates ⊎ Rose (view old.disk).faults (view new.disk).faults
