-- Crate law_steps. For which states a sprig and the shelf stand.
use Rattle.std.specs.Prelude.{ℕ}
use Rattle.disk_model.specs.Disk.{DiskView}
use Rattle.model_device.specs.Book.{Setup}
use Rattle.model_device.specs.Device.{State}
use Rattle.sprig_tree.specs.State.{SprigState}
use Rattle.law_sprig.specs.Fits.{FitsPart}
use Rattle.block_shelf.specs.View.{ShelfView}
use Rattle.block_shelf.specs.Standing.{StandsFor, BooksStand, IsPlaced, ImagesHold}
use Rattle.law_steps.specs.Sprigs.{HasTimes}

-- ---- one sprig, and the shelf

-- The sprig has what the state says of its part, and of no other.
pub record SprigStands (setup : Setup) (part : ℕ) (sprig : SprigState) (s : State) : Type 0 where
  pub fits : FitsPart setup part sprig s
  pub times : HasTimes sprig

-- The shelf has the rest of the state, and names no entry.
pub record ShelfStands {D : Type 0} (setup : Setup) (shelf : ShelfView D) (s : State) : Type 0 where
  pub stands : StandsFor setup shelf s
  pub queue : BooksStand setup shelf s

-- both of one state
pub record StandTogether {D : Type 0} (setup : Setup) (part : ℕ) (sprig : SprigState) (shelf : ShelfView D) (s : State) : Type 0 where
  pub sprig_stands : SprigStands setup part sprig s
  pub shelf_stands : ShelfStands setup shelf s

-- What stands over an honest disk whose image was sound besides: each live copy is where the state says, and the images that a crash may
-- leave are held, also where a gate is unsure. It names the shelf alone.
pub record ShelfIsSafe {D : Type 0} (view : D → DiskView) (setup : Setup) (shelf : ShelfView D) (s : State) : Type 0 where
  pub placed : IsPlaced view shelf s
  pub safe : ImagesHold setup view shelf s
