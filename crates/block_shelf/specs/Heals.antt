-- Crate block_shelf. Which gates are closed where it isn't known whether they are, and what that makes of a shelf.
use Rattle.std.specs.Prelude.{◌≡◌, ◌≢◌, ℕ, ◌<◌, ◌≤◌, Bool, true, false, ◌&&◌, not, if◌then◌else◌, [], length, slice_set, count_by, Result, Ok, MatchResult, OnOk, OnErr}
use Rattle.std.specs.List.{range_with_len}
use Rattle.model_faults.specs.Counts.{Rose}
use Rattle.disk_model.specs.Disk.{DiskView, IsHonest}
use Rattle.model_device.specs.Book.{Setup}
use Rattle.model_device.specs.Device.{State}
use Rattle.block_format.specs.declared.geometry.Gate.{Gate}
use Rattle.block_format.specs.declared.geometry.Gate.TheVariants.{Shut, Set, Unsure}
use Rattle.block_shelf.specs.View.{ShelfView, IsShelf, gate_at}
use Rattle.block_shelf.specs.Disks.{IsLater}
use Rattle.block_shelf.specs.Standing.{StandsFor}
use Rattle.block_shelf.specs.Calls.{Goes}
use Rattle.block_shelf.specs.Changes.{has_buffer_in}

-- it isn't known whether the gate is closed
abbrev pub is_unsure : Gate → Bool
is_unsure Shut = false
is_unsure Set = false
is_unsure Unsure = true

-- the gate of the block is unsure, and no pending buffer has the block
abbrev pub is_to_heal : {D : Type 0} → ShelfView D → (block : ℕ) → Bool
is_to_heal shelf block = is_unsure (gate_at shelf.gates block) && not (has_buffer_in shelf.buffers block)

-- of how many blocks below a number that holds
abbrev pub to_heal_below : {D : Type 0} → (upto : ℕ) → ShelfView D → ℕ
to_heal_below upto shelf = count_by (is_to_heal shelf) (range_with_len 0 upto)

-- Below a number each gate that was to heal is shut, and all other gates are known as they were.
pub record HealsBelow {D : Type 0} (upto : ℕ) (old new : ShelfView D) : Type 0 where
  pub below : (block : ℕ) → block < upto → gate_at new.gates block ≡ (if is_to_heal old block then Shut else gate_at old.gates block)
  pub behind : (block : ℕ) → upto ≤ block → gate_at new.gates block ≡ gate_at old.gates block
  pub same_length : length new.gates ≡ length old.gates

-- One of the gates that were to heal couldn't be closed: those of the blocks before it are healed, and it is unsure, as before.
pub record StopsHealing {D : Type 0} (old new : ShelfView D) : Type 0 where
  pub block : ℕ
  pub below : block < old.geometry.blocks
  pub to_heal : is_to_heal old block ≡ true
  pub before : HealsBelow block old new

-- ---- what the parts of a healing promise

-- The gate of a block without a buffer is closed and synced, if it was unsure, which is answered; after a fault it is unsure still.
pub record ClosesUnsure {D E : Type 0} (view : D → DiskView) (block : ℕ) (old new : ShelfView D) (result : Result Bool E) : Type 0 where
  pub goes : (setup : Setup) (s : State) → StandsFor setup old s → Goes view setup [] old s new
  pub quiet : gate_at old.gates block ≢ Unsure → (result ≡ Ok false) × (new ≡ old)
  pub sure : OnOk result (gate_at new.gates block ≢ Unsure)
  pub shut : gate_at old.gates block ≡ Unsure → OnOk result (gate_at new.gates block ≡ Shut)
  pub known : gate_at old.gates block ≡ Unsure → MatchResult result (λ closed. (closed ≡ true) × (new.gates ≡ slice_set old.gates block Shut)) (λ fault. new.gates ≡ old.gates)
  pub rest : new ≡ record old { disk = new.disk; gates = new.gates }
  pub whole : IsShelf view new
  pub cause : OnErr result (Rose (view old.disk).faults (view new.disk).faults)
  pub later : IsLater (view old.disk) (view new.disk)
  pub honest : IsHonest (view old.disk) → IsHonest (view new.disk)

-- The same where the gate of the block was to heal; else nothing is called.
pub record HealsBlock {D E : Type 0} (view : D → DiskView) (block : ℕ) (old new : ShelfView D) (result : Result Bool E) : Type 0 where
  pub goes : (setup : Setup) (s : State) → StandsFor setup old s → Goes view setup [] old s new
  pub quiet : is_to_heal old block ≡ false → (result ≡ Ok false) × (new ≡ old)
  pub shut : is_to_heal old block ≡ true → MatchResult result (λ closed. (closed ≡ true) × (new.gates ≡ slice_set old.gates block Shut)) (λ fault. new.gates ≡ old.gates)
  pub rest : new ≡ record old { disk = new.disk; gates = new.gates }
  pub cause : OnErr result (Rose (view old.disk).faults (view new.disk).faults)
  pub later : IsLater (view old.disk) (view new.disk)
  pub honest : IsHonest (view old.disk) → IsHonest (view new.disk)

-- A closed gate was written over some that are unsure, without a sync. They are unsure still: the disk alone is another.
pub record Covers {D : Type 0} (view : D → DiskView) (old new : ShelfView D) : Type 0 where
  pub goes : (setup : Setup) (s : State) → StandsFor setup old s → Goes view setup [] old s new
  pub rest : new ≡ record old { disk = new.disk }
  pub later : IsLater (view old.disk) (view new.disk)
  pub honest : IsHonest (view old.disk) → IsHonest (view new.disk)
