-- Crate shard_raid. How a raid's scan of a block is answered, and what it makes.
use Rattle.std.specs.Prelude.{ℕ, List, Result, Ok, Err}
use Rattle.disk_model.specs.Disk.{DiskView, IsHonest}
use Rattle.model_device.specs.Book.{Setup}
use Rattle.model_device.specs.Device.{State, scan_turn}
use Rattle.model_device.specs.Events.{Answer, Cause, turn_call, block_scanned, refused, stale, damaged, no_memory, disk_fault}
use Rattle.block_format.specs.declared.geometry.Geometry.{Geometry}
use Rattle.law_facts.specs.Asking.{ScansAll, ScansOnly}
use Rattle.raid_book.specs.Turns.{turn_of}
use Rattle.block_shelf.specs.declared.refusals.VacateRefusal.{VacateRefusal}
use Rattle.block_shelf.specs.declared.refusals.VacateRefusal.TheVariants as vacate
use Rattle.block_shelf.specs.Scans as shelf
use Rattle.block_shelf.specs.Scans.{possible_copies}
use Rattle.block_shelf.specs.Standing.{ImagesHold}
use Rattle.block_shelf.specs.View.{ShelfView}
use Rattle.law_steps.specs.Events.{MakesEvent}
use Rattle.shard_raid.specs.declared.scan.RaidRefusal.{RaidRefusal}
use Rattle.shard_raid.specs.declared.scan.RaidRefusal.TheVariants.{Stale, Damaged, Memory, Fault}
use Rattle.shard_raid.specs.Raids.{StandOn}

-- what a refusal of the shelf to scan a block is to the raid
abbrev pub refusal_to_scan : VacateRefusal → RaidRefusal
refusal_to_scan (vacate.Damaged block place) = Damaged block place
refusal_to_scan vacate.Memory = Memory
refusal_to_scan vacate.Fault = Fault

-- the cause that the event of a refused turn tells
abbrev pub cause_of : RaidRefusal → Cause
cause_of (Stale number next) = stale number (turn_of next)
cause_of (Damaged block place) = damaged
cause_of Memory = no_memory
cause_of Fault = disk_fault

-- the answer that the event of a scan tells
abbrev pub scan_answer : Result ℕ RaidRefusal → Answer
scan_answer (Ok block) = block_scanned block
scan_answer (Err refusal) = refused (cause_of refusal)

-- the turn was the raid's next, so it isn't stale
abbrev pub IsOfTurn : RaidRefusal → Type 0
IsOfTurn (Stale number next) = ⊥
IsOfTurn (Damaged block place) = Unit {0}
IsOfTurn Memory = Unit {0}
IsOfTurn Fault = Unit {0}

-- over every disk, as the shelf tells it: damage is told of this block, and only where it is read from the disk
abbrev pub IsToldOf : {D : Type 0} → ShelfView D → (block : ℕ) → RaidRefusal → Type 0
IsToldOf old block (Stale number next) = Unit {0}
IsToldOf old block (Damaged other place) = shelf.IsToldOf old block (vacate.Damaged other place)
IsToldOf old block Memory = Unit {0}
IsToldOf old block Fault = Unit {0}

-- damage is told of this block, and of these bytes, as the shelf tells it
abbrev pub IsDamageOf : Geometry → List ℕ → (block : ℕ) → RaidRefusal → Type 0
IsDamageOf g bytes block (Stale number next) = Unit {0}
IsDamageOf g bytes block (Damaged other place) = shelf.IsDamageOf g bytes block (vacate.Damaged other place)
IsDamageOf g bytes block Memory = Unit {0}
IsDamageOf g bytes block Fault = Unit {0}

-- the same, and memory is wanting only where these bytes are a body of the block
abbrev pub IsRefusalOf : Geometry → List ℕ → (block : ℕ) → RaidRefusal → Type 0
IsRefusalOf g bytes block (Stale number next) = Unit {0}
IsRefusalOf g bytes block (Damaged other place) = shelf.IsRefusalOf g bytes block (vacate.Damaged other place)
IsRefusalOf g bytes block Memory = shelf.IsRefusalOf g bytes block vacate.Memory
IsRefusalOf g bytes block Fault = Unit {0}

-- From a state for which the shelf stood, the scan of a block makes one event. Over an honest disk whose image was sound that event finds
-- each copy in the block that is older than a marked entry: one that waits, and one that a crash may leave. It finds nothing but copies that wait
-- there or that a crash may leave.
pub record ScanMakes {D : Type 0} (view : D → DiskView) (setup : Setup) (block now : ℕ) (result : Result ℕ RaidRefusal) (old : ShelfView D) (s : State) (new : ShelfView D) : Type 0 where
  pub makes : MakesEvent view setup (turn_call old.raid.number (scan_turn block) now) (scan_answer result) old s new (StandOn setup new s)
  pub finds : IsHonest (view old.disk) → ImagesHold setup view old s → ScansAll s (possible_copies view new s) makes.event
  pub only : IsHonest (view old.disk) → ImagesHold setup view old s → ScansOnly s (possible_copies view new s) makes.event
