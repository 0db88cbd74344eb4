-- Crate law_refused. What stands after a call that is refused, by its kind and its cause.
use Rattle.std.specs.Prelude.{List, [], ◌∷◌, ◌++◌, ◌≡◌, ◌⊎◌, true}
use Rattle.rec_format.specs.declared.version.Digest.{Digest}
use Rattle.rec_format.specs.declared.version.Version.{Version}
use Rattle.rec_format.specs.Versions.{version_units}
use Rattle.model_device.specs.Book.{Setup, Book, client, placing_number, with_first_passed}
use Rattle.model_device.specs.Device.{State}
use Rattle.model_device.specs.Steps.{Step, wrote, sealed_stream, raid_at_end, after_steps}
use Rattle.model_device.specs.Events.{Call, put_call, bury_call, delete_call, expire_call, get_call, flush_call, flush_sealed_call, flush_next_call, heal_call, choose_call, move_call, begin_call, turn_call}
use Rattle.model_device.specs.Events.{Cause, too_big, wrong_generation, spent, overload, no_space, damaged, no_memory, disk_fault, stale, Event, refused, after_event}
use Rattle.model_device.specs.Legal.{StopsIn, seal_all, seal_low, flush_all, flush_first, flush_between}

-- ---- what may have been done

-- The first free block, whose gate couldn't be closed, is at the back of the free ones; all else is as before.
abbrev pub Passes : (before after : State) → Type 0
Passes before after = after ≡ record before { book = with_first_passed before.book }

-- The raid is given up, with all its marks and what it found; all else is as before.
abbrev pub GivesUp : (before after : State) → Type 0
GivesUp before after = after ≡ record before { raid = raid_at_end before.raid }

-- These steps were made, which seal buffers, and then some of a flush, but not the last.
pub record Stops (setup : Setup) (sealing : List Step) (flushing : Book → List Step) (before after : State) : Type 0 where
  pub some : List Step
  pub after_is : after ≡ after_steps setup (sealing ++ some) before
  pub stops : StopsIn (flushing (after_steps setup sealing before).book) some

-- With commit on: a version of the digest is written, and its buffer is sealed; of the flush up to that buffer some steps were made, but not the last, which flushes
-- it. So the version stands in memory, and a crash may lose it.
pub record StaysUnflushed (setup : Setup) (digest : Digest) (before after : State) : Type 0 where
  pub commit : setup.commit ≡ true
  pub version : Version
  pub stops : Stops setup (wrote digest version ∷ sealed_stream client ∷ []) (flush_between 0 (placing_number setup client (version_units version) before.book)) before after

-- ---- by kind and cause

-- a scan that is refused gives its raid up, and no other call leaves anything
abbrev pub RaidLeaves : Call → (before after : State) → Type 0
RaidLeaves (turn_call number turn now) before after = GivesUp before after
RaidLeaves call before after = after ≡ before

-- a write that failed
abbrev pub WriteLeaves : Setup → Digest → (before after : State) → Type 0
WriteLeaves setup digest before after = Passes before after ⊎ StaysUnflushed setup digest before after

-- what stands after a fault of the disk
abbrev pub FaultLeaves : Setup → Call → (before after : State) → Type 0
FaultLeaves setup (put_call digest ttl expect payload now) before after = WriteLeaves setup digest before after
FaultLeaves setup (bury_call digest now) before after = WriteLeaves setup digest before after
FaultLeaves setup (delete_call digest now) before after = WriteLeaves setup digest before after
FaultLeaves setup (expire_call digest now) before after = WriteLeaves setup digest before after
FaultLeaves setup (get_call digest now) before after = after ≡ before
FaultLeaves setup flush_call before after = Stops setup (seal_all before.book) flush_all before after
FaultLeaves setup flush_sealed_call before after = Stops setup (seal_low setup before.book) flush_all before after
FaultLeaves setup flush_next_call before after = Stops setup (seal_low setup before.book) flush_first before after
FaultLeaves setup heal_call before after = after ≡ before
FaultLeaves setup choose_call before after = after ≡ before
FaultLeaves setup (move_call digest block) before after = (after ≡ before) ⊎ Passes before after
FaultLeaves setup begin_call before after = after ≡ before
FaultLeaves setup (turn_call number turn now) before after = GivesUp before after

-- A call that is refused for this cause, from a state, leaves this one.
abbrev pub Leaves : Setup → Call → Cause → (before after : State) → Type 0
Leaves setup call (too_big units capacity) before after = after ≡ before
Leaves setup call (wrong_generation seen) before after = after ≡ before
Leaves setup call spent before after = after ≡ before
Leaves setup call (overload pending) before after = after ≡ before
Leaves setup call (no_space free) before after = after ≡ before
Leaves setup call damaged before after = RaidLeaves call before after
Leaves setup call no_memory before after = RaidLeaves call before after
Leaves setup call disk_fault before after = FaultLeaves setup call before after
Leaves setup call (stale number turn) before after = after ≡ before

-- ---- events

-- An event, where it was refused, leaves what its call leaves for its cause.
abbrev pub RefusedLeaves : Setup → State → Event → Type 0
RefusedLeaves setup s event = (cause : Cause) → event.answer ≡ refused cause → Leaves setup event.call cause s (after_event setup event s)

-- So does each of a list of events, from the state in which it comes.
abbrev pub EachLeaves : Setup → State → List Event → Type 0
EachLeaves setup s [] = Unit {0}
EachLeaves setup s (event ∷ events) = RefusedLeaves setup s event × EachLeaves setup (after_event setup event s) events
