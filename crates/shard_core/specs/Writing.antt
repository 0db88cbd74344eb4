-- Crate shard_core. What a write asks, and what it leaves on the way.
use Rattle.std.specs.Prelude.{◌≡◌, ◌⊎◌, ℕ, ◌<◌, ◌≤◌, Bool, false, ◌||◌, List, [], ◌∷◌, Option, Some, None, Result, Ok, Err, Contains}
use Rattle.std.specs.List.{AllByRecursion}
use Rattle.rec_format.specs.declared.version.Digest.{Digest}
use Rattle.rec_format.specs.declared.version.Stamp.{Stamp}
use Rattle.rec_format.specs.declared.version.Version.{Version}
use Rattle.rec_format.specs.Versions.{units_for, version_units, is_tombstone}
use Rattle.model_device.specs.Book.{Setup, Buffer, client, filling_buffer, has_room, placing_number}
use Rattle.model_device.specs.Device.{State, entry_is_covered, next_stamp_of, part_of}
use Rattle.model_device.specs.Steps.{Step, wrote, after_step, states_through}
use Rattle.model_device.specs.Events.{Event, Call, Answer, refused}
use Rattle.model_device.specs.Legal.{Allowed, NoMemory, Unless, WriteEnds, Entombs, Removes, StopsIn}
use Rattle.disk_model.specs.Disk.{DiskView, IsHonest}
use Rattle.disk_model.specs.Runs.{OneOf, Leaves}
use Rattle.law_start.specs.Surviving.{Survives}
use Rattle.rec_format.specs.Places.{device_number}
use Rattle.law_facts.specs.Asking.{MayBeWritten}
use Rattle.sprig_tree.specs.State.{SprigState}
use Rattle.block_shelf.specs.declared.place.Class.{Class}
use Rattle.block_shelf.specs.declared.refusals.PutRefusal.{PutRefusal}
use Rattle.block_shelf.specs.declared.refusals.PutRefusal.TheVariants as put
use Rattle.write_buffer.specs.Buffers.{BufferState}
use Rattle.block_shelf.specs.View.{ShelfView, is_unsealed}
use Rattle.block_shelf.specs.Standing.{IsPlaced, ImagesHold}
use Rattle.block_shelf.specs.Calls.{Goes}
use Rattle.block_shelf.specs.Appends.{append_refusal, refused_steps, IsAppendRefusal}
use Rattle.shard_core.specs.declared.refusals.WriteRefusal.{WriteRefusal}
use Rattle.shard_core.specs.declared.refusals.WriteRefusal.TheVariants as write
use Rattle.law_steps.specs.Standing.{StandTogether, SprigStands}
use Rattle.shard_core.specs.Calls.{cause_of_write, write_of}

-- ---- which calls write

-- how such a call is answered
abbrev pub written_answer : {T : Type 0} → (ok : Answer) → Result T WriteRefusal → Answer
written_answer ok (Ok done) = ok
written_answer ok (Err refusal) = refused (cause_of_write refusal)

-- how a call that writes a tombstone is answered, by its stamp
abbrev pub entombed_answer : (ok : Stamp → Answer) → Result Stamp WriteRefusal → Answer
entombed_answer ok (Ok stamp) = ok stamp
entombed_answer ok (Err refusal) = refused (cause_of_write refusal)

-- want of memory, or what stands against a copy of the version, or an event that ends as a write does
abbrev pub WrittenOrNot : Setup → State → Event → Class → Digest → Version → (ok : Answer) → Type 0
WrittenOrNot setup s event kind digest v ok = NoMemory event ⊎ Unless event (append_refusal setup kind (version_units v) s.book) (WriteEnds setup s event digest v ok)

-- A call writes this version from this state: it has the next stamp of its digest, which is of the device, and the cover flag that it has to
-- have; and an event of the call may follow where it ends so.
pub record IsWriteOf (setup : Setup) (s : State) (call : Call) (kind : Class) (digest : Digest) (v : Version) (ok : Answer) : Type 0 where
  pub own : device_number setup.devices digest ≡ setup.device
  pub now : ℕ
  pub next : next_stamp_of setup s now digest ≡ Some v.stamp
  pub cover : v.cover ≡ (is_tombstone v || entry_is_covered s digest)
  pub allowed : (told : Bool) (event : Event) → event.call ≡ call → WrittenOrNot setup s event kind digest v ok → Allowed setup told s event call

-- a call entombs a digest: an event of it may follow where it ends so
abbrev pub IsEntombing : Setup → State → Call → Digest → (now : ℕ) → (ok : Stamp → Answer) → Type 0
IsEntombing setup s call digest now ok = (told : Bool) (event : Event) → event.call ≡ call → Entombs setup s event digest now ok → Allowed setup told s event call

-- a call removes the entry of a digest: an event of it may follow where it ends so
abbrev pub IsRemoving : Setup → State → Call → Digest → (now : ℕ) → Type 0
IsRemoving setup s call digest now = (told : Bool) (event : Event) → event.call ≡ call → Removes setup s event digest now → Allowed setup told s event call

-- ---- what stands against a put before its stamp

-- the generation that is expected, if any, is the one that is seen
abbrev pub IsExpected : (expect : Option ℕ) → (seen : ℕ) → Type 0
IsExpected None seen = Unit {0}
IsExpected (Some wanted) seen = wanted ≡ seen

-- the payload fits into a block, and its put is expected
pub record IsFit (size capacity : ℕ) (expect : Option ℕ) (seen : ℕ) : Type 0 where
  pub units : units_for size ≤ capacity
  pub expected : IsExpected expect seen

-- why it isn't fit
abbrev pub IsUnfit : (size capacity : ℕ) → (expect : Option ℕ) → (seen : ℕ) → WriteRefusal → Type 0
IsUnfit size capacity expect seen (write.Big units most) = (units ≡ units_for size) × (most ≡ capacity) × (capacity < units)
IsUnfit size capacity expect seen (write.Gen generation) = (units_for size ≤ capacity) × (generation ≡ seen) × (IsExpected expect seen → ⊥)
IsUnfit size capacity expect seen write.Spent = ⊥
IsUnfit size capacity expect seen (write.Load pending) = ⊥
IsUnfit size capacity expect seen (write.Space free) = ⊥
IsUnfit size capacity expect seen write.Memory = ⊥
IsUnfit size capacity expect seen write.Fault = ⊥

-- ---- the copy and its entry

-- A version was written, and its buffer, which is filled now, has this block: sprig and shelf stand for the state after it.
pub record Wrote {D : Type 0} (view : D → DiskView) (setup : Setup) (s : State) (kind : Class) (digest : Digest) (v : Version) (block : ℕ) (old : ShelfView D) (sprig : SprigState) (new : ShelfView D) : Type 0 where
  pub allowed : append_refusal setup kind (version_units v) s.book ≡ None
  pub stands : StandTogether setup (part_of setup digest) sprig new (after_step setup (wrote digest v) s)
  pub placed : IsHonest (view old.disk) → IsPlaced view old s → IsPlaced view new (after_step setup (wrote digest v) s)
  pub safe : IsHonest (view old.disk) → MayBeWritten setup s digest v → ImagesHold setup view old s → ImagesHold setup view new (after_step setup (wrote digest v) s)
  pub leaves : IsHonest (view old.disk) → ImagesHold setup view old s → Leaves (OneOf (Survives setup) (states_through setup (wrote digest v ∷ []) s)) (view old.disk) (view new.disk)
  pub buffer : Buffer
  pub filling : filling_buffer client (after_step setup (wrote digest v) s).book.buffers ≡ Some buffer
  pub there : buffer.block ≡ block
  pub number : buffer.number ≡ placing_number setup client (version_units v) s.book

-- The shelf refused it for this cause, and the sprig stands as before; a fault comes only where there was no room, and the gate of the
-- first free block couldn't be closed.
pub record IsUnwritten {D : Type 0} (view : D → DiskView) (setup : Setup) (s : State) (kind : Class) (digest : Digest) (v : Version) (refusal : WriteRefusal) (old : ShelfView D) (sprig : SprigState) (new : ShelfView D) : Type 0 where
  pub why : PutRefusal
  pub is_for : refusal ≡ write_of why
  pub cause : IsAppendRefusal (append_refusal setup kind (version_units v) s.book) why
  pub closing : why ≡ put.Fault → has_room setup client (version_units v) s.book ≡ false
  pub sprig_stands : SprigStands setup (part_of setup digest) sprig s
  pub goes : Goes view setup (refused_steps why) old s new

-- a flush up to this number ends there: no buffer has a greater number, or the buffer of this number is sealed
abbrev pub EndsRight : (last : ℕ) → List BufferState → Type 0
EndsRight last buffers = AllByRecursion (λ b. b.number ≤ last) buffers ⊎ ((b : BufferState) × Contains buffers b × (b.number ≡ last) × (is_unsealed b.phase ≡ false))

-- all of these steps were made; or, where the disk failed, some
abbrev pub Commits : Result (Unit {0}) WriteRefusal → (whole steps : List Step) → Type 0
Commits (Ok done) whole steps = steps ≡ whole
Commits (Err refusal) whole steps = (refusal ≡ write.Fault) × StopsIn whole steps
