-- Crate block_shelf. What an append promises: why it is refused, what a refusal leaves, and where the copy is.
use Rattle.std.specs.Prelude.{◌≡◌, ◌≢◌, ◌⊎◌, ℕ, ◌+◌, ◌<◌, ◌≤◌, false, nat_lt, List, [], ◌∷◌, Contains, Option, Some, None, Result, Err, slice_set, if◌then◌else◌, IfOk, IfErr, OnOk, MatchResult}
use Rattle.rec_format.specs.declared.version.Digest.{Digest}
use Rattle.rec_format.specs.declared.version.Version.{Version}
use Rattle.rec_format.specs.Versions.{block_capacity, version_units}
use Rattle.model_faults.specs.Counts.{Rose}
use Rattle.model_device.specs.Book.{Setup, Book, Live, first_block, first_to_back, has_room, live_of}
use Rattle.model_device.specs.Device.{State, entry}
use Rattle.model_device.specs.Steps.{Step, wrote, moved, closing_failed, after_step, states_through}
use Rattle.model_device.specs.Events.{Cause, too_big, spent, overload, no_space}
use Rattle.model_device.specs.Legal.{first_cause, no_place, ReadInstead}
use Rattle.disk_model.specs.Disk.{DiskView, IsHonest, TellsTorn}
use Rattle.disk_model.specs.Runs.{OneOf, Leaves}
use Rattle.block_format.specs.declared.geometry.Geometry.{Geometry}
use Rattle.block_format.specs.declared.geometry.Gate.TheVariants.{Shut, Unsure}
use Rattle.block_format.specs.Layout.{block_place}
use Rattle.law_start.specs.Surviving.{Survives}
use Rattle.write_buffer.specs.declared.stream.Stream.{Stream}
use Rattle.write_buffer.specs.declared.stream.Stream.TheVariants.{Client, Defrag}
use Rattle.write_buffer.specs.Buffers.{BufferState, used_units}
use Rattle.hold_book.specs.Holds.{with_pair}
use Rattle.block_shelf.specs.Lives.{copies_in}
use Rattle.law_facts.specs.Asking.{MayBeWritten}
use Rattle.block_shelf.specs.declared.place.Place.{Place}
use Rattle.block_shelf.specs.declared.place.Class.{Class}
use Rattle.block_shelf.specs.declared.place.Class.TheVariants as class
use Rattle.block_shelf.specs.declared.refusals.PutRefusal.{PutRefusal}
use Rattle.block_shelf.specs.declared.refusals.PutRefusal.TheVariants as put
use Rattle.block_shelf.specs.View.{ShelfView, IsShelf, IsLiveList, IsSetupOf, SameShape, gate_at}
use Rattle.block_shelf.specs.Disks.{IsLater}
use Rattle.block_shelf.specs.Standing.{StandsFor, BooksStand, ImagesHold, IsPlaced, HasRecord, book_stream}
use Rattle.block_shelf.specs.Calls.{Goes, copy_live, prior_live}
use Rattle.block_shelf.specs.Changes.{HasRoom, SameButRoom, StandsAt, without_copy, with_written, with_requeued, with_gate_known}
use Rattle.block_shelf.specs.Keeping.{KeepsAll, KeepsOthers}

-- so many units in a block of the device
abbrev pub IsPlaceFor : Geometry → (units : ℕ) → Place → Type 0
IsPlaceFor g units place = (place.units ≡ units) × (place.block < g.blocks) × (place.unit + place.units ≤ block_capacity g.block_size)

-- ---- copies

-- the stream to which a copy of this class goes
abbrev pub stream_of : Class → Stream
stream_of class.Put = Client
stream_of class.Tomb = Client
stream_of class.Move = Defrag

-- the step that a copy of a version makes
abbrev pub copy_step : Class → Digest → Version → Step
copy_step class.Put digest v = wrote digest v
copy_step class.Tomb digest v = wrote digest v
copy_step class.Move digest v = moved digest

-- A copy that is moved is that of the live entry, as it was read.
pub record IsReadCopy (s : State) (digest : Digest) (copy : Version) : Type 0 where
  pub version : Version
  pub entry_is : entry s digest ≡ Some version
  pub read : ReadInstead version copy
  pub live : Live
  pub is_live : live_of digest s.book.live ≡ Some live

-- what a copy of this class has to be, over every disk
abbrev pub IsCopyOf : Class → State → Digest → Version → Type 0
IsCopyOf class.Put s digest copy = Unit {0}
IsCopyOf class.Tomb s digest copy = Unit {0}
IsCopyOf class.Move s digest copy = IsReadCopy s digest copy

-- the version that was read is the entry's
abbrev pub IsExact : Class → State → Digest → Version → Type 0
IsExact class.Put s digest copy = Unit {0}
IsExact class.Tomb s digest copy = Unit {0}
IsExact class.Move s digest copy = entry s digest ≡ Some copy

-- a new version may be written, and one that is moved is the entry's
abbrev pub MayBeCopied : Setup → Class → State → Digest → Version → Type 0
MayBeCopied setup class.Put s digest copy = MayBeWritten setup s digest copy
MayBeCopied setup class.Tomb s digest copy = MayBeWritten setup s digest copy
MayBeCopied setup class.Move s digest copy = entry s digest ≡ Some copy

-- ---- why

-- how many free blocks have to stay where a copy of this class takes one
abbrev pub kept_free : Class → ℕ
kept_free class.Put = 4
kept_free class.Tomb = 2
kept_free class.Move = 0

-- why a copy of so many units isn't appended
abbrev pub append_refusal : Setup → Class → (units : ℕ) → Book → Option Cause
append_refusal setup kind units book =
    first_cause (if nat_lt setup.capacity units then Some (too_big units setup.capacity) else None) (no_place setup (book_stream (stream_of kind)) (kept_free kind) units book)

-- Each cause of the state is told with its numbers. Want of memory is free, and a fault comes only where none of them stands.
abbrev pub IsAppendRefusal : Option Cause → PutRefusal → Type 0
IsAppendRefusal cause (put.Big units capacity) = cause ≡ Some (too_big units capacity)
IsAppendRefusal cause put.Spent = cause ≡ Some spent
IsAppendRefusal cause (put.Load pending) = cause ≡ Some (overload pending)
IsAppendRefusal cause (put.Space free) = cause ≡ Some (no_space free)
IsAppendRefusal cause put.Memory = Unit {0}
IsAppendRefusal cause put.Fault = cause ≡ None

-- ---- what is left

-- the gate of the first free block is shut
abbrev pub with_first_shut : {D : Type 0} → D → ShelfView D → ShelfView D
with_first_shut disk shelf = with_gate_known disk (first_block shelf.free) Shut shelf

-- the gate of the first free block is unsure, and the block goes to the back
abbrev pub with_first_unclosed : {D : Type 0} → D → ShelfView D → ShelfView D
with_first_unclosed disk shelf = record (with_gate_known disk (first_block shelf.free) Unsure shelf) { free = first_to_back shelf.free }

-- the shelf on which a buffer has begun, before that: room for a hold was taken, and the gate of the first free block is shut
abbrev pub ready_for : {D : Type 0} → (new old : ShelfView D) → ShelfView D
ready_for new old = record (with_first_shut new.disk old) { holds = new.holds }

-- Nothing has changed, but for memory that was taken where more was wanting. After a fault the first free block, whose gate wasn't
-- known to be shut, is at the back of the free ones with an unsure gate, and nothing else has changed.
abbrev pub IsLeftBy : {D : Type 0} → (old new : ShelfView D) → PutRefusal → Type 0
IsLeftBy old new (put.Big units capacity) = new ≡ old
IsLeftBy old new put.Spent = new ≡ old
IsLeftBy old new (put.Load pending) = new ≡ old
IsLeftBy old new (put.Space free) = new ≡ old
IsLeftBy old new put.Memory = SameButRoom old new
IsLeftBy old new put.Fault = (gate_at old.gates (first_block old.free) ≢ Shut) × SameButRoom (with_first_unclosed new.disk old) new

-- no step but after a fault
abbrev pub refused_steps : PutRefusal → List Step
refused_steps (put.Big units capacity) = []
refused_steps put.Spent = []
refused_steps (put.Load pending) = []
refused_steps (put.Space free) = []
refused_steps put.Memory = []
refused_steps put.Fault = closing_failed ∷ []

-- What is known of gates, which buffers there are, and what is kept of flushed ones, behind a copy of so many units: all as before where one had
-- room; else a buffer has begun in the first free block, whose gate is shut, and what was kept of that is gone.
abbrev pub BeginsInFirst : {D : Type 0} → Stream → (units : ℕ) → (old new : ShelfView D) → Type 0
BeginsInFirst stream units old new =
    (HasRoom stream units old.buffers × (new.gates ≡ old.gates) × KeepsAll old new)
    ⊎ ((HasRoom stream units old.buffers → ⊥) × (new.gates ≡ slice_set old.gates (first_block old.free) Shut) × KeepsOthers (first_block old.free) old new)

-- ---- the copy

-- without the copy before, if there was one, whose block a buffer holds then
abbrev pub IsWithout : {D : Type 0} → Option Place → (number : ℕ) → (old new : ShelfView D) → Type 0
IsWithout None number old new = new ≡ old
IsWithout (Some place) number old new = (new ≡ record (without_copy place old) { holds = new.holds }) × (new.holds.holds ≡ with_pair old.holds.holds number place.block)

-- the block of the copy before comes into the queue, or leaves it
abbrev pub with_prior_requeued : {D : Type 0} → Option Place → ShelfView D → ShelfView D
with_prior_requeued None shelf = shelf
with_prior_requeued (Some place) shelf = with_requeued place.block shelf

-- The copy before goes, and a record comes into a buffer and is live there. This is where it lies.
pub record PutsCopy {D : Type 0} (digest : Digest) (v : Version) (prior : Option Place) (front : List BufferState) (b : BufferState) (behind : List BufferState) (old new : ShelfView D) (place : Place) : Type 0 where
  pub without : ShelfView D
  pub gone : IsWithout prior b.number old without
  pub written : new ≡ with_prior_requeued prior (with_written digest v front b behind without)
  pub place_is : place ≡ record { block = b.block; unit = used_units b; units = version_units v }

-- A copy of a version is placed by a shelf that stood for a state: it stands for the state after its step, in which the copy at this place
-- is live. No call of the disk is made. Over an honest disk live copies stay where they are if it is exact; where the image was sound, and it
-- may be copied, what is held stays so.
pub record Puts {D : Type 0} (view : D → DiskView) (setup : Setup) (kind : Class) (digest : Digest) (v : Version) (old : ShelfView D) (s : State) (new : ShelfView D) (place : Place) : Type 0 where
  pub live : live_of digest (after_step setup (copy_step kind digest v) s).book.live ≡ Some (copy_live digest place)
  pub stands : StandsFor setup new (after_step setup (copy_step kind digest v) s)
  pub queued : BooksStand setup old s → BooksStand setup new (after_step setup (copy_step kind digest v) s)
  pub placed : IsExact kind s digest v → IsPlaced view old s → IsPlaced view new (after_step setup (copy_step kind digest v) s)
  pub safe : MayBeCopied setup kind s digest v → ImagesHold setup view old s → ImagesHold setup view new (after_step setup (copy_step kind digest v) s)

-- A copy of a version comes to a shelf that stood for a state: it stands for the state after its step, in which the copy at this place is
-- live. Over an honest disk live copies stay where they are if it is exact. Where the image was sound, each image that a crash meanwhile
-- might have left survives one of the two states, and what is held stays so if it may be copied.
pub record TakesIn {D : Type 0} (view : D → DiskView) (setup : Setup) (kind : Class) (digest : Digest) (v : Version) (old : ShelfView D) (s : State) (new : ShelfView D) (place : Place) : Type 0 where
  pub live : live_of digest (after_step setup (copy_step kind digest v) s).book.live ≡ Some (copy_live digest place)
  pub stands : StandsFor setup new (after_step setup (copy_step kind digest v) s)
  pub queued : BooksStand setup old s → BooksStand setup new (after_step setup (copy_step kind digest v) s)
  pub placed : IsHonest (view old.disk) → IsExact kind s digest v → IsPlaced view old s → IsPlaced view new (after_step setup (copy_step kind digest v) s)
  pub safe : IsHonest (view old.disk) → MayBeCopied setup kind s digest v → ImagesHold setup view old s → ImagesHold setup view new (after_step setup (copy_step kind digest v) s)
  pub leaves : IsHonest (view old.disk) → ImagesHold setup view old s → Leaves (OneOf (Survives setup) (states_through setup (copy_step kind digest v ∷ []) s)) (view old.disk) (view new.disk)

-- A buffer of this stream, which isn't flushed, has the record of the version at the place.
pub record LiesIn {D : Type 0} (stream : Stream) (digest : Digest) (v : Version) (shelf : ShelfView D) (place : Place) : Type 0 where
  pub buffer : BufferState
  pub is_there : Contains shelf.buffers buffer
  pub of_stream : buffer.stream ≡ stream
  pub block : buffer.block ≡ place.block
  pub has : HasRecord buffer place.unit digest v

-- ---- what the parts of an append promise

-- The copy comes into the buffer at this place in the list, in place of the copy before. No call of the disk is made.
pub record PutsHere {D : Type 0} (view : D → DiskView) (at units : ℕ) (digest : Digest) (v : Version) (prior : Option Place) (old new : ShelfView D) (place : Place) : Type 0 where
  pub put : (b : StandsAt at old.buffers) → PutsCopy digest v prior b.front b.buffer b.behind old new place
  pub there : IsPlaceFor old.geometry units place
  pub disk : new.disk ≡ old.disk
  pub shape : SameShape old new
  pub whole : IsShelf view old
  pub each : (block : ℕ) → IsLiveList (copies_in block new.lives)

-- A copy is appended, or this is why not. The disk is called only where a buffer begins behind a gate that isn't known
-- to be shut, and changes only there.
pub record AppendsCopy {D : Type 0} (view : D → DiskView) (kind : Class) (digest : Digest) (v : Version) (prior : Option Place) (old new : ShelfView D) (result : Result Place PutRefusal) : Type 0 where
  pub appended : (setup : Setup) (s : State) → IsSetupOf setup old → StandsFor setup old s → live_of digest s.book.live ≡ prior_live digest prior → IsCopyOf kind s digest v → IfOk result (TakesIn view setup kind digest v old s new)
  pub causes : (setup : Setup) (s : State) → IsSetupOf setup old → StandsFor setup old s → MatchResult result
      (λ place. append_refusal setup kind (version_units v) s.book ≡ None)
      (λ refusal. IsAppendRefusal (append_refusal setup kind (version_units v) s.book) refusal
      × (refusal ≡ put.Fault → has_room setup (book_stream (stream_of kind)) (version_units v) s.book ≡ false) × Goes view setup (refused_steps refusal) old s new)
  pub refused : IfErr result (IsLeftBy old new)
  pub first : OnOk result (BeginsInFirst (stream_of kind) (version_units v) old new)
  pub place : IfOk result (IsPlaceFor old.geometry (version_units v))
  pub lies : IfOk result (LiesIn (stream_of kind) digest v new)
  pub whole : IsShelf view old
  pub shape : SameShape old new
  pub in_room : HasRoom (stream_of kind) (version_units v) old.buffers → new.disk ≡ old.disk
  pub quiet : gate_at old.gates (first_block old.free) ≡ Shut → new.disk ≡ old.disk
  pub bytes : TellsTorn (block_place old.geometry (first_block old.free)) 4096 (view old.disk) (view new.disk)
  pub cause : result ≡ Err put.Fault → Rose (view old.disk).faults (view new.disk).faults
  pub later : IsLater (view old.disk) (view new.disk)
  pub honest : IsHonest (view old.disk) → IsHonest (view new.disk)
