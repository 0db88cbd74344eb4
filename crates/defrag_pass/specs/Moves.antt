-- Crate defrag_pass. How the move of a record is answered, and why its record isn't read.
use Rattle.std.specs.Prelude.{◌≡◌, ◌≢◌, ◌⊎◌, ℕ, List, take, Contains, Bool, true, false, Option, Some, None, Result, Ok, Err}
use Rattle.std.specs.List.{AllByRecursion}
use Rattle.rec_format.specs.declared.version.Digest.{Digest}
use Rattle.rec_format.specs.declared.version.Head.{Head}
use Rattle.rec_format.specs.declared.version.Version.{Version}
use Rattle.rec_format.specs.declared.entry.Entry.{Entry}
use Rattle.rec_format.specs.Entries.{Names}
use Rattle.disk_model.specs.Disk.{DiskView}
use Rattle.model_device.specs.Events.{Answer, happened, refused, Cause, spent, overload, no_space, damaged, no_memory, disk_fault}
use Rattle.block_shelf.specs.declared.place.Place.{Place}
use Rattle.block_shelf.specs.declared.refusals.PutRefusal.{PutRefusal}
use Rattle.block_shelf.specs.declared.refusals.PutRefusal.TheVariants as put
use Rattle.block_shelf.specs.declared.refusals.ReadRefusal.{ReadRefusal}
use Rattle.block_shelf.specs.declared.refusals.ReadRefusal.TheVariants as read
use Rattle.write_buffer.specs.declared.stream.Stream.TheVariants.{Defrag}
use Rattle.write_buffer.specs.Buffers.{BufferState}
use Rattle.block_shelf.specs.View.{ShelfView, in_memory}
use Rattle.block_shelf.specs.Disks.{OnlyRead}
use Rattle.block_shelf.specs.Standing.{HasRecord}
use Rattle.block_shelf.specs.Changes.{SameButRoom}
use Rattle.block_shelf.specs.Appends.{BeginsInFirst, IsLeftBy, LiesIn}
use Rattle.block_shelf.specs.Keeping.{KeepsAll}
use Rattle.block_shelf.specs.Reads.{HasNoHeadOf, IsRead, kept_head, copy_bytes}
use Rattle.law_steps.specs.Sprigs.{place_of}
use Rattle.defrag_pass.specs.declared.refusal.MoveRefusal.{MoveRefusal}
use Rattle.defrag_pass.specs.declared.refusal.MoveRefusal.TheVariants as why

-- The answer of the event. The numbers of a refusal for load or space are the state's.
abbrev pub Answers : Result Bool MoveRefusal → Answer → Type 0
Answers (Ok moved) answer = answer ≡ happened moved
Answers (Err why.Spent) answer = answer ≡ refused spent
Answers (Err why.Load) answer = (pending : ℕ) × (answer ≡ refused (overload pending))
Answers (Err why.Space) answer = (free : ℕ) × (answer ≡ refused (no_space free))
Answers (Err (why.Damaged kept bytes)) answer = answer ≡ refused damaged
Answers (Err why.Memory) answer = answer ≡ refused no_memory
Answers (Err why.Fault) answer = answer ≡ refused disk_fault

-- ---- refusals

-- What a refusal to append is to a move. A copy that was live in a block isn't too big for one.
abbrev pub refusal_to_append : PutRefusal → MoveRefusal
refusal_to_append (put.Big units capacity) = why.Space
refusal_to_append put.Spent = why.Spent
refusal_to_append (put.Load pending) = why.Load
refusal_to_append (put.Space free) = why.Space
refusal_to_append put.Memory = why.Memory
refusal_to_append put.Fault = why.Fault

-- and a refusal to read
abbrev pub refusal_to_read : ReadRefusal → MoveRefusal
refusal_to_read (read.Damaged kept bytes) = why.Damaged kept bytes
refusal_to_read read.Memory = why.Memory
refusal_to_read read.Fault = why.Fault

-- A record isn't read for this cause, which stands against its move. The read fails, or finds damage, only where none stands; want of
-- memory is free.
abbrev pub IsUnread : Option Cause → MoveRefusal → Type 0
IsUnread cause why.Spent = cause ≡ Some spent
IsUnread cause why.Load = (pending : ℕ) × (cause ≡ Some (overload pending))
IsUnread cause why.Space = (free : ℕ) × (cause ≡ Some (no_space free))
IsUnread cause (why.Damaged kept bytes) = cause ≡ None
IsUnread cause why.Memory = Unit {0}
IsUnread cause why.Fault = cause ≡ None

abbrev pub IsUndamaged : MoveRefusal → Type 0
IsUndamaged why.Spent = Unit {0}
IsUndamaged why.Load = Unit {0}
IsUndamaged why.Space = Unit {0}
IsUndamaged (why.Damaged kept bytes) = ⊥
IsUndamaged why.Memory = Unit {0}
IsUndamaged why.Fault = Unit {0}

-- ---- damage

-- What is told of a damaged record: the head that its entry keeps, which is in the block. No buffer in memory has the block, and what was
-- read is no head of the entry's record. It is what stands at the place of the entry, where the disk told its bytes.
pub record TellsDamage {D : Type 0} (Told : Type 0) (view : D → DiskView) (block : ℕ) (found : Option Entry) (shelf : ShelfView D) (kept : Head) (bytes : List ℕ) : Type 0 where
  pub entry : Entry
  pub is_found : found ≡ Some entry
  pub in_block : entry.block ≡ block
  pub kept_is : kept ≡ kept_head entry
  pub unbuffered : AllByRecursion (λ b. b.block ≢ entry.block) (in_memory shelf)
  pub no_head : HasNoHeadOf entry bytes
  pub read : Told → bytes ≡ take 48 (copy_bytes shelf.geometry (place_of entry) (view shelf.disk).seen)

-- so a refused move tells it
abbrev pub IsDamageOf : {D : Type 0} → (Told : Type 0) → (view : D → DiskView) → (block : ℕ) → Option Entry → ShelfView D → MoveRefusal → Type 0
IsDamageOf Told view block found shelf why.Spent = Unit {0}
IsDamageOf Told view block found shelf why.Load = Unit {0}
IsDamageOf Told view block found shelf why.Space = Unit {0}
IsDamageOf Told view block found shelf (why.Damaged kept bytes) = TellsDamage Told view block found shelf kept bytes
IsDamageOf Told view block found shelf why.Memory = Unit {0}
IsDamageOf Told view block found shelf why.Fault = Unit {0}

-- What is told where a record isn't read: of damage the entry's head, and what was read. Where no buffer that isn't flushed has the block it is
-- what stands at the place on a disk that tells its bytes.
abbrev pub IsUnreadOf : {D : Type 0} → (view : D → DiskView) → Entry → Place → ShelfView D → MoveRefusal → Type 0
IsUnreadOf view e place shelf why.Spent = Unit {0}
IsUnreadOf view e place shelf why.Load = Unit {0}
IsUnreadOf view e place shelf why.Space = Unit {0}
IsUnreadOf view e place shelf (why.Damaged kept bytes) = (kept ≡ kept_head e) × HasNoHeadOf e bytes
    × ((view shelf.disk).tells → AllByRecursion (λ b. b.block ≢ place.block) shelf.buffers → bytes ≡ take 48 (copy_bytes shelf.geometry place (view shelf.disk).seen))
IsUnreadOf view e place shelf why.Memory = Unit {0}
IsUnreadOf view e place shelf why.Fault = Unit {0}

-- ---- the copy

-- The record of an entry is moved to a place: where a buffer in memory has its block the record that this has there, and where no buffer that
-- isn't flushed has it, on a disk that tells its bytes, what stands there, with its payload and its cover flag. A buffer of moved records has it
-- then.
pub record CopiesRecord {D : Type 0} (view : D → DiskView) (digest : Digest) (e to : Entry) (old new : ShelfView D) : Type 0 where
  pub version : Version
  pub from_disk : (view old.disk).tells → AllByRecursion (λ b. b.block ≢ e.block) old.buffers → IsRead e (copy_bytes old.geometry (place_of e) (view old.disk).seen) version
  pub from_memory : (b : BufferState) (v : Version) → Contains (in_memory old) b → b.block ≡ e.block → HasRecord b e.unit digest v → Names e v → version ≡ v
  pub lies : LiesIn Defrag digest version new (place_of to)

-- ---- what is left

-- the disk was read, and nothing else has changed
pub record OnlyReads {D : Type 0} (view : D → DiskView) (old new : ShelfView D) : Type 0 where
  pub same : new ≡ record old { disk = new.disk }
  pub disk : OnlyRead (view old.disk) (view new.disk)

-- What a refused move leaves of the shelf: all of it, but that the disk may have been read, and for memory that was taken; and after a fault in
-- closing a gate what a refused append leaves.
abbrev pub IsShelfLeft : {D : Type 0} → (view : D → DiskView) → (old new : ShelfView D) → MoveRefusal → Type 0
IsShelfLeft view old new why.Spent = new ≡ old
IsShelfLeft view old new why.Load = new ≡ old
IsShelfLeft view old new why.Space = new ≡ old
IsShelfLeft view old new (why.Damaged kept bytes) = OnlyReads view old new
IsShelfLeft view old new why.Memory = OnlyRead (view old.disk) (view new.disk) × SameButRoom (record old { disk = new.disk }) new
IsShelfLeft view old new why.Fault = OnlyReads view old new ⊎ IsLeftBy old new put.Fault

-- What a move makes of what is kept of flushed buffers: as a copy of so many units to the buffer of moved records does; where nothing is
-- moved all is kept.
abbrev pub KeepsMoved : {D : Type 0} → (units : ℕ) → (old new : ShelfView D) → Result Bool MoveRefusal → Type 0
KeepsMoved units old new (Ok true) = BeginsInFirst Defrag units old new
KeepsMoved units old new (Ok false) = KeepsAll old new
KeepsMoved units old new (Err refusal) = KeepsAll old new
