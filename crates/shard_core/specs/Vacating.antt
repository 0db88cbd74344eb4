-- Crate shard_core. What several events in a row make of a shard, and how the vacating of a block is answered.
use Rattle.std.specs.Prelude.{◌≡◌, ℕ, ◌+◌, ◌≤◌, ◌<◌, ◌==◌, Bool, true, false, List, length, Option, Some, None, Result, Ok, Err}
use Rattle.std.specs.List.{AllByRecursion}
use Rattle.rec_format.specs.declared.version.Digest.{Digest}
use Rattle.rec_format.specs.declared.entry.Entry.{Entry}
use Rattle.rec_format.specs.Places.{device_number}
use Rattle.model_device.specs.Book.{Setup, Book, has_buffer, live_of, use_of}
use Rattle.model_device.specs.Device.{State, part_of}
use Rattle.model_device.specs.Events.{Event, Answer, move_call, happened, refused, Cause, spent, overload, no_space, damaged, no_memory, disk_fault, after_events, states_of}
use Rattle.model_device.specs.Legal.{IsLegal, last_faults, queue_front, is_in_block}
use Rattle.model_device.specs.Vacating.{IfRefused, MovesOut, Vacates, Tends, did, stopped, moved_count}
use Rattle.law_room.specs.Room.{GainsRoom, FindsRoom}
use Rattle.law_refused.specs.Refusals.{EachLeaves}
use Rattle.disk_model.specs.Disk.{DiskView, IsHonest}
use Rattle.disk_model.specs.Runs.{OneOf, Leaves}
use Rattle.law_start.specs.Surviving.{Survives}
use Rattle.block_format.specs.Layout.{body_bytes}
use Rattle.block_shelf.specs.Standing.{IsPlaced}
use Rattle.block_shelf.specs.Scans.{IsDamageOf}
use Rattle.block_shelf.specs.Vacating.{IsReadNext}
use Rattle.law_steps.specs.Standing.{ShelfIsSafe}
use Rattle.block_shelf.specs.declared.refusals.VacateRefusal.{VacateRefusal}
use Rattle.block_shelf.specs.declared.refusals.VacateRefusal.TheVariants as vacate
use Rattle.defrag_pass.specs.Moves.{TellsDamage}
use Rattle.defrag_pass.specs.declared.refusal.MoveRefusal.{MoveRefusal}
use Rattle.defrag_pass.specs.declared.refusal.MoveRefusal.TheVariants as move
use Rattle.shard_core.specs.declared.refusals.Damage.TheVariants as damage
use Rattle.shard_core.specs.declared.refusals.DefragCause.{DefragCause}
use Rattle.shard_core.specs.declared.refusals.DefragCause.TheVariants as why
use Rattle.shard_core.specs.declared.refusals.DefragRefusal.{DefragRefusal}
use Rattle.shard_core.specs.declared.defrag.Vacated.{Vacated}
use Rattle.shard_core.specs.Sprigs.{held}
use Rattle.shard_core.specs.View.{ShardView, setup_of}
use Rattle.shard_core.specs.Stands.{Agrees}

-- From a state for which a shard stood, events that are this work may follow one another, and the shard stands for the state after them. An event
-- that is refused leaves the state in which it comes, but for what `left` names. Over
-- an honest disk that was safe they may follow as those over a disk that tells what it holds, the shelf is safe then, and each image that a
-- crash meanwhile might have left survives the state before, or one after some of the steps of the events.
pub record MakesEvents {D : Type 0} (view : D → DiskView) (Work : List Event → Type 0) (old : ShardView D) (s : State) (new : ShardView D) : Type 0 where
  pub events : List Event
  pub works : Work events
  pub legal : IsLegal (setup_of old) false s (view old.shelf.disk).faults events
  pub told : IsHonest (view old.shelf.disk) → ShelfIsSafe view (setup_of old) old.shelf s → IsLegal (setup_of old) true s (view old.shelf.disk).faults events
  pub left : EachLeaves (setup_of old) s events
  pub counted : last_faults (view old.shelf.disk).faults events ≡ (view new.shelf.disk).faults
  pub stands : Agrees new (after_events (setup_of old) events s)
  pub placed : IsHonest (view old.shelf.disk) → IsPlaced view old.shelf s → IsPlaced view new.shelf (after_events (setup_of old) events s)
  pub safe : IsHonest (view old.shelf.disk) → ShelfIsSafe view (setup_of old) old.shelf s → ShelfIsSafe view (setup_of old) new.shelf (after_events (setup_of old) events s)
  pub leaves : IsHonest (view old.shelf.disk) → ShelfIsSafe view (setup_of old) old.shelf s
      → Leaves (OneOf (Survives (setup_of old)) (states_of (setup_of old) events s)) (view old.shelf.disk) (view new.shelf.disk)

-- The events of a tending, which gains room as the law of tending says: where nothing was refused it leaves the device at rest, or less to
-- vacate; and where a block was free no move is refused for want of space.
abbrev pub TendsWell : Setup → State → List Event → Type 0
TendsWell setup s events = Tends setup s events × GainsRoom setup s events × FindsRoom s events

-- ---- moves out of a block

-- some moves out of the block, of which none was refused
abbrev pub AreMoves : (block : ℕ) → List Event → Type 0
AreMoves block events = AllByRecursion (λ event. ((digest : Digest) × (event.call ≡ move_call digest block)) × IfRefused event.answer (λ cause. ⊥) (Unit {0})) events

-- No buffer has the block, and each digest whose record lies in it is of this part or of a later one.
pub record LiesFrom (setup : Setup) (part block : ℕ) (book : Book) : Type 0 where
  pub unbuffered : has_buffer book block ≡ false
  pub from : (digest : Digest) → is_in_block block (live_of digest book.live) ≡ true → part ≤ part_of setup digest

-- So many records were moved out of the block so far, each with some units of it, and those that lie in it still are of this part or of a
-- later one.
pub record HaveMoved (setup : Setup) (block : ℕ) (s : State) (moved part : ℕ) (events : List Event) : Type 0 where
  pub moves : AreMoves block events
  pub count : moved ≡ moved_count events
  pub left : moved + use_of (after_events setup events s).book block ≤ use_of s.book block
  pub lie : LiesFrom setup part block (after_events setup events s).book

-- ---- what lies in a block

-- whether the record of an entry lies in a block
abbrev pub lies_in : (block : ℕ) → Option Entry → Bool
lies_in block None = false
lies_in block (Some e) = e.block == block

-- each digest of the device is of a part that has a sprig
abbrev pub HasParts : {D : Type 0} → ShardView D → Type 0
HasParts shard = (digest : Digest) → device_number shard.shelf.geometry.devices digest ≡ shard.shelf.geometry.device → part_of (setup_of shard) digest < length shard.sprigs

-- no record of a digest lies in the block that is of a part from one on and below another
abbrev pub NoneLies : {D : Type 0} → ShardView D → (block from to : ℕ) → Type 0
NoneLies shard block from to = (digest : Digest) → from ≤ part_of (setup_of shard) digest → part_of (setup_of shard) digest < to → lies_in block (held (setup_of shard) digest shard.sprigs) ≡ false

-- A digest of the device whose record lies in the block: there is none of a part from this one on and below its own.
pub record IsNextIn {D : Type 0} (shard : ShardView D) (block from : ℕ) (digest : Digest) : Type 0 where
  pub own : device_number shard.shelf.geometry.devices digest ≡ shard.shelf.geometry.device
  pub lies : lies_in block (held (setup_of shard) digest shard.sprigs) ≡ true
  pub behind : from ≤ part_of (setup_of shard) digest
  pub none : NoneLies shard block from (part_of (setup_of shard) digest)

-- ---- damage

-- Damage is told as a move tells it of the record of an entry in the block, which stands there yet; and of nothing else.
abbrev pub IsDamageIn : {D : Type 0} → (Told : Type 0) → (view : D → DiskView) → (block : ℕ) → ShardView D → DefragCause → Type 0
IsDamageIn Told view block shard why.Spent = Unit {0}
IsDamageIn Told view block shard why.Load = Unit {0}
IsDamageIn Told view block shard why.Space = Unit {0}
IsDamageIn Told view block shard (why.Damaged (damage.Record kept bytes)) =
    (digest : Digest) × TellsDamage Told view block (held (setup_of shard) digest shard.sprigs) shard.shelf kept bytes
IsDamageIn Told view block shard (why.Damaged (damage.Block other place)) = ⊥
IsDamageIn Told view block shard why.Memory = Unit {0}
IsDamageIn Told view block shard why.Fault = Unit {0}

-- so a vacating tells it: of a record as a move does; of the body of the block, which was read from the disk, by the place of its first fault,
-- and where the disk tells its bytes no body of the block stands there
abbrev pub IsDamageFound : {D : Type 0} → (view : D → DiskView) → (block : ℕ) → (old new : ShardView D) → DefragCause → Type 0
IsDamageFound view block old new why.Spent = Unit {0}
IsDamageFound view block old new why.Load = Unit {0}
IsDamageFound view block old new why.Space = Unit {0}
IsDamageFound view block old new (why.Damaged (damage.Record kept bytes)) = IsDamageIn (view old.shelf.disk).tells view block new (why.Damaged (damage.Record kept bytes))
IsDamageFound view block old new (why.Damaged (damage.Block other place)) = (other ≡ block) × IsReadNext old.shelf other
    × ((view old.shelf.disk).tells → IsDamageOf old.shelf.geometry (body_bytes old.shelf.geometry other (view old.shelf.disk).seen) other (vacate.Damaged other place))
IsDamageFound view block old new why.Memory = Unit {0}
IsDamageFound view block old new why.Fault = Unit {0}

-- where the block's body was read one stands there, unless its damage is told or the disk failed
abbrev pub HasBodyUnless : (HasBody : Type 0) → DefragCause → Type 0
HasBodyUnless HasBody why.Spent = HasBody
HasBodyUnless HasBody why.Load = HasBody
HasBodyUnless HasBody why.Space = HasBody
HasBodyUnless HasBody (why.Damaged (damage.Record kept bytes)) = HasBody
HasBodyUnless HasBody (why.Damaged (damage.Block other place)) = Unit {0}
HasBodyUnless HasBody why.Memory = HasBody
HasBodyUnless HasBody why.Fault = Unit {0}

-- ---- how a vacating is answered

-- what a refused move is to it
abbrev pub move_cause : MoveRefusal → DefragCause
move_cause move.Spent = why.Spent
move_cause move.Load = why.Load
move_cause move.Space = why.Space
move_cause (move.Damaged kept bytes) = why.Damaged (damage.Record kept bytes)
move_cause move.Memory = why.Memory
move_cause move.Fault = why.Fault

-- and a refused choice
abbrev pub vacate_cause : VacateRefusal → DefragCause
vacate_cause (vacate.Damaged block place) = why.Damaged (damage.Block block place)
vacate_cause vacate.Memory = why.Memory
vacate_cause vacate.Fault = why.Fault

-- the cause of the event that was refused; the numbers of a refusal for load or space are the state's
abbrev pub IsCauseOf : DefragCause → Cause → Type 0
IsCauseOf why.Spent cause = cause ≡ spent
IsCauseOf why.Load cause = (pending : ℕ) × (cause ≡ overload pending)
IsCauseOf why.Space cause = (free : ℕ) × (cause ≡ no_space free)
IsCauseOf (why.Damaged damage) cause = cause ≡ damaged
IsCauseOf why.Memory cause = cause ≡ no_memory
IsCauseOf why.Fault cause = cause ≡ disk_fault

-- the answer of the event of one move
abbrev pub IsMoved : Result Bool DefragCause → Answer → Type 0
IsMoved (Ok moved) answer = answer ≡ happened moved
IsMoved (Err why_not) answer = (cause : Cause) × IsCauseOf why_not cause × (answer ≡ refused cause)

-- moves out of the block, of which the last was refused
abbrev pub IsStopped : Setup → (block : ℕ) → State → DefragRefusal → List Event → Type 0
IsStopped setup block s refusal events = (cause : Cause) × IsCauseOf refusal.cause cause × (refusal.moved ≡ moved_count events) × (refusal.moved ≤ use_of s.book block)
    × MovesOut setup block s 0 events (stopped cause)

-- some records were moved out of the block, or a move was refused
abbrev pub IsMovedSome : Setup → (block : ℕ) → State → Result ℕ DefragRefusal → List Event → Type 0
IsMovedSome setup block s (Ok moved) events = HaveMoved setup block s moved 0 events
IsMovedSome setup block s (Err refusal) events = IsStopped setup block s refusal events

-- nothing is live in the block, or a move was refused
abbrev pub IsMovedOut : Setup → (block : ℕ) → State → Result ℕ DefragRefusal → List Event → Type 0
IsMovedOut setup block s (Ok moved) events = (moved ≤ use_of s.book block) × MovesOut setup block s 0 events (did moved 1)
IsMovedOut setup block s (Err refusal) events = IsStopped setup block s refusal events

-- The front of the queue was vacated, or nothing was queued; or a choice or a move was refused, and so many records were moved before.
abbrev pub IsVacating : {D : Type 0} → ShardView D → State → Result (Option Vacated) DefragRefusal → List Event → Type 0
IsVacating shard s (Ok None) events = Vacates (setup_of shard) s events (did 0 0)
IsVacating shard s (Ok (Some vacated)) events = (queue_front s.book.queue ≡ Some vacated.block) × Vacates (setup_of shard) s events (did vacated.moved 1)
IsVacating shard s (Err refusal) events =
    (cause : Cause) × IsCauseOf refusal.cause cause × (refusal.moved ≡ moved_count events) × Vacates (setup_of shard) s events (stopped cause)
