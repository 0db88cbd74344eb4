-- Crate shard_raid. What the turns of a raid answer, and what they make.
use Rattle.std.specs.Prelude.{◌≡◌, ◌≢◌, ◌<◌, ℕ, ◌&&◌, List, count_by, Result, Ok, Err, IfOk, IfErr, OnOk, OnErr, MatchResult}
use Rattle.model_faults.specs.Counts.{Rose}
use Rattle.disk_model.specs.Disk.{DiskView, IsHonest}
use Rattle.rec_format.specs.declared.entry.Entry.{Entry}
use Rattle.model_device.specs.Book.{Setup}
use Rattle.model_device.specs.Device.{State}
use Rattle.model_device.specs.Events.{Answer, turn_call, marks_made, block_scanned, marks_undone, part_ended, raid_over, refused, after_event}
use Rattle.block_format.specs.Layout.{body_bytes}
use Rattle.law_facts.specs.Facts.{SamePossible}
use Rattle.law_facts.specs.Asking.{ScansAll, ScansOnly}
use Rattle.raid_book.specs.declared.turn.RaidNext.{RaidNext}
use Rattle.raid_book.specs.declared.turn.RaidNext.TheVariants as turn
use Rattle.raid_book.specs.Turns.{turn_of}
use Rattle.raid_book.specs.Books.{given_up}
use Rattle.law_sprig.specs.Tests.{is_put_entry, is_tombstone_entry}
use Rattle.block_shelf.specs.Disks.{IsLater}
use Rattle.block_shelf.specs.View.{ShelfView, AreSure}
use Rattle.block_shelf.specs.Scans.{ClosesAtMost, FindsBody, NeedsRead, possible_copies}
use Rattle.block_shelf.specs.Keeping.{KeepsAll}
use Rattle.law_steps.specs.Standing.{ShelfIsSafe}
use Rattle.law_steps.specs.Events.{MakesEvent}
use Rattle.shard_raid.specs.Marks.{is_marked_by}
use Rattle.shard_raid.specs.Raids.{RaidView, turns_left}
use Rattle.shard_raid.specs.Scans.{IsDamageOf, IsRefusalOf, IsToldOf, IsOfTurn, cause_of}
use Rattle.shard_raid.specs.declared.scan.RaidRefusal.{RaidRefusal}
use Rattle.shard_raid.specs.declared.scan.RaidRefusal.TheVariants.{Stale, Damaged, Memory, Fault}
use Rattle.shard_raid.specs.declared.turn.RaidDid.{RaidDid}
use Rattle.shard_raid.specs.declared.turn.RaidDid.TheVariants.{Marked, Scanned, Applied, Dropped, Done}

-- ---- refusals

-- The raid is given up: its marks are void, and no copy that it found is in its book. All else is as it was, but for the disk and the gates.
abbrev pub GivesUp : {D : Type 0} → (old new : ShelfView D) → Type 0
GivesUp old new = new ≡ record old { disk = new.disk; gates = new.gates; raid = given_up old.raid }

-- What a turn leaves of the shelf where it is refused: all of it where it is stale, and else the raid is given up.
abbrev pub TurnLeaves : {D : Type 0} → (old new : ShelfView D) → RaidRefusal → Type 0
TurnLeaves old new (Stale number next) = new ≡ old
TurnLeaves old new (Damaged block place) = GivesUp old new
TurnLeaves old new Memory = GivesUp old new
TurnLeaves old new Fault = GivesUp old new

-- ---- answers

-- what a turn did, as its event tells it
abbrev pub did_answer : RaidDid → Answer
did_answer (Marked marks) = marks_made marks
did_answer (Scanned block) = block_scanned block
did_answer (Applied unmarked) = marks_undone unmarked
did_answer (Dropped removed cleared) = part_ended removed cleared
did_answer Done = raid_over

abbrev pub turn_answer : Result RaidDid RaidRefusal → Answer
turn_answer (Ok did) = did_answer did
turn_answer (Err refusal) = refused (cause_of refusal)

-- the answer is of the kind of the turn
abbrev pub IsDidOf : RaidNext → RaidDid → Type 0
IsDidOf (turn.Mark part) (Marked marks) = Unit {0}
IsDidOf (turn.Scan block) (Scanned other) = other ≡ block
IsDidOf (turn.Apply part) (Applied unmarked) = Unit {0}
IsDidOf (turn.Drop part) (Dropped removed cleared) = Unit {0}
IsDidOf turn.Finished Done = Unit {0}
IsDidOf _ _ = ⊥

-- the end of a part counts the entries with the mark of the raid of this number, by their kind
abbrev pub CountsEnds : (number : ℕ) → List Entry → RaidDid → Type 0
CountsEnds number entries (Dropped removed cleared) =
    (removed ≡ count_by (λ e. is_marked_by number e && is_tombstone_entry e) entries) × (cleared ≡ count_by (λ e. is_marked_by number e && is_put_entry e) entries)
CountsEnds number entries _ = Unit {0}

-- ---- events

-- no entry is removed or cleared in the turn
abbrev pub IsNoDrop : RaidNext → Type 0
IsNoDrop (turn.Drop part) = ⊥
IsNoDrop _ = Unit {0}

-- A turn of a raid makes one event. Where no gate is unsure, over an honest disk whose image was sound, a scan finds each possible copy of its
-- block that may be older than a marked entry, and nothing but possible copies; and but for the ends of parts what is possible stays so.
pub record TurnMakes {D : Type 0} (view : D → DiskView) (setup : Setup) (raid : RaidView) (now : ℕ) (result : Result RaidDid RaidRefusal) (old : ShelfView D) (s : State) (new : ShelfView D) (Stands : State → Type 0) : Type 0 where
  pub makes : MakesEvent view setup (turn_call raid.number (turn_of raid.next) now) (turn_answer result) old s new Stands
  pub all : AreSure old.gates → IsHonest (view old.disk) → ShelfIsSafe view setup old s → ScansAll s (possible_copies view old s) makes.event
  pub only : AreSure old.gates → IsHonest (view old.disk) → ShelfIsSafe view setup old s → ScansOnly s (possible_copies view old s) makes.event
  pub alike : AreSure old.gates → IsHonest (view old.disk) → ShelfIsSafe view setup old s → IsNoDrop raid.next
      → SamePossible (possible_copies view old s) (possible_copies view new (after_event setup makes.event s))

-- What the turn of the raid that runs makes of the shelf, by its answer. A turn that is refused gives the raid up, so that its marks are void and nothing that it
-- found is left, and leaves the rest as it was, but for the disk and the gate of a block that is scanned, which is closed where it was unsure; any other leaves fewer turns. It is never stale. A block that is read from a disk that tells its bytes has a body of the block, whose records are found, or the
-- damage that is told, and memory is wanting only where it has one; over every disk damage is told of no other block. No turn writes to a buffer, and the end of a part calls no disk.
pub record TakesTurn {D : Type 0} (view : D → DiskView) (next : RaidNext) (result : Result RaidDid RaidRefusal) (old new : ShelfView D) : Type 0 where
  pub of_turn : IfErr result IsOfTurn
  pub did : IfOk result (IsDidOf next)
  pub over : result ≡ Ok Done → new ≡ old
  pub number : OnOk result (new.raid.number ≡ old.raid.number)
  pub given_up : OnErr result (new.raid ≡ given_up old.raid)
  pub left : OnErr result (GivesUp old new)
  pub nearer : IfOk result (λ did. did ≢ Done → turns_left new.raid < turns_left old.raid)
  pub damaged : (view old.disk).tells → (block : ℕ) → next ≡ turn.Scan block → IfErr result (IsDamageOf old.geometry (body_bytes old.geometry block (view old.disk).seen) block)
  pub told : (block : ℕ) → next ≡ turn.Scan block → IfErr result (IsToldOf old block)
  pub there : (view old.disk).tells → (block : ℕ) → next ≡ turn.Scan block → NeedsRead old block
      → let bytes = body_bytes old.geometry block (view old.disk).seen in
      MatchResult result (λ did. FindsBody old.geometry old.limits.sprigs bytes block new.raid) (IsRefusalOf old.geometry bytes block)
  pub gates : (block : ℕ) → next ≡ turn.Scan block → ClosesAtMost block old new
  pub sure : AreSure old.gates → new.gates ≡ old.gates
  pub buffers : new.buffers ≡ old.buffers
  pub kept : KeepsAll old new
  pub ends : (part : ℕ) → next ≡ turn.Drop part → (new.disk ≡ old.disk) × (new.gates ≡ old.gates)
  pub cause : result ≡ Err Fault → Rose (view old.disk).faults (view new.disk).faults
  pub later : IsLater (view old.disk) (view new.disk)
  pub honest : IsHonest (view old.disk) → IsHonest (view new.disk)
  pub geometry : new.geometry ≡ old.geometry
  pub limits : new.limits ≡ old.limits
