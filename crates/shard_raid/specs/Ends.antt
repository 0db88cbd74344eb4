-- Crate shard_raid. What the end of a raid leaves of the entries of a part, and by which steps.
use Rattle.std.specs.Prelude.{◌≡◌, ◌⊎◌, ℕ, ◌≤◌, List, [], ◌∷◌, Option, Some, None, if◌then◌else◌}
use Rattle.std.specs.List.{filter_map}
use Rattle.disk_model.specs.Disk.{DiskView}
use Rattle.rec_format.specs.declared.version.Digest.{Digest}
use Rattle.rec_format.specs.declared.entry.Entry.{Entry}
use Rattle.model_device.specs.Book.{Setup}
use Rattle.model_device.specs.Device.{State}
use Rattle.model_device.specs.Steps.{Step, rid_of, uncovered, after_steps}
use Rattle.law_facts.specs.Facts.{Possible, NoneOlder}
use Rattle.raid_book.specs.declared.turn.RaidNext.TheVariants.{Drop}
use Rattle.sprig_tree.specs.Entries.{entry_of, with_replaced, without_digest}
use Rattle.sprig_tree.specs.State.{SprigState}
use Rattle.law_sprig.specs.Tests.{is_tombstone_entry}
use Rattle.law_sprig.specs.Becoming.{without_cover}
use Rattle.block_shelf.specs.View.{ShelfView, IsSetupOf, SameShape}
use Rattle.block_shelf.specs.Calls.{Goes}
use Rattle.block_shelf.specs.Keeping.{KeepsAll}
use Rattle.law_steps.specs.Standing.{StandTogether}
use Rattle.shard_raid.specs.Marks.{HasHighTime, is_marked_by}

-- each digest's entry stays as it was, or no possible copy of it is older
abbrev pub SparesOlder : State → Possible → (old new : List Entry) → Type 0
SparesOlder s possible old new = (digest : Digest) → (entry_of digest new ≡ entry_of digest old) ⊎ NoneOlder s possible digest

-- what is left of an entry: of a tombstone with the mark of the raid of this number nothing, and of a put with it neither flag nor mark
abbrev pub left_by : ℕ → Entry → Option Entry
left_by number e = if is_marked_by number e then (if is_tombstone_entry e then None else Some (without_cover e)) else Some e

-- Of the entries with the mark of the raid of this number tombstones are gone, and puts have lost flag and mark; the rest is as before.
pub record EndsMarked (number : ℕ) (old new : SprigState) : Type 0 where
  pub entries : new.entries ≡ filter_map (left_by number) old.entries
  pub high : HasHighTime old → new.hw ≡ old.hw

-- ---- one entry

abbrev pub with_ended : ℕ → Entry → List Entry → List Entry
with_ended number e entries =
    if is_marked_by number e then (if is_tombstone_entry e then without_digest e.digest entries else with_replaced (without_cover e) entries) else entries

-- The same of one entry alone.
pub record EndsOne (number : ℕ) (e : Entry) (old new : SprigState) : Type 0 where
  pub entries : new.entries ≡ with_ended number e old.entries
  pub high : e.stamp.lut ≤ old.hw → new.hw ≡ old.hw

-- the step that it takes, if it is marked
abbrev pub end_steps : ℕ → Entry → List Step
end_steps number e = if is_marked_by number e then (if is_tombstone_entry e then rid_of e.digest else uncovered e.digest) ∷ [] else []

-- ---- sprig and shelf

-- The end of this part is the next turn of the raid, and sprig and shelf stand for one state.
pub record StandAtEnd {D : Type 0} (setup : Setup) (part : ℕ) (sprig : SprigState) (shelf : ShelfView D) (s : State) : Type 0 where
  pub turn : shelf.raid.next ≡ Drop part
  pub is_setup : IsSetupOf setup shelf
  pub together : StandTogether setup part sprig shelf s

-- The shelf goes by some steps, and sprig and shelf stand for the state behind them.
pub record GoTogether {D : Type 0} (view : D → DiskView) (setup : Setup) (part : ℕ) (steps : List Step) (old : ShelfView D) (s : State) (sprig : SprigState) (new : ShelfView D) : Type 0 where
  pub goes : Goes view setup steps old s new
  pub together : StandTogether setup part sprig new (after_steps setup steps s)

-- The disk stays, what is known of its gates, the buffers, what is kept of flushed ones, the shape, the limits, and the book of the raid.
pub record SameDisk {D : Type 0} (old new : ShelfView D) : Type 0 where
  pub disk : new.disk ≡ old.disk
  pub gates : new.gates ≡ old.gates
  pub buffers : new.buffers ≡ old.buffers
  pub kept : KeepsAll old new
  pub shape : SameShape old new
