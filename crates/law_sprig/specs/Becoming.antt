-- Crate law_sprig. What a sprig becomes in a step of its part.
use Rattle.std.specs.Prelude.{◌≡◌, ℕ, max, false, List, map, filter, ◌==◌, Option, Some, None, is_some, if◌then◌else◌}
use Rattle.std.specs.List.{filter_map}
use Rattle.rec_format.specs.declared.version.Digest.{Digest}
use Rattle.rec_format.specs.declared.version.Stamp.{Stamp}
use Rattle.rec_format.specs.declared.entry.Entry.{Entry}
use Rattle.model_device.specs.Book.{Setup}
use Rattle.model_device.specs.Device.{RaidState, part_of}
use Rattle.sprig_tree.specs.Entries.{entry_of, with_entry, with_replaced, without_digest}
use Rattle.sprig_tree.specs.State.{SprigState}
use Rattle.law_sprig.specs.Fits.{has_mark}
use Rattle.law_sprig.specs.Tests.{is_tombstone_entry, has_older_copy}
use Rattle.tomb_rules.specs.Covers.{is_eligible_entry}

-- an entry in place of the one of its digest, or one more
abbrev pub with_put : Entry → List Entry → List Entry
with_put e entries = if is_some (entry_of e.digest entries) then with_replaced e entries else with_entry e entries

-- ---- one entry

-- an entry was inserted, or put in place of the one of its digest
pub record TakesEntry (e : Entry) (old new : SprigState) : Type 0 where
  pub entries : new.entries ≡ with_put e old.entries
  pub high : new.hw ≡ max old.hw e.stamp.lut

-- an entry was put in place of the one of its digest
pub record Replaces (e : Entry) (old new : SprigState) : Type 0 where
  pub entries : new.entries ≡ with_replaced e old.entries
  pub high : new.hw ≡ max old.hw e.stamp.lut

-- the entry of a digest was taken out
pub record Loses (digest : Digest) (old new : SprigState) : Type 0 where
  pub entries : new.entries ≡ without_digest digest old.entries
  pub high : new.hw ≡ old.hw

abbrev pub moved_to : (block unit : ℕ) → Entry → Entry
moved_to block unit e = record e { block = block; unit = unit }

abbrev pub without_cover : Entry → Entry
without_cover e = record e { cover = false; mark = 0 }

-- ---- a raid's turns

abbrev pub with_mark : ℕ → Entry → Entry
with_mark mark e = record e { mark = mark }

-- other marks
abbrev pub remarked : (Entry → ℕ) → List Entry → List Entry
remarked mark_for entries = map (λ e. with_mark (mark_for e) e) entries

abbrev pub mark_given : (age now number : ℕ) → Entry → ℕ
mark_given age now number e = if is_eligible_entry age now e then number else e.mark

-- the found copies of a part
abbrev pub found_of : Setup → (part : ℕ) → RaidState → List (Digest × Stamp)
found_of setup part raid = filter (λ f. part_of setup f.0 == part) raid.found

abbrev pub mark_left : List (Digest × Stamp) → Entry → ℕ
mark_left found e = if has_older_copy found e then 0 else e.mark

-- a marked tombstone loses its entry, and a marked put its cover flag
abbrev pub ended_entry : RaidState → Entry → Option Entry
ended_entry raid e = if has_mark raid e then (if is_tombstone_entry e then None else Some (without_cover e)) else Some e

abbrev pub raid_ended : RaidState → List Entry → List Entry
raid_ended raid entries = filter_map (ended_entry raid) entries
