-- Crate shard_raid. What the marks of a sprig become.
use Rattle.std.specs.Prelude.{◌≡◌, ℕ, ◌≤◌, Bool, not, ◌&&◌, ◌==◌, List, Option, Some, None, if◌then◌else◌}
use Rattle.std.specs.List.{AllByRecursion}
use Rattle.rec_format.specs.declared.version.Digest.{Digest}
use Rattle.rec_format.specs.declared.version.Stamp.{Stamp}
use Rattle.rec_format.specs.declared.entry.Entry.{Entry}
use Rattle.rec_format.specs.Versions.{is_later_stamp}
use Rattle.sprig_tree.specs.Entries.{entry_of, with_replaced}
use Rattle.sprig_tree.specs.State.{SprigState}
use Rattle.law_sprig.specs.Tests.{passes_test}
use Rattle.law_sprig.specs.Becoming.{with_mark, remarked}

-- no entry has a time above the high time
abbrev pub HasHighTime : SprigState → Type 0
HasHighTime sprig = AllByRecursion (λ e. e.stamp.lut ≤ sprig.hw) sprig.entries

-- The entries have other marks, and the rest is as before.
pub record HasMarksBy (mark_for : Entry → ℕ) (old new : SprigState) : Type 0 where
  pub entries : new.entries ≡ remarked mark_for old.entries
  pub high : HasHighTime old → new.hw ≡ old.hw
  pub spare : new.spare ≡ old.spare

-- the mark is that of the raid of this number; 0 is no mark
abbrev pub is_marked_by : ℕ → Entry → Bool
is_marked_by number e = not (e.mark == 0) && (e.mark == number)

-- an entry, if it is later than this stamp
abbrev pub if_later : Stamp → Option Entry → Option Entry
if_later stamp None = None
if_later stamp (Some e) = if is_later_stamp e.stamp stamp then Some e else None

-- an entry, if there is one, has no mark
abbrev pub with_unmarked : Option Entry → List Entry → List Entry
with_unmarked None entries = entries
with_unmarked (Some e) entries = with_replaced (with_mark 0 e) entries

-- The entry of a digest loses its mark, if it is later than this stamp. It is told whether that was the mark of the raid of this number.
pub record Unmarks (digest : Digest) (stamp : Stamp) (number : ℕ) (old new : SprigState) (told : Bool) : Type 0 where
  pub entries : new.entries ≡ with_unmarked (if_later stamp (entry_of digest old.entries)) old.entries
  pub told_is : told ≡ passes_test (λ e. is_marked_by number e && is_later_stamp e.stamp stamp) (entry_of digest old.entries)
  pub high : HasHighTime old → new.hw ≡ old.hw
  pub spare : new.spare ≡ old.spare
