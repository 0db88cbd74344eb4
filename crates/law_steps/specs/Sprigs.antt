-- Crate law_steps. What a step says of a sprig: where the copy of an entry lies, and what stays.
use Rattle.std.specs.Prelude.{◌≡◌, ◌≤◌}
use Rattle.std.specs.List.{AllByRecursion}
use Rattle.rec_format.specs.declared.entry.Entry.{Entry}
use Rattle.sprig_tree.specs.State.{SprigState}
use Rattle.block_shelf.specs.declared.place.Place.{Place}

-- where the copy of an entry lies
abbrev pub place_of : Entry → Place
place_of e = record { block = e.block; unit = e.unit; units = e.units }

-- each entry of a sprig has a time
abbrev pub HasTimes : SprigState → Type 0
HasTimes sprig = AllByRecursion (λ e. 1 ≤ e.stamp.lut) sprig.entries

-- the entries stay, and so does the high time; memory may have been taken
pub record SameSprig (old new : SprigState) : Type 0 where
  pub entries : new.entries ≡ old.entries
  pub high : new.hw ≡ old.hw
