-- What contracts see of an arena.
use Rattle.std.specs.Prelude.{◌≡◌, ℕ, ◌+◌, ◌++◌, min, List, replicate, Option, None, slice_index_or}
use Rattle.rec_format.specs.declared.entry.Entry.{Entry}

-- the entry of each slot that is in use, by the slot's number; and how many puts there is room for
pub record ArenaState : Type 0 where
  pub slots : List (Option Entry)
  pub spare : ℕ

abbrev pub entry_at : ArenaState → ℕ → Option Entry
entry_at a slot = slice_index_or a.slots slot None

-- how many slots the stage has that comes behind so many slots
abbrev pub width_after : ℕ → ℕ
width_after slots = min (slots + 4) 4096

-- so many slots more, none of them in use
abbrev pub with_free : ℕ → ArenaState → ArenaState
with_free count a = record { slots = a.slots ++ replicate count None; spare = a.spare + count }

-- some slots more, none of them in use; the entry of each slot is the one before
pub record Grows (old new : ArenaState) : Type 0 where
  pub count : ℕ
  pub is : new ≡ with_free count old
