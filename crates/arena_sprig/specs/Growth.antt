-- What contracts see of a sprig's tree, what the tree keeps, and how its arena and its links grow.
use Rattle.std.specs.Prelude.{◌≡◌, ℕ, ◌+◌, ◌<◌, ◌≤◌, List, [], length, Option, None, Some, slice_index_or}
use Rattle.std.specs.Global.{Box}
use Rattle.rec_format.specs.declared.entry.Entry.{Entry}
use Rattle.entry_arena.specs.State.{ArenaState}
use Rattle.arena_sprig.specs.declared.links.Link.{Link}
use Rattle.sprig_tree.specs.declared.tally.Tally.{Tally}
use Rattle.sprig_tree.specs.Tallies.{tally_of}
use Rattle.arena_sprig.specs.Tree.{no_link, IsLinked, IsTree, entries_from}

-- the links of more slots: those that had links keep them
pub record IsLonger (old new : List Link) : Type 0 where
  pub longer : length old ≤ length new
  pub same : (slot : ℕ) → slot < length old → slice_index_or new slot no_link ≡ slice_index_or old slot no_link

-- more slots are there, and those in use keep their entries and links
pub record IsGrown (old : ArenaState) (old_links : List Link) (new : ArenaState) (new_links : List Link) : Type 0 where
  pub linked : IsLinked new.slots new_links
  pub longer : length old_links ≤ length new_links
  pub kept : (entry : Entry) (slot : ℕ) → slice_index_or old.slots slot None ≡ Some entry → (slice_index_or new.slots slot None ≡ Some entry) × (slice_index_or new_links slot no_link ≡ slice_index_or old_links slot no_link)
  pub filled : length new.slots + old.spare ≡ length old.slots + new.spare
  pub rises : old.spare ≤ new.spare

-- the entries in digest order, and how many more may be put in before more room has to be reserved
pub record TreeState : Type 0 where
  pub entries : List Entry
  pub spare : ℕ

-- the same of a sprig, which has no tree while no room was ever asked for
abbrev pub entries_of : Option (Box TreeState) → List Entry
entries_of None = []
entries_of (Some tree) = tree.value.entries

abbrev pub spare_of : Option (Box TreeState) → ℕ
spare_of None = 0
spare_of (Some tree) = tree.value.spare

-- What every tree keeps: it hangs right, the slots that it doesn't use are spare, there is the room that it promised, and the
-- tally is that of its entries.
pub record IsKept (arena : ArenaState) (links : List Link) (root count room : ℕ) (tally : Tally) : Type 0 where
  pub tree : IsTree arena.slots links root count
  pub filled : count + arena.spare ≡ length arena.slots
  pub promised : room ≤ arena.spare
  pub tallied : tally ≡ tally_of (entries_from count arena.slots links root)
