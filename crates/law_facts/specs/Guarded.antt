-- Crate law_facts. What the history of a digest and its possible copies have to do with one another. A copy is possible if a start may find
-- it: in a buffer that isn't flushed, or in an image that the disk may leave.
use Rattle.std.specs.Prelude.{true, List, [], ◌∷◌, ◌≡◌, Contains}
use Rattle.rec_format.specs.declared.version.Version.{Version}
use Rattle.rec_format.specs.Versions.{is_later, is_put, is_tombstone}
use Rattle.model_device.specs.Histories.{Item, write, dropped, rid, cleared, is_covered, writes_of}
use Rattle.law_start.specs.Orderly.{IsFalling}

-- the versions that were written since the last removal
abbrev pub standing_writes : List Item → List Version
standing_writes [] = []
standing_writes (write v numbers ∷ older) = v ∷ standing_writes older
standing_writes (dropped ∷ older) = []
standing_writes (rid ∷ older) = []
standing_writes (cleared ∷ older) = standing_writes older

-- a tombstone that was written, and an older copy is possible
pub record IsNeeded (items : List Item) (possible : Version → Type 0) (tombstone : Version) : Type 0 where
  pub written : Contains (writes_of items) tombstone
  pub is_one : is_tombstone tombstone ≡ true
  pub older : Version
  pub may_come : possible older
  pub later : is_later tombstone older ≡ true

-- Each write is later than those before it, and the possible copies are among them. A tombstone that is needed was written since the last
-- removal, the entry is covered, and so is each possible put behind it.
pub record IsGuarded (items : List Item) (possible : Version → Type 0) : Type 0 where
  pub falling : IsFalling (writes_of items)
  pub written : (v : Version) → possible v → Contains (writes_of items) v
  pub standing : (t : Version) → IsNeeded items possible t → Contains (standing_writes items) t
  pub covered : (t : Version) → IsNeeded items possible t → is_covered items ≡ true
  pub puts : (t p : Version) → IsNeeded items possible t → possible p → is_put p ≡ true → is_later p t ≡ true → p.cover ≡ true
