-- Crate law_facts. The facts on the possible copies of a device, which each step keeps.
use Rattle.std.specs.Prelude.{ℕ, ◌<◌, ◌≤◌, true, List, [], Some, ◌≡◌, ◌⊎◌, Contains}
use Rattle.rec_format.specs.declared.version.Digest.{Digest}
use Rattle.rec_format.specs.declared.version.Version.{Version}
use Rattle.rec_format.specs.Places.{device_number}
use Rattle.rec_format.specs.Versions.{is_later}
use Rattle.model_device.specs.Histories.{writes_of}
use Rattle.model_device.specs.Book.{Setup}
use Rattle.model_device.specs.Device.{State, RaidState, Turn, mark_turn, scan_turn, apply_turn, drop_turn, finished, history, entry}
use Rattle.block_format.specs.Layout.{Body}
use Rattle.block_format.specs.Copies.{Copy, copies_of}
use Rattle.law_facts.specs.Guarded.{IsGuarded}

-- which versions of which digests are possible in which blocks
abbrev pub Possible : Type 1
Possible = (block : ℕ) → Digest → Version → Type 0

-- a version of a digest is possible in some block
abbrev pub somewhere : Possible → Digest → Version → Type 0
somewhere possible digest v = (block : ℕ) × possible block digest v

-- a possible copy in a block that is older than the entry of its digest
pub record IsOlder (s : State) (possible : Possible) (block : ℕ) (digest : Digest) (v : Version) : Type 0 where
  pub newer : Version
  pub top : entry s digest ≡ Some newer
  pub may_come : possible block digest v
  pub later : is_later newer v ≡ true

-- ---- raids

-- A raid will still come upon a copy: its block isn't scanned yet, or it was found and not yet compared.
abbrev pub IsAhead : RaidState → (block : ℕ) → Digest → Version → Type 0
IsAhead raid block digest v = (raid.scanned ≤ block) ⊎ Contains raid.found (digest, v.stamp)

-- the turns come in order: no block is scanned before all is marked, and nothing dropped before all is scanned and compared
abbrev pub IsInTurn : Setup → RaidState → Turn → Type 0
IsInTurn setup raid (mark_turn part) = raid.scanned ≡ 0
IsInTurn setup raid (scan_turn block) = block ≡ raid.scanned
IsInTurn setup raid (apply_turn part) = Unit {0}
IsInTurn setup raid (drop_turn part) = (setup.blocks ≤ raid.scanned) × (raid.found ≡ [])
IsInTurn setup raid finished = Unit {0}

-- ---- the facts

pub record HasFacts (setup : Setup) (s : State) (possible : Possible) : Type 0 where
  pub guarded : (digest : Digest) → IsGuarded (history s digest) (somewhere possible digest)
  -- what was written belongs to the device, and what is possible lies on it
  pub own : (digest : Digest) (v : Version) → Contains (writes_of (history s digest)) v → device_number setup.devices digest ≡ setup.device
  pub blocks : (block : ℕ) (digest : Digest) (v : Version) → possible block digest v → block < setup.blocks
  -- of a marked digest the raid will still come upon each copy that is older than the entry
  pub marks : (block : ℕ) (digest : Digest) (v : Version) → Contains s.raid.marked digest → IsOlder s possible block digest v → IsAhead s.raid block digest v
  pub turn : IsInTurn setup s.raid s.raid.next

-- ---- changes of what is possible

-- Copies may go. What comes is the version of an entry, in one of the blocks.
abbrev pub Becomes : Setup → State → (old new : Possible) → Type 0
Becomes setup s old new = (block : ℕ) (digest : Digest) (v : Version) → new block digest v → old block digest v ⊎ ((block < setup.blocks) × (entry s digest ≡ Some v))

-- the same copies are possible
abbrev pub SamePossible : (old new : Possible) → Type 0
SamePossible old new = (block : ℕ) (digest : Digest) (v : Version) → (old block digest v → new block digest v) × (new block digest v → old block digest v)

-- no possible copy of a digest is older than its entry
abbrev pub NoneOlder : State → Possible → Digest → Type 0
NoneOlder s possible digest = (block : ℕ) (v : Version) → IsOlder s possible block digest v → ⊥

-- the copies that some bodies have
abbrev pub copies_among : List Body → Possible
copies_among bodies block digest v = (c : Copy) × Contains (copies_of bodies) c × (c.block ≡ block) × (c.digest ≡ digest) × (c.version ≡ v)
