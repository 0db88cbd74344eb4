-- Crate cold_scan. What a scan of a device finds: its gates, and the latest copies behind the open ones.
use Rattle.std.specs.Prelude.{◌≡◌, ℕ, ◌+◌, ◌≤◌, max, ◌==◌, Bool, true, false, List, [], ◌∷◌, map, option_map, length, Option, Some, None, slice_get, take, MatchBool, if◌then◌else◌}
use Rattle.std.specs.List.{AllByRecursion}
use Rattle.std.specs.BTreeMap.{BTreeMap, get, IsOrdered}
use Rattle.rec_format.specs.declared.version.Digest.{Digest}
use Rattle.rec_format.specs.Places.{IsDigest, device_number, digest_cmp, same_digest}
use Rattle.rec_format.specs.Versions.{version_units, is_later_stamp, top_number, block_capacity}
use Rattle.rec_format.specs.RecordText.{head_of}
use Rattle.disk_model.specs.Disk.{DiskView}
use Rattle.block_format.specs.declared.geometry.Geometry.{Geometry}
use Rattle.block_format.specs.declared.geometry.Gate.{Gate}
use Rattle.block_format.specs.declared.geometry.Gate.TheVariants.{Shut, Set, Unsure}
use Rattle.block_format.specs.declared.geometry.Found.{Found}
use Rattle.block_format.specs.Layout.{IsGeometry, IsOpen, IsClosed, gate_sector, body_bytes, device_end, Body, IsBody, IsFaultAt}
use Rattle.block_format.specs.Copies.{Copy, copies_from, copies_of, cold_copy}
use Rattle.block_format.specs.Refusals.{IsDamagedAt}
use Rattle.model_device.specs.Book.{Setup}
use Rattle.model_device.specs.Device.{State}
use Rattle.law_start.specs.Start.{greatest_number, entries_state, cold_copies}
use Rattle.cold_scan.specs.declared.header.Asked.{Asked}
use Rattle.cold_scan.specs.declared.header.StartCause.{StartCause}
use Rattle.cold_scan.specs.declared.header.StartCause.TheVariants.{NotFormatted, OtherGeometry, DamagedBlock, Memory, Fault}
use Rattle.cold_scan.specs.declared.bodies.Kept.{Kept}
use Rattle.cold_scan.specs.declared.bodies.Taken.{Taken}
use Rattle.cold_scan.specs.declared.device.Finding.{Finding}
use Rattle.cold_scan.specs.Starting.{Passes, own_copies}

-- the device that was asked for, and all of it is there
pub record IsShaped (asked : Asked) (extent : ℕ) (g : Geometry) : Type 0 where
  pub geometry : IsGeometry g
  pub device : g.device ≡ asked.device
  pub devices : g.devices ≡ asked.devices
  pub room : device_end g ≤ extent

-- ---- gates

abbrev pub is_set : Gate → Bool
is_set Shut = false
is_set Set = true
is_set Unsure = false

-- it is known whether the gate is open
abbrev pub IsSure : Gate → Type 0
IsSure Shut = Unit {0}
IsSure Set = Unit {0}
IsSure Unsure = ⊥

-- what is told of a gate stands in its sector
abbrev pub TellsSector : Gate → List ℕ → Type 0
TellsSector Shut sector = IsClosed sector
TellsSector Set sector = IsOpen sector
TellsSector Unsure sector = ⊥

-- so it is told of each block
abbrev pub AreGates : Geometry → List ℕ → List Gate → Type 0
AreGates g bytes gates = (k : ℕ) (gate : Gate) → slice_get gates k ≡ Some gate → TellsSector gate (gate_sector g k bytes)

-- the blocks whose gate is open, the lowest first
abbrev pub set_blocks : (block : ℕ) → List Gate → List ℕ
set_blocks block [] = []
set_blocks block (Shut ∷ gates) = set_blocks (block + 1) gates
set_blocks block (Set ∷ gates) = block ∷ set_blocks (block + 1) gates
set_blocks block (Unsure ∷ gates) = set_blocks (block + 1) gates

-- a copy of a digest, which has a time, within a block whose gate is open
pub record LiesBehind (g : Geometry) (gates : List Gate) (c : Copy) : Type 0 where
  pub named : IsDigest c.digest
  pub time : 1 ≤ c.version.stamp.lut
  pub gate : slice_get gates c.block ≡ Some Set
  pub within : c.unit + version_units c.version ≤ block_capacity g.block_size

-- ---- copy by copy

-- what is kept of a copy
abbrev pub kept_of : Copy → Kept
kept_of c = record { head = head_of c.digest c.version; place_block = c.block; unit = c.unit; units = version_units c.version }

-- what is kept of a record that was found in a block
abbrev pub kept_found : (block : ℕ) → Found → Kept
kept_found block found = record { head = found.head; place_block = block; unit = found.unit; units = found.units }

-- the later of two copies of a digest, of equal ones the first
abbrev pub later_kept : Option Kept → Kept → Kept
later_kept None k = k
later_kept (Some found) k = if is_later_stamp k.head.stamp found.head.stamp then k else found

-- a map with one copy more, where its digest has none or an earlier one
pub record KeepsLater (k : Kept) (old new : BTreeMap Digest Kept) : Type 0 where
  pub each : (digest : Digest) → get digest_cmp new digest ≡ (if same_digest digest k.head.digest then Some (later_kept (get digest_cmp old k.head.digest) k) else get digest_cmp old digest)
  pub ordered : IsOrdered digest_cmp old → IsOrdered digest_cmp new

-- So it is taken where its digest belongs to the device; digests of other devices are passed over.
abbrev pub KeepsOne : Geometry → Kept → (old new : BTreeMap Digest Kept) → Type 0
KeepsOne g k old new = MatchBool (device_number g.devices k.head.digest == g.device) (KeepsLater k old new) (new ≡ old)

abbrev pub KeepsAll : Geometry → List Kept → (old new : BTreeMap Digest Kept) → Type 0
KeepsAll g [] old new = new ≡ old
KeepsAll g (k ∷ kept) old new = (mid : BTreeMap Digest Kept) × KeepsOne g k old mid × KeepsAll g kept mid new

-- Of each digest of the device the map has the latest of these copies, and of no other digest one. Its digests ascend.
pub record HasKept (g : Geometry) (copies : List Copy) (latest : BTreeMap Digest Kept) : Type 0 where
  pub each : (digest : Digest) → get digest_cmp latest digest ≡ option_map kept_of (cold_copy digest (own_copies g.device g.devices copies))
  pub ordered : IsOrdered digest_cmp latest

-- ---- block by block

-- Over any disk: behind the open ones of the first gates were these bodies, and what they have was found.
pub record IsTaken (g : Geometry) (gates : List Gate) (count : ℕ) (bodies : List Body) (taken : Taken) : Type 0 where
  pub latest : HasKept g (copies_of bodies) taken.latest
  pub lie : AllByRecursion (LiesBehind g gates) (copies_of bodies)
  pub opened : map (λ b. b.block) bodies ≡ set_blocks 0 (take count gates)
  pub copies : taken.copies ≡ length (copies_of bodies)
  pub number : taken.greatest ≡ greatest_number bodies
  pub top : taken.greatest ≤ top_number

-- these bytes begin with a body of the block, its records are counted, and the latest are kept
pub record TakesBody (g : Geometry) (block : ℕ) (bytes : List ℕ) (old new : Taken) : Type 0 where
  pub body : Body
  pub is_body : IsBody (block_capacity g.block_size) bytes body
  pub block_is : body.block ≡ block
  pub latest : KeepsAll g (map kept_of (copies_from block 0 body.records)) old.latest new.latest
  pub copies : new.copies ≡ old.copies + length body.records
  pub greatest : new.greatest ≡ max old.greatest body.number

-- a block can't be taken: for want of memory, a fault, or since it has no body
abbrev pub StopsOn : Geometry → List ℕ → (block : ℕ) → StartCause → Type 0
StopsOn g bytes block (NotFormatted first) = ⊥
StopsOn g bytes block (OtherGeometry kept asked size) = ⊥
StopsOn g bytes block (DamagedBlock damaged place) = (damaged ≡ block) × IsFaultAt (block_capacity g.block_size) (body_bytes g block bytes) block place
StopsOn g bytes block Memory = Unit {0}
StopsOn g bytes block Fault = Unit {0}

-- the blocks can't be taken for one of these causes
abbrev pub IsStopped : Geometry → List ℕ → StartCause → Type 0
IsStopped g bytes (NotFormatted first) = ⊥
IsStopped g bytes (OtherGeometry kept asked size) = ⊥
IsStopped g bytes (DamagedBlock block place) = IsDamagedAt g bytes block place
IsStopped g bytes Memory = Unit {0}
IsStopped g bytes Fault = Unit {0}

-- ---- the whole device

-- The gates are known, one for each block, and these bodies were taken. On a disk that tells its bytes the gates are those of the
-- device, and the bodies are all that stand behind its open gates.
pub record IsScanned (asked : Asked) (disk : DiskView) (g : Geometry) (gates : List Gate) (taken : Taken) : Type 0 where
  pub count : length gates ≡ g.blocks
  pub sure : AllByRecursion IsSure gates
  pub bodies : List Body
  pub is_taken : IsTaken g gates g.blocks bodies taken
  pub are_gates : disk.tells → AreGates g disk.seen gates
  pub passes : disk.tells → Passes asked disk.seen g bodies

-- These bodies were read: the map has the latest copy of each digest of the device, all records are counted, also those of other
-- devices and those that were replaced, and the next number is one above the greatest of theirs. Each copy lies behind a set gate.
pub record HasFound {D : Type 0} (finding : Finding D) (bodies : List Body) : Type 0 where
  pub latest : HasKept finding.geometry (copies_of bodies) finding.latest
  pub copies : finding.copies ≡ length (copies_of bodies)
  pub next : finding.next_number ≡ greatest_number bodies + 1
  pub top : greatest_number bodies ≤ top_number
  pub lie : AllByRecursion (LiesBehind finding.geometry finding.gates.items) (copies_of bodies)
  pub opened : map (λ b. b.block) bodies ≡ set_blocks 0 finding.gates.items

-- Over any disk the gates are known, one for each block, and bodies were found behind them. On a disk that tells its bytes these are
-- the gates of the device, and the bodies are all that stand behind its open gates.
pub record FindsOn {D : Type 0} (asked : Asked) (disk : DiskView) (finding : Finding D) : Type 0 where
  pub count : length finding.gates.items ≡ finding.geometry.blocks
  pub sure : AllByRecursion IsSure finding.gates.items
  pub bodies : List Body
  pub found : HasFound finding bodies
  pub gates : disk.tells → AreGates finding.geometry disk.seen finding.gates.items
  pub passes : disk.tells → Passes asked disk.seen finding.geometry bodies

-- ---- a start from it

-- The state behind a start from these bodies, sound or not: of each digest of the device its latest copy was found, and nothing older,
-- and the next number is one above the greatest of theirs.
abbrev pub found_state : Setup → List Body → State
found_state setup bodies = entries_state setup (cold_copies (own_copies setup.device setup.devices (copies_of bodies))) (greatest_number bodies + 1)
