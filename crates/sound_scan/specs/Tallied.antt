-- Crate sound_scan. What is kept of copies, by digest and stamp, and what it tells.
use Rattle.std.specs.Prelude.{◌≡◌, ℕ, ◌+◌, ◌<◌, ◌≤◌, Bool, true, false, not, ◌&&◌, ◌||◌, ◌==◌, List, [], ◌∷◌, ◌++◌, Option, Some, None, Contains, IsTrue, ◌↔◌, if◌then◌else◌}
use Rattle.std.specs.List.{list_any}
use Rattle.std.specs.declared.cmp.Ordering.{Ordering}
use Rattle.std.specs.Ordering.{nat_cmp, ordering_then, is_eq}
use Rattle.std.specs.BTreeMap.{BTreeMap, get}
use Rattle.model_faults.specs.Counts.{Rose}
use Rattle.rec_format.specs.declared.version.Digest.{Digest}
use Rattle.rec_format.specs.declared.version.Stamp.{Stamp}
use Rattle.rec_format.specs.declared.version.Version.{Version}
use Rattle.rec_format.specs.Places.{device_number, digest_cmp, same_digest}
use Rattle.rec_format.specs.Versions.{is_tomb_kind, is_tombstone, is_put, version_units, block_capacity}
use Rattle.rec_format.specs.RecordText.{IsRecord, head_of}
use Rattle.block_format.specs.declared.geometry.Geometry.{Geometry}
use Rattle.block_format.specs.declared.geometry.Found.{Found}
use Rattle.block_format.specs.Layout.{Body, IsBody, body_bytes}
use Rattle.block_format.specs.Copies.{Copy, copies_from, copies_named}
use Rattle.block_shelf.specs.declared.place.Place.{Place}
use Rattle.block_shelf.specs.Reads.{copy_bytes}
use Rattle.law_start.specs.Audit.{has_twins, has_bare_put}
use Rattle.cold_scan.specs.declared.header.StartCause.{StartCause}
use Rattle.cold_scan.specs.declared.header.StartCause.TheVariants.{NotFormatted, OtherGeometry, DamagedBlock, Memory, Fault}
use Rattle.sound_scan.specs.declared.tally.Stamped.{Stamped}
use Rattle.sound_scan.specs.declared.tally.Past.{Past}
use Rattle.sound_scan.specs.declared.tally.Tally.{Tally}
use Rattle.sound_scan.specs.Least.{lesser, is_found, IsLeast}

-- ---- rules, digest by digest

abbrev pub is_named : List Copy → Digest → Bool
is_named copies digest = list_any (λ c. same_digest digest c.digest) copies

-- there is a copy of it, and it belongs to another device
abbrev pub is_stray_in : Geometry → List Copy → Digest → Bool
is_stray_in g copies digest = is_named copies digest && not (device_number g.devices digest == g.device)

abbrev pub has_twins_in : List Copy → Digest → Bool
has_twins_in copies digest = has_twins (copies_named digest copies)

abbrev pub has_bare_in : List Copy → Digest → Bool
has_bare_in copies digest = has_bare_put (copies_named digest copies)

-- ---- what is kept

abbrev pub stamp_cmp : Stamp → Stamp → Ordering
stamp_cmp a b = ordering_then (nat_cmp a.lut b.lut) (nat_cmp a.gen_ b.gen_)

abbrev pub stamped_cmp : Stamped → Stamped → Ordering
stamped_cmp a b = ordering_then (digest_cmp a.digest b.digest) (stamp_cmp a.stamp b.stamp)

abbrev pub is_uncovered : Version → Bool
is_uncovered v = is_put v && not v.cover

-- what is known of a record alone that was found in a block
abbrev pub past_found : (block : ℕ) → Found → Past
past_found block found = record {
  tombstone = is_tomb_kind found.head.kind;
  uncovered = not (is_tomb_kind found.head.kind) && not found.head.cover;
  block = block;
  unit = found.unit;
  units = found.units;
}

-- and of others and this one
abbrev pub past_more : Past → Found → Past
past_more past found = record past {
  tombstone = past.tombstone || is_tomb_kind found.head.kind;
  uncovered = past.uncovered || (not (is_tomb_kind found.head.kind) && not found.head.cover);
}

-- a digest of another device is a stray
abbrev pub stray_with : Geometry → Digest → Option Digest → Option Digest
stray_with g digest stray = if device_number g.devices digest == g.device then stray else lesser stray (Some digest)

-- two copies with one stamp are twins, unless they are the same
abbrev pub twins_with : Digest → (same : Bool) → Option Digest → Option Digest
twins_with digest same twins = if same then twins else lesser twins (Some digest)

-- ---- copies

abbrev pub name_found : Found → Stamped
name_found found = record { digest = found.head.digest; stamp = found.head.stamp }

abbrev pub name_of : Copy → Stamped
name_of c = record { digest = c.digest; stamp = c.version.stamp }

-- what is found of a copy in its block
abbrev pub found_copy : Copy → Found
found_copy c = record { head = head_of c.digest c.version; unit = c.unit; units = version_units c.version }

abbrev pub place_of : Past → Place
place_of past = record { block = past.block; unit = past.unit; units = past.units }

-- its place lies within a block of the device
abbrev pub IsOnDevice : Geometry → Past → Type 0
IsOnDevice g past = (past.block < g.blocks) × (past.unit + past.units ≤ block_capacity g.block_size)

abbrev pub AreOnDevice : Geometry → BTreeMap Stamped Past → Type 0
AreOnDevice g past = (name : Stamped) (known : Past) → get stamped_cmp past name ≡ Some known → IsOnDevice g known

-- the record of the copy stands at its place on the device
abbrev pub Stands : Geometry → List ℕ → Copy → Type 0
Stands g bytes c = IsRecord (copy_bytes g (record { block = c.block; unit = c.unit; units = version_units c.version }) bytes) c.digest c.version

-- one of the copies with this name is such
pub record Has (copies : List Copy) (name : Stamped) (p : Version → Bool) : Type 0 where
  pub copy : Copy
  pub there : Contains copies copy
  pub named : name_of copy ≡ name
  pub is : p copy.version ≡ true

-- what is known of a name is true of the copies with it, and the place is that of one of them
pub record IsPast (g : Geometry) (bytes : List ℕ) (copies : List Copy) (name : Stamped) (past : Past) : Type 0 where
  pub first : Copy
  pub there : Contains copies first
  pub named : name_of first ≡ name
  pub place : place_of past ≡ record { block = first.block; unit = first.unit; units = version_units first.version }
  pub stands : Stands g bytes first
  pub tombstone : past.tombstone ≡ true → Has copies name is_tombstone
  pub uncovered : past.uncovered ≡ true → Has copies name is_uncovered

-- what is known of a copy's name takes the copy in
pub record Knows (known : BTreeMap Stamped Past) (c : Copy) : Type 0 where
  pub past : Past
  pub found : get stamped_cmp known (name_of c) ≡ Some past
  pub tombstone : is_tombstone c.version ≡ true → past.tombstone ≡ true
  pub uncovered : is_uncovered c.version ≡ true → past.uncovered ≡ true

-- these are the names of the copies, with what is known of each
pub record HasPast (g : Geometry) (bytes : List ℕ) (copies : List Copy) (past : BTreeMap Stamped Past) : Type 0 where
  pub from : (name : Stamped) (known : Past) → get stamped_cmp past name ≡ Some known → IsPast g bytes copies name known
  pub each : (c : Copy) → Contains copies c → Knows past c

-- The tally of these copies, on a device with these bytes.
pub record IsTally (g : Geometry) (bytes : List ℕ) (copies : List Copy) (tally : Tally) : Type 0 where
  pub past : HasPast g bytes copies tally.past
  pub stray : IsLeast (is_stray_in g copies) tally.stray
  pub twins : IsLeast (has_twins_in copies) tally.twins

-- ---- how it ends

-- memory was wanting, or the disk failed
abbrev pub IsOwn : StartCause → (before after : ℕ) → Type 0
IsOwn (NotFormatted first) before after = ⊥
IsOwn (OtherGeometry kept asked size) before after = ⊥
IsOwn (DamagedBlock block place) before after = ⊥
IsOwn Memory before after = Unit {0}
IsOwn Fault before after = Rose before after

-- ---- one copy more

-- what is known of one name is put, and of the others it stays
pub record PutsPast (name : Stamped) (known : Past) (old new : BTreeMap Stamped Past) : Type 0 where
  pub own : get stamped_cmp new name ≡ Some known
  pub others : (other : Stamped) → is_eq (stamped_cmp name other) ≡ false → get stamped_cmp new other ≡ get stamped_cmp old other

-- the copy is compared with the one that lies where these bytes are
pub record TakesAgain (bytes record_bytes : List ℕ) (past : Past) (found : Found) (old new : Tally) : Type 0 where
  pub same : Bool
  pub compared : IsTrue same ↔ (bytes ≡ record_bytes)
  pub twins : new.twins ≡ twins_with found.head.digest same old.twins

-- Whatever the copies so far, the tally takes in the copy that was found, whose record stands there and has these bytes.
abbrev pub TakesCopy : Geometry → List ℕ → (block : ℕ) → (record_bytes : List ℕ) → Found → (old new : Tally) → Type 0
TakesCopy g bytes block record_bytes found old new = (copies : List Copy) (c : Copy) → found ≡ found_copy c → c.block ≡ block → IsRecord record_bytes c.digest c.version
    → Stands g bytes c → IsTally g bytes copies old → IsTally g bytes (copies ++ c ∷ []) new

-- So it takes in the copies of a body of this block, whose records stand there.
abbrev pub TakesBody : Geometry → List ℕ → (block : ℕ) → (body : List ℕ) → (old new : Tally) → Type 0
TakesBody g bytes block body old new = (copies : List Copy) (b : Body) → IsBody (block_capacity g.block_size) body b → b.block ≡ block
    → ((c : Copy) → Contains (copies_from block 0 b.records) c → Stands g bytes c) → IsTally g bytes copies old → IsTally g bytes (copies ++ copies_from block 0 b.records) new

-- So it takes in the copies of the body that the block has, whose records stand there.
abbrev pub TakesBlock : Geometry → List ℕ → (block : ℕ) → (old new : Tally) → Type 0
TakesBlock g bytes block old new = TakesBody g bytes block (body_bytes g block bytes) old new

-- it ended at a block: the block has no body, or for want of memory or a fault
abbrev pub IsStop : Geometry → List ℕ → (block : ℕ) → StartCause → Type 0
IsStop g bytes block (NotFormatted first) = ⊥
IsStop g bytes block (OtherGeometry kept asked size) = ⊥
IsStop g bytes block (DamagedBlock damaged place) = (b : Body) → IsBody (block_capacity g.block_size) (body_bytes g block bytes) b → b.block ≡ block → ⊥
IsStop g bytes block Memory = Unit {0}
IsStop g bytes block Fault = Unit {0}

-- ---- the walk for bare puts

-- an uncovered put behind such a tombstone
abbrev pub is_met : Option Digest → Bool → Stamped × Past → Bool
is_met last behind e = is_found last e.0.digest && (behind && e.1.uncovered)

-- whether one came, as each entry comes in the order of digests and stamps
abbrev pub walk : Option Digest → Bool → List (Stamped × Past) → Option Digest
walk last behind [] = None
walk last behind (e ∷ es) =
    if is_met last behind e then Some e.0.digest else walk (Some e.0.digest) (is_found last e.0.digest && (behind || e.1.tombstone)) es
