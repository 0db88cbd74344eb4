-- Crate block_shelf. What a raid's scan of a block finds, and what it makes.
use Rattle.std.specs.Prelude.{◌≡◌, ◌≢◌, ◌⊎◌, ℕ, ◌==◌, List, [], ◌∷◌, map, filter, Contains, Result, Err, IfErr, MatchResult, OnOk, OnErr, slice_set}
use Rattle.std.specs.List.{AllByRecursion}
use Rattle.model_faults.specs.Counts.{Rose}
use Rattle.disk_model.specs.Disk.{DiskView, IsHonest, Within}
use Rattle.rec_format.specs.declared.version.Digest.{Digest}
use Rattle.rec_format.specs.declared.version.Stamp.{Stamp}
use Rattle.rec_format.specs.declared.version.Version.{Version}
use Rattle.rec_format.specs.Places.{device_number, part_number_of}
use Rattle.rec_format.specs.Versions.{block_capacity}
use Rattle.model_device.specs.Book.{Setup}
use Rattle.model_device.specs.Device.{State}
use Rattle.model_device.specs.Steps.{scanned_block}
use Rattle.block_format.specs.declared.geometry.Geometry.{Geometry}
use Rattle.block_format.specs.declared.geometry.Found.{Found}
use Rattle.block_format.specs.declared.geometry.Gate.TheVariants.{Shut, Set, Unsure}
use Rattle.block_format.specs.Layout.{Body, IsBody, IsFaultAt, body_bytes}
use Rattle.block_format.specs.Readings.{found_from}
use Rattle.block_flusher.specs.Images.{IsBodyOf}
use Rattle.law_facts.specs.Facts.{Possible}
use Rattle.law_facts.specs.Asking.{FindsOlder, FindsPossible}
use Rattle.law_images.specs.Kept.{possible_in}
use Rattle.law_images.specs.Held.{loosened}
use Rattle.law_images.specs.Scans.{IsScanOf}
use Rattle.write_buffer.specs.Buffers.{BufferState}
use Rattle.raid_book.specs.Books.{BookState, with_scan}
use Rattle.raid_book.specs.Found.{copies_for, with_parts}
use Rattle.block_shelf.specs.declared.refusals.VacateRefusal.{VacateRefusal}
use Rattle.block_shelf.specs.declared.refusals.VacateRefusal.TheVariants.{Damaged, Memory, Fault}
use Rattle.block_shelf.specs.View.{ShelfView, IsShelf, IsSetupOf, records_of, gate_at}
use Rattle.block_shelf.specs.Disks.{IsLater, OnlyRead}
use Rattle.block_shelf.specs.Standing.{StandsFor, BooksStand, ImagesHold}
use Rattle.block_shelf.specs.Calls.{Goes}

-- the copies that a start may find: those that wait in a pending buffer, and those that a crash may leave, also behind a gate that is unsure
abbrev pub possible_copies : {D : Type 0} → (D → DiskView) → ShelfView D → State → Possible
possible_copies view shelf s = possible_in shelf.geometry s.book (records_of shelf.buffers) (loosened shelf.geometry (gate_at shelf.gates) (view shelf.disk).may_leave)

-- the records of digests of the device
abbrev pub own_found : Geometry → List Found → List Found
own_found g found = filter (λ f. device_number g.devices f.head.digest == g.device) found

-- these are the heads of the records of a block's body
pub record ReadsBody (g : Geometry) (bytes : List ℕ) (block : ℕ) (found : List Found) : Type 0 where
  pub body : Body
  pub is_body : IsBody (block_capacity g.block_size) bytes body
  pub placed : body.block ≡ block
  pub found_is : found ≡ found_from 0 body.records

-- What was found in a block is told in the book of the raid: of each part the records of the device that stand in this body of the block.
pub record FindsBody (g : Geometry) (sprigs : ℕ) (bytes : List ℕ) (block : ℕ) (raid : BookState) : Type 0 where
  pub found : List Found
  pub reads : ReadsBody g bytes block found
  pub kept : (part : ℕ) → copies_for part raid.found ≡ copies_for part (with_parts (own_found g found) (map (λ f. part_number_of g.devices sprigs f.head.digest) (own_found g found)))

-- a block that a scan reads from the disk: no buffer has it, and its gate is known to be set
pub record NeedsRead {D : Type 0} (shelf : ShelfView D) (block : ℕ) : Type 0 where
  pub unbuffered : AllByRecursion (λ b. b.block ≢ block) shelf.buffers
  pub set : gate_at shelf.gates block ≡ Set

-- damage is told of this block
abbrev pub IsOfBlock : (block : ℕ) → VacateRefusal → Type 0
IsOfBlock block (Damaged other place) = other ≡ block
IsOfBlock block Memory = Unit {0}
IsOfBlock block Fault = Unit {0}

-- and only where it is read from the disk
abbrev pub IsToldOf : {D : Type 0} → ShelfView D → (block : ℕ) → VacateRefusal → Type 0
IsToldOf shelf block (Damaged other place) = (other ≡ block) × NeedsRead shelf block
IsToldOf shelf block Memory = Unit {0}
IsToldOf shelf block Fault = Unit {0}

-- Damage is told of this block, by the place of the first fault of these bytes, which are no body of the block.
abbrev pub IsDamageOf : Geometry → List ℕ → (block : ℕ) → VacateRefusal → Type 0
IsDamageOf g bytes block (Damaged other place) = (other ≡ block) × IsFaultAt (block_capacity g.block_size) bytes block place × (IsBodyOf g block bytes → ⊥)
IsDamageOf g bytes block Memory = Unit {0}
IsDamageOf g bytes block Fault = Unit {0}

-- the same, and memory is wanting only where these bytes are a body of the block
abbrev pub IsRefusalOf : Geometry → List ℕ → (block : ℕ) → VacateRefusal → Type 0
IsRefusalOf g bytes block (Damaged other place) = IsDamageOf g bytes block (Damaged other place)
IsRefusalOf g bytes block Memory = IsBodyOf g block bytes
IsRefusalOf g bytes block Fault = Unit {0}

-- there is no damage
abbrev pub IsSound : VacateRefusal → Type 0
IsSound (Damaged block place) = ⊥
IsSound Memory = Unit {0}
IsSound Fault = Unit {0}

-- Over an honest disk whose image was sound: these are the heads of all records that may be in a block, and of no others.
pub record ReadsAll {D : Type 0} (view : D → DiskView) (shelf : ShelfView D) (s : State) (block : ℕ) (found : List Found) : Type 0 where
  pub records : List (Digest × Version)
  pub found_is : found ≡ found_from 0 records
  pub all : IsScanOf shelf.geometry s.book (records_of shelf.buffers) (loosened shelf.geometry (gate_at shelf.gates) (view shelf.disk).may_leave) block records
  pub only : (r : Digest × Version) → Contains records r → possible_copies view shelf s block r.0 r.1

-- A block is scanned from a state for which the shelf stood, by one step. Over an honest disk whose image was sound each copy in the block that
-- is older than a marked entry is found: one that waits, and one that a crash may leave. Nothing is found but copies that wait there or that a
-- crash may leave.
pub record Scans {D : Type 0} (view : D → DiskView) (setup : Setup) (block : ℕ) (old : ShelfView D) (s : State) (new : ShelfView D) : Type 0 where
  pub copies : List (Digest × Stamp)
  pub goes : Goes view setup (scanned_block copies ∷ []) old s new
  pub all : IsHonest (view old.disk) → ImagesHold setup view old s → FindsOlder s (possible_copies view new s) block copies
  pub only : IsHonest (view old.disk) → ImagesHold setup view old s → FindsPossible (possible_copies view new s) block copies

-- At most the gate of this block was closed, where it was unsure; what is known of each other stays.
abbrev pub ClosesAtMost : {D : Type 0} → (block : ℕ) → (old new : ShelfView D) → Type 0
ClosesAtMost block old new = (new.gates ≡ old.gates) ⊎ ((gate_at old.gates block ≡ Unsure) × (new.gates ≡ slice_set old.gates block Shut))

-- ---- what the parts of a scan promise

-- The heads of the records that may be in a block are answered. A pending block makes no call of the disk, and only where its gate was unsure
-- does a scan change what the disk has.
pub record ReadsIn {D A : Type 0} (view : D → DiskView) (block : ℕ) (old new : ShelfView D) (heads : A → List Found) (result : Result A VacateRefusal) : Type 0 where
  pub goes : (setup : Setup) (s : State) → StandsFor setup old s → Goes view setup [] old s new
  pub all : (setup : Setup) (s : State) → IsHonest (view old.disk) → StandsFor setup old s → ImagesHold setup view old s → MatchResult result (λ found. ReadsAll view new s block (heads found)) IsSound
  pub waiting : (b : BufferState) → Contains old.buffers b → b.block ≡ block → new.disk ≡ old.disk
  pub gates : ClosesAtMost block old new
  pub sure : gate_at old.gates block ≢ Unsure → new.gates ≡ old.gates
  pub fewer : gate_at old.gates block ≢ Unsure → IsHonest (view old.disk) → Within (view old.disk).may_leave (view new.disk).may_leave
  pub damaged : (view old.disk).tells → IfErr result (IsDamageOf old.geometry (body_bytes old.geometry block (view old.disk).seen) block)
  pub told : IfErr result (IsToldOf old block)
  pub there : (view old.disk).tells → NeedsRead old block
      → let bytes = body_bytes old.geometry block (view old.disk).seen in MatchResult result (λ found. ReadsBody old.geometry bytes block (heads found)) (IsRefusalOf old.geometry bytes block)
  pub rest : new ≡ record old { disk = new.disk; gates = new.gates }
  pub cause : result ≡ Err Fault → Rose (view old.disk).faults (view new.disk).faults
  pub later : IsLater (view old.disk) (view new.disk)
  pub honest : IsHonest (view old.disk) → IsHonest (view new.disk)

-- What may be in the block whose turn it is goes to the raid's book, or its book stays.
pub record ScansIn {D : Type 0} (view : D → DiskView) (block : ℕ) (old new : ShelfView D) (result : Result (Unit {0}) VacateRefusal) : Type 0 where
  pub scanned : (setup : Setup) (s : State) → IsSetupOf setup old → StandsFor setup old s → BooksStand setup old s
      → MatchResult result (λ done. Scans view setup block old s new) (λ refusal. Goes view setup [] old s new)
  pub turned : OnOk result (new.raid ≡ with_scan new.raid.found old.raid)
  pub same : OnErr result (new.raid ≡ old.raid)
  pub waiting : (b : BufferState) → Contains old.buffers b → b.block ≡ block → new.disk ≡ old.disk
  pub gates : ClosesAtMost block old new
  pub sure : gate_at old.gates block ≢ Unsure → new.gates ≡ old.gates
  pub fewer : gate_at old.gates block ≢ Unsure → IsHonest (view old.disk) → Within (view old.disk).may_leave (view new.disk).may_leave
  pub damaged : (view old.disk).tells → IfErr result (IsDamageOf old.geometry (body_bytes old.geometry block (view old.disk).seen) block)
  pub told : IfErr result (IsToldOf old block)
  pub there : (view old.disk).tells → NeedsRead old block
      → let bytes = body_bytes old.geometry block (view old.disk).seen in MatchResult result (λ done. FindsBody old.geometry old.limits.sprigs bytes block new.raid) (IsRefusalOf old.geometry bytes block)
  pub sound : (setup : Setup) (s : State) → IsHonest (view old.disk) → StandsFor setup old s → ImagesHold setup view old s → IfErr result IsSound
  pub rest : new ≡ record old { disk = new.disk; gates = new.gates; raid = new.raid }
  pub cause : result ≡ Err Fault → Rose (view old.disk).faults (view new.disk).faults
  pub later : IsLater (view old.disk) (view new.disk)
  pub honest : IsHonest (view old.disk) → IsHonest (view new.disk)

-- The heads of the records of a block are read from the disk, or the damage that is there is told.
pub record ReadsBlock {D A : Type 0} (view : D → DiskView) (block : ℕ) (old new : ShelfView D) (heads : A → List Found) (result : Result A VacateRefusal) : Type 0 where
  pub read : (view old.disk).tells
      → let bytes = body_bytes old.geometry block (view old.disk).seen in MatchResult result (λ found. ReadsBody old.geometry bytes block (heads found)) (IsRefusalOf old.geometry bytes block)
  pub of_block : IfErr result (IsOfBlock block)
  pub cause : result ≡ Err Fault → Rose (view old.disk).faults (view new.disk).faults
  pub disk : OnlyRead (view old.disk) (view new.disk)
  pub whole : IsShelf view new
  pub same : new ≡ record old { disk = new.disk }
