-- Crate block_shelf. Which block is vacated next, and which records are listed for it.
use Rattle.std.specs.Prelude.{◌≡◌, ◌≢◌, ◌≤◌, ◌⊎◌, ℕ, List, [], length, map, Option, Some, None, Result, Ok, Err, IsTrue, Contains, IfErr, OnErr, MatchResult}
use Rattle.std.specs.List.{AllByRecursion}
use Rattle.model_faults.specs.Counts.{Rose}
use Rattle.disk_model.specs.Disk.{DiskView}
use Rattle.rec_format.specs.declared.version.Digest.{Digest}
use Rattle.rec_format.specs.declared.version.Version.{Version}
use Rattle.rec_format.specs.Versions.{block_capacity}
use Rattle.model_device.specs.Book.{Book, live_of}
use Rattle.model_device.specs.Legal.{queue_front, is_in_block}
use Rattle.block_format.specs.declared.geometry.Geometry.{Geometry}
use Rattle.block_format.specs.Layout.{Body, IsBody, body_bytes, most_records}
use Rattle.write_buffer.specs.Buffers.{BufferState}
use Rattle.block_shelf.specs.declared.refusals.VacateRefusal.{VacateRefusal}
use Rattle.block_shelf.specs.declared.refusals.VacateRefusal.TheVariants.{Damaged, Memory, Fault}
use Rattle.block_shelf.specs.View.{ShelfView, IsShelf, in_memory}
use Rattle.block_shelf.specs.Disks.{OnlyRead}
use Rattle.block_shelf.specs.Scans.{IsDamageOf}

-- the digests of records, in their order
abbrev pub digests_in : List (Digest × Version) → List Digest
digests_in records = map (λ r. r.0) records

-- these are the digests of the records of a block's body
pub record ListsBody (g : Geometry) (bytes : List ℕ) (block : ℕ) (digests : List Digest) : Type 0 where
  pub body : Body
  pub is_body : IsBody (block_capacity g.block_size) bytes body
  pub placed : body.block ≡ block
  pub digests_are : digests ≡ digests_in body.records

-- The block that has waited longest is read from the disk: it has no buffer, and its flushed buffer isn't kept.
pub record IsReadNext {D : Type 0} (shelf : ShelfView D) (block : ℕ) : Type 0 where
  pub front : queue_front shelf.queue.queue ≡ Some block
  pub unkept : AllByRecursion (λ b. b.block ≢ block) (in_memory shelf)

-- Damage is told of this block alone, and memory is never wanting.
abbrev pub IsToldOfNext : {D : Type 0} → ShelfView D → VacateRefusal → Type 0
IsToldOfNext shelf (Damaged block place) = IsReadNext shelf block
IsToldOfNext shelf Memory = ⊥
IsToldOfNext shelf Fault = Unit {0}

-- damage of this block is told, and nothing else
abbrev pub IsDamageAt : (block : ℕ) → VacateRefusal → Type 0
IsDamageAt block (Damaged other place) = other ≡ block
IsDamageAt block Memory = ⊥
IsDamageAt block Fault = ⊥

-- no record is listed where no block is chosen
abbrev pub ListsNone : Result (Option ℕ) VacateRefusal → List Digest → Type 0
ListsNone (Ok (Some block)) digests = Unit {0}
ListsNone (Ok None) digests = digests ≡ []
ListsNone (Err refusal) digests = digests ≡ []

-- each record whose live copy lies in the block is listed
abbrev pub ListsLive : Book → (block : ℕ) → List Digest → Type 0
ListsLive book block digests = (digest : Digest) → IsTrue (is_in_block block (live_of digest book.live)) → Contains digests digest

-- ---- what a part of the call promises

-- damage is told of this block alone, and only where it is read from the disk; memory is never wanting
abbrev pub IsToldOfRead : {D : Type 0} → ShelfView D → (block : ℕ) → VacateRefusal → Type 0
IsToldOfRead shelf block (Damaged other place) = (other ≡ block) × AllByRecursion (λ b. b.block ≢ block) (in_memory shelf)
IsToldOfRead shelf block Memory = ⊥
IsToldOfRead shelf block Fault = Unit {0}

-- The digests of the records of a block's body are listed, of its buffer in memory or as the disk has them.
pub record ListsIn {D : Type 0} (view : D → DiskView) (block : ℕ) (old new : ShelfView D) (digests : List Digest) (result : Result (Unit {0}) VacateRefusal) : Type 0 where
  pub place : ((b : BufferState) × Contains (in_memory old) b × (b.block ≡ block)) ⊎ AllByRecursion (λ b. b.block ≢ block) (in_memory old)
  pub kept : (b : BufferState) → Contains (in_memory old) b → b.block ≡ block → (result ≡ Ok tt) × (digests ≡ digests_in b.records) × (new ≡ old)
  pub read : (view old.disk).tells → AllByRecursion (λ b. b.block ≢ block) (in_memory old)
      → let bytes = body_bytes old.geometry block (view old.disk).seen in MatchResult result (λ done. ListsBody old.geometry bytes block digests) (IsDamageOf old.geometry bytes block)
  pub told : IfErr result (IsToldOfRead old block)
  pub none : OnErr result (digests ≡ [])
  pub few : length digests ≤ most_records (block_capacity old.geometry.block_size)
  pub cause : result ≡ Err Fault → Rose (view old.disk).faults (view new.disk).faults
  pub disk : OnlyRead (view old.disk) (view new.disk)
  pub whole : IsShelf view old
  pub rest : new ≡ record old { disk = new.disk }
