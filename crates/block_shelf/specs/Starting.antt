-- Crate block_shelf. How a shelf begins behind a start.
use Rattle.std.specs.Prelude.{◌-◌, ℕ, ◌+◌, ◌*◌, ◌<◌, ◌≤◌, ◌≡◌, true, false, not, sum_by, ◌==◌, List, [], ◌∷◌, length, map, filter, Contains}
use Rattle.std.specs.List.{AllByRecursion, IsDistinct, list_any, range_with_len}
use Rattle.std.specs.FinSet as set
use Rattle.rec_format.specs.declared.version.Digest.{Digest}
use Rattle.rec_format.specs.Places.{same_digest, part_count}
use Rattle.rec_format.specs.Versions.{block_capacity, version_units}
use Rattle.disk_model.specs.Bytes.{Apart}
use Rattle.disk_model.specs.Disk.{Images}
use Rattle.block_format.specs.declared.geometry.Geometry.{Geometry}
use Rattle.block_format.specs.declared.geometry.Gate.{Gate}
use Rattle.block_format.specs.Layout.{IsRecordAt, body_bytes}
use Rattle.block_format.specs.Copies.{Copy}
use Rattle.block_shelf.specs.Lives.{LiveCopy, copies_in, use_in}
use Rattle.defrag_queue.specs.Queues.{QueueState, is_below_mark}
use Rattle.raid_book.specs.Books.{BookState, empty_book}
use Rattle.post_cache.specs.Bodies.{CacheState}
use Rattle.write_buffer.specs.Buffers.{BufferState}
use Rattle.block_shelf.specs.declared.place.Place.{Place}
use Rattle.block_shelf.specs.declared.place.ShelfLimits.{ShelfLimits}
use Rattle.block_shelf.specs.View.{ShelfView, IsQueueOf}

-- ---- the live copies of a start

-- it takes room, and lies within a block
pub record LiesIn (g : Geometry) (x : Digest × Place) : Type 0 where
  pub block : x.1.block < g.blocks
  pub takes : 1 ≤ x.1.units
  pub within : x.1.unit + x.1.units ≤ block_capacity g.block_size

-- two are of different digests, and apart where they lie in one block
pub record AreTwo (x y : Digest × Place) : Type 0 where
  pub named : same_digest x.0 y.0 ≡ false
  pub apart : x.1.block ≡ y.1.block → Apart x.1.unit x.1.units y.1.unit y.1.units

-- so are any two of these
abbrev pub AreEachTwo : List (Digest × Place) → Type 0
AreEachTwo [] = Unit {0}
AreEachTwo (x ∷ xs) = AllByRecursion (AreTwo x) xs × AreEachTwo xs

-- live copies of which a shelf can begin
pub record CanBeLive (g : Geometry) (live : List (Digest × Place)) : Type 0 where
  pub each : AllByRecursion (LiesIn g) live
  pub two : AreEachTwo live

-- ---- the shelf

abbrev pub copy_of_place : Digest × Place → LiveCopy
copy_of_place x = record { digest = x.0; unit = x.1.unit; units = x.1.units }

-- those that lie in a block
abbrev pub copies_at : (block : ℕ) → List (Digest × Place) → List LiveCopy
copies_at block live = map copy_of_place (filter (λ x. x.1.block == block) live)

-- the blocks in which none lies, the lowest first
abbrev pub blocks_without : List (Digest × Place) → (blocks : ℕ) → List ℕ
blocks_without live blocks = filter (λ b. not (list_any (λ x. x.1.block == b) live)) (range_with_len 0 blocks)

-- the blocks in which so little is live that they are to be vacated, the lowest first
abbrev pub blocks_below : List (Digest × Place) → Geometry → (lwm : ℕ) → List ℕ
blocks_below live g lwm = filter (λ b. is_below_mark (block_capacity g.block_size) lwm (sum_by (λ c. c.units) (copies_at b live)) true) (range_with_len 0 g.blocks)

-- No buffer, no hold, no raid, nothing is kept of flushed buffers, and these copies are live; the blocks in which none lies are free, and those of
-- little use are queued.
pub record StartsWith {D : Type 0} (disk : D) (g : Geometry) (limits : ShelfLimits) (gates : List Gate) (live : List (Digest × Place)) (next_number : ℕ) (shelf : ShelfView D) : Type 0 where
  pub parts : shelf ≡ record {
    disk = disk;
    geometry = g;
    limits = limits;
    buffers = [];
    gates = gates;
    lives = shelf.lives;
    holds = shelf.holds;
    free = blocks_without live g.blocks;
    queue = shelf.queue;
    cache = record { kept = []; limit = limits.cache };
    raid = empty_book (part_count g.device g.devices limits.sprigs) g.blocks;
    next_number = next_number;
  }
  pub copies : (block : ℕ) → copies_in block shelf.lives ≡ copies_at block live
  pub unheld : shelf.holds.holds ≡ set.empty
  pub queue : IsQueueOf g limits shelf.queue
  pub queued : shelf.queue.queue ≡ blocks_below live g limits.lwm

-- ---- the copies that were found

abbrev pub place_of_copy : Copy → Place
place_of_copy c = record { block = c.block; unit = c.unit; units = version_units c.version }

-- these are live, and no others; no digest is that of two
pub record AreLive (live : List (Digest × Place)) (found : List Copy) : Type 0 where
  pub there : (c : Copy) → Contains found c → Contains live (c.digest, place_of_copy c)
  pub once : IsDistinct (λ c d. same_digest c.digest d.digest) found
  pub only : (x : Digest × Place) → Contains live x → (c : Copy) × Contains found c × (x ≡ (c.digest, place_of_copy c))

-- each image has their records
abbrev pub AllHave : Geometry → Images → List Copy → Type 0
AllHave g images found = (c : Copy) → Contains found c → (image : List ℕ) → images image → IsRecordAt (body_bytes g c.block image) (32 + 16 * c.unit) c.digest c.version

-- what a shelf of these live copies keeps in memory from its start on
pub record KeepsFor (g : Geometry) (limits : ShelfLimits) (live : List (Digest × Place)) (ledger : List (List LiveCopy)) (unused : List ℕ) (places : ℕ) (waiting : QueueState) (bodies : CacheState BufferState) (book : BookState) (room : List ℕ) : Type 0 where
  pub size : length ledger ≡ g.blocks
  pub copies : (block : ℕ) → copies_in block ledger ≡ copies_at block live
  pub free : unused ≡ blocks_without live g.blocks
  pub memory : g.blocks ≤ places
  pub shape : (waiting.blocks ≡ g.blocks) × (waiting.capacity ≡ block_capacity g.block_size) × (waiting.lwm ≡ limits.lwm)
  pub queue : waiting.queue ≡ filter (λ b. is_below_mark (block_capacity g.block_size) limits.lwm (use_in b ledger) true) (range_with_len 0 g.blocks)
  pub cache : bodies ≡ record { kept = []; limit = limits.cache }
  pub raid : book ≡ empty_book (part_count g.device g.devices limits.sprigs) g.blocks
  pub body : length room ≡ g.block_size - 4096
