-- Crate law_trail. What a store that uses its blocks again keeps of the copies that were replaced: the block of a replaced copy is
-- held until the buffer of the copy in its place is flushed. So from the live copy of a digest a trail leads back, over blocks that
-- are held, to a copy that is stored.
use Rattle.std.specs.Prelude.{not, ◌==◌, filter, ℕ, ◌≤◌, true, false, List, [], ◌∷◌, length, map, Option, Some, None, ◌≡◌, ◌≢◌, ◌⊎◌, Contains}
use Rattle.std.specs.List.{AllByRecursion}
use Rattle.rec_format.specs.declared.version.Digest.{Digest}
use Rattle.rec_format.specs.declared.version.Version.{Version}
use Rattle.rec_format.specs.Versions.{is_later}
use Rattle.model_device.specs.Histories.{Item, write, cleared, Pending, top_of}
use Rattle.model_device.specs.Book.{Setup, Book, Live, Stream, has_buffer, may_be_free, has_room, live_of}
use Rattle.model_device.specs.Device.{State, history}
use Rattle.block_format.specs.Layout.{Body}
use Rattle.law_start.specs.Holding.{flushed_versions}

-- the records of each pending buffer, by its number
abbrev pub Records : Type 0
Records = ℕ → List (Digest × Version)

-- the number and the block of each pending buffer
abbrev pub places_of : Book → List (ℕ × ℕ)
places_of book = map (λ b. (b.number, b.block)) book.buffers

-- ---- the trail

-- the body of this block has this record
pub record StoredIn (bodies : List Body) (block : ℕ) (digest : Digest) (v : Version) : Type 0 where
  pub body : Body
  pub there : Contains bodies body
  pub placed : body.block ≡ block
  pub has : Contains body.records (digest, v)

-- the pending buffer of this number and block has this record
pub record WaitsIn (book : Book) (records : Records) (number block : ℕ) (digest : Digest) (v : Version) : Type 0 where
  pub placed : Contains (places_of book) (number, block)
  pub has : Contains (records number) (digest, v)

module _ (book : Book) (records : Records) (bodies : List Body) (digest : Digest) where
  -- A trail from a block, back along the items of a history, the newest first. A write has a number for each buffer that it went to,
  -- the last one first: a move is one number, and leads on with the numbers before it.
  pub data Trail : ℕ → List Item → Type 0 where
    -- the copy is stored, and no buffer has its block
    stored : {block : ℕ} {v : Version} {numbers : List ℕ} {older : List Item} → has_buffer book block ≡ false → StoredIn bodies block digest v
        → Trail block (write v numbers ∷ older)
    -- it waits in a buffer, and took the place of none
    first : {block number : ℕ} {v : Version} {older : List Item} → WaitsIn book records number block digest v → top_of older ≡ None
        → Trail block (write v (number ∷ []) ∷ older)
    -- it waits in a buffer, which holds the block of the copy of an older version
    replaced : {block number before : ℕ} {v : Version} {older : List Item} → WaitsIn book records number block digest v → Contains book.holds (number, before)
        → Trail before older → Trail block (write v (number ∷ []) ∷ older)
    -- it waits in a buffer, which holds the block that the same version was moved out of
    moved : {block number before n : ℕ} {v : Version} {ns : List ℕ} {older : List Item} → WaitsIn book records number block digest v → Contains book.holds (number, before)
        → Trail before (write v (n ∷ ns) ∷ older) → Trail block (write v (number ∷ n ∷ ns) ∷ older)
    -- the same of a version that a start found, whose moves add no number
    moved_found : {block number before : ℕ} {v : Version} {older : List Item} → WaitsIn book records number block digest v → Contains book.holds (number, before)
        → Trail before (write v [] ∷ older) → Trail block (write v [] ∷ older)
    -- a cleared cover flag moves nothing
    uncovered_since : {block : ℕ} {older : List Item} → Trail block older → Trail block (cleared ∷ older)

  -- the blocks that it leads over
  abbrev pub blocks_of : {block : ℕ} {items : List Item} → Trail block items → List ℕ
  blocks_of (stored {block = block} none is) = block ∷ []
  blocks_of (first {block = block} waits none) = block ∷ []
  blocks_of (replaced {block = block} waits held rest) = block ∷ blocks_of rest
  blocks_of (moved {block = block} waits held rest) = block ∷ blocks_of rest
  blocks_of (moved_found {block = block} waits held rest) = block ∷ blocks_of rest
  blocks_of (uncovered_since rest) = blocks_of rest

  -- from a live copy a trail leads on; a digest without one has no entry
  abbrev pub LeadsOn : Option Live → List Item → Type 0
  LeadsOn None items = top_of items ≡ None
  LeadsOn (Some l) items = Trail l.block items

abbrev pub IsTrailed : State → Records → List Body → Type 0
IsTrailed s records bodies = (digest : Digest) → LeadsOn s.book records bodies digest (live_of digest s.book.live) (history s digest)

-- ---- the book

-- no two of these have one block
abbrev pub HaveOwnBlocks : List (ℕ × ℕ) → Type 0
HaveOwnBlocks [] = Unit {0}
HaveOwnBlocks (p ∷ ps) = AllByRecursion (λ q. q.1 ≢ p.1) ps × HaveOwnBlocks ps

-- each free block may be free, no two buffers have one block, and each live copy takes room
pub record IsBooked (book : Book) : Type 0 where
  pub free : AllByRecursion (λ b. may_be_free book b ≡ true) book.free
  pub apart : HaveOwnBlocks (places_of book)
  pub units : AllByRecursion (λ l. 1 ≤ l.units) book.live

-- this block isn't free
abbrev pub NotFree : Book → ℕ → Type 0
NotFree book block = AllByRecursion (λ b. b ≢ block) book.free

-- a copy of so many units can be placed: it fits where the stream's buffer stands, or a block is free
abbrev pub CanPlace : Setup → Stream → (units : ℕ) → Book → Type 0
CanPlace setup stream units book = (has_room setup stream units book ≡ true) ⊎ (1 ≤ length book.free)

-- ---- changes of records and bodies

-- what a pending buffer had it has
abbrev pub KeepsRecords : Book → (old new : Records) → Type 0
KeepsRecords book old new = AllByRecursion (λ p. (r : Digest × Version) → Contains (old p.0) r → Contains (new p.0) r) (places_of book)

-- no body goes but that of a free block or of a buffer's
abbrev pub KeepsBodies : Book → (old new : List Body) → Type 0
KeepsBodies book old new = (body : Body) → Contains old body → has_buffer book body.block ≡ false → NotFree book body.block → Contains new body

-- the bodies but that of this block
abbrev pub without_body : ℕ → List Body → List Body
without_body block bodies = filter (λ b. not (b.block == block)) bodies

-- the body of the buffer of this number has all of its records
abbrev pub HasBody : Book → Records → (number : ℕ) → List Body → Type 0
HasBody book records number bodies = (block : ℕ) → Contains (places_of book) (number, block) → AllByRecursion (λ r. StoredIn bodies block r.0 r.1) (records number)

-- ---- what a trail gives

-- some of these versions has no later flushed one in the history
pub record IsReached (pending : Pending) (items : List Item) (versions : List Version) : Type 0 where
  pub version : Version
  pub there : Contains versions version
  pub last : AllByRecursion (λ w. is_later w version ≡ false) (flushed_versions pending items)
