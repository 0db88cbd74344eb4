-- Crate law_images. How a shelf changes the images, and the records of its buffers.
use Rattle.std.specs.Prelude.{ℕ, Bool, true, false, ◌==◌, if◌then◌else◌, List, [], ◌∷◌, ◌≡◌, ◌⊎◌, Contains}
use Rattle.rec_format.specs.declared.version.Digest.{Digest}
use Rattle.rec_format.specs.declared.version.Version.{Version}
use Rattle.model_device.specs.Histories.{is_begun}
use Rattle.model_device.specs.Book.{Setup, Book, Stream, placing_number, pending_of}
use Rattle.model_device.specs.Steps.{Step, wrote, moved, flushed_buffer}
use Rattle.disk_model.specs.Disk.{Images}
use Rattle.block_format.specs.declared.geometry.Geometry.{Geometry}
use Rattle.block_format.specs.Layout.{IsClosed, gate_sector, Body}
use Rattle.law_start.specs.Writes.{DiffersIn}
use Rattle.law_trail.specs.Trail.{Records, places_of, CanPlace, KeepsRecords}
use Rattle.law_trail.specs.Numbers.{AddsOnly}
use Rattle.law_images.specs.Kept.{Shows, IsLeftIn, possible_in}

-- ---- images

-- each image now is one of those before, but for this block
abbrev pub ChangesIn : Geometry → (block : ℕ) → (before now : Images) → Type 0
ChangesIn g block before now = (c : List ℕ) → now c → (d : List ℕ) × before d × DiffersIn g block d c

-- an image shows a body with these records in a block
pub record ShowsRecords (g : Geometry) (image : List ℕ) (block : ℕ) (records : List (Digest × Version)) : Type 0 where
  pub body : Body
  pub placed : body.block ≡ block
  pub shown : Shows g image body
  pub same : body.records ≡ records

-- an image shows this record in this block
pub record HasRecord (g : Geometry) (image : List ℕ) (block : ℕ) (digest : Digest) (v : Version) : Type 0 where
  pub body : Body
  pub placed : body.block ≡ block
  pub shown : Shows g image body
  pub has : Contains body.records (digest, v)

-- the gate of a block is closed in each image, or these records stand behind it
abbrev pub OpensOver : Geometry → (block : ℕ) → List (Digest × Version) → Images → Type 0
OpensOver g block records images = (c : List ℕ) → images c → IsClosed (gate_sector g block c) ⊎ ShowsRecords g c block records

-- each image shows these records in a block
abbrev pub AllShow : Geometry → (block : ℕ) → List (Digest × Version) → Images → Type 0
AllShow g block records images = (c : List ℕ) → images c → ShowsRecords g c block records

-- the gate of a block is closed in each image, or the body behind it is one that an image before shows
abbrev pub OpensAsBefore : Geometry → (block : ℕ) → (before now : Images) → Type 0
OpensAsBefore g block before now =
    (c : List ℕ) → now c → IsClosed (gate_sector g block c) ⊎ ((body : Body) × (body.block ≡ block) × Shows g c body × (d : List ℕ) × before d × Shows g d body)

-- no image shows a copy that wasn't possible before
abbrev pub BringsNone : Geometry → Book → Records → (before now : Images) → Type 0
BringsNone g book records before now = (block : ℕ) (digest : Digest) (v : Version) → IsLeftIn g now block digest v → possible_in g book records before block digest v

-- ---- buffers

-- the pending buffer of this number has this block, and the write of its gate has begun
pub record IsOpening (book : Book) (number block : ℕ) : Type 0 where
  pub placed : Contains (places_of book) (number, block)
  pub begun : is_begun (pending_of book) number ≡ true

-- A copy is appended to the buffer of a stream that takes it: it can be placed there, and the buffers keep what they had and have no other
-- record more.
pub record Appends (setup : Setup) (stream : Stream) (units : ℕ) (digest : Digest) (v : Version) (book : Book) (old new : Records) : Type 0 where
  pub room : CanPlace setup stream units book
  pub keeps : KeepsRecords book old new
  pub only : AddsOnly (placing_number setup stream units book) digest v old new
  pub there : Contains (new (placing_number setup stream units book)) (digest, v)

-- ---- steps

-- a step that places no copy and flushes no buffer
abbrev pub is_plain : Step → Bool
is_plain (wrote digest v) = false
is_plain (moved digest) = false
is_plain (flushed_buffer number) = false
is_plain _ = true

-- ---- the records of a list of buffers

-- those of the first buffer of a number
abbrev pub records_by : List (ℕ × List (Digest × Version)) → Records
records_by [] number = []
records_by (b ∷ buffers) number = if b.0 == number then b.1 else records_by buffers number
