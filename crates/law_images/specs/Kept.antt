-- Crate law_images. What a device and the set of its images keep: the images are those that a crash may leave now.
use Rattle.std.specs.Prelude.{ℕ, ◌<◌, ◌≤◌, List, [], ◌≡◌, ◌⊎◌, Contains}
use Rattle.std.specs.List.{AllByRecursion}
use Rattle.rec_format.specs.declared.version.Digest.{Digest}
use Rattle.rec_format.specs.declared.version.Version.{Version}
use Rattle.rec_format.specs.Versions.{block_capacity}
use Rattle.model_device.specs.Book.{Setup, Book, pending_of}
use Rattle.model_device.specs.Device.{State, history}
use Rattle.disk_model.specs.Disk.{Images}
use Rattle.block_format.specs.declared.geometry.Geometry.{Geometry}
use Rattle.block_format.specs.Layout.{IsGeometry, IsOpen, gate_sector, body_bytes, Body, IsBody}
use Rattle.block_format.specs.Copies.{IsReadable}
use Rattle.law_start.specs.Sound.{IsShapeOf}
use Rattle.law_start.specs.Holding.{begun_versions}
use Rattle.law_facts.specs.Facts.{Possible, HasFacts}
use Rattle.law_trail.specs.Trail.{Records, WaitsIn, IsTrailed, IsBooked}
use Rattle.law_trail.specs.Numbers.{HasNumbers, RecordsWritten, RecordsWhole}
use Rattle.law_trail.specs.Within.{IsWithin}

-- ---- one image

-- an image shows a body: the gate of its block is open, and the body stands behind it
pub record Shows (g : Geometry) (image : List ℕ) (body : Body) : Type 0 where
  pub within : body.block < g.blocks
  pub is_open : IsOpen (gate_sector g body.block image)
  pub is_body : IsBody (block_capacity g.block_size) (body_bytes g body.block image) body

-- the flush of each record has begun
abbrev pub HaveBegun : State → List (Digest × Version) → Type 0
HaveBegun s records = AllByRecursion (λ r. Contains (begun_versions (pending_of s.book) (history s r.0)) r.1) records

-- An image that can be read, with these bodies: the flush of each of their records has begun, and trails lead over them.
pub record Upholds (g : Geometry) (s : State) (records : Records) (image : List ℕ) : Type 0 where
  pub bodies : List Body
  pub readable : IsReadable image g bodies
  pub begun : AllByRecursion (λ b. HaveBegun s b.records) bodies
  pub trailed : IsTrailed s records bodies

-- ---- the set of images

-- some image shows this record in this block
pub record IsLeftIn (g : Geometry) (images : Images) (block : ℕ) (digest : Digest) (v : Version) : Type 0 where
  pub image : List ℕ
  pub is_left : images image
  pub body : Body
  pub shown : Shows g image body
  pub placed : body.block ≡ block
  pub has : Contains body.records (digest, v)

-- a copy that a start may find in a block: it waits there in a pending buffer, or some image shows it
abbrev pub possible_in : Geometry → Book → Records → Images → Possible
possible_in g book records images block digest v = ((number : ℕ) × WaitsIn book records number block digest v) ⊎ IsLeftIn g images block digest v

-- ---- what is kept

-- What the book and the numbers of histories and buffers keep, over every disk. Buffers that are to come have no records.
pub record BookInOrder (setup : Setup) (s : State) (records : Records) : Type 0 where
  pub booked : IsBooked s.book
  pub numbered : HasNumbers s
  pub within : IsWithin setup s.book
  pub ahead : (number : ℕ) → s.book.next_number ≤ number → records number ≡ []

-- What the records of buffers keep besides, where each has the version that its history says: what is moved may be another one over a
-- disk that doesn't give what was written.
pub record IsInOrder (setup : Setup) (s : State) (records : Records) : Type 0 where
  pub booked : IsBooked s.book
  pub numbered : HasNumbers s
  pub within : IsWithin setup s.book
  pub written : RecordsWritten s records
  pub whole : RecordsWhole s records
  pub ahead : (number : ℕ) → s.book.next_number ≤ number → records number ≡ []

-- What is kept over an honest disk of this shape whose image was sound: the facts on the copies that a start may find, and each image that a
-- crash may leave upholds the state.
pub record IsKept (setup : Setup) (g : Geometry) (s : State) (records : Records) (images : Images) : Type 0 where
  pub shape : IsShapeOf setup g
  pub geometry : IsGeometry g
  pub order : IsInOrder setup s records
  pub facts : HasFacts setup s (possible_in g s.book records images)
  pub upheld : (c : List ℕ) → images c → Upholds g s records c
