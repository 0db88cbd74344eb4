-- Crate law_images. What a shelf knows of the gates of its blocks.
use Rattle.std.specs.Prelude.{ℕ, ◌<◌, ◌==◌, false, List, if◌then◌else◌, ◌≡◌, Contains}
use Rattle.disk_model.specs.Disk.{Images}
use Rattle.rec_format.specs.declared.version.Digest.{Digest}
use Rattle.rec_format.specs.declared.version.Version.{Version}
use Rattle.rec_format.specs.Versions.{block_capacity}
use Rattle.model_device.specs.Histories.{is_begun}
use Rattle.model_device.specs.Book.{Book, pending_of}
use Rattle.block_format.specs.declared.geometry.Geometry.{Geometry}
use Rattle.block_format.specs.declared.geometry.Gate.{Gate}
use Rattle.block_format.specs.declared.geometry.Gate.TheVariants.{Shut, Set, Unsure}
use Rattle.block_format.specs.Layout.{Body, IsBody}
use Rattle.law_trail.specs.Trail.{places_of}
use Rattle.block_flusher.specs.Images.{IsShut, IsOpened, HasOneBody, IsBodyOf}

-- each image has these bytes as the block's body, and they are a body
pub record StandsOver (g : Geometry) (block : ℕ) (bytes : List ℕ) (images : Images) : Type 0 where
  pub one : HasOneBody g block bytes images
  pub is_body : IsBodyOf g block bytes

-- Shut: closed in each image. Set: open in each, over one body. Unsure: open or closed, and over one body.
abbrev pub GateStands : Geometry → Images → (block : ℕ) → Gate → Type 0
GateStands g images block Shut = IsShut g block images
GateStands g images block Set = IsOpened g block images × ((bytes : List ℕ) × StandsOver g block bytes images)
GateStands g images block Unsure = (bytes : List ℕ) × StandsOver g block bytes images

-- bytes that are a body of these records
pub record IsBodyWith (g : Geometry) (block : ℕ) (bytes : List ℕ) (records : List (Digest × Version)) : Type 0 where
  pub body : Body
  pub placed : body.block ≡ block
  pub same : body.records ≡ records
  pub is_body : IsBody (block_capacity g.block_size) bytes body

-- ---- all gates

-- What a shelf knows of all gates: each stands as it says, and that of a pending buffer is shut until its write begins.
pub record KnowsGates (g : Geometry) (book : Book) (images : Images) (gates : ℕ → Gate) : Type 0 where
  pub stands : (block : ℕ) → block < g.blocks → GateStands g images block (gates block)
  pub waiting : (number block : ℕ) → Contains (places_of book) (number, block) → is_begun (pending_of book) number ≡ false → gates block ≡ Shut

-- the same of all blocks but one
abbrev pub with_gate : (block : ℕ) → Gate → (ℕ → Gate) → ℕ → Gate
with_gate block gate gates k = if k == block then gate else gates k
