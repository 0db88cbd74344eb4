-- Crate law_start. Which images a state of a device allows, and which copies a start from one of them may find.
use Rattle.std.specs.Prelude.{ℕ, false, List, [], ◌∷◌, map, ◌≡◌, ◌⊎◌, if◌then◌else◌, Contains}
use Rattle.std.specs.List.{AllByRecursion, list_any}
use Rattle.rec_format.specs.declared.version.Digest.{Digest}
use Rattle.rec_format.specs.declared.version.Version.{Version}
use Rattle.rec_format.specs.Versions.{is_later}
use Rattle.model_device.specs.Histories.{Item, write, dropped, rid, cleared, Pending, is_pending, Keeps, last_write, writes_of}
use Rattle.model_device.specs.Book.{Setup, pending_of}
use Rattle.model_device.specs.Device.{State, history}
use Rattle.block_format.specs.declared.geometry.Geometry.{Geometry}
use Rattle.block_format.specs.Layout.{Body}
use Rattle.block_format.specs.Copies.{Copy, IsReadable, copies_of, copies_named, cold}
use Rattle.law_start.specs.Sound.{IsShapeOf, IsSound}

-- a restart keeps this history of a digest, and its last write is what is found
pub record KeepsShown (s : State) (copies : List Copy) (digest : Digest) (kept : List Item) : Type 0 where
  pub keeps : Keeps (pending_of s.book) (history s digest) kept
  pub shown : cold digest copies ≡ last_write kept

-- The image is sound, each copy in it was written, and for each digest it shows the end of a history that may be kept.
pub record Survives (setup : Setup) (s : State) (image : List ℕ) : Type 0 where
  pub bodies : List Body
  pub sound : IsSound setup image bodies
  pub written : AllByRecursion (λ c. Contains (writes_of (history s c.digest)) c.version) (copies_of bodies)
  pub kept : (digest : Digest) → (kept : List Item) × KeepsShown s (copies_of bodies) digest kept

-- ---- possible copies

-- the versions of a history that are in a buffer which isn't flushed
abbrev pub pending_versions : Pending → List Item → List Version
pending_versions pending [] = []
pending_versions pending (write v numbers ∷ older) =
    if list_any (is_pending pending) numbers then v ∷ pending_versions pending older else pending_versions pending older
pending_versions pending (dropped ∷ older) = pending_versions pending older
pending_versions pending (rid ∷ older) = pending_versions pending older
pending_versions pending (cleared ∷ older) = pending_versions pending older

-- an image of this set has this version of the digest
pub record IsStored (setup : Setup) (images : List ℕ → Type 0) (digest : Digest) (v : Version) : Type 0 where
  pub image : List ℕ
  pub is_left : images image
  pub shape : Geometry
  pub is_shape : IsShapeOf setup shape
  pub bodies : List Body
  pub readable : IsReadable image shape bodies
  pub copy : Contains (map (λ c. c.version) (copies_named digest (copies_of bodies))) v

-- a copy that a start may find: in a buffer that isn't flushed, or in an image that the disk may leave now
abbrev pub IsPossible : Setup → State → (images : List ℕ → Type 0) → Digest → Version → Type 0
IsPossible setup s images digest v = Contains (pending_versions (pending_of s.book) (history s digest)) v ⊎ IsStored setup images digest v

-- no possible copy of the digest is older than its entry: what a raid needs to remove a tombstone or to clear a cover
abbrev pub HasNoOlder : Setup → State → (images : List ℕ → Type 0) → Digest → Version → Type 0
HasNoOlder setup s images digest entry = (v : Version) → IsPossible setup s images digest v → is_later entry v ≡ false
