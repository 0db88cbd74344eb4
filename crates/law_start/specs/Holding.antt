-- Crate law_start. What an image has of the histories of a device where no block was used again: each version that is flushed,
-- and none whose flush hasn't begun. So it is behind a start.
use Rattle.std.specs.Prelude.{ℕ, ◌<◌, ◌==◌, List, [], ◌∷◌, map, if◌then◌else◌, Contains}
use Rattle.std.specs.List.{AllByRecursion, list_any}
use Rattle.rec_format.specs.declared.version.Digest.{Digest}
use Rattle.rec_format.specs.declared.version.Version.{Version}
use Rattle.model_device.specs.Histories.{Item, write, dropped, rid, cleared, Pending, is_flushed, is_waiting, stage_of}
use Rattle.model_device.specs.Book.{Setup, Buffer, Book, pending_of}
use Rattle.model_device.specs.Device.{State, history}
use Rattle.block_format.specs.declared.geometry.Geometry.{Geometry}
use Rattle.block_format.specs.Layout.{Body}
use Rattle.block_format.specs.Copies.{IsReadable, copies_of, copies_named}
use Rattle.law_start.specs.Sound.{IsShapeOf, NoStrays}

-- the versions of a history that went to a buffer, the newest first
abbrev pub versions_to : (number : ℕ) → List Item → List Version
versions_to number [] = []
versions_to number (write v numbers ∷ older) = if list_any (λ n. n == number) numbers then v ∷ versions_to number older else versions_to number older
versions_to number (dropped ∷ older) = versions_to number older
versions_to number (rid ∷ older) = versions_to number older
versions_to number (cleared ∷ older) = versions_to number older

-- those whose flush has at least begun, which a crash may leave
abbrev pub begun_versions : Pending → List Item → List Version
begun_versions pending [] = []
begun_versions pending (write v numbers ∷ older) = if is_waiting (stage_of pending numbers) then begun_versions pending older else v ∷ begun_versions pending older
begun_versions pending (dropped ∷ older) = begun_versions pending older
begun_versions pending (rid ∷ older) = begun_versions pending older
begun_versions pending (cleared ∷ older) = begun_versions pending older

-- those that are flushed
abbrev pub flushed_versions : Pending → List Item → List Version
flushed_versions pending [] = []
flushed_versions pending (write v numbers ∷ older) = if is_flushed pending numbers then v ∷ flushed_versions pending older else flushed_versions pending older
flushed_versions pending (dropped ∷ older) = flushed_versions pending older
flushed_versions pending (rid ∷ older) = flushed_versions pending older
flushed_versions pending (cleared ∷ older) = flushed_versions pending older

-- the versions of a digest that some bodies have
abbrev pub versions_in : Digest → List Body → List Version
versions_in digest bodies = map (λ c. c.version) (copies_named digest (copies_of bodies))

-- An image that can be read, with these bodies: each of their copies belongs to the device and its flush has begun, and each
-- flushed version is among them.
pub record Reflects (setup : Setup) (s : State) (image : List ℕ) (bodies : List Body) : Type 0 where
  pub shape : Geometry
  pub is_shape : IsShapeOf setup shape
  pub readable : IsReadable image shape bodies
  pub strays : NoStrays setup (copies_of bodies)
  pub begun : AllByRecursion (λ c. Contains (begun_versions (pending_of s.book) (history s c.digest)) c.version) (copies_of bodies)
  pub flushed : (digest : Digest) → AllByRecursion (λ v. Contains (versions_in digest bodies) v) (flushed_versions (pending_of s.book) (history s digest))

-- ---- buffers

abbrev pub AreRising : List Buffer → Type 0
AreRising [] = Unit {0}
AreRising (b ∷ bs) = AllByRecursion (λ c. b.number < c.number) bs × AreRising bs

-- the buffers of a book stand in rising number, all below the next
pub record HasRisingNumbers (book : Book) : Type 0 where
  pub rising : AreRising book.buffers
  pub below : AllByRecursion (λ b. b.number < book.next_number) book.buffers
