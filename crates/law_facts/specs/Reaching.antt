-- Crate law_facts. What of a device an image has to reach.
use Rattle.std.specs.Prelude.{ℕ, false, List, ◌≡◌, IsTrue, Contains}
use Rattle.std.specs.List.{AllByRecursion}
use Rattle.rec_format.specs.declared.version.Digest.{Digest}
use Rattle.rec_format.specs.declared.version.Version.{Version}
use Rattle.rec_format.specs.Versions.{is_later}
use Rattle.model_device.specs.Histories.{Item, Pending, is_durable}
use Rattle.model_device.specs.Book.{Setup, pending_of}
use Rattle.model_device.specs.Device.{State, history}
use Rattle.block_format.specs.declared.geometry.Geometry.{Geometry}
use Rattle.block_format.specs.Layout.{Body}
use Rattle.block_format.specs.Copies.{IsReadable, copies_of}
use Rattle.law_start.specs.Sound.{IsShapeOf}
use Rattle.law_start.specs.Orderly.{NumbersBelow}
use Rattle.law_start.specs.Holding.{begun_versions, flushed_versions, versions_in}
use Rattle.law_facts.specs.Facts.{Possible}

-- among these versions is one that no flushed write is later than
pub record ReachesFlushed (pending : Pending) (items : List Item) (versions : List Version) : Type 0 where
  pub found : Version
  pub there : Contains versions found
  pub last : AllByRecursion (λ w. is_later w found ≡ false) (flushed_versions pending items)

-- An image that can be read, with these bodies: their copies are possible, the flush of each has begun, and where a history is durable its
-- newest flushed write, or a later one, is among them.
pub record IsLeft (setup : Setup) (s : State) (possible : Possible) (image : List ℕ) (bodies : List Body) : Type 0 where
  pub shape : Geometry
  pub is_shape : IsShapeOf setup shape
  pub readable : IsReadable image shape bodies
  pub may_come : AllByRecursion (λ c. possible c.block c.digest c.version) (copies_of bodies)
  pub begun : AllByRecursion (λ c. Contains (begun_versions (pending_of s.book) (history s c.digest)) c.version) (copies_of bodies)
  pub reaches : (digest : Digest) → IsTrue (is_durable (pending_of s.book) (history s digest)) → ReachesFlushed (pending_of s.book) (history s digest) (versions_in digest bodies)

-- the buffers that the histories name have numbers below the next
abbrev pub AreNumbered : State → Type 0
AreNumbered s = (digest : Digest) → NumbersBelow s.book.next_number (history s digest)
