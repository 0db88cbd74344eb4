-- Crate law_start. Which images are sound.
use Rattle.std.specs.Prelude.{ℕ, Bool, true, ◌&&◌, List, ◌≡◌, IsTrue}
use Rattle.std.specs.List.{AllByRecursion}
use Rattle.rec_format.specs.Places.{same_digest, device_number}
use Rattle.rec_format.specs.Versions.{is_later, is_put, is_tombstone, block_capacity}
use Rattle.model_device.specs.Book.{Setup}
use Rattle.block_format.specs.declared.geometry.Geometry.{Geometry}
use Rattle.block_format.specs.Layout.{Body}
use Rattle.block_format.specs.Copies.{Copy, IsReadable, copies_of}

-- the shape of the device that is run
pub record IsShapeOf (setup : Setup) (g : Geometry) : Type 0 where
  pub capacity : setup.capacity ≡ block_capacity g.block_size
  pub blocks : setup.blocks ≡ g.blocks
  pub device : setup.device ≡ g.device
  pub devices : setup.devices ≡ g.devices

abbrev pub same_name : Copy → Copy → Bool
same_name a b = same_digest a.digest b.digest

-- copies with one digest and one stamp are one version
abbrev pub NoTwins : List Copy → Type 0
NoTwins copies = AllByRecursion (λ a. AllByRecursion (λ b.
    IsTrue (same_name a b) → a.version.stamp ≡ b.version.stamp → a.version ≡ b.version) copies) copies

-- a put after a tombstone that is later than another copy has its cover flag set
abbrev pub NoBarePuts : List Copy → Type 0
NoBarePuts copies = AllByRecursion (λ a. AllByRecursion (λ t. AllByRecursion (λ p.
    IsTrue (same_name a t && same_name t p && is_tombstone t.version && is_put p.version && is_later t.version a.version && is_later p.version t.version)
    → p.version.cover ≡ true) copies) copies) copies

-- each digest belongs to the device
abbrev pub NoStrays : Setup → List Copy → Type 0
NoStrays setup copies = AllByRecursion (λ c. device_number setup.devices c.digest ≡ setup.device) copies

pub record IsSound (setup : Setup) (image : List ℕ) (bodies : List Body) : Type 0 where
  pub shape : Geometry
  pub is_shape : IsShapeOf setup shape
  pub readable : IsReadable image shape bodies
  pub twins : NoTwins (copies_of bodies)
  pub puts : NoBarePuts (copies_of bodies)
  pub strays : NoStrays setup (copies_of bodies)
