-- Crate law_images. What a scan of a block has to read, and to find in it.
use Rattle.std.specs.Prelude.{ℕ, true, ◌&&◌, List, map, filter, ◌≡◌, Contains}
use Rattle.std.specs.List.{list_any}
use Rattle.rec_format.specs.declared.version.Digest.{Digest}
use Rattle.rec_format.specs.declared.version.Stamp.{Stamp}
use Rattle.rec_format.specs.declared.version.Version.{Version}
use Rattle.rec_format.specs.Places.{same_digest}
use Rattle.model_device.specs.Book.{Book}
use Rattle.model_device.specs.Device.{State, entry, stamp_of}
use Rattle.model_device.specs.Steps.{is_older_than}
use Rattle.disk_model.specs.Disk.{Images}
use Rattle.block_format.specs.declared.geometry.Geometry.{Geometry}
use Rattle.block_format.specs.Layout.{Body}
use Rattle.law_trail.specs.Trail.{Records, places_of}
use Rattle.law_images.specs.Kept.{Shows}

-- what a block may have is among these records: those of its pending buffer, and those that an image shows in it
pub record IsScanOf (g : Geometry) (book : Book) (records : Records) (images : Images) (block : ℕ) (read : List (Digest × Version)) : Type 0 where
  pub pending : (number : ℕ) → Contains (places_of book) (number, block) → (r : Digest × Version) → Contains (records number) r → Contains read r
  pub stored : (c : List ℕ) → images c → (body : Body) → body.block ≡ block → Shows g c body → (r : Digest × Version) → Contains body.records r → Contains read r

-- of these records those of marked digests that are older than their entries are found
abbrev pub FindsAmong : State → (read : List (Digest × Version)) → (copies : List (Digest × Stamp)) → Type 0
FindsAmong s read copies =
    (r : Digest × Version) → Contains read r → Contains s.raid.marked r.0 → is_older_than (stamp_of (entry s r.0)) r.1.stamp ≡ true → Contains copies (r.0, r.1.stamp)

-- they are these
abbrev pub older_among : State → List (Digest × Version) → List (Digest × Stamp)
older_among s read =
    map (λ r. (r.0, r.1.stamp)) (filter (λ r. list_any (same_digest r.0) s.raid.marked && is_older_than (stamp_of (entry s r.0)) r.1.stamp) read)
