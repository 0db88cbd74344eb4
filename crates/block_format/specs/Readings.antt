-- Crate block_format. What a reading of a body gives.
use Rattle.std.specs.Prelude.{ℕ, ◌+◌, ◌-◌, ◌*◌, ◌/◌, ◌^◌, ◌<◌, ◌≤◌, List, [], ◌∷◌, length, map, take, drop, ◌≡◌, ◌≢◌, ◌⊎◌, ⊤}
use Rattle.std.specs.List.{AllByRecursion}
use Rattle.rec_format.specs.declared.version.Digest.{Digest}
use Rattle.rec_format.specs.declared.version.Version.{Version}
use Rattle.rec_format.specs.Versions.{version_units}
use Rattle.rec_format.specs.RecordText.{CanBeRecorded, head_of}
use Rattle.block_format.specs.declared.geometry.Found.{Found}
use Rattle.block_format.specs.declared.geometry.BodyRefusal.{BodyRefusal}
use Rattle.block_format.specs.declared.geometry.BodyRefusal.TheVariants.{Bad, Memory}
use Rattle.block_format.specs.Layout.{Body, IsBody, IsFaultAt, IsRecordAt, records_text, units_of_records}

-- the units behind the head of a body that fills these bytes
abbrev pub body_capacity : List ℕ → ℕ
body_capacity bytes = (length bytes - 32) / 16

-- the heads of records in order, each behind the units of those before it
abbrev pub found_from : (unit : ℕ) → List (Digest × Version) → List Found
found_from unit [] = []
found_from unit (r ∷ records) =
    (record { head = head_of r.0 r.1; unit = unit; units = version_units r.1 }) ∷ found_from (unit + version_units r.1) records

-- ---- record by record

-- the record behind so many units is there, and stays within the units that the head gives
pub record IsNext (bytes : List ℕ) (used units : ℕ) (found : Found) : Type 0 where
  pub version : Version
  pub there : IsRecordAt bytes (32 + 16 * used) found.head.digest version
  pub found_is : found ≡ record { head = head_of found.head.digest version; unit = used; units = version_units version }
  pub within : used + found.units ≤ units

abbrev pub HasNoNext : List ℕ → (used units : ℕ) → Type 0
HasNoNext bytes used units = (digest : Digest) (v : Version) → IsRecordAt bytes (32 + 16 * used) digest v → used + version_units v ≤ units → ⊥

-- so many records of so many units stand behind the head, and these are their heads
pub record HasRecords (bytes : List ℕ) (count used : ℕ) (found : List Found) : Type 0 where
  pub records : List (Digest × Version)
  pub each : AllByRecursion (λ r. CanBeRecorded r.0 r.1) records
  pub there : take (16 * units_of_records records) (drop 32 bytes) ≡ records_text records
  pub count_is : length records ≡ count
  pub used_is : units_of_records records ≡ used
  pub found_is : found ≡ found_from 0 records

-- so many records of so many units stand behind the head
abbrev pub AreThere : List ℕ → (count used : ℕ) → Type 0
AreThere bytes count used = (found : List Found) × HasRecords bytes count used found

-- and these are their digests
abbrev pub HasDigests : List ℕ → (count used : ℕ) → List Digest → Type 0
HasDigests bytes count used digests = (found : List Found) × HasRecords bytes count used found × (digests ≡ map (λ f. f.head.digest) found)

-- the records behind a head of so many records and units have their first fault at this place
pub record StopsAt (bytes : List ℕ) (count units place : ℕ) : Type 0 where
  pub done : ℕ
  pub used : ℕ
  pub found : List Found
  pub front : HasRecords bytes done used found
  pub within : used ≤ units
  pub place_is : place ≡ 32 + 16 * used
  pub fault : ((done < count) × HasNoNext bytes used units) ⊎ ((done ≡ count) × (used ≢ units))

abbrev pub AreUnreadBy : List ℕ → (count units : ℕ) → BodyRefusal → Type 0
AreUnreadBy bytes count units (Bad place) = StopsAt bytes count units place
AreUnreadBy bytes count units Memory = ⊤

-- ---- the whole body

abbrev pub HasNoBody : List ℕ → (block : ℕ) → Type 0
HasNoBody bytes block = (body : Body) → IsBody (body_capacity bytes) bytes body → body.block ≡ block → ⊥

-- these bytes begin with a body of this block and this number, and these are the heads of its records
pub record IsReading (bytes : List ℕ) (block number : ℕ) (found : List Found) : Type 0 where
  pub body : Body
  pub is_body : IsBody (body_capacity bytes) bytes body
  pub block_is : body.block ≡ block
  pub number_is : body.number ≡ number
  pub found_is : found ≡ found_from 0 body.records

-- these bytes begin with a body of this block and this number
pub record IsNumbered (bytes : List ℕ) (block number : ℕ) : Type 0 where
  pub body : Body
  pub is_body : IsBody (body_capacity bytes) bytes body
  pub block_is : body.block ≡ block
  pub number_is : body.number ≡ number

-- these bytes begin with a body of this block, and these are the digests of its records in their order
pub record IsListing (bytes : List ℕ) (block : ℕ) (digests : List Digest) : Type 0 where
  pub body : Body
  pub is_body : IsBody (body_capacity bytes) bytes body
  pub block_is : body.block ≡ block
  pub digests_are : digests ≡ map (λ r. r.0) body.records

-- no body of this block is there, and the first fault is at this place
abbrev pub IsUnreadAt : List ℕ → (block place : ℕ) → Type 0
IsUnreadAt bytes block place = IsFaultAt (body_capacity bytes) bytes block place × HasNoBody bytes block

-- a body is refused by the place of its first fault, or by want of memory
abbrev pub IsUnreadBy : List ℕ → (block : ℕ) → BodyRefusal → Type 0
IsUnreadBy bytes block (Bad place) = IsUnreadAt bytes block place
IsUnreadBy bytes block Memory = ⊤

-- ---- laws

-- two readings of the same bytes are the same
abbrev pub AtMostOneBody : Type 0
AtMostOneBody = (k l : ℕ) (bytes : List ℕ) (b c : Body) → IsBody k bytes b → IsBody l bytes c → b.block ≡ c.block → b ≡ c

-- the first fault is at one place
abbrev pub AtMostOneFault : Type 0
AtMostOneFault = (capacity : ℕ) (bytes : List ℕ) (block p q : ℕ) → capacity < 2 ^ 32 → IsFaultAt capacity bytes block p → IsFaultAt capacity bytes block q → p ≡ q
