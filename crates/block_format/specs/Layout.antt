-- Crate block_format. The bytes of a device: the header, the gate of a block, and its body.
use Rattle.std.specs.Prelude.{ℕ, ◌+◌, ◌-◌, ◌*◌, ◌/◌, ◌^◌, ◌<◌, ◌≤◌, List, ◌++◌, length, take, drop, replicate, flat_map, sum_by, codes, ◌≡◌, ◌≢◌, ◌⊎◌}
use Rattle.std.specs.List.{AllByRecursion}
use Rattle.std.specs.Int.{to_le_bytes, w16, w32, w64}
use Rattle.rec_format.specs.declared.version.Digest.{Digest}
use Rattle.rec_format.specs.declared.version.Version.{Version}
use Rattle.rec_format.specs.Versions.{version_units, top_number}
use Rattle.rec_format.specs.RecordText.{record_text, BeginsWith, CanBeRecorded}
use Rattle.block_format.specs.declared.geometry.Geometry.{Geometry}

-- ---- the header

-- a power of two from 16 KiB to 1 MiB
abbrev pub IsBlockSize : ℕ → Type 0
IsBlockSize size = (k : ℕ) × (14 ≤ k) × (k ≤ 20) × (size ≡ 2 ^ k)

-- 8 to 65,536 blocks, on one of at most 16 devices
pub record IsGeometry (g : Geometry) : Type 0 where
  pub block_size : IsBlockSize g.block_size
  pub blocks : (8 ≤ g.blocks) × (g.blocks ≤ 65536)
  pub device : g.device < g.devices
  pub devices : g.devices ≤ 16

-- the 32 bytes before the zeros
abbrev pub header_front : Geometry → List ℕ
header_front g =
    codes "ASNODE-DEVICE-01" ++ to_le_bytes w32 1 ++ to_le_bytes w32 g.block_size ++ to_le_bytes w32 g.blocks
    ++ to_le_bytes w16 g.device ++ to_le_bytes w16 g.devices

abbrev pub header_text : Geometry → List ℕ
header_text g = header_front g ++ replicate 4064 0

-- these bytes are the header of a device of this shape
pub record IsHeader (bytes : List ℕ) (g : Geometry) : Type 0 where
  pub geometry : IsGeometry g
  pub text : bytes ≡ header_text g

-- the first byte behind the last block
abbrev pub device_end : Geometry → ℕ
device_end g = 4096 + g.blocks * g.block_size

-- ---- a block

abbrev pub block_place : Geometry → ℕ → ℕ
block_place g block = 4096 + block * g.block_size

abbrev pub gate_text : List ℕ
gate_text = codes "ASNODE-GATE-OPEN"

-- a gate sector that opens its block, and one that closes it
abbrev pub IsOpen : List ℕ → Type 0
IsOpen sector = take 16 sector ≡ gate_text

abbrev pub IsClosed : List ℕ → Type 0
IsClosed sector = take 16 sector ≢ gate_text

abbrev pub open_sector : List ℕ
open_sector = gate_text ++ replicate 4080 0

abbrev pub closed_sector : List ℕ
closed_sector = replicate 4096 0

abbrev pub gate_sector : Geometry → ℕ → List ℕ → List ℕ
gate_sector g block image = take 4096 (drop (block_place g block) image)

-- a block without its gate sector
abbrev pub body_bytes : Geometry → ℕ → List ℕ → List ℕ
body_bytes g block image = take (g.block_size - 4096) (drop (block_place g block + 4096) image)

-- ---- a body

-- a body's buffer number, its block, and its records in order
pub record Body : Type 0 where
  pub number : ℕ
  pub block : ℕ
  pub records : List (Digest × Version)

abbrev pub units_of_records : List (Digest × Version) → ℕ
units_of_records records = sum_by (λ r. version_units r.1) records

abbrev pub body_head_text : (number records units block : ℕ) → List ℕ
body_head_text number records units block =
    codes "ASNBODY1" ++ to_le_bytes w64 number ++ to_le_bytes w32 records ++ to_le_bytes w32 units ++ to_le_bytes w32 block ++ to_le_bytes w32 0

abbrev pub records_text : List (Digest × Version) → List ℕ
records_text records = flat_map (λ r. record_text r.0 r.1) records

abbrev pub body_text : Body → List ℕ
body_text body = body_head_text body.number (length body.records) (units_of_records body.records) body.block ++ records_text body.records

-- These bytes begin with this body, of a block with so many units. What stands behind it is free.
pub record IsBody (capacity : ℕ) (bytes : List ℕ) (body : Body) : Type 0 where
  pub number : body.number ≤ top_number
  pub count : length body.records < 2 ^ 32
  pub units : units_of_records body.records ≤ capacity
  pub records : AllByRecursion (λ r. CanBeRecorded r.0 r.1) body.records
  pub behind : List ℕ
  pub text : bytes ≡ body_text body ++ behind

-- the most records that a body of so many units has: each takes at least three
abbrev pub most_records : (capacity : ℕ) → ℕ
most_records capacity = capacity / 3

-- ---- bytes that aren't a body

-- the first 32 bytes are the head of a body of this block, of a block with so many units
pub record IsHead (capacity : ℕ) (bytes : List ℕ) (number records units block : ℕ) : Type 0 where
  pub number_fits : number ≤ top_number
  pub count_fits : records < 2 ^ 32
  pub units_fit : units ≤ capacity
  pub text : take 32 bytes ≡ body_head_text number records units block

abbrev pub HasNoHead : (capacity : ℕ) → List ℕ → (block : ℕ) → Type 0
HasNoHead capacity bytes block = (number records units : ℕ) → IsHead capacity bytes number records units block → ⊥

-- the record of this digest and version stands at a place
abbrev pub IsRecordAt : List ℕ → (place : ℕ) → Digest → Version → Type 0
IsRecordAt bytes place digest v = BeginsWith (drop place bytes) digest v

-- Behind the head stand these records, and then comes the fault: the next of the records that the head counts isn't there or
-- would pass the head's units, or there is no next one and the units aren't the head's.
pub record FailsBehind (capacity : ℕ) (bytes : List ℕ) (block place : ℕ) : Type 0 where
  pub number : ℕ
  pub count : ℕ
  pub units : ℕ
  pub head : IsHead capacity bytes number count units block
  pub records : List (Digest × Version)
  pub each : AllByRecursion (λ r. CanBeRecorded r.0 r.1) records
  pub there : take (16 * units_of_records records) (drop 32 bytes) ≡ records_text records
  pub within : units_of_records records ≤ units
  pub place_is : place ≡ 32 + 16 * units_of_records records
  pub fault : ((length records < count)
      × ((digest : Digest) (v : Version) → IsRecordAt bytes place digest v → units_of_records records + version_units v ≤ units → ⊥))
      ⊎ ((length records ≡ count) × (units_of_records records ≢ units))

-- the place of the first fault in bytes that aren't a body
abbrev pub IsFaultAt : (capacity : ℕ) → List ℕ → (block place : ℕ) → Type 0
IsFaultAt capacity bytes block place = (HasNoHead capacity bytes block × (place ≡ 0)) ⊎ FailsBehind capacity bytes block place
