-- What the number of a part says of the digests that have it.
use Rattle.std.specs.Prelude.{◌≡◌, ℕ, ◌+◌, ◌*◌, ◌/◌, ◌%◌, ◌<◌}
use Rattle.rec_format.specs.declared.version.Digest.{Digest}
use Rattle.rec_format.specs.Places.{partition_number, sprig_number, device_number, part_number_of}

-- Digests of one partition and sprig have one part, and no others of the device have it.
pub record NamesOnePart (devices sprigs : ℕ) (digest : Digest) (part : ℕ) : Type 0 where
  pub same : (other : Digest) → partition_number other ≡ partition_number digest → sprig_number sprigs other ≡ sprig_number sprigs digest
      → part_number_of devices sprigs other ≡ part
  pub apart : (other : Digest) → device_number devices other ≡ device_number devices digest → part_number_of devices sprigs other ≡ part
      → (partition_number other ≡ partition_number digest) × (sprig_number sprigs other ≡ sprig_number sprigs digest)

-- a partition of a device, and one of its sprigs, whose number among the device's parts is this one
pub record IsPartAt (device devices sprigs part : ℕ) : Type 0 where
  pub partition : ℕ
  pub sprig : ℕ
  pub exists : (partition < 4096) × (sprig < sprigs)
  pub dealt : partition % devices ≡ device
  pub number : (partition / devices) * sprigs + sprig ≡ part

abbrev pub AllAreParts : (device devices sprigs count : ℕ) → Type 0
AllAreParts device devices sprigs count = (part : ℕ) → part < count → IsPartAt device devices sprigs part
