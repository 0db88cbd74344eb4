-- Crate law_images. What stands behind a gate that is unsure counts as possible, until the gate is known to be shut.
use Rattle.std.specs.Prelude.{ℕ, ◌<◌, List, length, ◌≡◌, ◌≢◌}
use Rattle.disk_model.specs.Bytes.{range, Apart}
use Rattle.disk_model.specs.Disk.{Images}
use Rattle.model_device.specs.Book.{Setup}
use Rattle.model_device.specs.Device.{State}
use Rattle.block_format.specs.declared.geometry.Geometry.{Geometry}
use Rattle.block_format.specs.declared.geometry.Gate.{Gate}
use Rattle.block_format.specs.declared.geometry.Gate.TheVariants.{Unsure}
use Rattle.block_format.specs.Layout.{block_place}
use Rattle.law_trail.specs.Trail.{Records}
use Rattle.law_images.specs.Kept.{IsKept}
use Rattle.law_images.specs.Gates.{KnowsGates}

-- m bytes at a are apart from the gates that are unsure
abbrev pub IsAway : Geometry → (gates : ℕ → Gate) → (a m : ℕ) → Type 0
IsAway g gates a m = (k : ℕ) → k < g.blocks → gates k ≡ Unsure → Apart a m (block_place g k) 4096

-- new is old but for the gates that are unsure, which may be any
pub record DiffersInUnsure (g : Geometry) (gates : ℕ → Gate) (old new : List ℕ) : Type 0 where
  pub size : length new ≡ length old
  pub apart : (a m : ℕ) → IsAway g gates a m → range a m new ≡ range a m old

-- The images of a set, with anything in the gates that are unsure: each of these is closed, or open over the body that the image has there.
abbrev pub loosened : Geometry → (gates : ℕ → Gate) → Images → Images
loosened g gates images c = (d : List ℕ) × images d × DiffersInUnsure g gates d c

-- What is kept, where what stands behind an unsure gate counts as possible, whatever the images show there now.
abbrev pub IsKeptLoosened : Setup → Geometry → State → Records → (gates : ℕ → Gate) → Images → Type 0
IsKeptLoosened setup g s records gates images = IsKept setup g s records (loosened g gates images)

-- What a shelf has to show of its gates: what it knows of each, and that a set is kept where what stands behind an unsure one counts.
pub record HoldsGates (setup : Setup) (g : Geometry) (s : State) (records : Records) (gates : ℕ → Gate) (images : Images) : Type 0 where
  pub knows : KnowsGates g s.book images gates
  pub held : IsKeptLoosened setup g s records gates images

-- of these blocks' gates no more are unsure than of those
abbrev pub IsSurer : Geometry → (old new : ℕ → Gate) → Type 0
IsSurer g old new = (k : ℕ) → k < g.blocks → new k ≡ Unsure → old k ≡ Unsure

-- no gate is unsure
abbrev pub AreSure : Geometry → (gates : ℕ → Gate) → Type 0
AreSure g gates = (k : ℕ) → k < g.blocks → gates k ≢ Unsure
