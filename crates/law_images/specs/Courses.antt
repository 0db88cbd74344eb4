-- Crate law_images. The steps of an event, with the images that change behind each.
use Rattle.std.specs.Prelude.{ℕ, ◌+◌, List, [], ◌∷◌, Some, ◌≡◌, Contains, MatchOption}
use Rattle.rec_format.specs.declared.version.Version.{Version}
use Rattle.rec_format.specs.Versions.{version_units}
use Rattle.model_device.specs.Book.{Setup, client, defrag, live_of}
use Rattle.model_device.specs.Device.{State, entry}
use Rattle.model_device.specs.Steps.{Step, wrote, moved, rid_of, uncovered, flushed_buffer, done_part, after_step}
use Rattle.disk_model.specs.Disk.{Images}
use Rattle.block_format.specs.declared.geometry.Geometry.{Geometry}
use Rattle.law_trail.specs.Trail.{Records, places_of}
use Rattle.law_images.specs.Kept.{IsKept}
use Rattle.law_images.specs.Changes.{Appends, AllShow, BringsNone}

-- A step is made: a copy that is placed is appended, each image shows the records of a buffer that is flushed, and no other step changes
-- the records.
abbrev pub IsMade : Setup → Geometry → State → (old new : Records) → Images → Step → Type 0
IsMade setup g s old new images (wrote digest v) = Appends setup client (version_units v) digest v s.book old new
IsMade setup g s old new images (moved digest) = MatchOption (live_of digest s.book.live) (new ≡ old)
    (λ copy. (v : Version) × (entry s digest ≡ Some v) × Appends setup defrag copy.units digest v s.book old new)
IsMade setup g s old new images (flushed_buffer number) = (block : ℕ) × Contains (places_of s.book) (number, block) × AllShow g block (old number) images × (new ≡ old)
IsMade setup g s old new images _ = new ≡ old

-- as the images change the set is kept
abbrev pub ChangesKept : Setup → Geometry → (after : State) → Records → (before now : Images) → Type 0
ChangesKept setup g after records before now = IsKept setup g after records before → IsKept setup g after records now

-- Behind a step, in the state after it, the images may change as long as the set is kept, also as the event that follows begins. Behind what
-- a raid drops they show no copy then that wasn't possible.
abbrev pub ChangeBehind : Setup → Geometry → (after : State) → Records → (before now : Images) → Step → Type 0
ChangeBehind setup g after records before now (rid_of digest) = ChangesKept setup g after records before now × BringsNone g after.book records before now
ChangeBehind setup g after records before now (uncovered digest) = ChangesKept setup g after records before now × BringsNone g after.book records before now
ChangeBehind setup g after records before now (done_part part) = ChangesKept setup g after records before now × BringsNone g after.book records before now
ChangeBehind setup g after records before now _ = ChangesKept setup g after records before now

-- several steps, from the k-th on: each is made with the k-th records and images
abbrev pub MadeAlong : Setup → Geometry → State → (records : ℕ → Records) → (images : ℕ → Images) → (k : ℕ) → List Step → Type 0
MadeAlong setup g s records images k [] = Unit {0}
MadeAlong setup g s records images k (step ∷ steps) =
    IsMade setup g s (records k) (records (k + 1)) (images k) step × ChangeBehind setup g (after_step setup step s) (records (k + 1)) (images k) (images (k + 1)) step
    × MadeAlong setup g (after_step setup step s) records images (k + 1) steps

-- the images are kept in each state on the way, before they change and after it
abbrev pub KeptAlong : Setup → Geometry → State → (records : ℕ → Records) → (images : ℕ → Images) → (k : ℕ) → List Step → Type 0
KeptAlong setup g s records images k [] = IsKept setup g s (records k) (images k)
KeptAlong setup g s records images k (step ∷ steps) =
    IsKept setup g s (records k) (images k) × IsKept setup g (after_step setup step s) (records (k + 1)) (images k)
    × KeptAlong setup g (after_step setup step s) records images (k + 1) steps
