-- Crate law_trail. What the numbers of buffers say of the records in them.
use Rattle.std.specs.Prelude.{ℕ, Bool, true, false, ◌||◌, ◌==◌, List, [], ◌∷◌, Some, ◌≡◌, ◌⊎◌, if◌then◌else◌, Contains, MatchOption}
use Rattle.std.specs.List.{AllByRecursion, list_any}
use Rattle.rec_format.specs.declared.version.Digest.{Digest}
use Rattle.rec_format.specs.declared.version.Version.{Version}
use Rattle.rec_format.specs.Versions.{version_units}
use Rattle.model_device.specs.Histories.{Item, write, dropped, rid, cleared, is_pending}
use Rattle.model_device.specs.Book.{Setup, client, defrag, live_of, placing_number, pending_of}
use Rattle.model_device.specs.Device.{State, history, entry}
use Rattle.model_device.specs.Steps.{Step, wrote, moved}
use Rattle.law_start.specs.Orderly.{NumbersBelow}
use Rattle.law_start.specs.Holding.{HasRisingNumbers, versions_to}
use Rattle.law_trail.specs.Trail.{Records}

-- buffers stand in rising number, and all numbers are below the next
pub record HasNumbers (s : State) : Type 0 where
  pub counted : HasRisingNumbers s.book
  pub below : (digest : Digest) → NumbersBelow s.book.next_number (history s digest)

-- a write that a start found has no number
abbrev pub was_found : List ℕ → Bool
was_found [] = true
was_found (n ∷ ns) = false

-- the versions that a buffer may have: those that went to it, and those that a start found, whose moves add no number
abbrev pub versions_for : (number : ℕ) → List Item → List Version
versions_for number [] = []
versions_for number (write v numbers ∷ older) =
    if was_found numbers || list_any (λ n. n == number) numbers then v ∷ versions_for number older else versions_for number older
versions_for number (dropped ∷ older) = versions_for number older
versions_for number (rid ∷ older) = versions_for number older
versions_for number (cleared ∷ older) = versions_for number older

-- each record of a buffer is one of those of its digest
abbrev pub RecordsWritten : State → Records → Type 0
RecordsWritten s records = (number : ℕ) → AllByRecursion (λ r. Contains (versions_for number (history s r.0)) r.1) (records number)

-- and a pending buffer has each version that went to it
abbrev pub RecordsWhole : State → Records → Type 0
RecordsWhole s records = (number : ℕ) → is_pending (pending_of s.book) number ≡ true → (digest : Digest) → AllByRecursion (λ v. Contains (records number) (digest, v)) (versions_to number (history s digest))

-- each record of a buffer was in it before
abbrev pub AddsNone : (old new : Records) → Type 0
AddsNone old new = (n : ℕ) (r : Digest × Version) → Contains (new n) r → Contains (old n) r

-- or it is this one, in the buffer of this number
abbrev pub AddsOnly : (number : ℕ) → Digest → Version → (old new : Records) → Type 0
AddsOnly number digest v old new = (n : ℕ) (r : Digest × Version) → Contains (new n) r → Contains (old n) r ⊎ ((n ≡ number) × (r ≡ (digest, v)))

-- a step adds no record but that of the copy that it places
abbrev pub AddsPlaced : Setup → State → Step → (old new : Records) → Type 0
AddsPlaced setup s (wrote digest v) old new = AddsOnly (placing_number setup client (version_units v) s.book) digest v old new
AddsPlaced setup s (moved digest) old new = MatchOption (live_of digest s.book.live) (AddsNone old new)
    (λ copy. (v : Version) × (entry s digest ≡ Some v) × AddsOnly (placing_number setup defrag copy.units s.book) digest v old new)
AddsPlaced setup s _ old new = AddsNone old new
