-- Crate law_facts. What each step asks, so that the facts stay.
use Rattle.std.specs.Prelude.{ℕ, ◌+◌, true, false, ◌||◌, List, [], ◌∷◌, ◌≡◌, Contains}
use Rattle.std.specs.List.{AllByRecursion}
use Rattle.rec_format.specs.declared.version.Digest.{Digest}
use Rattle.rec_format.specs.declared.version.Stamp.{Stamp}
use Rattle.rec_format.specs.declared.version.Version.{Version}
use Rattle.rec_format.specs.Places.{device_number}
use Rattle.rec_format.specs.Versions.{is_later, is_tombstone}
use Rattle.model_device.specs.Histories.{writes_of}
use Rattle.model_device.specs.Book.{Setup}
use Rattle.model_device.specs.Device.{State, mark_turn, scan_turn, drop_turn, history, entry_is_covered}
use Rattle.model_device.specs.Steps.{Step, wrote, removed, rid_of, uncovered, marked_part, scanned_block, done_part, after_step}
use Rattle.model_device.specs.Events.{Call, put_call, bury_call, Event}
use Rattle.law_facts.specs.Facts.{Possible, IsOlder, HasFacts, NoneOlder, Becomes}

-- A version of a digest of the device, later than all before it. It is covered if it is a tombstone, or else if the entry is.
pub record MayBeWritten (setup : Setup) (s : State) (digest : Digest) (v : Version) : Type 0 where
  pub own : device_number setup.devices digest ≡ setup.device
  pub later : AllByRecursion (λ w. is_later v w ≡ true) (writes_of (history s digest))
  pub cover : v.cover ≡ (is_tombstone v || entry_is_covered s digest)

-- of the marked digests each possible copy in a block that is older than the entry is among these
abbrev pub FindsOlder : State → Possible → (block : ℕ) → List (Digest × Stamp) → Type 0
FindsOlder s possible block copies = (digest : Digest) (v : Version) → Contains s.raid.marked digest → IsOlder s possible block digest v → Contains copies (digest, v.stamp)

-- a scan finds nothing but possible copies of its block
abbrev pub FindsPossible : Possible → (block : ℕ) → List (Digest × Stamp) → Type 0
FindsPossible possible block copies = (digest : Digest) (stamp : Stamp) → Contains copies (digest, stamp) → (v : Version) × possible block digest v × (v.stamp ≡ stamp)

-- what a step asks; moves, seals, flushes and the other turns of a raid ask nothing
abbrev pub MayTake : Setup → State → Possible → Step → Type 0
MayTake setup s possible (wrote digest v) = MayBeWritten setup s digest v
MayTake setup s possible (removed digest) = entry_is_covered s digest ≡ false
MayTake setup s possible (rid_of digest) = NoneOlder s possible digest
MayTake setup s possible (uncovered digest) = NoneOlder s possible digest
MayTake setup s possible (marked_part part now) = s.raid.next ≡ mark_turn part
MayTake setup s possible (scanned_block copies) = (block : ℕ) × (s.raid.next ≡ scan_turn block) × FindsOlder s possible block copies
MayTake setup s possible (done_part part) = s.raid.next ≡ drop_turn part
MayTake setup s possible _ = Unit {0}

-- ---- several steps, from the k-th on; what is possible may be other before each

abbrev pub MayTakeAll : Setup → State → (possible : ℕ → Possible) → (k : ℕ) → List Step → Type 0
MayTakeAll setup s possible k [] = Unit {0}
MayTakeAll setup s possible k (step ∷ steps) = MayTake setup s (possible k) step × MayTakeAll setup (after_step setup step s) possible (k + 1) steps

-- behind each step copies may go, and copies of an entry may come
abbrev pub BecomesAlong : Setup → State → (possible : ℕ → Possible) → (k : ℕ) → List Step → Type 0
BecomesAlong setup s possible k [] = Unit {0}
BecomesAlong setup s possible k (step ∷ steps) =
    Becomes setup (after_step setup step s) (possible k) (possible (k + 1)) × BecomesAlong setup (after_step setup step s) possible (k + 1) steps

-- the first state, each on the way, and the last have the facts
abbrev pub FactsAlong : Setup → State → (possible : ℕ → Possible) → (k : ℕ) → List Step → Type 0
FactsAlong setup s possible k [] = HasFacts setup s (possible k)
FactsAlong setup s possible k (step ∷ steps) = HasFacts setup s (possible k) × FactsAlong setup (after_step setup step s) possible (k + 1) steps

-- ---- events

-- what a put or a durable delete writes belongs to the device
abbrev pub WritesOwn : Setup → Call → Type 0
WritesOwn setup (put_call digest ttl expect payload now) = device_number setup.devices digest ≡ setup.device
WritesOwn setup (bury_call digest now) = device_number setup.devices digest ≡ setup.device
WritesOwn setup _ = Unit {0}

-- if the event is a scan, it finds what it has to
abbrev pub ScansAll : State → Possible → Event → Type 0
ScansAll s possible event = (block : ℕ) (copies : List (Digest × Stamp)) → s.raid.next ≡ scan_turn block → event.steps ≡ scanned_block copies ∷ [] → FindsOlder s possible block copies

-- if the event is a scan, it finds nothing but what is possible
abbrev pub ScansOnly : State → Possible → Event → Type 0
ScansOnly s possible event = (block : ℕ) (copies : List (Digest × Stamp)) → s.raid.next ≡ scan_turn block → event.steps ≡ scanned_block copies ∷ [] → FindsPossible possible block copies
