-- Crate model_device. The state of a device: the histories of all digests in one list, the block book, and the raid.
use Rattle.std.specs.Prelude.{ℕ, ◌+◌, ◌*◌, max, Bool, true, false, ◌&&◌, ◌||◌, ◌==◌, nat_le, List, [], ◌∷◌, filter, count_by, Option, Some, None, if◌then◌else◌}
use Rattle.rec_format.specs.declared.version.Digest.{Digest}
use Rattle.rec_format.specs.declared.version.Stamp.{Stamp}
use Rattle.rec_format.specs.declared.version.Version.{Version}
use Rattle.rec_format.specs.Places.{same_digest, part_number_of, with_digest}
use Rattle.rec_format.specs.Versions.{is_tombstone, is_put, is_expired_put, new_stamp}
use Rattle.model_device.specs.Histories.{Item, write, dropped, rid, cleared, top_of, is_covered, seen_at}
use Rattle.model_device.specs.Book.{Setup, Book}

-- all items of a device, the newest first, each with its digest
abbrev pub Log : Type 0
Log = List (Digest × Item)

-- the history of one digest
abbrev pub history_of : Digest → Log → List Item
history_of digest [] = []
history_of digest (e ∷ log) = if same_digest digest e.0 then e.1 ∷ history_of digest log else history_of digest log

-- the entry of a digest went to one more buffer: only the newest items of the digest are looked at, down to its entry
abbrev pub stops_search : Item → Bool
stops_search (write v numbers) = true
stops_search dropped = true
stops_search rid = true
stops_search cleared = false

abbrev pub item_with_number : ℕ → Item → Item
item_with_number number (write v []) = write v []
item_with_number number (write v (n ∷ ns)) = write v (number ∷ n ∷ ns)
item_with_number number dropped = dropped
item_with_number number rid = rid
item_with_number number cleared = cleared

abbrev pub log_with_number : Digest → ℕ → Log → Log
log_with_number digest number [] = []
log_with_number digest number (e ∷ log) =
    if same_digest digest e.0 && stops_search e.1 then (e.0, item_with_number number e.1) ∷ log else e ∷ log_with_number digest number log

-- the digests of a log, each once, in digest order
abbrev pub digests_of : Log → List Digest
digests_of [] = []
digests_of (e ∷ log) = with_digest e.0 (digests_of log)

-- ---- raids

-- the next turn of a raid, with its part or block
pub data Turn : Type 0 where
  mark_turn scan_turn apply_turn drop_turn : ℕ → Turn
  finished : Turn

-- Marked digests are those whose entry the raid may remove or clear. Found copies were scanned, on the device or in a pending
-- buffer, and not yet compared with their entries. `scanned` is how many blocks were scanned.
pub record RaidState : Type 0 where
  pub number : ℕ
  pub next : Turn
  pub scanned : ℕ
  pub marked : List Digest
  pub found : List (Digest × Stamp)

pub record State : Type 0 where
  pub log : Log
  pub book : Book
  pub raid : RaidState

abbrev pub no_raid : RaidState
no_raid = record { number = 0; next = finished; scanned = 0; marked = []; found = [] }

-- ---- what a state says of a digest

abbrev pub history : State → Digest → List Item
history s digest = history_of digest s.log

abbrev pub entry : State → Digest → Option Version
entry s digest = top_of (history s digest)

abbrev pub entry_is_covered : State → Digest → Bool
entry_is_covered s digest = is_covered (history s digest)

abbrev pub seen : State → ℕ → Digest → Option Version
seen s now digest = seen_at now (history s digest)

abbrev pub entry_passes : (Version → Bool) → Option Version → Bool
entry_passes test None = false
entry_passes test (Some v) = test v

-- ---- stamps

abbrev pub item_time : Item → ℕ
item_time (write v numbers) = v.stamp.lut
item_time dropped = 0
item_time rid = 0
item_time cleared = 0

abbrev pub part_of : Setup → Digest → ℕ
part_of setup digest = part_number_of setup.devices setup.sprigs digest

-- the greatest last update time of all writes in a part, 0 where there are none
abbrev pub high_time : Setup → ℕ → Log → ℕ
high_time setup part [] = 0
high_time setup part (e ∷ log) =
    if part_of setup e.0 == part then max (item_time e.1) (high_time setup part log) else high_time setup part log

abbrev pub stamp_of : Option Version → Option Stamp
stamp_of None = None
stamp_of (Some v) = Some v.stamp

-- the stamp that a new version of a digest gets, none where the times are used up
abbrev pub next_stamp_of : Setup → State → ℕ → Digest → Option Stamp
next_stamp_of setup s now digest = new_stamp (stamp_of (entry s digest)) (high_time setup (part_of setup digest) s.log) now

-- ---- the numbers that are told

abbrev pub put_count : State → ℕ
put_count s = count_by (λ d. entry_passes is_put (entry s d)) (digests_of s.log)

abbrev pub tombstone_count : State → ℕ
tombstone_count s = count_by (λ d. entry_passes is_tombstone (entry s d)) (digests_of s.log)

abbrev pub covered_count : State → ℕ
covered_count s = count_by (λ d. entry_passes is_put (entry s d) && entry_is_covered s d) (digests_of s.log)

-- the digests of a part that pass a test, in digest order
abbrev pub in_part : Setup → ℕ → (Digest → Bool) → State → List Digest
in_part setup part test s = filter (λ d. (part_of setup d == part) && test d) (digests_of s.log)

-- the entries of a part that are expired, in digest order
abbrev pub expired_in : Setup → ℕ → ℕ → State → List Digest
expired_in setup now part s = in_part setup part (λ d. entry_passes (is_expired_put now) (entry s d)) s

-- what a raid may take away: a tombstone of at least this age in seconds, and a covered put's flag
abbrev pub is_old_enough : (age now : ℕ) → Version → Bool
is_old_enough age now v = nat_le (v.stamp.lut + age * 1000) now

abbrev pub is_eligible : Setup → ℕ → State → Digest → Bool
is_eligible setup now s digest =
    entry_passes (λ v. is_tombstone v && is_old_enough setup.raid_age now v) (entry s digest)
    || (entry_passes is_put (entry s digest) && entry_is_covered s digest)

abbrev pub eligible_in : Setup → ℕ → ℕ → State → List Digest
eligible_in setup now part s = in_part setup part (is_eligible setup now s) s
