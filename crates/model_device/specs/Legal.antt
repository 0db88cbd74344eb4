-- Crate model_device. Which events may follow a state, and which lists of events are legal.
use Rattle.std.specs.Prelude.{ℕ, ◌+◌, ◌-◌, ◌*◌, ◌≤◌, Bool, true, false, ◌&&◌, ◌||◌, ◌==◌, nat_lt, nat_le, List, [], ◌∷◌, ◌++◌, length, map, filter, flat_map, count_by, Option, Some, None, ◌≡◌, ◌⊎◌, if◌then◌else◌, is_some, MatchBool, MatchOption}
use Rattle.std.specs.List.{list_any}
use Rattle.model_faults.specs.Counts.{Rose}
use Rattle.rec_format.specs.declared.version.Digest.{Digest}
use Rattle.rec_format.specs.declared.version.Stamp.{Stamp}
use Rattle.rec_format.specs.declared.version.Version.{Version}
use Rattle.rec_format.specs.Places.{same_digest}
use Rattle.rec_format.specs.Versions.{units_for, version_units, void_time, is_tombstone, is_expired_put, a_put, a_tombstone, top_number}
use Rattle.model_device.specs.Book.{Setup, Book, Buffer, Live, Stream, client, defrag, Phase, filling, sealed, opening, is_filling, filling_buffer, has_room, live_of, placing_number, holds_dead}
use Rattle.model_device.specs.Device.{State, Turn, mark_turn, scan_turn, apply_turn, drop_turn, finished, entry, entry_is_covered, entry_passes, seen, next_stamp_of, eligible_in, in_part}
use Rattle.model_device.specs.Steps.{Step, wrote, moved, removed, rid_of, uncovered, sealed_stream, gate_begun, flushed_buffer, closing_failed, raid_begun, raid_given_up, marked_part, scanned_block, compared_part, done_part, after_step, after_steps}
use Rattle.model_device.specs.Events.{Call, put_call, bury_call, delete_call, expire_call, get_call, flush_call, flush_sealed_call, flush_next_call, heal_call, choose_call, move_call, begin_call, turn_call, Cause, too_big, wrong_generation, spent, overload, no_space, damaged, no_memory, disk_fault, stale, Answer, stamp_given, happened, found_version, counted, block_chosen, raid_numbered, marks_made, block_scanned, marks_undone, part_ended, raid_over, refused, Event, after_event}

-- ---- sealing and flushing

abbrev pub seal_if : Bool → Stream → List Step
seal_if chosen stream = if chosen then sealed_stream stream ∷ [] else []

-- seals each stream that has a buffer to seal
abbrev pub seal_all : Book → List Step
seal_all book =
    seal_if (is_some (filling_buffer client book.buffers)) client ++ seal_if (is_some (filling_buffer defrag book.buffers)) defrag

-- so little room is left in a buffer that a block below the low-water mark may not fit
abbrev pub is_short : Setup → Option Buffer → Bool
is_short setup None = false
is_short setup (Some buffer) = nat_lt ((setup.capacity - buffer.used) * 100) (setup.lwm * setup.capacity)

abbrev pub is_empty : List ℕ → Bool
is_empty [] = true
is_empty (b ∷ bs) = false

-- A buffer of moved records gathers blocks until nothing more can come: nothing is queued, or no block is free and it is short of room. One
-- of clients doesn't wait for more.
abbrev pub has_gathered : Setup → Book → Stream → Bool
has_gathered setup book client = true
has_gathered setup book defrag = is_empty book.queue || (is_empty book.free && is_short setup (filling_buffer defrag book.buffers))

-- whether a stream is sealed where few blocks are free: at most 6 are, its buffer holds a block without live units, and it has gathered
abbrev pub is_due : Setup → Book → Stream → Bool
is_due setup book stream =
    nat_le (length book.free) 6 && holds_dead book (filling_buffer stream book.buffers) && has_gathered setup book stream

abbrev pub seal_low : Setup → Book → List Step
seal_low setup book = seal_if (is_due setup book client) client ++ seal_if (is_due setup book defrag) defrag

-- a sealed buffer is flushed in two steps, or in one where the write of its gate has begun before
abbrev pub flush_of : Buffer → List Step
flush_of buffer = steps buffer.phase
  where
    steps : Phase → List Step
    steps filling = []
    steps sealed = gate_begun buffer.number ∷ flushed_buffer buffer.number ∷ []
    steps opening = flushed_buffer buffer.number ∷ []

-- the sealed buffers from a number up to another, in rising number
abbrev pub flush_between : (first last : ℕ) → Book → List Step
flush_between first last book = flat_map flush_of (filter (λ b. nat_le first b.number && nat_le b.number last) book.buffers)

abbrev pub flush_all : Book → List Step
flush_all book = flat_map flush_of book.buffers

abbrev pub first_sealed : List Buffer → List Step
first_sealed [] = []
first_sealed (b ∷ bs) = if is_filling b.phase then first_sealed bs else flush_of b

abbrev pub flush_first : Book → List Step
flush_first book = first_sealed book.buffers

abbrev pub is_flush : Step → Bool
is_flush (flushed_buffer number) = true
is_flush _ = false

abbrev pub flush_count : List Step → ℕ
flush_count steps = count_by is_flush steps

-- some steps of a list were made, in order, but not all of them
abbrev pub StopsIn : List Step → List Step → Type 0
StopsIn whole steps = (next : Step) × (rest : List Step) × (whole ≡ steps ++ next ∷ rest)

-- first these steps, then all of those that the state after them asks for; or, where the disk failed, some of those
abbrev pub FlushEnds : Event → (first : List Step) → (rest : List Step) → Type 0
FlushEnds event first rest =
    ((event.steps ≡ first ++ rest) × (event.answer ≡ counted (flush_count rest)))
    ⊎ ((event.answer ≡ refused disk_fault) × Rose event.faults_before event.faults_after
    × (some : List Step) × (event.steps ≡ first ++ some) × StopsIn rest some)

-- ---- writing

-- how many free blocks have to stay in the whole store when a new one is taken: for a put, a tombstone and a moved record
abbrev pub put_reserve : ℕ
put_reserve = 4

abbrev pub tombstone_reserve : ℕ
tombstone_reserve = 2

abbrev pub move_reserve : ℕ
move_reserve = 0

-- why no new buffer can begin, in the order of the checks
abbrev pub no_new_buffer : Setup → (kept : ℕ) → Book → Option Cause
no_new_buffer setup kept book =
    if nat_lt top_number book.next_number then Some spent
    else if nat_le setup.pending_limit (length book.buffers) then Some (overload (length book.buffers))
    else if nat_le (length book.free) kept then Some (no_space (length book.free))
    else None

abbrev pub no_place : Setup → Stream → (kept units : ℕ) → Book → Option Cause
no_place setup stream kept units book = if has_room setup stream units book then None else no_new_buffer setup kept book

-- why a version of so many units can't be written
abbrev pub no_write : Setup → (kept units : ℕ) → Option Stamp → State → Option Cause
no_write setup kept units None s = Some spent
no_write setup kept units (Some stamp) s = no_place setup client kept units s.book

-- the steps of a commit: the write's buffer is sealed, and all buffers up to it are flushed
abbrev pub commit_seal : Setup → List Step
commit_seal setup = if setup.commit then sealed_stream client ∷ [] else []

abbrev pub commit_flush : Setup → (number : ℕ) → State → List Step
commit_flush setup number s =
    if setup.commit then flush_between 0 number s.book else []

-- A write that isn't refused for a reason of the state: it is made, and with commit on flushed; or a fault comes, in the
-- commit, and the write stands, or in closing the gate of a new block, and it doesn't.
abbrev pub WriteEnds : Setup → State → Event → Digest → Version → Answer → Type 0
WriteEnds setup s event digest v ok =
    let units = version_units v in
    let first = wrote digest v ∷ commit_seal setup in
    let rest = commit_flush setup (placing_number setup client units s.book) (after_steps setup first s) in
    ((event.answer ≡ ok) × (event.steps ≡ first ++ rest))
    ⊎ ((event.answer ≡ refused disk_fault) × Rose event.faults_before event.faults_after
    × (((has_room setup client units s.book ≡ false) × (event.steps ≡ closing_failed ∷ []))
    ⊎ ((some : List Step) × (event.steps ≡ first ++ some) × StopsIn rest some)))

-- no step, and this answer
abbrev pub Only : Event → Answer → Type 0
Only event answer = (event.answer ≡ answer) × (event.steps ≡ [])

-- want of memory may be answered by any call that takes memory, and changes nothing
abbrev pub NoMemory : Event → Type 0
NoMemory event = Only event (refused no_memory)

-- where a cause stands it is the answer, else the rest decides
abbrev pub Unless : Event → Option Cause → Type 0 → Type 0
Unless event None Rest = Rest
Unless event (Some cause) Rest = Only event (refused cause)

abbrev pub the_stamp : Option Stamp → Stamp
the_stamp None = record { lut = 0; gen_ = 0 }
the_stamp (Some stamp) = stamp

-- a tombstone is written, answered by its stamp or otherwise
abbrev pub Entombs : Setup → State → Event → Digest → (now : ℕ) → (Stamp → Answer) → Type 0
Entombs setup s event digest now ok =
    let stamp = next_stamp_of setup s now digest in
    let v = a_tombstone (the_stamp stamp) in
    NoMemory event ⊎ Unless event (no_write setup tombstone_reserve (version_units v) stamp s) (WriteEnds setup s event digest v (ok (the_stamp stamp)))

-- ---- puts

abbrev pub seen_generation : Option Version → ℕ
seen_generation None = 0
seen_generation (Some v) = v.stamp.gen_

abbrev pub not_expected : Option ℕ → ℕ → Option Cause
not_expected None seen_gen = None
not_expected (Some expect) seen_gen = if expect == seen_gen then None else Some (wrong_generation seen_gen)

abbrev pub first_cause : Option Cause → Option Cause → Option Cause
first_cause None other = other
first_cause (Some cause) other = Some cause

abbrev pub put_refusal : Setup → State → Digest → Option ℕ → List ℕ → (now : ℕ) → Option Cause
put_refusal setup s digest expect payload now =
    let units = units_for (length payload) in
    first_cause (if nat_lt setup.capacity units then Some (too_big units setup.capacity) else None)
    (first_cause (not_expected expect (seen_generation (seen s now digest)))
    (no_write setup put_reserve units (next_stamp_of setup s now digest) s))

abbrev pub new_put : Setup → State → Digest → (ttl : ℕ) → List ℕ → (now : ℕ) → Version
new_put setup s digest ttl payload now =
    a_put (the_stamp (next_stamp_of setup s now digest)) (void_time ttl now) (entry_is_covered s digest) payload

-- ---- deletes and expiry

-- a removal that isn't covered writes nothing and isn't refused
abbrev pub Removes : Setup → State → Event → Digest → (now : ℕ) → Type 0
Removes setup s event digest now = MatchBool (entry_is_covered s digest)
    (Entombs setup s event digest now (λ stamp. happened true))
    ((event.answer ≡ happened true) × (event.steps ≡ removed digest ∷ []))

-- ---- reads

-- Over a disk that isn't honest, or an image that isn't sound, the payload and the cover flag are those that were read.
pub record ReadInstead (v read : Version) : Type 0 where
  pub kind : read.kind ≡ v.kind
  pub stamp : read.stamp ≡ v.stamp
  pub void : read.void ≡ v.void
  pub units : version_units read ≡ version_units v

abbrev pub Reads : (told : Bool) → Option Version → Option Version → Type 0
Reads told None read = read ≡ None
Reads told (Some v) None = ⊥
Reads told (Some v) (Some read) = MatchBool told (read ≡ v) (ReadInstead v read)

-- damage is found only where the disk isn't honest or the image wasn't sound
abbrev pub DamageFound : (told : Bool) → Event → List Step → Type 0
DamageFound told event steps = (told ≡ false) × (event.answer ≡ refused damaged) × (event.steps ≡ steps)

abbrev pub DiskFails : Event → List Step → Type 0
DiskFails event steps = (event.answer ≡ refused disk_fault) × (event.steps ≡ steps) × Rose event.faults_before event.faults_after

-- a read may fail, but where there is nothing to read it isn't made
abbrev pub WhereReads : {A : Type 0} → (told : Bool) → Event → Option A → Type 0
WhereReads told event None = ⊥
WhereReads told event (Some what) = DamageFound told event [] ⊎ DiskFails event []

-- ---- healing

-- No history and no block of the book changes, and any number of gates may have been closed: a state doesn't have what is known of gates.
abbrev pub Heals : Event → Type 0
Heals event = ((gates : ℕ) × (event.answer ≡ counted gates) × (event.steps ≡ [])) ⊎ DiskFails event []

-- ---- moves

abbrev pub is_in_block : ℕ → Option Live → Bool
is_in_block block None = false
is_in_block block (Some copy) = copy.block == block

abbrev pub live_units : Option Live → ℕ
live_units None = 0
live_units (Some copy) = copy.units

-- ---- raids

abbrev pub drop_step : State → Digest → Step
drop_step s digest = if entry_passes is_tombstone (entry s digest) then rid_of digest else uncovered digest

-- the marked digests of a part, in digest order
abbrev pub marked_in : Setup → ℕ → State → List Digest
marked_in setup part s = in_part setup part (λ d. list_any (same_digest d) s.raid.marked) s

abbrev pub marked_tombstones : Setup → ℕ → State → ℕ
marked_tombstones setup part s = count_by (λ d. entry_passes is_tombstone (entry s d)) (marked_in setup part s)

-- the marked entries of a part are removed or cleared, and then the part is done
abbrev pub drop_steps : Setup → ℕ → State → List Step
drop_steps setup part s = map (drop_step s) (marked_in setup part s) ++ done_part part ∷ []

abbrev pub same_turn : Turn → Turn → Bool
same_turn (mark_turn p) (mark_turn q) = p == q
same_turn (scan_turn p) (scan_turn q) = p == q
same_turn (apply_turn p) (apply_turn q) = p == q
same_turn (drop_turn p) (drop_turn q) = p == q
same_turn finished finished = true
same_turn (mark_turn p) _ = false
same_turn (scan_turn p) _ = false
same_turn (apply_turn p) _ = false
same_turn (drop_turn p) _ = false
same_turn finished _ = false

abbrev pub unmarked_by : Setup → Step → State → ℕ
unmarked_by setup step s = length s.raid.marked - length (after_step setup step s).raid.marked

abbrev pub TurnEnds : Setup → (told : Bool) → State → Event → Turn → (now : ℕ) → Type 0
TurnEnds setup told s event (mark_turn part) now =
    (event.answer ≡ marks_made (length (eligible_in setup now part s))) × (event.steps ≡ marked_part part now ∷ [])
TurnEnds setup told s event (scan_turn block) now =
    ((event.answer ≡ block_scanned block) × (copies : List (Digest × Stamp)) × (event.steps ≡ scanned_block copies ∷ []))
    ⊎ DamageFound told event (raid_given_up ∷ [])
    ⊎ DiskFails event (raid_given_up ∷ [])
    ⊎ ((event.answer ≡ refused no_memory) × (event.steps ≡ raid_given_up ∷ []))
TurnEnds setup told s event (apply_turn part) now =
    (event.answer ≡ marks_undone (unmarked_by setup (compared_part part) s)) × (event.steps ≡ compared_part part ∷ [])
TurnEnds setup told s event (drop_turn part) now =
    (event.answer ≡ part_ended (marked_tombstones setup part s) (length (marked_in setup part s) - marked_tombstones setup part s))
    × (event.steps ≡ drop_steps setup part s)
TurnEnds setup told s event finished now = Only event raid_over

-- ---- one event

abbrev pub queue_front : List ℕ → Option ℕ
queue_front [] = None
queue_front (b ∷ bs) = Some b

abbrev pub Allowed : Setup → (told : Bool) → State → Event → Call → Type 0
Allowed setup told s event (put_call digest ttl expect payload now) =
    NoMemory event ⊎ Unless event (put_refusal setup s digest expect payload now)
    (let v = new_put setup s digest ttl payload now in WriteEnds setup s event digest v (stamp_given v.stamp))
Allowed setup told s event (bury_call digest now) = Entombs setup s event digest now stamp_given
Allowed setup told s event (delete_call digest now) =
    MatchOption (seen s now digest) (Only event (happened false)) (λ v. Removes setup s event digest now)
Allowed setup told s event (expire_call digest now) =
    MatchBool (entry_passes (is_expired_put now) (entry s digest)) (Removes setup s event digest now) (Only event (happened false))
Allowed setup told s event (get_call digest now) =
    ((read : Option Version) × (event.answer ≡ found_version read) × (event.steps ≡ []) × Reads told (seen s now digest) read)
    ⊎ NoMemory event ⊎ WhereReads told event (seen s now digest)
Allowed setup told s event flush_call = FlushEnds event (seal_all s.book) (flush_all (after_steps setup (seal_all s.book) s).book)
Allowed setup told s event flush_sealed_call = FlushEnds event (seal_low setup s.book) (flush_all (after_steps setup (seal_low setup s.book) s).book)
Allowed setup told s event flush_next_call = FlushEnds event (seal_low setup s.book) (flush_first (after_steps setup (seal_low setup s.book) s).book)
Allowed setup told s event heal_call = Heals event
Allowed setup told s event choose_call =
    Only event (block_chosen (queue_front s.book.queue)) ⊎ WhereReads told event (queue_front s.book.queue)
Allowed setup told s event (move_call digest block) =
    let copy = live_of digest s.book.live in
    MatchBool (is_in_block block copy)
    (NoMemory event ⊎ Unless event (no_place setup defrag move_reserve (live_units copy) s.book)
    (((event.answer ≡ happened true) × (event.steps ≡ moved digest ∷ []))
    ⊎ DamageFound told event []
    ⊎ DiskFails event []
    ⊎ ((has_room setup defrag (live_units copy) s.book ≡ false) × DiskFails event (closing_failed ∷ []))))
    (Only event (happened false))
Allowed setup told s event begin_call = MatchBool (nat_le top_number s.raid.number)
    (Only event (raid_numbered None))
    ((event.answer ≡ raid_numbered (Some (s.raid.number + 1))) × (event.steps ≡ raid_begun ∷ []))
Allowed setup told s event (turn_call number turn now) =
    MatchBool ((number == s.raid.number) && same_turn turn s.raid.next)
    (TurnEnds setup told s event turn now)
    (Only event (refused (stale s.raid.number s.raid.next)))

-- ---- lists of events

-- a fault comes only in a call in which the count rose, and no count falls
pub record Follows (setup : Setup) (told : Bool) (s : State) (faults : ℕ) (event : Event) : Type 0 where
  pub begins : event.faults_before ≡ faults
  pub counts : faults ≤ event.faults_after
  pub allowed : Allowed setup told s event event.call

-- a chain of events from a state and a count of faults, each with the answer that it gave
abbrev pub IsLegal : Setup → (told : Bool) → State → (faults : ℕ) → List Event → Type 0
IsLegal setup told s faults [] = Unit {0}
IsLegal setup told s faults (event ∷ events) =
    Follows setup told s faults event × IsLegal setup told (after_event setup event s) event.faults_after events

-- the count of faults at the end of a list
abbrev pub last_faults : ℕ → List Event → ℕ
last_faults faults [] = faults
last_faults faults (event ∷ events) = last_faults event.faults_after events
