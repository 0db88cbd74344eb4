-- Crate model_device. What the vacating of a block makes, by its events: a choice of a block, and then moves out of it.
use Rattle.std.specs.Prelude.{ℕ, zero, suc, ◌+◌, Bool, true, ◌||◌, nat_lt, List, [], ◌∷◌, ◌++◌, length, sum_by, Some, None, is_some, MatchBool, ◌≡◌, ◌⊎◌}
use Rattle.rec_format.specs.declared.version.Digest.{Digest}
use Rattle.model_device.specs.Book.{Setup, Book, defrag, filling_buffer, use_of}
use Rattle.model_device.specs.Device.{State}
use Rattle.model_device.specs.Events.{flush_sealed_call, choose_call, move_call, Cause, Answer, stamp_given, happened, found_version, counted, block_chosen, raid_numbered, marks_made, block_scanned, marks_undone, part_ended, raid_over, refused, Event, after_event, after_events}

-- what was done, in two sums, or why it stopped
pub data Outcome : Type 0 where
  did : (first second : ℕ) → Outcome
  stopped : Cause → Outcome

-- whether an event was refused
abbrev pub IfRefused : Answer → (Cause → Type 0) → Type 0 → Type 0
IfRefused (refused cause) Refused Else = Refused cause
IfRefused (stamp_given s) Refused Else = Else
IfRefused (happened b) Refused Else = Else
IfRefused (found_version v) Refused Else = Else
IfRefused (counted n) Refused Else = Else
IfRefused (block_chosen b) Refused Else = Else
IfRefused (raid_numbered n) Refused Else = Else
IfRefused (marks_made n) Refused Else = Else
IfRefused (block_scanned b) Refused Else = Else
IfRefused (marks_undone n) Refused Else = Else
IfRefused (part_ended r c) Refused Else = Else
IfRefused raid_over Refused Else = Else

-- ---- vacating

abbrev pub moved_by : Answer → ℕ
moved_by (happened true) = 1
moved_by _ = 0

-- records are moved out of the block, in any order, until none is live there
abbrev pub MovesOut : Setup → (block : ℕ) → State → (moved : ℕ) → List Event → Outcome → Type 0
MovesOut setup block s moved [] outcome = (use_of s.book block ≡ 0) × (outcome ≡ did moved 1)
MovesOut setup block s moved (event ∷ events) outcome =
    ((digest : Digest) × (event.call ≡ move_call digest block))
    × IfRefused event.answer
    (λ cause. (events ≡ []) × (outcome ≡ stopped cause))
    (MovesOut setup block (after_event setup event s) (moved + moved_by event.answer) events outcome)

-- the front of the queue is vacated, where anything is queued
abbrev pub Vacates : Setup → State → List Event → Outcome → Type 0
Vacates setup s events outcome =
    (first : Event) × (moves : List Event) × (events ≡ first ∷ moves) × (first.call ≡ choose_call)
    × (((first.answer ≡ block_chosen None) × (moves ≡ []) × (outcome ≡ did 0 0))
    ⊎ ((block : ℕ) × (first.answer ≡ block_chosen (Some block)) × MovesOut setup block (after_event setup first s) 0 moves outcome)
    ⊎ ((cause : Cause) × (first.answer ≡ refused cause) × (moves ≡ []) × (outcome ≡ stopped cause)))

-- how many records the moves among some events moved
abbrev pub moved_count : List Event → ℕ
moved_count events = sum_by (λ event. moved_by event.answer) events

-- Whether tending vacates a block. Where at most 7 are free and no buffer gathers moved records, a lone block would only change its place:
-- what it frees its records take again.
abbrev pub can_gain : Book → Bool
can_gain book = nat_lt 7 (length book.free) || is_some (filling_buffer defrag book.buffers) || nat_lt 1 (length book.queue)

-- what is due is sealed, all sealed buffers are flushed as far as the disk goes, and one queued block is vacated where that can gain room,
-- whatever comes of it
abbrev pub Tends : Setup → State → List Event → Type 0
Tends setup s events =
    (first : Event) × (rest : List Event) × (events ≡ first ∷ rest) × (first.call ≡ flush_sealed_call)
    × MatchBool (can_gain (after_event setup first s).book)
    ((outcome : Outcome) × Vacates setup (after_event setup first s) rest outcome)
    (rest ≡ [])

-- at most so many blocks, one after another, until nothing is queued
abbrev pub VacatesUpTo : Setup → ℕ → State → (moved vacated : ℕ) → List Event → Outcome → Type 0
VacatesUpTo setup zero s moved vacated events outcome = (events ≡ []) × (outcome ≡ did moved vacated)
VacatesUpTo setup (suc n) s moved vacated events outcome =
    (mine : List Event) × (rest : List Event) × (events ≡ mine ++ rest)
    × ((Vacates setup s mine (did 0 0) × (rest ≡ []) × (outcome ≡ did moved vacated))
    ⊎ ((x : ℕ) × Vacates setup s mine (did x 1) × VacatesUpTo setup n (after_events setup mine s) (moved + x) (vacated + 1) rest outcome)
    ⊎ ((cause : Cause) × Vacates setup s mine (stopped cause) × (rest ≡ []) × (outcome ≡ stopped cause)))
