-- A cause that stands in a state leaves the state as it was.
use Rattle.std.proofs.Common.{◌≡◌, ℕ, Bool, true, false, cond}
use Rattle.std.specs.Prelude.{List, Option, Some, None, length, nat_lt, nat_le, ◌==◌, IfSome}
use Rattle.rec_format.specs.declared.version.Digest.{Digest}
use Rattle.rec_format.specs.declared.version.Stamp.{Stamp}
use Rattle.rec_format.specs.Versions.{units_for, top_number}
use Rattle.model_device.specs.Book.{Setup, Book, Stream, client, has_room}
use Rattle.model_device.specs.Device.{State, seen, next_stamp_of}
use Rattle.model_device.specs.Events.{Call, Cause, too_big, wrong_generation, spent, overload, no_space, damaged, no_memory, disk_fault, stale}
use Rattle.model_device.specs.Legal.{no_new_buffer, no_place, no_write, not_expected, first_cause, put_refusal, put_reserve, seen_generation}
use Rattle.law_refused.specs.Refusals.{Leaves}

-- it is none of the disk, of memory or of a raid
abbrev pub IsOfState : Cause → Type 0
IsOfState (too_big units capacity) = Unit {0}
IsOfState (wrong_generation generation) = Unit {0}
IsOfState spent = Unit {0}
IsOfState (overload pending) = Unit {0}
IsOfState (no_space free) = Unit {0}
IsOfState damaged = ⊥
IsOfState no_memory = ⊥
IsOfState disk_fault = ⊥
IsOfState (stale number turn) = ⊥

pub of_state_leaves : (setup : Setup) (call : Call) (cause : Cause) (before after : State) → IsOfState cause → after ≡ before → Leaves setup call cause before after
of_state_leaves setup call (too_big units capacity) before after is same = same
of_state_leaves setup call (wrong_generation generation) before after is same = same
of_state_leaves setup call spent before after is same = same
of_state_leaves setup call (overload pending) before after is same = same
of_state_leaves setup call (no_space free) before after is same = same
of_state_leaves setup call damaged before after is same = absurd is
of_state_leaves setup call no_memory before after is same = absurd is
of_state_leaves setup call disk_fault before after is same = absurd is
of_state_leaves setup call (stale number turn) before after is same = absurd is

-- ---- what stands against a write is such a cause

abbrev pub AreOfState : Option Cause → Type 0
AreOfState o = IfSome o IsOfState

one_of_state : (stands : Bool) (cause : Cause) (rest : Option Cause) → IsOfState cause → AreOfState rest → AreOfState (cond stands (Some cause) rest)
one_of_state true cause rest is others = is
one_of_state false cause rest is others = others

buffer_of_state : (setup : Setup) (kept : ℕ) (book : Book) → AreOfState (no_new_buffer setup kept book)
buffer_of_state setup kept book =
    one_of_state (nat_lt top_number book.next_number) spent _ tt
    (one_of_state (nat_le setup.pending_limit (length book.buffers)) (overload (length book.buffers)) _ tt
    (one_of_state (nat_le (length book.free) kept) (no_space (length book.free)) None tt tt))

pub place_of_state : (setup : Setup) (stream : Stream) (kept units : ℕ) (book : Book) → AreOfState (no_place setup stream kept units book)
place_of_state setup stream kept units book = by (has_room setup stream units book)
  where
    by : (room : Bool) → AreOfState (cond room None (no_new_buffer setup kept book))
    by true = tt
    by false = buffer_of_state setup kept book

pub write_of_state : (setup : Setup) (kept units : ℕ) (stamp : Option Stamp) (s : State) → AreOfState (no_write setup kept units stamp s)
write_of_state setup kept units None s = tt
write_of_state setup kept units (Some stamp) s = place_of_state setup client kept units s.book

expected_of_state : (expect : Option ℕ) (generation : ℕ) → AreOfState (not_expected expect generation)
expected_of_state None generation = tt
expected_of_state (Some expect) generation = by (expect == generation)
  where
    by : (same : Bool) → AreOfState (cond same None (Some (wrong_generation generation)))
    by true = tt
    by false = tt

first_of_state : (one other : Option Cause) → AreOfState one → AreOfState other → AreOfState (first_cause one other)
first_of_state None other is rest = rest
first_of_state (Some cause) other is rest = is

pub put_of_state : (setup : Setup) (s : State) (digest : Digest) (expect : Option ℕ) (payload : List ℕ) (now : ℕ) → AreOfState (put_refusal setup s digest expect payload now)
put_of_state setup s digest expect payload now =
    let units = units_for (length payload) in
    first_of_state _ _ (one_of_state (nat_lt setup.capacity units) (too_big units setup.capacity) None tt tt)
    (first_of_state _ _ (expected_of_state expect (seen_generation (seen s now digest))) (write_of_state setup put_reserve units (next_stamp_of setup s now digest) s))
