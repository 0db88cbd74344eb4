-- Crate model_device. Many callers of one device: the part that a call names, and what the events of a call of several come to.
use Rattle.std.specs.Prelude.{ℕ, ◌+◌, Bool, true, List, [], ◌∷◌, filter, Option, Some, None, ◌≡◌, MatchOption}
use Rattle.rec_format.specs.declared.version.Digest.{Digest}
use Rattle.rec_format.specs.Places.{digest_before}
use Rattle.model_device.specs.Book.{Setup}
use Rattle.model_device.specs.Device.{State, Turn, mark_turn, scan_turn, apply_turn, drop_turn, finished, part_of, expired_in}
use Rattle.model_device.specs.Events.{Event, Call, put_call, bury_call, delete_call, expire_call, get_call, flush_call, flush_sealed_call, flush_next_call, heal_call, choose_call, move_call, begin_call, turn_call, Cause, Answer, happened, refused}

-- the part that a call names: the one of its digest, or of a raid's turn. Flushing, healing, choosing, scanning and the
-- beginning of a raid name none.
abbrev pub turn_part : Turn → Option ℕ
turn_part (mark_turn part) = Some part
turn_part (scan_turn block) = None
turn_part (apply_turn part) = Some part
turn_part (drop_turn part) = Some part
turn_part finished = None

abbrev pub part_named : Setup → Call → Option ℕ
part_named setup (put_call digest ttl expect payload now) = Some (part_of setup digest)
part_named setup (bury_call digest now) = Some (part_of setup digest)
part_named setup (delete_call digest now) = Some (part_of setup digest)
part_named setup (expire_call digest now) = Some (part_of setup digest)
part_named setup (get_call digest now) = Some (part_of setup digest)
part_named setup flush_call = None
part_named setup flush_sealed_call = None
part_named setup flush_next_call = None
part_named setup heal_call = None
part_named setup choose_call = None
part_named setup (move_call digest block) = Some (part_of setup digest)
part_named setup begin_call = None
part_named setup (turn_call number turn now) = turn_part turn

-- what an event adds to the count of its call: an entry was removed, or a record moved
abbrev pub done_by : Answer → ℕ
done_by (happened true) = 1
done_by _ = 0

abbrev pub cause_of : Answer → Option Cause
cause_of (refused cause) = Some cause
cause_of _ = None

-- a call of several events answers how many of them did something, and why the last was refused, if it was
abbrev pub AnswersCount : List Event → (count : ℕ) → Option Cause → Type 0
AnswersCount [] count cause = (count ≡ 0) × (cause ≡ None)
AnswersCount (event ∷ events) count cause = MatchOption (cause_of event.answer)
    ((more : ℕ) × (count ≡ done_by event.answer + more) × AnswersCount events more cause)
    (λ why. (events ≡ []) × (count ≡ 0) × (cause ≡ Some why))

-- ---- removing what is expired in a part

-- the first digest, or one behind the last
abbrev pub is_behind : Option Digest → Digest → Bool
is_behind None digest = true
is_behind (Some last) digest = digest_before last digest

-- the expired entries of a part behind a digest
abbrev pub expired_behind : Setup → (part now : ℕ) → Option Digest → State → List Digest
expired_behind setup part now last s = filter (is_behind last) (expired_in setup now part s)
