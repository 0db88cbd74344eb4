-- A read writes no version, and neither does a flush, a move, whose version was written before, or a raid, which only removes and clears.
use Rattle.std.proofs.Common.{◌≡◌, ◌⊎◌, ℕ, ◌+◌, Bool, true, false, cond, List, [], ◌∷◌, map, sym, subst, inl, inr}
use Rattle.std.specs.Prelude.{Option, Some, None, MatchBool, ◌&&◌, ◌==◌, nat_le, is_some}
use Rattle.std.specs.List.{AllByRecursion}
use Rattle.law_lists.proofs.Each.{all_joined, all_parted, all_map}
use Rattle.rec_format.specs.declared.version.Digest.{Digest}
use Rattle.rec_format.specs.Versions.{is_tombstone, top_number}
use Rattle.model_device.specs.Book.{Setup, Book, Buffer, Stream, client, defrag, filling_buffer, has_room, is_filling, live_of}
use Rattle.model_device.specs.Device.{State, Turn, mark_turn, scan_turn, apply_turn, drop_turn, finished, entry, entry_passes, seen}
use Rattle.model_device.specs.Steps.{Step, wrote, moved, rid_of, uncovered, gate_begun, flushed_buffer, closing_failed, raid_begun, raid_given_up, marked_part, scanned_block, compared_part}
use Rattle.model_device.specs.Steps.{done_part, after_steps}
use Rattle.model_device.specs.Events.{Event, Call, get_call, flush_call, flush_sealed_call, flush_next_call, heal_call, choose_call, move_call, begin_call, turn_call, Cause, stale, happened}
use Rattle.model_device.specs.Events.{raid_numbered, refused}
use Rattle.model_device.specs.Legal.{Allowed, FlushEnds, NoMemory, Only, Unless, DamageFound, DiskFails, TurnEnds, same_turn, drop_step, marked_in}
use Rattle.model_device.specs.Legal.{WhereReads, is_in_block, live_units, move_reserve, no_place, queue_front, seal_if, seal_all, seal_low, is_due, flush_of, flush_all, flush_first, first_sealed}
use Rattle.law_commit.specs.Commits.{flushed_if_wrote}
use Rattle.law_commit.proofs.Flushing.{FlushStep, all_flush_steps, flush_steps}

abbrev pub WritesNone : Step → Type 0
WritesNone (wrote digest v) = ⊥
WritesNone _ = Unit {0}

-- so nothing of it is to be flushed
pub none_flushed : (s : State) (steps : List Step) → AllByRecursion WritesNone steps → AllByRecursion (flushed_if_wrote s) steps
none_flushed s [] none = tt
none_flushed s (step ∷ steps) none = (one step none.0, none_flushed s steps none.1)
  where
    one : (step : Step) → WritesNone step → flushed_if_wrote s step
    one (wrote digest v) none = absurd none
    one step none = tt

-- ---- the steps of a flush

one_writes_none : (step : Step) → FlushStep step → WritesNone step
one_writes_none (gate_begun m) is = tt
one_writes_none (flushed_buffer m) is = tt
one_writes_none step is = absurd is

seal_writes_none : (chosen : Bool) (stream : Stream) → AllByRecursion WritesNone (seal_if chosen stream)
seal_writes_none true stream = (tt, tt)
seal_writes_none false stream = tt

seals_write_none : (book : Book) → AllByRecursion WritesNone (seal_all book)
seals_write_none book = all_joined WritesNone (seal_if (is_some (filling_buffer client book.buffers)) client) (seal_if (is_some (filling_buffer defrag book.buffers)) defrag)
    (seal_writes_none (is_some (filling_buffer client book.buffers)) client) (seal_writes_none (is_some (filling_buffer defrag book.buffers)) defrag)

lows_write_none : (setup : Setup) (book : Book) → AllByRecursion WritesNone (seal_low setup book)
lows_write_none setup book = all_joined WritesNone (seal_if (is_due setup book client) client) (seal_if (is_due setup book defrag) defrag)
    (seal_writes_none (is_due setup book client) client) (seal_writes_none (is_due setup book defrag) defrag)

ends_unwritten : (event : Event) (first rest : List Step) → AllByRecursion WritesNone first → AllByRecursion WritesNone rest → FlushEnds event first rest → AllByRecursion WritesNone event.steps
ends_unwritten event first rest before behind (inl done) =
    subst (λ (steps : List Step). AllByRecursion WritesNone steps) (sym done.0) (all_joined WritesNone first rest before behind)
ends_unwritten event first rest before behind (inr fault) =
    subst (λ (steps : List Step). AllByRecursion WritesNone steps) (sym fault.3)
    (all_joined WritesNone first fault.2 before (all_parted WritesNone fault.2 (fault.4.0 ∷ fault.4.1) (subst (λ (steps : List Step). AllByRecursion WritesNone steps) fault.4.2 behind)).0)

all_write_none : (book : Book) → AllByRecursion WritesNone (flush_all book)
all_write_none book = all_map FlushStep WritesNone (flush_all book) one_writes_none (all_flush_steps book.buffers)

-- the first sealed buffer alone
first_write_none : (bs : List Buffer) → AllByRecursion WritesNone (first_sealed bs)
first_write_none [] = tt
first_write_none (b ∷ bs) = by (is_filling b.phase) (first_write_none bs)
  where
    by : (fills : Bool) → AllByRecursion WritesNone (first_sealed bs) → AllByRecursion WritesNone (cond fills (first_sealed bs) (flush_of b))
    by true rest = rest
    by false rest = all_map FlushStep WritesNone (flush_of b) one_writes_none (flush_steps b)

-- ---- the other calls

-- a call that writes no version, and reads none for a client
abbrev pub IsUnwriting : Call → Type 0
IsUnwriting flush_call = Unit {0}
IsUnwriting flush_sealed_call = Unit {0}
IsUnwriting flush_next_call = Unit {0}
IsUnwriting heal_call = Unit {0}
IsUnwriting choose_call = Unit {0}
IsUnwriting (move_call digest block) = Unit {0}
IsUnwriting begin_call = Unit {0}
IsUnwriting (turn_call number turn now) = Unit {0}
IsUnwriting _ = ⊥

none_made : (event : Event) → event.steps ≡ [] → AllByRecursion WritesNone event.steps
none_made event none = subst (AllByRecursion WritesNone) (sym none) tt

step_made : (event : Event) (step : Step) → WritesNone step → event.steps ≡ step ∷ [] → AllByRecursion WritesNone event.steps
step_made event step unwritten is = subst (AllByRecursion WritesNone) (sym is) (unwritten, tt)

reads_unwritten : {A : Type 0} (told : Bool) (event : Event) (o : Option A) → WhereReads told event o → AllByRecursion WritesNone event.steps
reads_unwritten told event None reads = absurd reads
reads_unwritten told event (Some what) (inl damaged) = none_made event damaged.2
reads_unwritten told event (Some what) (inr failed) = none_made event failed.1

pub get_unwritten : (setup : Setup) (told : Bool) (s : State) (event : Event) (digest : Digest) (now : ℕ) → Allowed setup told s event (get_call digest now) → AllByRecursion WritesNone event.steps
get_unwritten setup told s event digest now (inl read) = none_made event read.2
get_unwritten setup told s event digest now (inr (inl no_memory)) = none_made event no_memory.1
get_unwritten setup told s event digest now (inr (inr reads)) = reads_unwritten told event (seen s now digest) reads

heal_unwritten : (setup : Setup) (told : Bool) (s : State) (event : Event) → Allowed setup told s event heal_call → AllByRecursion WritesNone event.steps
heal_unwritten setup told s event (inl closed) = none_made event closed.2
heal_unwritten setup told s event (inr failed) = none_made event failed.1

choose_unwritten : (setup : Setup) (told : Bool) (s : State) (event : Event) → Allowed setup told s event choose_call → AllByRecursion WritesNone event.steps
choose_unwritten setup told s event (inl chosen) = none_made event chosen.1
choose_unwritten setup told s event (inr reads) = reads_unwritten told event (queue_front s.book.queue) reads

-- how a move ends against which nothing stands
abbrev MoveEnds : Setup → (told : Bool) → State → Event → Digest → Type 0
MoveEnds setup told s event digest =
    ((event.answer ≡ happened true) × (event.steps ≡ moved digest ∷ []))
    ⊎ DamageFound told event []
    ⊎ DiskFails event []
    ⊎ ((has_room setup defrag (live_units (live_of digest s.book.live)) s.book ≡ false) × DiskFails event (closing_failed ∷ []))

move_unwritten : (setup : Setup) (told : Bool) (s : State) (event : Event) (digest : Digest) (block : ℕ) → Allowed setup told s event (move_call digest block) → AllByRecursion WritesNone event.steps
move_unwritten setup told s event digest block = by (is_in_block block (live_of digest s.book.live))
  where
    moves : MoveEnds setup told s event digest → AllByRecursion WritesNone event.steps
    moves (inl done) = step_made event (moved digest) tt done.1
    moves (inr (inl damaged)) = none_made event damaged.2
    moves (inr (inr (inl failed))) = none_made event failed.1
    moves (inr (inr (inr closing))) = step_made event closing_failed tt closing.1.1

    unless : (o : Option Cause) → Unless event o (MoveEnds setup told s event digest) → AllByRecursion WritesNone event.steps
    unless None rest = moves rest
    unless (Some cause) only = none_made event only.1

    by : (here : Bool) → MatchBool here (NoMemory event ⊎ Unless event (no_place setup defrag move_reserve (live_units (live_of digest s.book.live)) s.book)
        (MoveEnds setup told s event digest)) (Only event (happened false))
        → AllByRecursion WritesNone event.steps
    by false only = none_made event only.1
    by true (inl no_memory) = none_made event no_memory.1
    by true (inr rest) = unless (no_place setup defrag move_reserve (live_units (live_of digest s.book.live)) s.book) rest

begin_unwritten : (setup : Setup) (told : Bool) (s : State) (event : Event) → Allowed setup told s event begin_call → AllByRecursion WritesNone event.steps
begin_unwritten setup told s event = by (nat_le top_number s.raid.number)
  where
    by : (last : Bool) → MatchBool last (Only event (raid_numbered None)) ((event.answer ≡ raid_numbered (Some (s.raid.number + 1))) × (event.steps ≡ raid_begun ∷ []))
        → AllByRecursion WritesNone event.steps
    by true only = none_made event only.1
    by false begun = step_made event raid_begun tt begun.1

-- marked entries are removed or cleared
drops_unwritten : (s : State) (digests : List Digest) → AllByRecursion WritesNone (map (drop_step s) digests)
drops_unwritten s [] = tt
drops_unwritten s (digest ∷ digests) = (by (entry_passes is_tombstone (entry s digest)), drops_unwritten s digests)
  where
    by : (tombstone : Bool) → WritesNone (cond tombstone (rid_of digest) (uncovered digest))
    by true = tt
    by false = tt

turn_ends_unwritten : (setup : Setup) (told : Bool) (s : State) (event : Event) (turn : Turn) (now : ℕ) → TurnEnds setup told s event turn now → AllByRecursion WritesNone event.steps
turn_ends_unwritten setup told s event (mark_turn part) now ends = step_made event (marked_part part now) tt ends.1
turn_ends_unwritten setup told s event (scan_turn block) now (inl scanned) = step_made event (scanned_block scanned.1) tt scanned.2
turn_ends_unwritten setup told s event (scan_turn block) now (inr (inl damaged)) = step_made event raid_given_up tt damaged.2
turn_ends_unwritten setup told s event (scan_turn block) now (inr (inr (inl failed))) = step_made event raid_given_up tt failed.1
turn_ends_unwritten setup told s event (scan_turn block) now (inr (inr (inr no_memory))) = step_made event raid_given_up tt no_memory.1
turn_ends_unwritten setup told s event (apply_turn part) now ends = step_made event (compared_part part) tt ends.1
turn_ends_unwritten setup told s event (drop_turn part) now ends =
    subst (AllByRecursion WritesNone) (sym ends.1)
    (all_joined WritesNone (map (drop_step s) (marked_in setup part s)) (done_part part ∷ []) (drops_unwritten s (marked_in setup part s)) (tt, tt))
turn_ends_unwritten setup told s event finished now only = none_made event only.1

turn_unwritten : (setup : Setup) (told : Bool) (s : State) (event : Event) (number : ℕ) (turn : Turn) (now : ℕ) → Allowed setup told s event (turn_call number turn now)
    → AllByRecursion WritesNone event.steps
turn_unwritten setup told s event number turn now = by ((number == s.raid.number) && same_turn turn s.raid.next)
  where
    by : (next : Bool) → MatchBool next (TurnEnds setup told s event turn now) (Only event (refused (stale s.raid.number s.raid.next)))
        → AllByRecursion WritesNone event.steps
    by true ends = turn_ends_unwritten setup told s event turn now ends
    by false only = none_made event only.1

-- ---- any such call

pub unwritten : (setup : Setup) (told : Bool) (s : State) (event : Event) (call : Call) → IsUnwriting call → Allowed setup told s event call → AllByRecursion WritesNone event.steps
unwritten setup told s event flush_call is allowed =
    ends_unwritten event (seal_all s.book) (flush_all (after_steps setup (seal_all s.book) s).book) (seals_write_none s.book) (all_write_none (after_steps setup (seal_all s.book) s).book) allowed
unwritten setup told s event flush_sealed_call is allowed =
    ends_unwritten event (seal_low setup s.book) (flush_all (after_steps setup (seal_low setup s.book) s).book) (lows_write_none setup s.book)
    (all_write_none (after_steps setup (seal_low setup s.book) s).book) allowed
unwritten setup told s event flush_next_call is allowed =
    ends_unwritten event (seal_low setup s.book) (flush_first (after_steps setup (seal_low setup s.book) s).book) (lows_write_none setup s.book)
    (first_write_none (after_steps setup (seal_low setup s.book) s).book.buffers) allowed
unwritten setup told s event heal_call is allowed = heal_unwritten setup told s event allowed
unwritten setup told s event choose_call is allowed = choose_unwritten setup told s event allowed
unwritten setup told s event (move_call digest block) is allowed = move_unwritten setup told s event digest block allowed
unwritten setup told s event begin_call is allowed = begin_unwritten setup told s event allowed
unwritten setup told s event (turn_call number turn now) is allowed = turn_unwritten setup told s event number turn now allowed
unwritten setup told s event call is allowed = absurd is
