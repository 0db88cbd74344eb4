-- Behind a flush that was answered ok, and the tending behind it, no buffer's gate has a write that has begun and isn't done: no device has a buffer
-- behind the flush, so the tending has nothing to flush, and the buffers that its moves begin aren't flushed.
use Rattle.std.proofs.Common.{◌≡◌, ◌⊎◌, inl, inr, ℕ, ◌+◌, Bool, true, false, not, cond, ◌&&◌, List, [], ◌∷◌, ◌++◌, append_assoc, length, map, refl, sym, ap, ◌∙◌, subst, arith}
use Rattle.std.proofs.lemmas.Bool.{cond_both, eq-eqb, and_right}
use Rattle.std.specs.Prelude.{Option, Some, None, MatchOption, MatchBool, is_some, nat_le, filter, flat_map, ◌==◌, slice_get}
use Rattle.std.specs.List.{AllByRecursion}
use Rattle.law_lists.proofs.Each.{all_joined, all_fewer, all_kept, all_to_map, all_map}
use Rattle.rec_format.specs.declared.version.Digest.{Digest}
use Rattle.rec_format.specs.Versions.{version_units, bounded_time}
use Rattle.model_device.specs.Book.{Setup, Book, Buffer, Live, Stream, client, defrag, Phase, filling, sealed, opening, is_filling, is_opening, same_stream, sealed_if, seal_stream, first_block, holds_dead}
use Rattle.model_device.specs.Book.{used_more, opened_if, filling_buffer, has_room, with_new_buffer, with_room, put_in, placed, refreshed, dropped_live, with_flushed, live_of}
use Rattle.model_device.specs.Device.{State}
use Rattle.model_device.specs.Steps.{Step, wrote, moved, removed, rid_of, uncovered, sealed_stream, gate_begun, flushed_buffer, closing_failed, raid_begun}
use Rattle.model_device.specs.Steps.{raid_given_up, marked_part, scanned_block, compared_part, done_part, moved_state, after_step, after_steps}
use Rattle.model_device.specs.Events.{Event, Call, flush_call, flush_sealed_call, choose_call, move_call, Cause, counted, refused, disk_fault, happened, block_chosen, after_event}
use Rattle.model_device.specs.Legal.{Allowed, Follows, NoMemory, Only, Unless, DamageFound, DiskFails, WhereReads, is_in_block, live_units, move_reserve, no_place}
use Rattle.model_device.specs.Legal.{queue_front, seal_if, seal_all, seal_low, is_due, has_gathered, flush_of, flush_all}
use Rattle.model_device.specs.Vacating.{Outcome, did, stopped, moved_by, MovesOut, Vacates, can_gain}
use Rattle.model_device.proofs.InRow.{after_joined}
use Rattle.line_proto.specs.declared.command.Command.{Command}
use Rattle.line_proto.specs.declared.reply.Reply.{Reply}
use Rattle.line_proto.specs.declared.reply.Reply.TheVariants as reply
use Rattle.line_proto.specs.declared.reply.LineFault.{LineFault}
use Rattle.model_node.specs.Commands.{Slot, Node, NodeEvent, at_place, slot_after, node_after, on_device, IsLegalOn, EachDevice, Flushes, flushed_reply, Does, TendsEach}
use Rattle.model_node.specs.Run.{ImagesLeft, Served, Serves, AnswersLine, Carries, goes_on, node_or, node_at_reply, node_after_line}
use Rattle.model_node.specs.RunEnd.{IsQuiet, AllQuiet}
use Rattle.model_node.specs.Opening.{none_begun, none_opening}
use Rattle.model_node.proofs.Expiries.{if_refused}
use Rattle.model_node.proofs.RunEnds.{no_steps}
use Rattle.model_node.proofs.Replied.{only_flush}

-- ---- the steps of a device but the beginning of a gate's write

abbrev IsUnopened : Buffer → Type 0
IsUnopened b = is_opening b.phase ≡ false

abbrev Unopened : List Buffer → Type 0
Unopened bs = AllByRecursion IsUnopened bs

abbrev BeginsNone : Step → Type 0
BeginsNone (gate_begun number) = ⊥
BeginsNone _ = Unit {0}

seals_unopened : (stream : Stream) (bs : List Buffer) → Unopened bs → Unopened (seal_stream stream bs)
seals_unopened stream bs all = all_to_map IsUnopened IsUnopened (λ b. sealed_if (same_stream stream b.stream) b) one bs all
  where
    one : (b : Buffer) → IsUnopened b → IsUnopened (sealed_if (same_stream stream b.stream) b)
    one b none = cond_both (same_stream stream b.stream && is_filling b.phase) (record b { phase = sealed }) b IsUnopened (λ _. refl) (λ _. none)

new_unopened : (stream : Stream) (book : Book) → Unopened book.buffers → Unopened (with_new_buffer stream book).buffers
new_unopened stream book all =
    all_joined IsUnopened (seal_stream stream book.buffers) ((record { number = book.next_number; block = first_block book.free; stream = stream; used = 0; phase = filling }) ∷ [])
    (seals_unopened stream book.buffers all) (refl, tt)

room_unopened : (setup : Setup) (stream : Stream) (units : ℕ) (book : Book) → Unopened book.buffers → Unopened (with_room setup stream units book).buffers
room_unopened setup stream units book all =
    cond_both (has_room setup stream units book) book (with_new_buffer stream book) (λ b. Unopened b.buffers) (λ _. all) (λ _. new_unopened stream book all)

put_unopened : (setup : Setup) (digest : Digest) (units : ℕ) (book : Book) (o : Option Buffer) → Unopened book.buffers → Unopened (put_in setup digest units book o).buffers
unfolding refreshed
put_unopened setup digest units book None all = all
put_unopened setup digest units book (Some b) all = all_to_map IsUnopened IsUnopened (used_more b.number units) one book.buffers all
  where
    one : (c : Buffer) → IsUnopened c → IsUnopened (used_more b.number units c)
    one c none = cond_both (c.number == b.number) (record c { used = c.used + units }) c IsUnopened (λ _. none) (λ _. none)

placed_unopened : (setup : Setup) (stream : Stream) (digest : Digest) (units : ℕ) (book : Book) → Unopened book.buffers → Unopened (placed setup stream digest units book).buffers
unfolding placed
placed_unopened setup stream digest units book all =
    put_unopened setup digest units (with_room setup stream units book) (filling_buffer stream (with_room setup stream units book).buffers) (room_unopened setup stream units book all)

moved_unopened : (setup : Setup) (digest : Digest) (live : Option Live) (s : State) → Unopened s.book.buffers → Unopened (moved_state setup digest live s).book.buffers
moved_unopened setup digest None s all = all
moved_unopened setup digest (Some copy) s all = placed_unopened setup defrag digest copy.units s.book all

step_unopened : (setup : Setup) (s : State) (step : Step) → BeginsNone step → Unopened s.book.buffers → Unopened (after_step setup step s).book.buffers
unfolding after_step dropped_live refreshed with_flushed
step_unopened setup s (wrote digest v) begins all = placed_unopened setup client digest (version_units v) s.book all
step_unopened setup s (moved digest) begins all = moved_unopened setup digest (live_of digest s.book.live) s all
step_unopened setup s (removed digest) begins all = all
step_unopened setup s (rid_of digest) begins all = all
step_unopened setup s (uncovered digest) begins all = all
step_unopened setup s (sealed_stream stream) begins all = seals_unopened stream s.book.buffers all
step_unopened setup s (gate_begun number) begins all = absurd begins
step_unopened setup s (flushed_buffer number) begins all = all_fewer IsUnopened (λ b. not (b.number == number)) s.book.buffers all
step_unopened setup s closing_failed begins all = all
step_unopened setup s raid_begun begins all = all
step_unopened setup s raid_given_up begins all = all
step_unopened setup s (marked_part part now) begins all = all
step_unopened setup s (scanned_block copies) begins all = all
step_unopened setup s (compared_part part) begins all = all
step_unopened setup s (done_part part) begins all = all

steps_unopened : (setup : Setup) (steps : List Step) (s : State) → AllByRecursion BeginsNone steps → Unopened s.book.buffers → Unopened (after_steps setup steps s).book.buffers
steps_unopened setup [] s begin all = all
steps_unopened setup (step ∷ steps) s begin all = steps_unopened setup steps (after_step setup step s) begin.1 (step_unopened setup s step begin.0 all)

-- ---- choices and moves

abbrev IsMoving : Call → Type 0
IsMoving choose_call = Unit {0}
IsMoving (move_call digest block) = Unit {0}
IsMoving _ = ⊥

none_made : (event : Event) → event.steps ≡ [] → AllByRecursion BeginsNone event.steps
none_made event none = subst (AllByRecursion BeginsNone) (sym none) tt

step_made : (event : Event) (step : Step) → BeginsNone step → event.steps ≡ step ∷ [] → AllByRecursion BeginsNone event.steps
step_made event step begins is = subst (AllByRecursion BeginsNone) (sym is) (begins, tt)

reads_begin_none : {A : Type 0} (told : Bool) (event : Event) (o : Option A) → WhereReads told event o → AllByRecursion BeginsNone event.steps
reads_begin_none told event None reads = absurd reads
reads_begin_none told event (Some what) (inl damaged) = none_made event damaged.2
reads_begin_none told event (Some what) (inr fails) = none_made event fails.1

-- how a move ends against which nothing stands
abbrev MoveEnds : Setup → (told : Bool) → State → Event → Digest → Type 0
MoveEnds setup told s event digest =
    ((event.answer ≡ happened true) × (event.steps ≡ moved digest ∷ []))
    ⊎ DamageFound told event []
    ⊎ DiskFails event []
    ⊎ ((has_room setup defrag (live_units (live_of digest s.book.live)) s.book ≡ false) × DiskFails event (closing_failed ∷ []))

move_begins_none : (setup : Setup) (told : Bool) (s : State) (event : Event) (digest : Digest) (block : ℕ) → Allowed setup told s event (move_call digest block) → AllByRecursion BeginsNone event.steps
move_begins_none setup told s event digest block = by (is_in_block block (live_of digest s.book.live))
  where
    moves : MoveEnds setup told s event digest → AllByRecursion BeginsNone event.steps
    moves (inl done) = step_made event (moved digest) tt done.1
    moves (inr (inl damaged)) = none_made event damaged.2
    moves (inr (inr (inl failed))) = none_made event failed.1
    moves (inr (inr (inr closing))) = step_made event closing_failed tt closing.1.1

    unless : (o : Option Cause) → Unless event o (MoveEnds setup told s event digest) → AllByRecursion BeginsNone event.steps
    unless None rest = moves rest
    unless (Some cause) only = none_made event only.1

    by : (here : Bool) → MatchBool here (NoMemory event ⊎ Unless event (no_place setup defrag move_reserve (live_units (live_of digest s.book.live)) s.book)
        (MoveEnds setup told s event digest)) (Only event (happened false))
        → AllByRecursion BeginsNone event.steps
    by false only = none_made event only.1
    by true (inl no_memory) = none_made event no_memory.1
    by true (inr rest) = unless (no_place setup defrag move_reserve (live_units (live_of digest s.book.live)) s.book) rest

moving_begins_none : (setup : Setup) (told : Bool) (s : State) (event : Event) (call : Call) → IsMoving call → Allowed setup told s event call → AllByRecursion BeginsNone event.steps
moving_begins_none setup told s event choose_call is (inl chosen) = none_made event chosen.1
moving_begins_none setup told s event choose_call is (inr reads) = reads_begin_none told event (queue_front s.book.queue) reads
moving_begins_none setup told s event (move_call digest block) is allowed = move_begins_none setup told s event digest block allowed
moving_begins_none setup told s event call is allowed = absurd is

abbrev AreMoving : List Event → Type 0
AreMoving events = AllByRecursion (λ event. IsMoving event.call) events

called : (event : Event) (call : Call) → event.call ≡ call → IsMoving call → IsMoving event.call
called event call is moving = subst IsMoving (sym is) moving

moves_moving : (setup : Setup) (block : ℕ) (s : State) (count : ℕ) (events : List Event) (outcome : Outcome) → MovesOut setup block s count events outcome → AreMoving events
moves_moving setup block s count [] outcome moves = tt
moves_moving setup block s count (event ∷ events) outcome moves = (
  called event (move_call moves.0.0 block) moves.0.1 tt,
  if_refused event.answer (λ cause. (events ≡ []) × (outcome ≡ stopped cause)) (MovesOut setup block (after_event setup event s) (count + moved_by event.answer) events outcome) (AreMoving events)
      (λ cause ends. subst AreMoving (sym ends.0) tt) (moves_moving setup block (after_event setup event s) (count + moved_by event.answer) events outcome) moves.1,
)

vacates_moving : (setup : Setup) (s : State) (events : List Event) (outcome : Outcome) → Vacates setup s events outcome → AreMoving events
vacates_moving setup s events outcome (first, moves, is, chosen, how) = subst AreMoving (sym is) (called first choose_call chosen tt, by how)
  where
    by : ((first.answer ≡ block_chosen None) × (moves ≡ []) × (outcome ≡ did 0 0))
        ⊎ ((block : ℕ) × (first.answer ≡ block_chosen (Some block)) × MovesOut setup block (after_event setup first s) 0 moves outcome)
        ⊎ ((cause : Cause) × (first.answer ≡ refused cause) × (moves ≡ []) × (outcome ≡ stopped cause)) → AreMoving moves
    by (inl none) = subst AreMoving (sym none.1) tt
    by (inr (inl some)) = moves_moving setup some.0 (after_event setup first s) 0 moves outcome some.2
    by (inr (inr stops)) = subst AreMoving (sym stops.2) tt

tend_moving : (setup : Setup) (s : State) (rest : List Event) (gains : Bool) → MatchBool gains ((outcome : Outcome) × Vacates setup s rest outcome) (rest ≡ []) → AreMoving rest
tend_moving setup s rest true vacates = vacates_moving setup s rest vacates.0 vacates.1
tend_moving setup s rest false none = subst AreMoving (sym none) tt

-- ---- a flush of a device

-- no buffer is filled any more of those of the stream
abbrev Fills : Stream → Buffer → Bool
Fills stream b = same_stream stream b.stream && is_filling b.phase

abbrev NoneFills : Stream → List Buffer → Type 0
NoneFills stream bs = AllByRecursion (λ b. Fills stream b ≡ false) bs

none_found : (stream : Stream) (bs : List Buffer) → filling_buffer stream bs ≡ None → NoneFills stream bs
none_found stream [] is = tt
none_found stream (b ∷ bs) is = by (Fills stream b) refl is (none_found stream bs)
  where
    by : (f : Bool) → Fills stream b ≡ f → cond f (Some b) (filling_buffer stream bs) ≡ None → (filling_buffer stream bs ≡ None → NoneFills stream bs) → NoneFills stream (b ∷ bs)
    by true at found rest = let e : Some b ≡ None = found in cc
    by false at found rest = (at, rest found)

sealed_fills_none : (stream : Stream) (b : Buffer) → Fills stream (sealed_if (same_stream stream b.stream) b) ≡ false
sealed_fills_none client b = by b.stream b.phase
  where
    by : (stream : Stream) (phase : Phase) → Fills client (sealed_if (same_stream client stream) (record b { stream = stream; phase = phase })) ≡ false
    by client filling = refl
    by client sealed = refl
    by client opening = refl
    by defrag phase = refl
sealed_fills_none defrag b = by b.stream b.phase
  where
    by : (stream : Stream) (phase : Phase) → Fills defrag (sealed_if (same_stream defrag stream) (record b { stream = stream; phase = phase })) ≡ false
    by defrag filling = refl
    by defrag sealed = refl
    by defrag opening = refl
    by client phase = refl

own_sealed : (stream : Stream) (bs : List Buffer) → NoneFills stream (seal_stream stream bs)
own_sealed stream [] = tt
own_sealed stream (b ∷ bs) = (sealed_fills_none stream b, own_sealed stream bs)

other_sealed : (stream other : Stream) (bs : List Buffer) → NoneFills stream bs → NoneFills stream (seal_stream other bs)
other_sealed stream other bs none = all_to_map (λ b. Fills stream b ≡ false) (λ b. Fills stream b ≡ false) (λ b. sealed_if (same_stream other b.stream) b) one bs none
  where
    one : (b : Buffer) → Fills stream b ≡ false → Fills stream (sealed_if (same_stream other b.stream) b) ≡ false
    one b is = cond_both (same_stream other b.stream && is_filling b.phase) (record b { phase = sealed }) b (λ c. Fills stream c ≡ false) (λ _. and_right (same_stream stream b.stream) false refl) (λ _. is)

abbrev FillNone : List Buffer → Type 0
FillNone bs = NoneFills client bs × NoneFills defrag bs

-- where the streams that fill a buffer are sealed
sealed_by : (setup : Setup) (s : State) (c d : Option Buffer) → filling_buffer client s.book.buffers ≡ c → filling_buffer defrag s.book.buffers ≡ d
    → FillNone (after_steps setup (seal_if (is_some c) client ++ seal_if (is_some d) defrag) s).book.buffers
unfolding after_step
sealed_by setup s None None c_is d_is = (none_found client s.book.buffers c_is, none_found defrag s.book.buffers d_is)
sealed_by setup s (Some c) None c_is d_is = (own_sealed client s.book.buffers, other_sealed defrag client s.book.buffers (none_found defrag s.book.buffers d_is))
sealed_by setup s None (Some d) c_is d_is = (other_sealed client defrag s.book.buffers (none_found client s.book.buffers c_is), own_sealed defrag s.book.buffers)
sealed_by setup s (Some c) (Some d) c_is d_is =
    let first : List Buffer = seal_stream client s.book.buffers in (other_sealed client defrag first (own_sealed client s.book.buffers), own_sealed defrag first)

none_fills : (bs : List Buffer) → FillNone bs → AllByRecursion (λ b. is_filling b.phase ≡ false) bs
none_fills [] none = tt
none_fills (b ∷ bs) none = (by b.stream none.0.0 none.1.0, none_fills bs (none.0.1, none.1.1))
  where
    by : (stream : Stream) → (same_stream client stream && is_filling b.phase) ≡ false → (same_stream defrag stream && is_filling b.phase) ≡ false → is_filling b.phase ≡ false
    by client first second = first
    by defrag first second = second

-- one of the buffers has the number
abbrev HasNumber : List Buffer → ℕ → Type 0
HasNumber [] n = ⊥
HasNumber (b ∷ bs) n = (n ≡ b.number) ⊎ HasNumber bs n

abbrev AreAmong : (bs cs : List Buffer) → Type 0
AreAmong bs cs = AllByRecursion (λ c. HasNumber bs c.number) cs

among_own : (bs : List Buffer) → AreAmong bs bs
among_own [] = tt
among_own (b ∷ bs) = (inl refl, all_map (λ c. HasNumber bs c.number) (λ c. HasNumber (b ∷ bs) c.number) bs (λ c has. inr has) (among_own bs))

among_none : (cs : List Buffer) → AreAmong [] cs → cs ≡ []
among_none [] among = refl
among_none (c ∷ cs) among = absurd among.0

among_opened : (n : ℕ) (bs cs : List Buffer) → AreAmong bs cs → AreAmong bs (map (λ c. opened_if (c.number == n) c) cs)
among_opened n bs cs among = all_to_map (λ c. HasNumber bs c.number) (λ c. HasNumber bs c.number) (λ c. opened_if (c.number == n) c) one cs among
  where
    one : (c : Buffer) → HasNumber bs c.number → HasNumber bs (opened_if (c.number == n) c).number
    one c has = cond_both (c.number == n) (record c { phase = opening }) c (λ x. HasNumber bs x.number) (λ _. has) (λ _. has)

among_rest : (b : Buffer) (bs cs : List Buffer) → AreAmong (b ∷ bs) cs → AreAmong bs (filter (λ c. not (c.number == b.number)) cs)
among_rest b bs cs among = all_kept (λ c. HasNumber (b ∷ bs) c.number) (λ c. HasNumber bs c.number) (λ c. not (c.number == b.number)) cs one among
  where
    one : (c : Buffer) → HasNumber (b ∷ bs) c.number → not (c.number == b.number) ≡ true → HasNumber bs c.number
    one c (inl same) other = let e : false ≡ true = ap not (sym (eq-eqb c.number b.number same)) ∙ other in cc
    one c (inr has) other = has

abbrev LeavesNone : Setup → List Buffer → Type 0
LeavesNone setup bs = (s : State) → AllByRecursion (λ b. is_filling b.phase ≡ false) bs → AreAmong bs s.book.buffers → (after_steps setup (flat_map flush_of bs) s).book.buffers ≡ []

module _ (setup : Setup) (b : Buffer) (bs : List Buffer) (rest : LeavesNone setup bs) (unfilled : AllByRecursion (λ c. is_filling c.phase ≡ false) bs) where
  last_left : (s : State) → AreAmong (b ∷ bs) s.book.buffers → (after_steps setup (flat_map flush_of bs) (after_step setup (flushed_buffer b.number) s)).book.buffers ≡ []
  unfolding after_step with_flushed refreshed
  last_left s among = rest (after_step setup (flushed_buffer b.number) s) unfilled (among_rest b bs s.book.buffers among)

  first_left : (s : State) (phase : Phase) → is_filling phase ≡ false → AreAmong (b ∷ bs) s.book.buffers
      → (after_steps setup (flush_of (record b { phase = phase }) ++ flat_map flush_of bs) s).book.buffers ≡ []
  unfolding after_step
  first_left s filling none among = let e : true ≡ false = none in cc
  first_left s sealed none among = last_left (after_step setup (gate_begun b.number) s) (among_opened b.number (b ∷ bs) s.book.buffers among)
  first_left s opening none among = last_left s among

all_left : (setup : Setup) (bs : List Buffer) → LeavesNone setup bs
all_left setup [] s unfilled among = among_none s.book.buffers among
all_left setup (b ∷ bs) s unfilled among = first_left setup b bs (all_left setup bs) unfilled.1 s b.phase unfilled.0 among

-- a flush that was answered ok leaves no buffer
flush_quiet : (setup : Setup) (told : Bool) (s : State) (event : Event) (n : ℕ) → Allowed setup told s event flush_call → event.answer ≡ counted n → (after_event setup event s).book.buffers ≡ []
flush_quiet setup told s event n (inr fails) is = let e : refused disk_fault ≡ counted n = sym fails.0 ∙ is in cc
flush_quiet setup told s event n (inl done) is =
    let mid : State = after_steps setup (seal_all s.book) s in
    ap (λ (l : List Step). (after_steps setup l s).book.buffers) done.0
    ∙ ap (λ (x : State). x.book.buffers) (after_joined setup (seal_all s.book) (flush_all mid.book) s)
    ∙ all_left setup mid.book.buffers mid
    (none_fills mid.book.buffers (sealed_by setup s (filling_buffer client s.book.buffers) (filling_buffer defrag s.book.buffers) refl refl)) (among_own mid.book.buffers)

-- ---- the first call of a tending, where there is no buffer

false_between : (x y : Bool) → (x && false && y) ≡ false
false_between true true = refl
false_between true false = refl
false_between false true = refl
false_between false false = refl

none_due : (setup : Setup) (book : Book) (stream : Stream) → book.buffers ≡ [] → is_due setup book stream ≡ false
none_due setup book stream quiet =
    ap (λ (bs : List Buffer). nat_le (length book.free) 6 && holds_dead book (filling_buffer stream bs) && has_gathered setup book stream) quiet
    ∙ false_between (nat_le (length book.free) 6) (has_gathered setup book stream)

quiet_low : (setup : Setup) (told : Bool) (s : State) (event : Event) → s.book.buffers ≡ [] → Allowed setup told s event flush_sealed_call → event.steps ≡ []
quiet_low setup told s event quiet ends =
    let no_seal : seal_low setup s.book ≡ [] = λ i. seal_if (none_due setup s.book client quiet i) client ++ seal_if (none_due setup s.book defrag quiet i) defrag in
    no_steps event (seal_low setup s.book) (flush_all (after_steps setup (seal_low setup s.book) s).book) no_seal
    (ap (λ (steps : List Step). flush_all (after_steps setup steps s).book) no_seal ∙ ap (λ (bs : List Buffer). flat_map flush_of bs) quiet) ends

-- ---- a node, from a device on

-- no buffer of any device has such a gate
abbrev AllUnopened : Node → Type 0
AllUnopened node = AllByRecursion (λ slot. Unopened slot.state.book.buffers) node

place_front : (done : Node) (slot : Slot) (slots : Node) (change : Slot → Slot) → at_place (length done) change (done ++ slot ∷ slots) ≡ done ++ change slot ∷ slots
place_front [] slot slots change = refl
place_front (d ∷ done) slot slots change = ap (λ (n : Node). d ∷ n) (place_front done slot slots change)

get_front : (done : Node) (slot : Slot) (slots : Node) → slice_get (done ++ slot ∷ slots) (length done) ≡ Some slot
get_front [] slot slots = refl
get_front (d ∷ done) slot slots = get_front done slot slots

grown : (done : Node) (slot : Slot) → length (done ++ slot ∷ []) ≡ length done + 1
grown [] slot = refl
grown (d ∷ done) slot = let more = grown done slot in omega (arith, more)

module _ (told : Bool) (done slots : Node) where
  -- one event of the device behind those that are done
  follows_front : (slot : Slot) (event : Event) (rest : List NodeEvent) → IsLegalOn told (done ++ slot ∷ slots) (on_device (length done) event ∷ rest) → Follows slot.setup told slot.state slot.faults event
  follows_front slot event rest legal =
      subst (λ (o : Option Slot). MatchOption o ⊥ (λ x. Follows x.setup told x.state x.faults event)) (get_front done slot slots) legal.0

  legal_front : (slot : Slot) (event : Event) (rest : List NodeEvent) → IsLegalOn told (done ++ slot ∷ slots) (on_device (length done) event ∷ rest)
      → IsLegalOn told (done ++ slot_after event slot ∷ slots) rest
  legal_front slot event rest legal = subst (λ (n : Node). IsLegalOn told n rest) (place_front done slot slots (slot_after event)) legal.1

  after_front : (slot : Slot) (event : Event) (rest : List NodeEvent)
      → node_after (on_device (length done) event ∷ rest) (done ++ slot ∷ slots) ≡ node_after rest (done ++ slot_after event slot ∷ slots)
  after_front slot event rest = ap (node_after rest) (place_front done slot slots (slot_after event))

  -- what a device comes to by choices and moves
  record Moved (slot : Slot) (mine : List Event) (rest : List NodeEvent) : Type 0 where
    after : Slot
    unopened : Unopened after.state.book.buffers
    legal : IsLegalOn told (done ++ after ∷ slots) rest
    same : node_after (map (on_device (length done)) mine ++ rest) (done ++ slot ∷ slots) ≡ node_after rest (done ++ after ∷ slots)

  moved_on : (mine : List Event) (slot : Slot) (rest : List NodeEvent) → AreMoving mine → Unopened slot.state.book.buffers
      → IsLegalOn told (done ++ slot ∷ slots) (map (on_device (length done)) mine ++ rest) → Moved slot mine rest
  moved_on [] slot rest moving none legal = record { after = slot; unopened = none; legal = legal; same = refl }
  moved_on (event ∷ mine) slot rest moving none legal =
      let behind : List NodeEvent = map (on_device (length done)) mine ++ rest in
      let begins = moving_begins_none slot.setup told slot.state event event.call moving.0 (follows_front slot event behind legal).allowed in
      let more = moved_on mine (slot_after event slot) rest moving.1 (steps_unopened slot.setup event.steps slot.state begins none) (legal_front slot event behind legal) in
      record { after = more.after; unopened = more.unopened; legal = more.legal; same = after_front slot event behind ∙ more.same }

-- each device is flushed, and has no buffer then
flushes_quiet : (told : Bool) (slots done : Node) (device a b : ℕ) (work : List NodeEvent) (x y : ℕ) → device ≡ length done → AllQuiet done → EachDevice Flushes device slots a b work (did x y)
    → IsLegalOn told (done ++ slots) work → AllQuiet (node_after work (done ++ slots))
flushes_quiet told [] done device a b work x y here quiet each legal =
    subst (λ (w : List NodeEvent). AllQuiet (node_after w (done ++ []))) (sym each.0) (all_joined (λ slot. IsQuiet (Some slot)) done [] quiet tt)
flushes_quiet told (slot ∷ slots) done device a b work x y here quiet (mine, rest, is, inr stops) legal = let e : did x y ≡ stopped stops.0 = stops.3 in cc
flushes_quiet told (slot ∷ slots) done device a b work x y here quiet (mine, rest, is, inl goes) legal = elim goes.2.3 [
  | inr stops ↦ let e : did goes.0 goes.1 ≡ stopped stops.0 = stops.2 in cc
  | inl counts ↦
      let event : Event = goes.2.0 in
      let one : work ≡ on_device (length done) event ∷ rest = is ∙ (λ i. map (on_device (here i)) (goes.2.1 i) ++ rest) in
      let legal_one = subst (λ (w : List NodeEvent). IsLegalOn told (done ++ slot ∷ slots) w) one legal in
      let follows = follows_front told done slots slot event rest legal_one in
      let allowed = subst (λ (c : Call). Allowed slot.setup told slot.state event c) goes.2.2 follows.allowed in
      let after : Slot = slot_after event slot in
      let left : after.state.book.buffers ≡ [] = flush_quiet slot.setup told slot.state event counts.0 allowed counts.1 in
      let joined : (done ++ after ∷ []) ++ slots ≡ done ++ after ∷ slots = append_assoc done (after ∷ []) slots in
      let next : device + 1 ≡ length (done ++ after ∷ []) = ap (λ (n : ℕ). n + 1) here ∙ sym (grown done after) in
      let legal_rest = subst (λ (n : Node). IsLegalOn told n rest) (sym joined) (legal_front told done slots slot event rest legal_one) in
      let more = flushes_quiet told slots (done ++ after ∷ []) (device + 1) (a + goes.0) (b + goes.1) rest x y next
      (all_joined (λ s. IsQuiet (Some s)) done (after ∷ []) quiet (left, tt)) goes.3 legal_rest in
      subst (λ (w : List NodeEvent). AllQuiet (node_after w (done ++ slot ∷ slots))) (sym one)
      (subst AllQuiet (sym (after_front told done slots slot event rest)) (subst (λ (n : Node). AllQuiet (node_after rest n)) joined more))
]

-- each device is tended where none has a buffer
tends_unopened : (told : Bool) (slots done : Node) (device : ℕ) (work : List NodeEvent) → device ≡ length done → AllUnopened done → AllQuiet slots → TendsEach device slots work
    → IsLegalOn told (done ++ slots) work → AllUnopened (node_after work (done ++ slots))
tends_unopened told [] done device work here none quiet tends legal =
    subst (λ (w : List NodeEvent). AllUnopened (node_after w (done ++ []))) (sym tends) (all_joined (λ slot. Unopened slot.state.book.buffers) done [] none tt)
tends_unopened told (slot ∷ slots) done device work here none quiet (mine, rest, is, tends, more) legal =
    let first : Event = tends.0 in
    let behind : List NodeEvent = map (on_device (length done)) tends.1 ++ rest in
    let one : work ≡ on_device (length done) first ∷ behind = is ∙ (λ i. map (on_device (here i)) (tends.2 i) ++ rest) in
    let legal_one = subst (λ (w : List NodeEvent). IsLegalOn told (done ++ slot ∷ slots) w) one legal in
    let follows = follows_front told done slots slot first behind legal_one in
    let allowed = subst (λ (c : Call). Allowed slot.setup told slot.state first c) tends.3 follows.allowed in
    let still : first.steps ≡ [] = quiet_low slot.setup told slot.state first quiet.0 allowed in
    let mid : Slot = slot_after first slot in
    let empty : mid.state.book.buffers ≡ [] = ap (λ (steps : List Step). (after_steps slot.setup steps slot.state).book.buffers) still ∙ quiet.0 in
    let moving = tend_moving slot.setup (after_event slot.setup first slot.state) tends.1 (can_gain (after_event slot.setup first slot.state).book) tends.4 in
    let m = moved_on told done slots tends.1 mid rest moving (subst Unopened (sym empty) tt) (legal_front told done slots slot first behind legal_one) in
    let joined : (done ++ m.after ∷ []) ++ slots ≡ done ++ m.after ∷ slots = append_assoc done (m.after ∷ []) slots in
    let next : device + 1 ≡ length (done ++ m.after ∷ []) = ap (λ (n : ℕ). n + 1) here ∙ sym (grown done m.after) in
    let all = tends_unopened told slots (done ++ m.after ∷ []) (device + 1) rest next (all_joined (λ s. Unopened s.state.book.buffers) done (m.after ∷ []) none (m.unopened, tt)) quiet.1 more
    (subst (λ (n : Node). IsLegalOn told n rest) (sym joined) m.legal) in
    subst (λ (w : List NodeEvent). AllUnopened (node_after w (done ++ slot ∷ slots))) (sym one)
    (subst AllUnopened (sym (after_front told done slots slot first behind ∙ m.same)) (subst (λ (n : Node). AllUnopened (node_after rest n)) joined all))

-- ---- a line

both_true : (x y : Bool) → x ≡ true → y ≡ true → (x && y) ≡ true
both_true x y first second = λ i. first i && second i

begun_of : (bs : List Buffer) → Unopened bs → none_begun bs ≡ true
begun_of [] none = refl
begun_of (b ∷ bs) none = both_true (not (is_opening b.phase)) (none_begun bs) (ap not none.0) (begun_of bs none.1)

opening_of : (node : Node) → AllUnopened node → none_opening node ≡ true
opening_of [] none = refl
opening_of (slot ∷ node) none = both_true (none_begun slot.state.book.buffers) (none_opening node) (begun_of slot.state.book.buffers none.0) (opening_of node none.1)

flushed_did : (outcome : Outcome) (n : ℕ) → reply.Flushed n ≡ flushed_reply outcome → (x : ℕ) × (y : ℕ) × (outcome ≡ did x y)
flushed_did (did x y) n is = (x, y, refl)
flushed_did (stopped cause) n is = absurd cc

no_fail : (n : ℕ) (why : LineFault) → reply.Flushed n ≡ reply.Fail why → ⊥
no_fail n why is = cc

-- a command that was answered so
flush_carried : (left : ImagesLeft) (told : Bool) (node : Node) (c : Command) (now : ℕ) (served : Served) (n : ℕ) → Carries left told node c now served.work served.restarted served.reply
    → IsLegalOn told node served.work → served.reply ≡ reply.Flushed n → AllQuiet (node_at_reply served node)
flush_carried left told node c now served n (inr ends) legal is = elim ends.1.3 [
  | inl again ↦ let e : reply.Flushed n ≡ reply.Restarted _ _ = sym is ∙ again.1 in cc
  | inr halted ↦ let e : reply.Flushed n ≡ reply.Halted = sym is ∙ halted.1 in cc
]
flush_carried left told node c now served n (inl made) legal is =
    let asked = only_flush node c now served.work served.reply n made.1 is in
    let does = subst (λ (x : Command). Does node x now served.work served.reply) asked made.1 in
    let went = flushed_did does.0 n (sym is ∙ does.2) in
    let each = subst (EachDevice Flushes 0 node 0 0 served.work) went.2 does.1 in
    subst (λ (o : Option Node). AllQuiet (node_or (node_after served.work node) o)) (sym made.0) (flushes_quiet told node [] 0 0 0 served.work went.0 went.1 refl tt each legal)

-- no device has a buffer when a flush is answered ok
pub flush_answered : (left : ImagesLeft) (told : Bool) (node : Node) (line : Option (List ℕ)) (served : Served) (n : ℕ) → AnswersLine left told node line served → IsLegalOn told node served.work
    → served.reply ≡ reply.Flushed n → AllQuiet (node_at_reply served node)
flush_answered left told node None served n refuses legal is = absurd (no_fail n _ (sym is ∙ refuses.3))
flush_answered left told node (Some line) served n (inr (inl refuses)) legal is = absurd (no_fail n _ (sym is ∙ refuses.1.3))
flush_answered left told node (Some line) served n (inr (inr lacks)) legal is = absurd (no_fail n _ (sym is ∙ lacks.1.3))
flush_answered left told node (Some line) served n (inl does) legal is = flush_carried left told node does.0 (bounded_time does.1) served n does.4 legal is

-- and no gate's write has begun behind the tending
pub flush_opens_none : (left : ImagesLeft) (told : Bool) (node : Node) (served : Served) (n : ℕ) → Serves left told node served → served.reply ≡ reply.Flushed n
    → none_opening (node_after_line served node) ≡ true
flush_opens_none left told node served n serves is =
    let tends = subst (λ (r : Reply). MatchBool (goes_on r) (TendsEach 0 (node_at_reply served node) served.tended) (served.tended ≡ [])) is serves.tends in
    opening_of (node_after_line served node)
    (tends_unopened told (node_at_reply served node) [] 0 served.tended refl tt (flush_answered left told node served.line served n serves.answers serves.work is) tends serves.tending)
