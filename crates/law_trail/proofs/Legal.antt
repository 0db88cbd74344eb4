-- In each legal event there is room for the copies that its steps place, so that a book stays one.
use Rattle.std.proofs.Common.{◌≡◌, ◌⊎◌, inl, inr, ⊎_elim, ℕ, ◌+◌, Bool, true, false, ◌&&◌, List, [], ◌∷◌, ◌++◌, length, map, Option, Some, None, refl, sym, subst}
use Rattle.std.proofs.lemmas.Bool.{false≢true, cond_both}
use Rattle.std.specs.Prelude.{◌==◌, nat_le, nat_lt, filter, flat_map, is_some, MatchBool, MatchOption, if◌then◌else◌}
use Rattle.std.specs.List.{AllByRecursion}
use Rattle.law_lists.proofs.Each.{all_joined, all_parted}
use Rattle.rec_format.specs.declared.version.Digest.{Digest}
use Rattle.rec_format.specs.declared.version.Stamp.{Stamp}
use Rattle.rec_format.specs.declared.version.Version.{Version}
use Rattle.rec_format.specs.Versions.{version_units, is_tombstone, is_expired_put, units_for, a_tombstone, top_number}
use Rattle.model_device.specs.Book.{Setup, Buffer, Book, Live, Stream, client, defrag, Phase, filling, sealed, opening, is_filling, has_room, placing_number, live_of, filling_buffer}
use Rattle.model_device.specs.Device.{State, Turn, mark_turn, scan_turn, apply_turn, drop_turn, finished, entry, entry_passes, entry_is_covered, seen, next_stamp_of}
use Rattle.model_device.specs.Steps.{Step, wrote, moved, removed, rid_of, uncovered, sealed_stream, gate_begun, flushed_buffer, closing_failed, raid_begun}
use Rattle.model_device.specs.Steps.{raid_given_up, marked_part, scanned_block, compared_part, done_part, after_step, after_steps}
use Rattle.model_device.specs.Events.{Call, put_call, bury_call, delete_call, expire_call, get_call, flush_call, flush_sealed_call, flush_next_call, heal_call}
use Rattle.model_device.specs.Events.{choose_call, move_call, begin_call, turn_call, Cause, too_big, Answer, happened, stamp_given, raid_numbered, refused}
use Rattle.model_device.specs.Events.{no_memory, stale, Event, after_event, after_events}
use Rattle.model_device.specs.Legal.{seal_if, seal_all, is_due, seal_low, flush_of, flush_between, flush_all, first_sealed, flush_first, StopsIn, FlushEnds}
use Rattle.model_device.specs.Legal.{put_reserve, tombstone_reserve, move_reserve, no_place, no_write, commit_seal, commit_flush, WriteEnds, Only, NoMemory}
use Rattle.model_device.specs.Legal.{Unless, the_stamp, Entombs, first_cause, not_expected, seen_generation, put_refusal, new_put, Removes, WhereReads}
use Rattle.model_device.specs.Legal.{DamageFound, DiskFails, is_in_block, live_units, drop_step, marked_in, drop_steps, TurnEnds, same_turn, queue_front}
use Rattle.model_device.specs.Legal.{Allowed, Follows, IsLegal}
use Rattle.law_trail.specs.Trail.{IsBooked, CanPlace}
use Rattle.law_trail.specs.Needs.{HasRoomFor, HasRoomThrough}
use Rattle.law_trail.proofs.Each.{step_booked}
use Rattle.law_trail.proofs.Room.{place_there, write_there}

-- ---- steps that place nothing

abbrev places_none : Step → Bool
places_none (wrote digest v) = false
places_none (moved digest) = false
places_none _ = true

abbrev PlaceNone : List Step → Type 0
PlaceNone steps = AllByRecursion (λ step. places_none step ≡ true) steps

needs_none : (setup : Setup) (s : State) (step : Step) → places_none step ≡ true → HasRoomFor setup s step
needs_none setup s (wrote digest v) is = absurd (false≢true is)
needs_none setup s (moved digest) is = absurd (false≢true is)
needs_none setup s (removed digest) is = tt
needs_none setup s (rid_of digest) is = tt
needs_none setup s (uncovered digest) is = tt
needs_none setup s (sealed_stream stream) is = tt
needs_none setup s (gate_begun number) is = tt
needs_none setup s (flushed_buffer number) is = tt
needs_none setup s closing_failed is = tt
needs_none setup s raid_begun is = tt
needs_none setup s raid_given_up is = tt
needs_none setup s (marked_part part now) is = tt
needs_none setup s (scanned_block copies) is = tt
needs_none setup s (compared_part part) is = tt
needs_none setup s (done_part part) is = tt

room_through : (setup : Setup) (steps : List Step) (s : State) → PlaceNone steps → HasRoomThrough setup steps s
room_through setup [] s none = tt
room_through setup (step ∷ steps) s none = (needs_none setup s step none.0, room_through setup steps (after_step setup step s) none.1)

seal_none : (chosen : Bool) (stream : Stream) → PlaceNone (seal_if chosen stream)
seal_none true stream = (refl, tt)
seal_none false stream = tt

both_none : (before behind : List Step) → PlaceNone before → PlaceNone behind → PlaceNone (before ++ behind)
both_none before behind first rest = all_joined (λ step. places_none step ≡ true) before behind first rest

flush_none : (b : Buffer) → PlaceNone (flush_of b)
flush_none b = by b.phase
  where
    by : (phase : Phase) → PlaceNone (flush_of (record b { phase = phase }))
    by filling = tt
    by sealed = (refl, (refl, tt))
    by opening = (refl, tt)

flushes_none : (buffers : List Buffer) → PlaceNone (flat_map flush_of buffers)
flushes_none [] = tt
flushes_none (b ∷ buffers) = both_none (flush_of b) (flat_map flush_of buffers) (flush_none b) (flushes_none buffers)

first_none : (buffers : List Buffer) → PlaceNone (first_sealed buffers)
first_none [] = tt
first_none (b ∷ buffers) = cond_both (is_filling b.phase) (first_sealed buffers) (flush_of b) PlaceNone (λ _. first_none buffers) (λ _. flush_none b)

seal_low_none : (setup : Setup) (book : Book) → PlaceNone (seal_low setup book)
seal_low_none setup book =
    let one = is_due setup book client in
    let other = is_due setup book defrag in
    both_none (seal_if one client) (seal_if other defrag) (seal_none one client) (seal_none other defrag)

seal_all_none : (book : Book) → PlaceNone (seal_all book)
seal_all_none book =
    let one = is_some (filling_buffer client book.buffers) in
    let other = is_some (filling_buffer defrag book.buffers) in
    both_none (seal_if one client) (seal_if other defrag) (seal_none one client) (seal_none other defrag)

commit_seal_none : (setup : Setup) → PlaceNone (commit_seal setup)
commit_seal_none setup = cond_both setup.commit (sealed_stream client ∷ []) [] PlaceNone (λ _. (refl, tt)) (λ _. tt)

commit_flush_none : (setup : Setup) (number : ℕ) (s : State) → PlaceNone (commit_flush setup number s)
commit_flush_none setup number s =
    cond_both setup.commit (flush_between 0 number s.book) [] PlaceNone (λ _. flushes_none (filter (λ b. nat_le 0 b.number && nat_le b.number number) s.book.buffers)) (λ _. tt)

-- some of such steps are such steps
stops_none : (whole some : List Step) → PlaceNone whole → StopsIn whole some → PlaceNone some
stops_none whole some none stops = (all_parted (λ step. places_none step ≡ true) some (stops.0 ∷ stops.1) (subst PlaceNone stops.2 none)).0

drops_none : (s : State) (digests : List Digest) → PlaceNone (map (drop_step s) digests)
drops_none s [] = tt
drops_none s (d ∷ digests) = (
  cond_both (entry_passes is_tombstone (entry s d)) (rid_of d) (uncovered d) (λ step. places_none step ≡ true) (λ _. refl) (λ _. refl),
  drops_none s digests,
)

-- ---- events

module _ (setup : Setup) (s : State) (event : Event) where
  abbrev IsRoomy : Type 0
  IsRoomy = HasRoomThrough setup event.steps s

  none_steps : (steps : List Step) → event.steps ≡ steps → PlaceNone steps → IsRoomy
  none_steps steps same none = subst (λ (l : List Step). HasRoomThrough setup l s) (sym same) (room_through setup steps s none)

  only_room : (answer : Answer) → Only event answer → IsRoomy
  only_room answer is = none_steps [] is.1 tt

  flush_room : (first rest : List Step) → PlaceNone first → PlaceNone rest → FlushEnds event first rest → IsRoomy
  flush_room first rest first_none rest_none (inl whole) = none_steps (first ++ rest) whole.0 (both_none first rest first_none rest_none)
  flush_room first rest first_none rest_none (inr part) =
      none_steps (first ++ part.2) part.3 (both_none first part.2 first_none (stops_none rest part.2 rest_none part.4))

  unless_room : (cause : Option Cause) (Rest : Type 0) → Unless event cause Rest → (cause ≡ None → Rest → IsRoomy) → IsRoomy
  unless_room None Rest is rest = rest refl is
  unless_room (Some c) Rest is rest = only_room (refused c) is

  write_room : (digest : Digest) (v : Version) (ok : Answer) → CanPlace setup client (version_units v) s.book → WriteEnds setup s event digest v ok → IsRoomy
  write_room digest v ok can ends = by ends
    where
      seal : List Step
      seal = commit_seal setup

      rest : List Step
      rest = commit_flush setup (placing_number setup client (version_units v) s.book) (after_steps setup (wrote digest v ∷ seal) s)

      goes_on : (steps : List Step) → PlaceNone steps → event.steps ≡ (wrote digest v ∷ seal) ++ steps → IsRoomy
      goes_on steps none same =
          subst (λ (l : List Step). HasRoomThrough setup l s) (sym same)
          (can, room_through setup (seal ++ steps) (after_step setup (wrote digest v) s) (both_none seal steps (commit_seal_none setup) none))

      rest_none : PlaceNone rest
      rest_none = commit_flush_none setup (placing_number setup client (version_units v) s.book) (after_steps setup (wrote digest v ∷ seal) s)

      by : WriteEnds setup s event digest v ok → IsRoomy
      by (inl whole) = goes_on rest rest_none whole.1
      by (inr failed) = ⊎_elim (λ closing. none_steps (closing_failed ∷ []) closing.1 (refl, tt)) (λ part. goes_on part.0 (stops_none rest part.0 rest_none part.2) part.1) failed.2

  entombs_room : (digest : Digest) (now : ℕ) (ok : Stamp → Answer) → Entombs setup s event digest now ok → IsRoomy
  entombs_room digest now ok (inl none) = only_room (refused no_memory) none
  entombs_room digest now ok (inr is) =
      let stamp = next_stamp_of setup s now digest in
      let v = a_tombstone (the_stamp stamp) in
      unless_room (no_write setup tombstone_reserve (version_units v) stamp s) (WriteEnds setup s event digest v (ok (the_stamp stamp))) is
      (λ none ends. write_room digest v (ok (the_stamp stamp)) (write_there setup tombstone_reserve (version_units v) stamp s none) ends)

  removes_room : (digest : Digest) (now : ℕ) → Removes setup s event digest now → IsRoomy
  removes_room digest now is = by (entry_is_covered s digest) is
    where
      by : (b : Bool) → MatchBool b (Entombs setup s event digest now (λ stamp. happened true)) ((event.answer ≡ happened true) × (event.steps ≡ removed digest ∷ [])) → IsRoomy
      by true is = entombs_room digest now (λ stamp. happened true) is
      by false is = none_steps (removed digest ∷ []) is.1 (refl, tt)

  reads_room : {A : Type 0} (told : Bool) (what : Option A) → WhereReads told event what → IsRoomy
  reads_room told None is = absurd is
  reads_room told (Some what) (inl damage) = none_steps [] damage.2 tt
  reads_room told (Some what) (inr fails) = none_steps [] fails.1 tt

  second_none : (a b : Option Cause) → first_cause a b ≡ None → b ≡ None
  second_none None b is = is
  second_none (Some c) b is = absurd (cc)

  put_room : (digest : Digest) (ttl : ℕ) (expect : Option ℕ) (payload : List ℕ) (now : ℕ)
      → NoMemory event ⊎ Unless event (put_refusal setup s digest expect payload now)
      (WriteEnds setup s event digest (new_put setup s digest ttl payload now) (stamp_given (new_put setup s digest ttl payload now).stamp)) → IsRoomy
  put_room digest ttl expect payload now (inl none) = only_room (refused no_memory) none
  put_room digest ttl expect payload now (inr is) =
      let units = units_for (length payload) in
      let stamp = next_stamp_of setup s now digest in
      let v = new_put setup s digest ttl payload now in
      let big = if nat_lt setup.capacity units then Some (too_big units setup.capacity) else None in
      let other = not_expected expect (seen_generation (seen s now digest)) in
      let write = no_write setup put_reserve units stamp s in
      unless_room (put_refusal setup s digest expect payload now) (WriteEnds setup s event digest v (stamp_given v.stamp)) is
      (λ none ends. write_room digest v (stamp_given v.stamp) (write_there setup put_reserve units stamp s (second_none other write (second_none big (first_cause other write) none))) ends)

  delete_room : (digest : Digest) (now : ℕ) (o : Option Version) → MatchOption o (Only event (happened false)) (λ v. Removes setup s event digest now) → IsRoomy
  delete_room digest now None is = only_room (happened false) is
  delete_room digest now (Some v) is = removes_room digest now is

  expire_room : (digest : Digest) (now : ℕ) (b : Bool) → MatchBool b (Removes setup s event digest now) (Only event (happened false)) → IsRoomy
  expire_room digest now true is = removes_room digest now is
  expire_room digest now false is = only_room (happened false) is

  get_room : (told : Bool) (digest : Digest) (now : ℕ) → Allowed setup told s event (get_call digest now) → IsRoomy
  get_room told digest now (inl found) = none_steps [] found.2 tt
  get_room told digest now (inr (inl none)) = only_room (refused no_memory) none
  get_room told digest now (inr (inr reads)) = reads_room told (seen s now digest) reads

  heal_room : (told : Bool) → Allowed setup told s event heal_call → IsRoomy
  heal_room told (inl is) = none_steps [] is.2 tt
  heal_room told (inr fails) = none_steps [] fails.1 tt

  choose_room : (told : Bool) → Allowed setup told s event choose_call → IsRoomy
  choose_room told (inl is) = none_steps [] is.1 tt
  choose_room told (inr reads) = reads_room told (queue_front s.book.queue) reads

  -- a move of a copy that can be placed
  moves : (digest : Digest) (copy : Live) → live_of digest s.book.live ≡ Some copy → CanPlace setup defrag copy.units s.book → event.steps ≡ moved digest ∷ [] → IsRoomy
  moves digest copy live can same =
      subst (λ (l : List Step). HasRoomThrough setup l s) (sym same)
      (subst (λ (o : Option Live). MatchOption o (Unit {0}) (λ c. CanPlace setup defrag c.units s.book)) (sym live) can, tt)

  abbrev Moves : Bool → Digest → Option Live → Type 0
  Moves told digest copy = ((event.answer ≡ happened true) × (event.steps ≡ moved digest ∷ []))
      ⊎ DamageFound told event []
      ⊎ DiskFails event []
      ⊎ ((has_room setup defrag (live_units copy) s.book ≡ false) × DiskFails event (closing_failed ∷ []))

  moves_room : (told : Bool) (digest : Digest) (copy : Live) → live_of digest s.book.live ≡ Some copy → CanPlace setup defrag copy.units s.book → Moves told digest (Some copy) → IsRoomy
  moves_room told digest copy live can (inl is) = moves digest copy live can is.1
  moves_room told digest copy live can (inr (inl damage)) = none_steps [] damage.2 tt
  moves_room told digest copy live can (inr (inr (inl fails))) = none_steps [] fails.1 tt
  moves_room told digest copy live can (inr (inr (inr closing))) = none_steps (closing_failed ∷ []) closing.1.1 (refl, tt)

  move_at : (told : Bool) (digest : Digest) (block : ℕ) (o : Option Live) → live_of digest s.book.live ≡ o → (b : Bool) → is_in_block block o ≡ b
      → MatchBool b (NoMemory event ⊎ Unless event (no_place setup defrag move_reserve (live_units o) s.book) (Moves told digest o)) (Only event (happened false)) → IsRoomy
  move_at told digest block o live false is allowed = only_room (happened false) allowed
  move_at told digest block o live true is (inl none) = only_room (refused no_memory) none
  move_at told digest block None live true is (inr allowed) = absurd (false≢true is)
  move_at told digest block (Some copy) live true is (inr allowed) =
      unless_room (no_place setup defrag move_reserve copy.units s.book) (Moves told digest (Some copy)) allowed
      (λ none ends. moves_room told digest copy live (place_there setup defrag move_reserve copy.units s.book none) ends)

  begin_room : (b : Bool) → MatchBool b (Only event (raid_numbered None)) ((event.answer ≡ raid_numbered (Some (s.raid.number + 1))) × (event.steps ≡ raid_begun ∷ [])) → IsRoomy
  begin_room true is = none_steps [] is.1 tt
  begin_room false is = none_steps (raid_begun ∷ []) is.1 (refl, tt)

  turn_ends : (told : Bool) (turn : Turn) (now : ℕ) → TurnEnds setup told s event turn now → IsRoomy
  turn_ends told (mark_turn part) now is = none_steps (marked_part part now ∷ []) is.1 (refl, tt)
  turn_ends told (scan_turn block) now (inl is) = none_steps (scanned_block is.1 ∷ []) is.2 (refl, tt)
  turn_ends told (scan_turn block) now (inr (inl damage)) = none_steps (raid_given_up ∷ []) damage.2 (refl, tt)
  turn_ends told (scan_turn block) now (inr (inr (inl fails))) = none_steps (raid_given_up ∷ []) fails.1 (refl, tt)
  turn_ends told (scan_turn block) now (inr (inr (inr memory))) = none_steps (raid_given_up ∷ []) memory.1 (refl, tt)
  turn_ends told (apply_turn part) now is = none_steps (compared_part part ∷ []) is.1 (refl, tt)
  turn_ends told (drop_turn part) now is = none_steps (drop_steps setup part s) is.1
      (both_none (map (drop_step s) (marked_in setup part s)) (done_part part ∷ []) (drops_none s (marked_in setup part s)) (refl, tt))
  turn_ends told finished now is = none_steps [] is.1 tt

  turn_room : (told : Bool) (number : ℕ) (turn : Turn) (now : ℕ) (b : Bool) → MatchBool b (TurnEnds setup told s event turn now) (Only event (refused (stale s.raid.number s.raid.next))) → IsRoomy
  turn_room told number turn now true is = turn_ends told turn now is
  turn_room told number turn now false is = none_steps [] is.1 tt

  -- A legal event has room for each copy that it places.
  pub legal_room : (told : Bool) (call : Call) → Allowed setup told s event call → HasRoomThrough setup event.steps s
  legal_room told (put_call digest ttl expect payload now) is = put_room digest ttl expect payload now is
  legal_room told (bury_call digest now) is = entombs_room digest now stamp_given is
  legal_room told (delete_call digest now) is = delete_room digest now (seen s now digest) is
  legal_room told (expire_call digest now) is = expire_room digest now (entry_passes (is_expired_put now) (entry s digest)) is
  legal_room told (get_call digest now) is = get_room told digest now is
  legal_room told flush_call is =
      let after = after_steps setup (seal_all s.book) s in flush_room (seal_all s.book) (flush_all after.book) (seal_all_none s.book) (flushes_none after.book.buffers) is
  legal_room told flush_sealed_call is =
      let after = after_steps setup (seal_low setup s.book) s in flush_room (seal_low setup s.book) (flush_all after.book) (seal_low_none setup s.book) (flushes_none after.book.buffers) is
  legal_room told flush_next_call is =
      let after = after_steps setup (seal_low setup s.book) s in flush_room (seal_low setup s.book) (flush_first after.book) (seal_low_none setup s.book) (first_none after.book.buffers) is
  legal_room told heal_call is = heal_room told is
  legal_room told choose_call is = choose_room told is
  legal_room told (move_call digest block) is = move_at told digest block (live_of digest s.book.live) refl (is_in_block block (live_of digest s.book.live)) refl is
  legal_room told begin_call is = begin_room (nat_le top_number s.raid.number) is
  legal_room told (turn_call number turn now) is = turn_room told number turn now ((number == s.raid.number) && same_turn turn s.raid.next) is

-- ---- the book through steps

pub steps_booked : (setup : Setup) (steps : List Step) (s : State) → HasRoomThrough setup steps s → IsBooked s.book → IsBooked (after_steps setup steps s).book
steps_booked setup [] s room booked = booked
steps_booked setup (step ∷ steps) s room booked = steps_booked setup steps (after_step setup step s) room.1 (step_booked setup s booked step room.0)

-- After a legal event the book is one as before.
pub event_booked : (setup : Setup) (told : Bool) (s : State) (faults : ℕ) (event : Event) → Follows setup told s faults event → IsBooked s.book → IsBooked (after_event setup event s).book
event_booked setup told s faults event follows booked = steps_booked setup event.steps s (legal_room setup s event told event.call follows.allowed) booked

-- and after a legal run
pub run_booked : (setup : Setup) (told : Bool) (events : List Event) (s : State) (faults : ℕ) → IsLegal setup told s faults events → IsBooked s.book → IsBooked (after_events setup events s).book
run_booked setup told [] s faults legal booked = booked
run_booked setup told (event ∷ events) s faults legal booked =
    run_booked setup told events (after_event setup event s) event.faults_after legal.1 (event_booked setup told s faults event legal.0 booked)
