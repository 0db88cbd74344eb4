-- What an event leaves that is refused.
use Rattle.std.proofs.Common.{◌≡◌, ◌⊎◌, ℕ, ◌+◌, Bool, true, false, List, [], ◌∷◌, ◌++◌, refl, sym, ap, ◌∙◌, subst, inl, inr}
use Rattle.std.specs.Prelude.{Option, Some, None, MatchBool, MatchOption, ◌&&◌, ◌==◌, nat_le}
use Rattle.rec_format.specs.declared.version.Digest.{Digest}
use Rattle.rec_format.specs.declared.version.Stamp.{Stamp}
use Rattle.rec_format.specs.declared.version.Version.{Version}
use Rattle.rec_format.specs.Versions.{version_units, a_tombstone, is_expired_put, top_number}
use Rattle.model_device.specs.Book.{Setup, Book, client, defrag, has_room, live_of, placing_number}
use Rattle.model_device.specs.Device.{State, Turn, mark_turn, scan_turn, apply_turn, drop_turn, finished, entry, entry_is_covered, entry_passes, next_stamp_of, seen}
use Rattle.model_device.specs.Steps.{Step, wrote, moved, removed, closing_failed, raid_begun, raid_given_up, after_step, after_steps}
use Rattle.model_device.specs.Events.{Event, Call, put_call, bury_call, delete_call, expire_call, get_call, flush_call, flush_sealed_call, flush_next_call, heal_call, choose_call, move_call, begin_call, turn_call}
use Rattle.model_device.specs.Events.{Cause, damaged, no_memory, disk_fault, stale, Answer, stamp_given, happened, found_version, counted, block_chosen, raid_numbered, marks_made, block_scanned, marks_undone, part_ended, raid_over, refused, after_event}
use Rattle.model_device.specs.Legal.{Allowed, Only, Unless, NoMemory, WriteEnds, Entombs, Removes, FlushEnds, DamageFound, DiskFails, WhereReads, TurnEnds, same_turn, StopsIn, commit_seal, commit_flush, IsLegal}
use Rattle.model_device.specs.Legal.{no_write, no_place, the_stamp, tombstone_reserve, move_reserve, put_refusal, new_put, seal_all, seal_low, flush_all, flush_first, queue_front, is_in_block, live_units}
use Rattle.model_device.specs.Passes.{cause_of}
use Rattle.law_refused.specs.Refusals.{Passes, GivesUp, Stops, StaysUnflushed, RaidLeaves, WriteLeaves, FaultLeaves, Leaves, RefusedLeaves, EachLeaves}
use Rattle.law_refused.proofs.Causes.{AreOfState, of_state_leaves, place_of_state, write_of_state, put_of_state}

-- ---- answers

-- an answer that was given for a cause was given for no other
pub same_cause : (answer : Answer) (one other : Cause) → answer ≡ refused one → answer ≡ refused other → one ≡ other
same_cause answer one other is also = let causes : Some one ≡ Some other = ap cause_of (sym is ∙ also) in cc

not_refused : {P : Type 0} (answer given : Answer) (cause : Cause) → cause_of given ≡ None → answer ≡ given → answer ≡ refused cause → P
not_refused answer given cause none is also = let clash : None ≡ Some cause = sym none ∙ ap cause_of (sym is ∙ also) in absurd (cc)

-- ---- states

passed : (setup : Setup) (s : State) (steps : List Step) → steps ≡ closing_failed ∷ [] → Passes s (after_steps setup steps s)
unfolding after_step
passed setup s steps is = ap (λ (l : List Step). after_steps setup l s) is

given_up : (setup : Setup) (s : State) (steps : List Step) → steps ≡ raid_given_up ∷ [] → GivesUp s (after_steps setup steps s)
unfolding after_step
given_up setup s steps is = ap (λ (l : List Step). after_steps setup l s) is

-- ---- one event, refused for a cause

module _ (setup : Setup) (told : Bool) (s : State) (event : Event) (cause : Cause) (is : event.answer ≡ refused cause) where
  abbrev after : State
  after = after_event setup event s

  same : event.steps ≡ [] → after ≡ s
  same none = ap (λ (l : List Step). after_steps setup l s) none

  -- for what leaves nothing, where the cause is this one
  for : (call : Call) (other : Cause) → event.answer ≡ refused other → Leaves setup call other s after → Leaves setup call cause s after
  for call other also leaves = subst (λ (c : Cause). Leaves setup call c s after) (same_cause event.answer other cause also is) leaves

  given : {P : Type 0} (answer : Answer) → cause_of answer ≡ None → event.answer ≡ answer → P
  given answer none also = not_refused event.answer answer cause none also is

  -- ---- writes

  -- where the commit failed
  unflushed : (digest : Digest) (v : Version) (some : List Step) (commit : Bool) → setup.commit ≡ commit
      → let seal : List Step = commit_seal (record setup { commit = commit }) in
      let first : List Step = wrote digest v ∷ seal in
      event.steps ≡ first ++ some
      → StopsIn (commit_flush (record setup { commit = commit }) (placing_number setup client (version_units v) s.book) (after_steps setup first s)) some → StaysUnflushed setup digest s after
  unflushed digest v some true on steps stops = record {
    commit = on;
    version = v;
    stops = record { some = some; after_is = ap (λ (l : List Step). after_steps setup l s) steps; stops = stops };
  }
  unflushed digest v some false off steps stops = never some stops.0 stops.1 stops.2
    where
      never : {P : Type 0} (xs : List Step) (x : Step) (ys : List Step) → [] ≡ xs ++ x ∷ ys → P
      never [] x ys clash = absurd (cc)
      never (y ∷ xs) x ys clash = absurd (cc)

  write_leaves : (call : Call) (digest : Digest) (v : Version) (ok : Answer) → cause_of ok ≡ None → (WriteLeaves setup digest s after → FaultLeaves setup call s after)
      → WriteEnds setup s event digest v ok → Leaves setup call cause s after
  write_leaves call digest v ok none leaves (inl made) = given ok none made.0
  write_leaves call digest v ok none leaves (inr fault) = for call disk_fault fault.0 (leaves (by fault.2))
    where
      by : ((has_room setup client (version_units v) s.book ≡ false) × (event.steps ≡ closing_failed ∷ []))
          ⊎ ((some : List Step) × (event.steps ≡ (wrote digest v ∷ commit_seal setup) ++ some)
          × StopsIn (commit_flush setup (placing_number setup client (version_units v) s.book) (after_steps setup (wrote digest v ∷ commit_seal setup) s)) some)
          → WriteLeaves setup digest s after
      by (inl closing) = inl (passed setup s event.steps closing.1)
      by (inr flushing) = inr (unflushed digest v flushing.0 setup.commit refl flushing.1 flushing.2)

  no_memory_leaves : (call : Call) → (after ≡ s → RaidLeaves call s after) → NoMemory event → Leaves setup call cause s after
  no_memory_leaves call leaves only = for call no_memory only.0 (leaves (same only.1))

  -- what stands against a call leaves all as it was
  unless_leaves : (call : Call) (why : Option Cause) (Rest : Type 0) → AreOfState why → (Rest → Leaves setup call cause s after) → Unless event why Rest → Leaves setup call cause s after
  unless_leaves call None Rest of leaves rest = leaves rest
  unless_leaves call (Some other) Rest of leaves only = for call other only.0 (of_state_leaves setup call other s after of (same only.1))

  entombs_leave : (call : Call) (digest : Digest) (now : ℕ) (ok : Stamp → Answer) → ((stamp : Stamp) → cause_of (ok stamp) ≡ None) → (after ≡ s → RaidLeaves call s after)
      → (WriteLeaves setup digest s after → FaultLeaves setup call s after) → Entombs setup s event digest now ok → Leaves setup call cause s after
  entombs_leave call digest now ok none rests leaves (inl only) = no_memory_leaves call rests only
  entombs_leave call digest now ok none rests leaves (inr unless) =
      let stamp : Option Stamp = next_stamp_of setup s now digest in
      let v : Version = a_tombstone (the_stamp stamp) in
      unless_leaves call (no_write setup tombstone_reserve (version_units v) stamp s) (WriteEnds setup s event digest v (ok (the_stamp stamp)))
      (write_of_state setup tombstone_reserve (version_units v) stamp s) (write_leaves call digest v (ok (the_stamp stamp)) (none (the_stamp stamp)) leaves) unless

  removes_leave : (call : Call) (digest : Digest) (now : ℕ) → (after ≡ s → RaidLeaves call s after) → (WriteLeaves setup digest s after → FaultLeaves setup call s after)
      → Removes setup s event digest now → Leaves setup call cause s after
  removes_leave call digest now rests leaves = by (entry_is_covered s digest)
    where
      by : (covered : Bool) → MatchBool covered (Entombs setup s event digest now (λ stamp. happened true)) ((event.answer ≡ happened true) × (event.steps ≡ removed digest ∷ []))
          → Leaves setup call cause s after
      by true entombs = entombs_leave call digest now (λ stamp. happened true) (λ stamp. refl) rests leaves entombs
      by false drops = given (happened true) refl drops.0

  put_leaves : (digest : Digest) (ttl : ℕ) (expect : Option ℕ) (payload : List ℕ) (now : ℕ) → Allowed setup told s event (put_call digest ttl expect payload now)
      → Leaves setup (put_call digest ttl expect payload now) cause s after
  put_leaves digest ttl expect payload now (inl only) = no_memory_leaves (put_call digest ttl expect payload now) (λ rests. rests) only
  put_leaves digest ttl expect payload now (inr unless) =
      let call : Call = put_call digest ttl expect payload now in
      let v : Version = new_put setup s digest ttl payload now in
      unless_leaves call (put_refusal setup s digest expect payload now) (WriteEnds setup s event digest v (stamp_given v.stamp))
      (put_of_state setup s digest expect payload now) (write_leaves call digest v (stamp_given v.stamp) refl (λ leaves. leaves)) unless

  delete_leaves : (digest : Digest) (now : ℕ) → Allowed setup told s event (delete_call digest now) → Leaves setup (delete_call digest now) cause s after
  delete_leaves digest now = by (seen s now digest)
    where
      by : (o : Option Version) → MatchOption o (Only event (happened false)) (λ v. Removes setup s event digest now) → Leaves setup (delete_call digest now) cause s after
      by None only = given (happened false) refl only.0
      by (Some v) removes = removes_leave (delete_call digest now) digest now (λ rests. rests) (λ leaves. leaves) removes

  expire_leaves : (digest : Digest) (now : ℕ) → Allowed setup told s event (expire_call digest now) → Leaves setup (expire_call digest now) cause s after
  expire_leaves digest now = by (entry_passes (is_expired_put now) (entry s digest))
    where
      by : (expired : Bool) → MatchBool expired (Removes setup s event digest now) (Only event (happened false)) → Leaves setup (expire_call digest now) cause s after
      by true removes = removes_leave (expire_call digest now) digest now (λ rests. rests) (λ leaves. leaves) removes
      by false only = given (happened false) refl only.0

  -- ---- reads

  damage_leaves : (call : Call) (steps : List Step) → (event.steps ≡ steps → RaidLeaves call s after) → DamageFound told event steps → Leaves setup call cause s after
  damage_leaves call steps leaves found = for call damaged found.1 (leaves found.2)

  fault_leaves : (call : Call) (steps : List Step) → (event.steps ≡ steps → FaultLeaves setup call s after) → DiskFails event steps → Leaves setup call cause s after
  fault_leaves call steps leaves fails = for call disk_fault fails.0 (leaves fails.1)

  reads_leave : {A : Type 0} (call : Call) (o : Option A) → (after ≡ s → RaidLeaves call s after) → (after ≡ s → FaultLeaves setup call s after) → WhereReads told event o
      → Leaves setup call cause s after
  reads_leave call None rests leaves reads = absurd reads
  reads_leave call (Some what) rests leaves (inl found) = damage_leaves call [] (λ none. rests (same none)) found
  reads_leave call (Some what) rests leaves (inr fails) = fault_leaves call [] (λ none. leaves (same none)) fails

  get_leaves : (digest : Digest) (now : ℕ) → Allowed setup told s event (get_call digest now) → Leaves setup (get_call digest now) cause s after
  get_leaves digest now (inl read) = given (found_version read.0) refl read.1
  get_leaves digest now (inr (inl only)) = no_memory_leaves (get_call digest now) (λ rests. rests) only
  get_leaves digest now (inr (inr reads)) = reads_leave (get_call digest now) (seen s now digest) (λ rests. rests) (λ rests. rests) reads

  choose_leaves : Allowed setup told s event choose_call → Leaves setup choose_call cause s after
  choose_leaves (inl only) = given (block_chosen (queue_front s.book.queue)) refl only.0
  choose_leaves (inr reads) = reads_leave choose_call (queue_front s.book.queue) (λ rests. rests) (λ rests. rests) reads

  -- ---- flushes, healing and moves

  flush_leaves : (call : Call) (sealing : List Step) (flushing : Book → List Step) → (Stops setup sealing flushing s after → FaultLeaves setup call s after)
      → FlushEnds event sealing (flushing (after_steps setup sealing s).book) → Leaves setup call cause s after
  flush_leaves call sealing flushing leaves (inl done) = given (counted _) refl done.1
  flush_leaves call sealing flushing leaves (inr fault) =
      for call disk_fault fault.0 (leaves (record { some = fault.2; after_is = ap (λ (l : List Step). after_steps setup l s) fault.3; stops = fault.4 }))

  heal_leaves : Allowed setup told s event heal_call → Leaves setup heal_call cause s after
  heal_leaves (inl closed) = given (counted closed.0) refl closed.1
  heal_leaves (inr fails) = fault_leaves heal_call [] same fails

  abbrev MoveEnds : Digest → Type 0
  MoveEnds digest =
      ((event.answer ≡ happened true) × (event.steps ≡ moved digest ∷ []))
      ⊎ DamageFound told event []
      ⊎ DiskFails event []
      ⊎ ((has_room setup defrag (live_units (live_of digest s.book.live)) s.book ≡ false) × DiskFails event (closing_failed ∷ []))

  move_leaves : (digest : Digest) (block : ℕ) → Allowed setup told s event (move_call digest block) → Leaves setup (move_call digest block) cause s after
  move_leaves digest block = by (is_in_block block (live_of digest s.book.live))
    where
      ends : MoveEnds digest → Leaves setup (move_call digest block) cause s after
      ends (inl done) = given (happened true) refl done.0
      ends (inr (inl found)) = damage_leaves (move_call digest block) [] same found
      ends (inr (inr (inl fails))) = fault_leaves (move_call digest block) [] (λ none. inl (same none)) fails
      ends (inr (inr (inr closing))) = fault_leaves (move_call digest block) (closing_failed ∷ []) (λ steps. inr (passed setup s event.steps steps)) closing.1

      by : (here : Bool) → MatchBool here (NoMemory event ⊎ Unless event (no_place setup defrag move_reserve (live_units (live_of digest s.book.live)) s.book) (MoveEnds digest))
          (Only event (happened false)) → Leaves setup (move_call digest block) cause s after
      by true (inl only) = no_memory_leaves (move_call digest block) (λ rests. rests) only
      by true (inr unless) = unless_leaves (move_call digest block) (no_place setup defrag move_reserve (live_units (live_of digest s.book.live)) s.book) (MoveEnds digest)
          (place_of_state setup defrag move_reserve (live_units (live_of digest s.book.live)) s.book) ends unless
      by false only = given (happened false) refl only.0

  -- ---- raids

  begin_leaves : Allowed setup told s event begin_call → Leaves setup begin_call cause s after
  begin_leaves = by (nat_le top_number s.raid.number)
    where
      by : (last : Bool) → MatchBool last (Only event (raid_numbered None)) ((event.answer ≡ raid_numbered (Some (s.raid.number + 1))) × (event.steps ≡ raid_begun ∷ []))
          → Leaves setup begin_call cause s after
      by true only = given (raid_numbered None) refl only.0
      by false begun = given (raid_numbered (Some (s.raid.number + 1))) refl begun.0

  turn_ends_leave : (number : ℕ) (turn : Turn) (now : ℕ) → TurnEnds setup told s event turn now → Leaves setup (turn_call number turn now) cause s after
  turn_ends_leave number (mark_turn part) now ends = given (marks_made _) refl ends.0
  turn_ends_leave number (scan_turn block) now (inl scanned) = given (block_scanned block) refl scanned.0
  turn_ends_leave number (scan_turn block) now (inr (inl found)) =
      damage_leaves (turn_call number (scan_turn block) now) (raid_given_up ∷ []) (given_up setup s event.steps) found
  turn_ends_leave number (scan_turn block) now (inr (inr (inl fails))) =
      fault_leaves (turn_call number (scan_turn block) now) (raid_given_up ∷ []) (given_up setup s event.steps) fails
  turn_ends_leave number (scan_turn block) now (inr (inr (inr lacks))) = for (turn_call number (scan_turn block) now) no_memory lacks.0 (given_up setup s event.steps lacks.1)
  turn_ends_leave number (apply_turn part) now ends = given (marks_undone _) refl ends.0
  turn_ends_leave number (drop_turn part) now ends = given (part_ended _ _) refl ends.0
  turn_ends_leave number finished now only = given raid_over refl only.0

  turn_leaves : (number : ℕ) (turn : Turn) (now : ℕ) → Allowed setup told s event (turn_call number turn now) → Leaves setup (turn_call number turn now) cause s after
  turn_leaves number turn now = by ((number == s.raid.number) && same_turn turn s.raid.next)
    where
      by : (next : Bool) → MatchBool next (TurnEnds setup told s event turn now) (Only event (refused (stale s.raid.number s.raid.next))) → Leaves setup (turn_call number turn now) cause s after
      by true ends = turn_ends_leave number turn now ends
      by false only = for (turn_call number turn now) (stale s.raid.number s.raid.next) only.0 (same only.1)

  -- whatever the call
  pub leaves : (call : Call) → Allowed setup told s event call → Leaves setup call cause s after
  leaves (put_call digest ttl expect payload now) allowed = put_leaves digest ttl expect payload now allowed
  leaves (bury_call digest now) allowed = entombs_leave (bury_call digest now) digest now stamp_given (λ stamp. refl) (λ rests. rests) (λ written. written) allowed
  leaves (delete_call digest now) allowed = delete_leaves digest now allowed
  leaves (expire_call digest now) allowed = expire_leaves digest now allowed
  leaves (get_call digest now) allowed = get_leaves digest now allowed
  leaves flush_call allowed = flush_leaves flush_call (seal_all s.book) flush_all (λ stops. stops) allowed
  leaves flush_sealed_call allowed = flush_leaves flush_sealed_call (seal_low setup s.book) flush_all (λ stops. stops) allowed
  leaves flush_next_call allowed = flush_leaves flush_next_call (seal_low setup s.book) flush_first (λ stops. stops) allowed
  leaves heal_call allowed = heal_leaves allowed
  leaves choose_call allowed = choose_leaves allowed
  leaves (move_call digest block) allowed = move_leaves digest block allowed
  leaves begin_call allowed = begin_leaves allowed
  leaves (turn_call number turn now) allowed = turn_leaves number turn now allowed

-- ---- events

pub refused_leaves : (setup : Setup) (told : Bool) (s : State) (event : Event) → Allowed setup told s event event.call → RefusedLeaves setup s event
refused_leaves setup told s event allowed cause is = leaves setup told s event cause is event.call allowed

pub each_leaves : (setup : Setup) (told : Bool) (s : State) (faults : ℕ) (events : List Event) → IsLegal setup told s faults events → EachLeaves setup s events
each_leaves setup told s faults [] legal = tt
each_leaves setup told s faults (event ∷ events) legal =
    (refused_leaves setup told s event legal.0.allowed, each_leaves setup told (after_event setup event s) event.faults_after events legal.1)
