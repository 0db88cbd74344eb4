-- The steps that a legal event makes; one that doesn't name a part leaves it alone, so its sprig fits on.
use Rattle.std.proofs.Common.{◌≡◌, ◌≢◌, ◌⊎◌, inl, inr, ⊎_elim, ℕ, ◌+◌, Bool, true, false, cond, ◌&&◌, List, [], ◌∷◌, ◌++◌, map, refl, sym, ◌∙◌, ap, subst}
use Rattle.std.specs.Prelude.{Option, Some, None, MatchBool, MatchOption, ◌==◌, flat_map, filter, nat_le, is_some, option_map}
use Rattle.std.specs.List.{AllByRecursion}
use Rattle.std.proofs.lemmas.Bool.{and_parts, cond_both, or_right, eqb-true, leb-false, false≢true}
use Rattle.law_lists.proofs.Each.{all_joined}
use Rattle.rec_format.specs.declared.version.Digest.{Digest}
use Rattle.rec_format.specs.declared.version.Stamp.{Stamp}
use Rattle.rec_format.specs.declared.version.Version.{Version}
use Rattle.rec_format.specs.Places.{same_digest}
use Rattle.rec_format.specs.Versions.{version_units, a_tombstone, is_tombstone, is_expired_put, top_number}
use Rattle.model_device.specs.Book.{Setup, Buffer, Stream, client, defrag, Phase, filling, sealed, opening, has_room, Live, live_of, placing_number, is_filling, filling_buffer}
use Rattle.model_device.specs.Device.{State, Turn, mark_turn, scan_turn, apply_turn, drop_turn, finished, entry, entry_is_covered, entry_passes, seen, next_stamp_of, part_of, digests_of as logged}
use Rattle.model_device.specs.Steps.{Step, wrote, moved, removed, rid_of, uncovered, sealed_stream, gate_begun, flushed_buffer, closing_failed, raid_begun}
use Rattle.model_device.specs.Steps.{raid_given_up, marked_part, scanned_block, compared_part, done_part, after_step, after_steps}
use Rattle.model_device.specs.Events.{Call, put_call, bury_call, delete_call, expire_call, get_call, flush_call, flush_sealed_call, flush_next_call, heal_call}
use Rattle.model_device.specs.Events.{choose_call, move_call, begin_call, turn_call, Cause, Answer, stamp_given, happened, raid_numbered, refused, stale, Event}
use Rattle.model_device.specs.Events.{after_event}
use Rattle.model_device.specs.Passes
use Rattle.model_device.specs.Legal
use Rattle.sprig_tree.specs.State.{SprigState}
use Rattle.law_start.proofs.Turns.{same_turn_is}
use Rattle.law_sprig.specs.Fits.{FitsPart}
use Rattle.law_sprig.specs.Sparing.{Spares, AllSpare, is_of_book, AreOfBook}
use Rattle.law_sprig.specs.Tests.{has_digest}
use Rattle.law_sprig.specs.Making.{digest_named, IsStepOf, AreStepsOf}
use Rattle.law_sprig.proofs.Ordered.{first_among}
use Rattle.law_sprig.proofs.Spared.{all_spared}

-- ---- steps that name no part, and ask nothing

book_step : (setup : Setup) (first : State) (call : Call) (s : State) (step : Step) → is_of_book step ≡ true → IsStepOf setup first call s step
book_step setup first call s (wrote digest v) is = absurd (false≢true is)
book_step setup first call s (moved digest) is = absurd (false≢true is)
book_step setup first call s (removed digest) is = absurd (false≢true is)
book_step setup first call s (rid_of digest) is = absurd (false≢true is)
book_step setup first call s (uncovered digest) is = absurd (false≢true is)
book_step setup first call s (sealed_stream stream) is = tt
book_step setup first call s (gate_begun number) is = tt
book_step setup first call s (flushed_buffer number) is = tt
book_step setup first call s closing_failed is = tt
book_step setup first call s raid_begun is = absurd (false≢true is)
book_step setup first call s raid_given_up is = tt
book_step setup first call s (marked_part p now) is = absurd (false≢true is)
book_step setup first call s (scanned_block copies) is = absurd (false≢true is)
book_step setup first call s (compared_part p) is = absurd (false≢true is)
book_step setup first call s (done_part p) is = absurd (false≢true is)

all_book : (setup : Setup) (first : State) (call : Call) (s : State) (steps : List Step) → AreOfBook steps → AreStepsOf setup first call s steps
all_book setup first call s [] are = tt
all_book setup first call s (step ∷ steps) are = (book_step setup first call s step are.0, all_book setup first call (after_step setup step s) steps are.1)

-- ---- sealing and flushing

pub joined : (xs ys : List Step) → AreOfBook xs → AreOfBook ys → AreOfBook (xs ++ ys)
joined xs ys first second = all_joined (λ step. is_of_book step ≡ true) xs ys first second

seal_of_book : (chosen : Bool) (stream : Stream) → AreOfBook (Legal.seal_if chosen stream)
seal_of_book true stream = (refl, tt)
seal_of_book false stream = tt

front_of_book : (steps rest : List Step) → AreOfBook (steps ++ rest) → AreOfBook steps
front_of_book [] rest are = tt
front_of_book (step ∷ steps) rest are = (are.0, front_of_book steps rest are.1)

pub stopped_of_book : (whole steps : List Step) → Legal.StopsIn whole steps → AreOfBook whole → AreOfBook steps
stopped_of_book whole steps stops are = front_of_book steps (stops.0 ∷ stops.1) (subst AreOfBook stops.2 are)

pub flush_of_book : (b : Buffer) → AreOfBook (Legal.flush_of b)
flush_of_book b = by b.phase
  where
    by : (p : Phase) → AreOfBook (Legal.flush_of (record b { phase = p }))
    by filling = tt
    by sealed = (refl, (refl, tt))
    by opening = (refl, tt)

pub each_of_book : (buffers : List Buffer) → AreOfBook (flat_map Legal.flush_of buffers)
each_of_book [] = tt
each_of_book (b ∷ buffers) = joined (Legal.flush_of b) (flat_map Legal.flush_of buffers) (flush_of_book b) (each_of_book buffers)

pub first_of_book : (buffers : List Buffer) → AreOfBook (Legal.first_sealed buffers)
first_of_book [] = tt
first_of_book (b ∷ buffers) = by (is_filling b.phase) (first_of_book buffers)
  where
    by : (c : Bool) → AreOfBook (Legal.first_sealed buffers) → AreOfBook (cond c (Legal.first_sealed buffers) (Legal.flush_of b))
    by true rest = rest
    by false rest = flush_of_book b

pub both_seals : (a b : Bool) → AreOfBook (Legal.seal_if a client ++ Legal.seal_if b defrag)
both_seals a b = joined (Legal.seal_if a client) (Legal.seal_if b defrag) (seal_of_book a client) (seal_of_book b defrag)

pub flush_ends : (event : Event) (first rest : List Step) → AreOfBook first → AreOfBook rest → Legal.FlushEnds event first rest → AreOfBook event.steps
flush_ends event first rest front behind (inl done) = subst AreOfBook (sym done.0) (joined first rest front behind)
flush_ends event first rest front behind (inr failed) = subst AreOfBook (sym failed.3) (joined first failed.2 front (stopped_of_book rest failed.2 failed.4 behind))

pub commit_of_book : (setup : Setup) → AreOfBook (Legal.commit_seal setup)
commit_of_book setup = by setup.commit
  where
    by : (c : Bool) → AreOfBook (cond c (sealed_stream client ∷ []) [])
    by true = (refl, tt)
    by false = tt

pub commit_flush_of_book : (setup : Setup) (number : ℕ) (s : State) → AreOfBook (Legal.commit_flush setup number s)
commit_flush_of_book setup number s = by setup.commit
  where
    by : (c : Bool) → AreOfBook (cond c (Legal.flush_between 0 number s.book) [])
    by true = each_of_book (filter (λ b. nat_le 0 b.number && nat_le b.number number) s.book.buffers)
    by false = tt

-- ---- raids

-- those that pass a test are of the part
pub all_of_part : (setup : Setup) (other : ℕ) (test : Digest → Bool) (xs : List Digest) → AllByRecursion (λ d. part_of setup d ≡ other) (filter (λ d. (part_of setup d == other) && test d) xs)
all_of_part setup other test [] = tt
all_of_part setup other test (x ∷ xs) = by (part_of setup x == other) refl (test x) (all_of_part setup other test xs)
  where
    inner : List Digest
    inner = filter (λ d. (part_of setup d == other) && test d) xs

    by : (a : Bool) → (part_of setup x == other) ≡ a → (b : Bool) → AllByRecursion (λ d. part_of setup d ≡ other) inner
        → AllByRecursion (λ d. part_of setup d ≡ other) (cond (a && b) (x ∷ inner) inner)
    by true is true rest = (eqb-true (part_of setup x) other is, rest)
    by true is false rest = rest
    by false is b rest = rest

all_logged : (setup : Setup) (other : ℕ) (test : Digest → Bool) (s : State)
    → AllByRecursion (λ d. has_digest (logged s.log) d ≡ true) (filter (λ d. (part_of setup d == other) && test d) (logged s.log))
all_logged setup other test s = each (logged s.log) (λ d there. there)
  where
    each : (xs : List Digest) → ((d : Digest) → has_digest xs d ≡ true → has_digest (logged s.log) d ≡ true)
        → AllByRecursion (λ d. has_digest (logged s.log) d ≡ true) (filter (λ d. (part_of setup d == other) && test d) xs)
    each [] there = tt
    each (x ∷ xs) there =
        cond_both ((part_of setup x == other) && test x) (x ∷ filter (λ d. (part_of setup d == other) && test d) xs) (filter (λ d. (part_of setup d == other) && test d) xs)
        (AllByRecursion (λ d. has_digest (logged s.log) d ≡ true))
        (λ _. (there x (first_among x xs), each xs (λ d more. there d (or_right (same_digest d x) (has_digest xs d) more))))
        (λ _. each xs (λ d more. there d (or_right (same_digest d x) (has_digest xs d) more)))

-- the marked entries of a part go, and then that part is done
drops_are : (setup : Setup) (first : State) (call : Call) (part : ℕ) → Passes.part_named setup call ≡ Some part → digest_named call ≡ None → (t : State) (digests : List Digest)
    → t.raid.next ≡ drop_turn part
    → AllByRecursion (λ d. part_of setup d ≡ part) digests → AllByRecursion (λ d. has_digest (logged first.log) d ≡ true) digests
    → AreStepsOf setup first call t (map (Legal.drop_step first) digests ++ done_part part ∷ [])
unfolding after_step
drops_are setup first call part names alone t [] at all there = ((names, at), tt)
drops_are setup first call part names alone t (d ∷ digests) at all there =
    by (entry_passes is_tombstone (entry first d)) (λ next still. drops_are setup first call part names alone next digests still all.1 there.1)
  where
    mine : (Passes.part_named setup call ≡ Some (part_of setup d)) × (has_digest (logged first.log) d ≡ true) × (digest_named call ≡ None)
    mine = (names ∙ ap Some (sym all.0), there.0, alone)

    rest : List Step
    rest = map (Legal.drop_step first) digests ++ done_part part ∷ []

    by : (b : Bool) → ((next : State) → next.raid.next ≡ drop_turn part → AreStepsOf setup first call next rest) → AreStepsOf setup first call t (cond b (rid_of d) (uncovered d) ∷ rest)
    by true go = (mine, go (after_step setup (rid_of d) t) at)
    by false go = (mine, go (after_step setup (uncovered d) t) at)

-- ---- one event

module _ (setup : Setup) (told : Bool) (s : State) (event : Event) (call : Call) where
  abbrev Made : Type 0
  Made = AreStepsOf setup s call s event.steps

  by_book : AreOfBook event.steps → Made
  by_book are = all_book setup s call s event.steps are

  no_steps : event.steps ≡ [] → Made
  no_steps none = subst (AreStepsOf setup s call s) (sym none) tt

  only : (answer : Answer) → Legal.Only event answer → Made
  only answer is = no_steps is.1

  unless : (cause : Option Cause) (Rest : Type 0) → (Rest → Made) → Legal.Unless event cause Rest → Made
  unless None Rest next rest = next rest
  unless (Some cause) Rest next is = no_steps is.1

  where_reads : {A : Type 0} (what : Option A) → Legal.WhereReads told event what → Made
  where_reads None never = absurd never
  where_reads (Some what) (inl damaged) = no_steps damaged.2
  where_reads (Some what) (inr fails) = no_steps fails.1

  write_ends : (digest : Digest) (v : Version) (ok : Answer) → digest_named call ≡ Some digest → Legal.WriteEnds setup s event digest v ok → Made
  write_ends digest v ok names ends = by ends
    where
      first : List Step
      first = Legal.commit_seal setup

      rest : List Step
      rest = Legal.commit_flush setup (placing_number setup client (version_units v) s.book) (after_steps setup (wrote digest v ∷ first) s)

      rest_of_book : AreOfBook rest
      rest_of_book = commit_flush_of_book setup (placing_number setup client (version_units v) s.book) (after_steps setup (wrote digest v ∷ first) s)

      written : (more : List Step) → AreOfBook more → event.steps ≡ wrote digest v ∷ (first ++ more) → Made
      written more are e = subst (AreStepsOf setup s call s) (sym e) (names, all_book setup s call (after_step setup (wrote digest v) s) (first ++ more) (joined first more (commit_of_book setup) are))

      by : Legal.WriteEnds setup s event digest v ok → Made
      by (inl done) = written rest rest_of_book done.1
      by (inr failed) = ⊎_elim (λ closing. by_book (subst AreOfBook (sym closing.1) (refl, tt))) (λ stops. written stops.0 (stopped_of_book rest stops.0 stops.2 rest_of_book) stops.1) failed.2

  entombs : (digest : Digest) (now : ℕ) (ok : Stamp → Answer) → digest_named call ≡ Some digest → Legal.Entombs setup s event digest now ok → Made
  entombs digest now ok names (inl memory) = no_steps memory.1
  entombs digest now ok names (inr rest) =
      let stamp = next_stamp_of setup s now digest in
      let v = a_tombstone (Legal.the_stamp stamp) in
      unless (Legal.no_write setup Legal.tombstone_reserve (version_units v) stamp s) (Legal.WriteEnds setup s event digest v (ok (Legal.the_stamp stamp)))
      (λ ends. write_ends digest v (ok (Legal.the_stamp stamp)) names ends) rest

  removes : (digest : Digest) (now : ℕ) → digest_named call ≡ Some digest → Legal.Removes setup s event digest now → Made
  removes digest now names ends = by (entry_is_covered s digest) ends
    where
      by : (b : Bool) → MatchBool b (Legal.Entombs setup s event digest now (λ stamp. happened true)) ((event.answer ≡ happened true) × (event.steps ≡ removed digest ∷ [])) → Made
      by true ends = entombs digest now (λ stamp. happened true) names ends
      by false ends = subst (AreStepsOf setup s call s) (sym ends.1) (names, tt)

  -- a turn of the raid, which is next
  turn_ends : (turn : Turn) (now : ℕ) → s.raid.next ≡ turn → Passes.part_named setup call ≡ Passes.turn_part turn → digest_named call ≡ None → Legal.TurnEnds setup told s event turn now → Made
  turn_ends (mark_turn part) now at names alone ends = subst (AreStepsOf setup s call s) (sym ends.1) ((names, at), tt)
  turn_ends (scan_turn block) now at names alone (inl done) = subst (AreStepsOf setup s call s) (sym done.2) ((block, at), tt)
  turn_ends (scan_turn block) now at names alone (inr (inl damaged)) = by_book (subst AreOfBook (sym damaged.2) (refl, tt))
  turn_ends (scan_turn block) now at names alone (inr (inr (inl fails))) = by_book (subst AreOfBook (sym fails.1) (refl, tt))
  turn_ends (scan_turn block) now at names alone (inr (inr (inr memory))) = by_book (subst AreOfBook (sym memory.1) (refl, tt))
  turn_ends (apply_turn part) now at names alone ends = subst (AreStepsOf setup s call s) (sym ends.1) ((names, at), tt)
  turn_ends (drop_turn part) now at names alone ends =
      subst (AreStepsOf setup s call s) (sym ends.1)
      (drops_are setup s call part names alone s (Legal.marked_in setup part s) at (all_of_part setup part (has_digest s.raid.marked) (logged s.log))
      (all_logged setup part (has_digest s.raid.marked) s))
  turn_ends finished now at names alone is = no_steps is.1

  turns : (number : ℕ) (turn : Turn) (now : ℕ) → Passes.part_named setup call ≡ Passes.turn_part turn → digest_named call ≡ None → Legal.Allowed setup told s event (turn_call number turn now) → Made
  turns number turn now names alone ends = by ((number == s.raid.number) && Legal.same_turn turn s.raid.next) refl ends
    where
      by : (b : Bool) → ((number == s.raid.number) && Legal.same_turn turn s.raid.next) ≡ b
          → MatchBool b (Legal.TurnEnds setup told s event turn now) (Legal.Only event (refused (stale s.raid.number s.raid.next))) → Made
      by true is ends = turn_ends turn now (same_turn_is turn s.raid.next (and_parts (number == s.raid.number) (Legal.same_turn turn s.raid.next) is).1) names alone ends
      by false is ends = no_steps ends.1

  begins : Legal.Allowed setup told s event begin_call → Made
  begins ends = by (nat_le top_number s.raid.number) refl ends
    where
      by : (b : Bool) → nat_le top_number s.raid.number ≡ b
          → MatchBool b (Legal.Only event (raid_numbered None)) ((event.answer ≡ raid_numbered (Some (s.raid.number + 1))) × (event.steps ≡ raid_begun ∷ [])) → Made
      by true is ends = no_steps ends.1
      by false is ends = subst (AreStepsOf setup s call s) (sym ends.1) (leb-false top_number s.raid.number is, tt)

  moves : (digest : Digest) (block : ℕ) → digest_named call ≡ Some digest → Legal.Allowed setup told s event (move_call digest block) → Made
  moves digest block names ends = by (Legal.is_in_block block copy) ends
    where
      copy : Option Live
      copy = live_of digest s.book.live

      Ends : Type 0
      Ends = ((event.answer ≡ happened true) × (event.steps ≡ moved digest ∷ []))
          ⊎ Legal.DamageFound told event []
          ⊎ Legal.DiskFails event []
          ⊎ ((has_room setup defrag (Legal.live_units copy) s.book ≡ false) × Legal.DiskFails event (closing_failed ∷ []))

      made : Ends → Made
      made (inl done) = subst (AreStepsOf setup s call s) (sym done.1) (names, tt)
      made (inr (inl damaged)) = no_steps damaged.2
      made (inr (inr (inl fails))) = no_steps fails.1
      made (inr (inr (inr closing))) = by_book (subst AreOfBook (sym closing.1.1) (refl, tt))

      by : (b : Bool) → MatchBool b (Legal.NoMemory event ⊎ Legal.Unless event (Legal.no_place setup defrag Legal.move_reserve (Legal.live_units copy) s.book) Ends)
          (Legal.Only event (happened false)) → Made
      by true ends = ⊎_elim (λ (memory : Legal.NoMemory event). no_steps memory.1) (unless (Legal.no_place setup defrag Legal.move_reserve (Legal.live_units copy) s.book) Ends made) ends
      by false ends = no_steps ends.1

  puts : (digest : Digest) (ttl : ℕ) (expect : Option ℕ) (payload : List ℕ) (now : ℕ) → digest_named call ≡ Some digest
      → Legal.Allowed setup told s event (put_call digest ttl expect payload now) → Made
  puts digest ttl expect payload now names (inl memory) = no_steps memory.1
  puts digest ttl expect payload now names (inr rest) =
      let v = Legal.new_put setup s digest ttl payload now in
      unless (Legal.put_refusal setup s digest expect payload now) (Legal.WriteEnds setup s event digest v (stamp_given v.stamp)) (λ ends. write_ends digest v (stamp_given v.stamp) names ends) rest

  deletes : (digest : Digest) (now : ℕ) → digest_named call ≡ Some digest → Legal.Allowed setup told s event (delete_call digest now) → Made
  deletes digest now names ends = by (seen s now digest) ends
    where
      by : (o : Option Version) → MatchOption o (Legal.Only event (happened false)) (λ v. Legal.Removes setup s event digest now) → Made
      by None is = no_steps is.1
      by (Some v) is = removes digest now names is

  expires : (digest : Digest) (now : ℕ) → digest_named call ≡ Some digest → Legal.Allowed setup told s event (expire_call digest now) → Made
  expires digest now names ends = by (entry_passes (is_expired_put now) (entry s digest)) ends
    where
      by : (b : Bool) → MatchBool b (Legal.Removes setup s event digest now) (Legal.Only event (happened false)) → Made
      by true is = removes digest now names is
      by false is = no_steps is.1

  gets : (digest : Digest) (now : ℕ) → Legal.Allowed setup told s event (get_call digest now) → Made
  gets digest now (inl read) = no_steps read.2
  gets digest now (inr (inl memory)) = no_steps memory.1
  gets digest now (inr (inr fails)) = where_reads (seen s now digest) fails

  flushes : Legal.Allowed setup told s event flush_call → Made
  flushes ends =
      by_book (flush_ends event (Legal.seal_all s.book) _ (both_seals (is_some (filling_buffer client s.book.buffers)) (is_some (filling_buffer defrag s.book.buffers)))
      (each_of_book (after_steps setup (Legal.seal_all s.book) s).book.buffers) ends)

  flushes_sealed : Legal.Allowed setup told s event flush_sealed_call → Made
  flushes_sealed ends = by_book (flush_ends event (Legal.seal_low setup s.book) _ (both_seals _ _) (each_of_book (after_steps setup (Legal.seal_low setup s.book) s).book.buffers) ends)

  flushes_next : Legal.Allowed setup told s event flush_next_call → Made
  flushes_next ends = by_book (flush_ends event (Legal.seal_low setup s.book) _ (both_seals _ _) (first_of_book (after_steps setup (Legal.seal_low setup s.book) s).book.buffers) ends)

  heals : Legal.Allowed setup told s event heal_call → Made
  heals (inl is) = no_steps is.2
  heals (inr fails) = no_steps fails.1

  chooses : Legal.Allowed setup told s event choose_call → Made
  chooses (inl is) = no_steps is.1
  chooses (inr fails) = where_reads (Legal.queue_front s.book.queue) fails

-- The steps of a legal event are those of its call.
pub steps_are : (setup : Setup) (told : Bool) (s : State) (event : Event) (call : Call) → Legal.Allowed setup told s event call → AreStepsOf setup s call s event.steps
steps_are setup told s event (put_call digest ttl expect payload now) ends = puts setup told s event (put_call digest ttl expect payload now) digest ttl expect payload now refl ends
steps_are setup told s event (bury_call digest now) ends = entombs setup told s event (bury_call digest now) digest now stamp_given refl ends
steps_are setup told s event (delete_call digest now) ends = deletes setup told s event (delete_call digest now) digest now refl ends
steps_are setup told s event (expire_call digest now) ends = expires setup told s event (expire_call digest now) digest now refl ends
steps_are setup told s event (get_call digest now) ends = gets setup told s event (get_call digest now) digest now ends
steps_are setup told s event flush_call ends = flushes setup told s event flush_call ends
steps_are setup told s event flush_sealed_call ends = flushes_sealed setup told s event flush_sealed_call ends
steps_are setup told s event flush_next_call ends = flushes_next setup told s event flush_next_call ends
steps_are setup told s event heal_call ends = heals setup told s event heal_call ends
steps_are setup told s event choose_call ends = chooses setup told s event choose_call ends
steps_are setup told s event (move_call digest block) ends = moves setup told s event (move_call digest block) digest block refl ends
steps_are setup told s event begin_call ends = begins setup told s event begin_call ends
steps_are setup told s event (turn_call number turn now) ends = turns setup told s event (turn_call number turn now) number turn now refl refl ends

-- ---- a part that isn't named

-- the call that names a digest names its part
pub names_part : (setup : Setup) (call : Call) (digest : Digest) → digest_named call ≡ Some digest → Passes.part_named setup call ≡ Some (part_of setup digest)
names_part setup (put_call d ttl expect payload now) digest names = ap (option_map (part_of setup)) names
names_part setup (bury_call d now) digest names = ap (option_map (part_of setup)) names
names_part setup (delete_call d now) digest names = ap (option_map (part_of setup)) names
names_part setup (expire_call d now) digest names = ap (option_map (part_of setup)) names
names_part setup (get_call d now) digest names = ap (option_map (part_of setup)) names
names_part setup flush_call digest names = absurd cc
names_part setup flush_sealed_call digest names = absurd cc
names_part setup flush_next_call digest names = absurd cc
names_part setup heal_call digest names = absurd cc
names_part setup choose_call digest names = absurd cc
names_part setup (move_call d block) digest names = ap (option_map (part_of setup)) names
names_part setup begin_call digest names = absurd cc
names_part setup (turn_call number turn now) digest names = absurd cc

module _ (setup : Setup) (part : ℕ) (first : State) (call : Call) (apart : Passes.part_named setup call ≢ Some part) where
  other_named : (other : ℕ) → Passes.part_named setup call ≡ Some other → other ≢ part
  other_named other names same = apart (names ∙ ap Some same)

  other_digest : (digest : Digest) → digest_named call ≡ Some digest → part_of setup digest ≢ part
  other_digest digest names = other_named (part_of setup digest) (names_part setup call digest names)

  step_spares : (s : State) (step : Step) → IsStepOf setup first call s step → Spares setup part s step
  step_spares s (wrote digest v) is = other_digest digest is
  step_spares s (moved digest) is = other_digest digest is
  step_spares s (removed digest) is = other_digest digest is
  step_spares s (rid_of digest) is = other_named (part_of setup digest) is.0
  step_spares s (uncovered digest) is = other_named (part_of setup digest) is.0
  step_spares s (sealed_stream stream) is = tt
  step_spares s (gate_begun number) is = tt
  step_spares s (flushed_buffer number) is = tt
  step_spares s closing_failed is = tt
  step_spares s raid_begun is = is
  step_spares s raid_given_up is = tt
  step_spares s (marked_part other now) is = (other_named other is.0, is.1)
  step_spares s (scanned_block copies) is = is
  step_spares s (compared_part other) is = (other_named other is.0, is.1)
  step_spares s (done_part other) is = (other_named other is.0, is.1)

  steps_spare : (s : State) (steps : List Step) → AreStepsOf setup first call s steps → AllSpare setup part s steps
  steps_spare s [] are = tt
  steps_spare s (step ∷ steps) are = (step_spares s step are.0, steps_spare (after_step setup step s) steps are.1)

-- A part fits on over an event that may come and doesn't name it.
pub fits_on : (setup : Setup) (part : ℕ) (told : Bool) (s : State) (event : Event) (sprig : SprigState) → Passes.part_named setup event.call ≢ Some part → Legal.Allowed setup told s event event.call
    → FitsPart setup part sprig s → FitsPart setup part sprig (after_event setup event s)
fits_on setup part told s event sprig apart allowed fits =
    all_spared setup part sprig s event.steps (steps_spare setup part s event.call apart s event.steps (steps_are setup told s event event.call allowed)) fits
