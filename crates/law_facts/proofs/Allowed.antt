-- The steps of a legal event ask no more than they are given.
use Rattle.std.proofs.Common.{◌≡◌, ◌⊎◌, inl, inr, ⊎_elim, ℕ, Bool, true, false, cond, ◌&&◌, List, [], ◌∷◌, ◌++◌, map, ◌+◌, ◌<◌, refl, sym, ◌∙◌, ap, subst}
use Rattle.std.specs.Prelude.{Option, Some, None, MatchBool, MatchOption, ◌==◌, flat_map, filter, nat_le, length}
use Rattle.std.specs.List.{AllByRecursion, list_any}
use Rattle.std.proofs.lemmas.Bool.{and_parts, false≢true}
use Rattle.std.proofs.lemmas.Map.Views.{Contains-from_any}
use Rattle.law_lists.proofs.Each.{all_map, all_from, all_joined}
use Rattle.law_lists.proofs.Members.{filter_from}
use Rattle.rec_format.specs.declared.version.Digest.{Digest}
use Rattle.rec_format.specs.declared.version.Stamp.{Stamp}
use Rattle.rec_format.specs.declared.version.Version.{Version}
use Rattle.rec_format.specs.Places.{same_digest, device_number}
use Rattle.rec_format.specs.Versions.{version_units, units_for, a_tombstone, is_tombstone, is_expired_put, top_number}
use Rattle.model_device.specs.Histories.{Item, rid, cleared, top_of}
use Rattle.model_device.specs.Book.{Setup, Book, Buffer, Stream, client, defrag, Phase, filling, sealed, opening, has_room, live_of, placing_number, is_filling, dropped_live}
use Rattle.model_device.specs.Device.{State, Turn, mark_turn, scan_turn, apply_turn, drop_turn, finished, history, entry, entry_is_covered, entry_passes, seen, next_stamp_of, part_of, digests_of}
use Rattle.model_device.specs.Steps.{Step, wrote, moved, removed, rid_of, uncovered, sealed_stream, gate_begun, flushed_buffer, closing_failed, raid_begun}
use Rattle.model_device.specs.Steps.{raid_given_up, marked_part, scanned_block, compared_part, done_part, after_step, after_steps, with_item}
use Rattle.model_device.specs.Events.{Call, put_call, bury_call, delete_call, expire_call, get_call, flush_call, flush_sealed_call, flush_next_call, heal_call}
use Rattle.model_device.specs.Events.{choose_call, move_call, begin_call, turn_call, Cause, Answer, stamp_given, happened, raid_numbered, refused, stale, Event}
use Rattle.model_device.specs.Legal
use Rattle.rec_format.proofs.Laws.{same_digest_is}
use Rattle.law_start.proofs.Turns.{same_turn_is}
use Rattle.law_start.proofs.Growing.{same_not_later}
use Rattle.law_facts.specs.Facts.{Possible, HasFacts, NoneOlder, Becomes}
use Rattle.law_facts.specs.Asking.{MayTake, MayTakeAll, MayBeWritten, BecomesAlong, FactsAlong, WritesOwn, ScansAll}
use Rattle.law_facts.proofs.Kept.{facts_along}
use Rattle.law_facts.proofs.Guarded.{covered_written}
use Rattle.law_facts.proofs.Raids.{none_older}
use Rattle.law_facts.proofs.Writable.{put_may, tombstone_may}

-- ---- steps that ask nothing

abbrev is_free : Step → Bool
is_free (moved digest) = true
is_free (sealed_stream stream) = true
is_free (gate_begun number) = true
is_free (flushed_buffer number) = true
is_free closing_failed = true
is_free raid_begun = true
is_free raid_given_up = true
is_free (compared_part part) = true
is_free _ = false

abbrev AreFree : List Step → Type 0
AreFree steps = AllByRecursion (λ step. is_free step ≡ true) steps

free_may : (setup : Setup) (s : State) (possible : Possible) (step : Step) → is_free step ≡ true → MayTake setup s possible step
free_may setup s possible (wrote digest v) free = absurd (false≢true free)
free_may setup s possible (moved digest) free = tt
free_may setup s possible (removed digest) free = absurd (false≢true free)
free_may setup s possible (rid_of digest) free = absurd (false≢true free)
free_may setup s possible (uncovered digest) free = absurd (false≢true free)
free_may setup s possible (sealed_stream stream) free = tt
free_may setup s possible (gate_begun number) free = tt
free_may setup s possible (flushed_buffer number) free = tt
free_may setup s possible closing_failed free = tt
free_may setup s possible raid_begun free = tt
free_may setup s possible raid_given_up free = tt
free_may setup s possible (marked_part part now) free = absurd (false≢true free)
free_may setup s possible (scanned_block copies) free = absurd (false≢true free)
free_may setup s possible (compared_part part) free = tt
free_may setup s possible (done_part part) free = absurd (false≢true free)

all_free : (setup : Setup) (s : State) (possible : ℕ → Possible) (k : ℕ) (steps : List Step) → AreFree steps → MayTakeAll setup s possible k steps
all_free setup s possible k [] free = tt
all_free setup s possible k (step ∷ steps) free = (free_may setup s (possible k) step free.0, all_free setup (after_step setup step s) possible (k + 1) steps free.1)

-- ---- sealing and flushing

seal_free : (chosen : Bool) (stream : Stream) → AreFree (Legal.seal_if chosen stream)
seal_free true stream = (refl, tt)
seal_free false stream = tt

front_free : (steps rest : List Step) → AreFree (steps ++ rest) → AreFree steps
front_free [] rest free = tt
front_free (step ∷ steps) rest free = (free.0, front_free steps rest free.1)

stopped_free : (whole steps : List Step) → Legal.StopsIn whole steps → AreFree whole → AreFree steps
stopped_free whole steps stops free = front_free steps (stops.0 ∷ stops.1) (subst AreFree stops.2 free)

flush_free : (b : Buffer) → AreFree (Legal.flush_of b)
flush_free b = by b.phase
  where
    by : (p : Phase) → AreFree (Legal.flush_of (record b { phase = p }))
    by filling = tt
    by sealed = (refl, (refl, tt))
    by opening = (refl, tt)

each_free : (buffers : List Buffer) → AreFree (flat_map Legal.flush_of buffers)
each_free [] = tt
each_free (b ∷ buffers) = all_joined (λ step. is_free step ≡ true) (Legal.flush_of b) (flat_map Legal.flush_of buffers) (flush_free b) (each_free buffers)

first_free : (buffers : List Buffer) → AreFree (Legal.first_sealed buffers)
first_free [] = tt
first_free (b ∷ buffers) = by (is_filling b.phase) (first_free buffers)
  where
    by : (c : Bool) → AreFree (Legal.first_sealed buffers) → AreFree (cond c (Legal.first_sealed buffers) (Legal.flush_of b))
    by true rest = rest
    by false rest = flush_free b

both_seals : (a b : Bool) → AreFree (Legal.seal_if a client ++ Legal.seal_if b defrag)
both_seals a b = all_joined (λ step. is_free step ≡ true) (Legal.seal_if a client) (Legal.seal_if b defrag) (seal_free a client) (seal_free b defrag)

flush_ends : (event : Event) (first rest : List Step) → AreFree first → AreFree rest → Legal.FlushEnds event first rest → AreFree event.steps
flush_ends event first rest front behind (inl done) = subst AreFree (sym done.0) (all_joined (λ step. is_free step ≡ true) first rest front behind)
flush_ends event first rest front behind (inr failed) =
    subst AreFree (sym failed.3) (all_joined (λ step. is_free step ≡ true) first failed.2 front (stopped_free rest failed.2 failed.4 behind))

-- ---- writes

commit_free : (setup : Setup) → AreFree (Legal.commit_seal setup)
commit_free setup = by setup.commit
  where
    by : (c : Bool) → AreFree (cond c (sealed_stream client ∷ []) [])
    by true = (refl, tt)
    by false = tt

commit_flush_free : (setup : Setup) (number : ℕ) (s : State) → AreFree (Legal.commit_flush setup number s)
commit_flush_free setup number s = by setup.commit
  where
    by : (c : Bool) → AreFree (cond c (Legal.flush_between 0 number s.book) [])
    by true = each_free (filter (λ b. nat_le 0 b.number && nat_le b.number number) s.book.buffers)
    by false = tt

write_ends : (setup : Setup) (s : State) (possible : ℕ → Possible) (event : Event) (digest : Digest) (v : Version) (ok : Answer) → MayBeWritten setup s digest v
    → Legal.WriteEnds setup s event digest v ok
    → MayTakeAll setup s possible 0 event.steps
write_ends setup s possible event digest v ok may ends = by ends
  where
    first : List Step
    first = Legal.commit_seal setup

    rest : List Step
    rest = Legal.commit_flush setup (placing_number setup client (version_units v) s.book) (after_steps setup (wrote digest v ∷ first) s)

    rest_free : AreFree rest
    rest_free = commit_flush_free setup (placing_number setup client (version_units v) s.book) (after_steps setup (wrote digest v ∷ first) s)

    written : (more : List Step) → AreFree more → event.steps ≡ wrote digest v ∷ (first ++ more) → MayTakeAll setup s possible 0 event.steps
    written more free e =
        subst (MayTakeAll setup s possible 0) (sym e) (
          may,
          all_free setup (after_step setup (wrote digest v) s) possible 1 (first ++ more)
              (all_joined (λ step. is_free step ≡ true) first more (commit_free setup) free),
        )

    by : Legal.WriteEnds setup s event digest v ok → MayTakeAll setup s possible 0 event.steps
    by (inl done) = written rest rest_free done.1
    by (inr failed) = ⊎_elim (λ closing. all_free setup s possible 0 event.steps (subst AreFree (sym closing.1) (refl, tt)))
        (λ stops. written stops.0 (stopped_free rest stops.0 stops.2 rest_free) stops.1) failed.2

none_steps : (setup : Setup) (s : State) (possible : ℕ → Possible) (event : Event) → event.steps ≡ [] → MayTakeAll setup s possible 0 event.steps
none_steps setup s possible event none = subst (MayTakeAll setup s possible 0) (sym none) tt

unless : (setup : Setup) (s : State) (possible : ℕ → Possible) (event : Event) (cause : Option Cause) (Rest : Type 0) → (cause ≡ None → Rest → MayTakeAll setup s possible 0 event.steps)
    → Legal.Unless event cause Rest
    → MayTakeAll setup s possible 0 event.steps
unless setup s possible event None Rest next rest = next refl rest
unless setup s possible event (Some cause) Rest next only = none_steps setup s possible event only.1

-- where a write isn't refused there is a next stamp
has_stamp : (setup : Setup) (kept units : ℕ) (stamp : Option Stamp) (s : State) → Legal.no_write setup kept units stamp s ≡ None → stamp ≡ Some (Legal.the_stamp stamp)
has_stamp setup kept units None s none = absurd cc
has_stamp setup kept units (Some stamp) s none = refl

second_none : (a b : Option Cause) → Legal.first_cause a b ≡ None → b ≡ None
second_none None b none = none
second_none (Some cause) b none = absurd cc

entombs : (setup : Setup) (s : State) (possible : ℕ → Possible) (event : Event) (digest : Digest) (now : ℕ) (ok : Stamp → Answer) → HasFacts setup s (possible 0)
    → device_number setup.devices digest ≡ setup.device
    → Legal.Entombs setup s event digest now ok → MayTakeAll setup s possible 0 event.steps
entombs setup s possible event digest now ok facts own (inl memory) = none_steps setup s possible event memory.1
entombs setup s possible event digest now ok facts own (inr rest) =
    let stamp = next_stamp_of setup s now digest in
    let v = a_tombstone (Legal.the_stamp stamp) in
    unless setup s possible event (Legal.no_write setup Legal.tombstone_reserve (version_units v) stamp s) (Legal.WriteEnds setup s event digest v (ok (Legal.the_stamp stamp)))
    (λ none ends. write_ends setup s possible event digest v (ok (Legal.the_stamp stamp))
    (tombstone_may setup s (possible 0) digest now own (has_stamp setup Legal.tombstone_reserve (version_units v) stamp s none) facts) ends) rest

puts : (setup : Setup) (s : State) (possible : ℕ → Possible) (event : Event) (digest : Digest) (ttl : ℕ) (expect : Option ℕ) (payload : List ℕ) (now : ℕ) (told : Bool) → HasFacts setup s (possible 0)
    → device_number setup.devices digest ≡ setup.device → Legal.Allowed setup told s event (put_call digest ttl expect payload now) → MayTakeAll setup s possible 0 event.steps
puts setup s possible event digest ttl expect payload now told facts own (inl memory) = none_steps setup s possible event memory.1
puts setup s possible event digest ttl expect payload now told facts own (inr rest) =
    let v = Legal.new_put setup s digest ttl payload now in
    unless setup s possible event (Legal.put_refusal setup s digest expect payload now) (Legal.WriteEnds setup s event digest v _)
    (λ none ends. write_ends setup s possible event digest v _
    (put_may setup s (possible 0) digest ttl now payload own
    (has_stamp setup Legal.put_reserve (units_for (length payload)) (next_stamp_of setup s now digest) s (second_none _ _ (second_none _ _ none))) facts) ends) rest

removes : (setup : Setup) (s : State) (possible : ℕ → Possible) (event : Event) (digest : Digest) (now : ℕ) → HasFacts setup s (possible 0)
    → Legal.Removes setup s event digest now → MayTakeAll setup s possible 0 event.steps
removes setup s possible event digest now facts ends = by (entry_is_covered s digest) refl ends
  where
    by : (b : Bool) → entry_is_covered s digest ≡ b
        → MatchBool b (Legal.Entombs setup s event digest now (λ stamp. happened true)) ((event.answer ≡ happened true) × (event.steps ≡ removed digest ∷ []))
        → MayTakeAll setup s possible 0 event.steps
    by true is ends = let w = covered_written (history s digest) is in entombs setup s possible event digest now (λ stamp. happened true) facts (facts.own digest w.0 w.1) ends
    by false is ends = subst (MayTakeAll setup s possible 0) (sym ends.1) (is, tt)

-- ---- raids

-- behind a removal by the raid, or a cleared flag, still no possible copy is older than an entry
still_none : (s : State) (possible : Possible) (digest : Digest) (item : Item) (book : Book) → ((e : Version) → top_of (item ∷ history s digest) ≡ Some e → entry s digest ≡ Some e)
    → (d : Digest) → NoneOlder s possible d → NoneOlder (with_item digest item book s) possible d
still_none s possible digest item book keeps d none block v o = none block v (record { newer = o.newer; top = by (same_digest d digest) refl o.top; may_come = o.may_come; later = o.later })
  where
    by : (b : Bool) → same_digest d digest ≡ b → top_of (cond b (item ∷ history s d) (history s d)) ≡ Some o.newer → entry s d ≡ Some o.newer
    by true same top =
        let is : d ≡ digest = same_digest_is d digest same in
        subst (λ (x : Digest). entry s x ≡ Some o.newer) (sym is) (keeps o.newer (subst (λ (x : Digest). top_of (item ∷ history s x) ≡ Some o.newer) is top))
    by false other top = top

drop_may : (setup : Setup) (s : State) (possible : Possible) (digest : Digest) (b : Bool) → NoneOlder s possible digest → MayTake setup s possible (cond b (rid_of digest) (uncovered digest))
drop_may setup s possible digest true none = none
drop_may setup s possible digest false none = none

drop_keeps : (setup : Setup) (s : State) (possible : Possible) (digest : Digest) (b : Bool) (d : Digest) → NoneOlder s possible d
    → NoneOlder (after_step setup (cond b (rid_of digest) (uncovered digest)) s) possible d
unfolding after_step
drop_keeps setup s possible digest true d none = still_none s possible digest rid (dropped_live setup digest s.book) (λ e top. absurd cc) d none
drop_keeps setup s possible digest false d none = still_none s possible digest cleared s.book (λ e top. top) d none

drop_next : (setup : Setup) (s : State) (digest : Digest) (b : Bool) → (after_step setup (cond b (rid_of digest) (uncovered digest)) s).raid.next ≡ s.raid.next
unfolding after_step
drop_next setup s digest true = refl
drop_next setup s digest false = refl

-- nor where copies of entries come
none_becomes : (setup : Setup) (s : State) (old new : Possible) (d : Digest) → Becomes setup s old new → NoneOlder s old d → NoneOlder s new d
none_becomes setup s old new d becomes none block v o = by (becomes block d v o.may_come)
  where
    by : old block d v ⊎ ((block < setup.blocks) × (entry s d ≡ Some v)) → ⊥
    by (inl was) = none block v (record { newer = o.newer; top = o.top; may_come = was; later = o.later })
    by (inr comes) = let twice : Some o.newer ≡ Some v = sym o.top ∙ comes.1 in let same : o.newer ≡ v = cc in same_not_later o.newer v o.later (ap (λ (w : Version). w.stamp) same)

drops_may : (setup : Setup) (first s : State) (possible : ℕ → Possible) (k : ℕ) (part : ℕ) (digests : List Digest) → AllByRecursion (NoneOlder s (possible k)) digests → s.raid.next ≡ drop_turn part
    → BecomesAlong setup s possible k (map (Legal.drop_step first) digests ++ done_part part ∷ []) → MayTakeAll setup s possible k (map (Legal.drop_step first) digests ++ done_part part ∷ [])
drops_may setup first s possible k part [] none is becomes = (is, tt)
drops_may setup first s possible k part (d ∷ digests) none is becomes =
    let b = entry_passes is_tombstone (entry first d) in
    let after = after_step setup (Legal.drop_step first d) s in (
      drop_may setup s (possible k) d b none.0,
      drops_may setup first after possible (k + 1) part digests
          (all_map (NoneOlder s (possible k)) (NoneOlder after (possible (k + 1))) digests
          (λ x h. none_becomes setup after (possible k) (possible (k + 1)) x becomes.0 (drop_keeps setup s (possible k) d b x h)) none.1)
          (drop_next setup s d b ∙ is) becomes.1,
    )

-- where the marks of a part are dropped, copies of entries may come behind each step
abbrev pub BecomesIfDropped : Setup → State → (possible : ℕ → Possible) → Event → Type 0
BecomesIfDropped setup s possible event = (part : ℕ) → event.steps ≡ Legal.drop_steps setup part s → BecomesAlong setup s possible 0 event.steps

turn_ends : (setup : Setup) (told : Bool) (s : State) (possible : ℕ → Possible) (event : Event) (turn : Turn) (now : ℕ) → HasFacts setup s (possible 0) → ScansAll s (possible 0) event
    → s.raid.next ≡ turn → BecomesIfDropped setup s possible event
    → Legal.TurnEnds setup told s event turn now → MayTakeAll setup s possible 0 event.steps
turn_ends setup told s possible event (mark_turn part) now facts scans is becomes ends = subst (MayTakeAll setup s possible 0) (sym ends.1) (is, tt)
turn_ends setup told s possible event (scan_turn block) now facts scans is becomes (inl done) = subst (MayTakeAll setup s possible 0) (sym done.2) ((block, is, scans block done.1 is done.2), tt)
turn_ends setup told s possible event (scan_turn block) now facts scans is becomes (inr (inl damaged)) = all_free setup s possible 0 event.steps (subst AreFree (sym damaged.2) (refl, tt))
turn_ends setup told s possible event (scan_turn block) now facts scans is becomes (inr (inr (inl fails))) = all_free setup s possible 0 event.steps (subst AreFree (sym fails.1) (refl, tt))
turn_ends setup told s possible event (scan_turn block) now facts scans is becomes (inr (inr (inr memory))) = all_free setup s possible 0 event.steps (subst AreFree (sym memory.1) (refl, tt))
turn_ends setup told s possible event (apply_turn part) now facts scans is becomes ends = all_free setup s possible 0 event.steps (subst AreFree (sym ends.1) (refl, tt))
turn_ends setup told s possible event (drop_turn part) now facts scans is becomes ends =
    subst (MayTakeAll setup s possible 0) (sym ends.1)
    (drops_may setup s s possible 0 part (Legal.marked_in setup part s)
    (all_from (NoneOlder s (possible 0)) (Legal.marked_in setup part s)
    (λ d there.
    let found = filter_from (λ (x : Digest). (part_of setup x == part) && list_any (same_digest x) s.raid.marked) (digests_of s.log) d there in
    none_older setup s (possible 0) d part is (Contains-from_any same_digest_is d s.raid.marked (and_parts (part_of setup d == part) (list_any (same_digest d) s.raid.marked) found.1).1)
    facts)) is (subst (BecomesAlong setup s possible 0) ends.1 (becomes part ends.1)))
turn_ends setup told s possible event finished now facts scans is becomes ends = none_steps setup s possible event ends.1

-- ---- every call

where_reads : {A : Type 0} (setup : Setup) (told : Bool) (s : State) (possible : ℕ → Possible) (event : Event) (what : Option A) → Legal.WhereReads told event what
    → MayTakeAll setup s possible 0 event.steps
where_reads setup told s possible event None reads = absurd reads
where_reads setup told s possible event (Some what) (inl damaged) = none_steps setup s possible event damaged.2
where_reads setup told s possible event (Some what) (inr fails) = none_steps setup s possible event fails.1

flushed_ends : (setup : Setup) (s : State) (possible : ℕ → Possible) (event : Event) (first rest : List Step) → AreFree first → AreFree rest → Legal.FlushEnds event first rest
    → MayTakeAll setup s possible 0 event.steps
flushed_ends setup s possible event first rest front behind ends = all_free setup s possible 0 event.steps (flush_ends event first rest front behind ends)

-- Each step of an event that is allowed may be taken, from the facts before the first.
pub allowed_may : (setup : Setup) (told : Bool) (s : State) (possible : ℕ → Possible) (event : Event) (call : Call) → HasFacts setup s (possible 0) → WritesOwn setup call
    → ScansAll s (possible 0) event → BecomesIfDropped setup s possible event → Legal.Allowed setup told s event call
    → MayTakeAll setup s possible 0 event.steps
allowed_may setup told s possible event (put_call digest ttl expect payload now) facts own scans becomes ends = puts setup s possible event digest ttl expect payload now told facts own ends
allowed_may setup told s possible event (bury_call digest now) facts own scans becomes ends = entombs setup s possible event digest now stamp_given facts own ends
allowed_may setup told s possible event (delete_call digest now) facts own scans becomes ends = by (seen s now digest) ends
  where
    by : (o : Option Version) → MatchOption o (Legal.Only event (happened false)) (λ v. Legal.Removes setup s event digest now) → MayTakeAll setup s possible 0 event.steps
    by None only = none_steps setup s possible event only.1
    by (Some v) ends = removes setup s possible event digest now facts ends
allowed_may setup told s possible event (expire_call digest now) facts own scans becomes ends = by (entry_passes (is_expired_put now) (entry s digest)) ends
  where
    by : (b : Bool) → MatchBool b (Legal.Removes setup s event digest now) (Legal.Only event (happened false)) → MayTakeAll setup s possible 0 event.steps
    by true ends = removes setup s possible event digest now facts ends
    by false only = none_steps setup s possible event only.1
allowed_may setup told s possible event (get_call digest now) facts own scans becomes (inl found) = none_steps setup s possible event found.2
allowed_may setup told s possible event (get_call digest now) facts own scans becomes (inr (inl memory)) = none_steps setup s possible event memory.1
allowed_may setup told s possible event (get_call digest now) facts own scans becomes (inr (inr reads)) = where_reads setup told s possible event (seen s now digest) reads
allowed_may setup told s possible event flush_call facts own scans becomes ends =
    flushed_ends setup s possible event (Legal.seal_all s.book) (Legal.flush_all (after_steps setup (Legal.seal_all s.book) s).book) (both_seals _ _)
    (each_free (after_steps setup (Legal.seal_all s.book) s).book.buffers) ends
allowed_may setup told s possible event flush_sealed_call facts own scans becomes ends =
    flushed_ends setup s possible event (Legal.seal_low setup s.book) (Legal.flush_all (after_steps setup (Legal.seal_low setup s.book) s).book) (both_seals _ _)
    (each_free (after_steps setup (Legal.seal_low setup s.book) s).book.buffers) ends
allowed_may setup told s possible event flush_next_call facts own scans becomes ends =
    flushed_ends setup s possible event (Legal.seal_low setup s.book) (Legal.flush_first (after_steps setup (Legal.seal_low setup s.book) s).book) (both_seals _ _)
    (first_free (after_steps setup (Legal.seal_low setup s.book) s).book.buffers) ends
allowed_may setup told s possible event heal_call facts own scans becomes (inl closed) = none_steps setup s possible event closed.2
allowed_may setup told s possible event heal_call facts own scans becomes (inr fails) = none_steps setup s possible event fails.1
allowed_may setup told s possible event choose_call facts own scans becomes (inl only) = none_steps setup s possible event only.1
allowed_may setup told s possible event choose_call facts own scans becomes (inr reads) = where_reads setup told s possible event (Legal.queue_front s.book.queue) reads
allowed_may setup told s possible event (move_call digest block) facts own scans becomes ends = by (Legal.is_in_block block (live_of digest s.book.live)) ends
  where
    units : ℕ
    units = Legal.live_units (live_of digest s.book.live)

    Moves : Type 0
    Moves =
        ((event.answer ≡ happened true) × (event.steps ≡ moved digest ∷ [])) ⊎ Legal.DamageFound told event [] ⊎ Legal.DiskFails event []
        ⊎ ((has_room setup defrag units s.book ≡ false) × Legal.DiskFails event (closing_failed ∷ []))

    moves : Moves → MayTakeAll setup s possible 0 event.steps
    moves (inl done) = all_free setup s possible 0 event.steps (subst AreFree (sym done.1) (refl, tt))
    moves (inr (inl damaged)) = none_steps setup s possible event damaged.2
    moves (inr (inr (inl fails))) = none_steps setup s possible event fails.1
    moves (inr (inr (inr closing))) = all_free setup s possible 0 event.steps (subst AreFree (sym closing.1.1) (refl, tt))

    by : (b : Bool) → MatchBool b (Legal.NoMemory event ⊎ Legal.Unless event (Legal.no_place setup defrag Legal.move_reserve units s.book) Moves) (Legal.Only event (happened false))
        → MayTakeAll setup s possible 0 event.steps
    by true (inl memory) = none_steps setup s possible event memory.1
    by true (inr rest) = unless setup s possible event (Legal.no_place setup defrag Legal.move_reserve units s.book) Moves (λ _. moves) rest
    by false only = none_steps setup s possible event only.1
allowed_may setup told s possible event begin_call facts own scans becomes ends = by (nat_le top_number s.raid.number) ends
  where
    by : (b : Bool) → MatchBool b (Legal.Only event (raid_numbered None)) ((event.answer ≡ raid_numbered (Some (s.raid.number + 1))) × (event.steps ≡ raid_begun ∷ []))
        → MayTakeAll setup s possible 0 event.steps
    by true only = none_steps setup s possible event only.1
    by false begins = all_free setup s possible 0 event.steps (subst AreFree (sym begins.1) (refl, tt))
allowed_may setup told s possible event (turn_call number turn now) facts own scans becomes ends = by ((number == s.raid.number) && Legal.same_turn turn s.raid.next) refl ends
  where
    by : (b : Bool) → ((number == s.raid.number) && Legal.same_turn turn s.raid.next) ≡ b
        → MatchBool b (Legal.TurnEnds setup told s event turn now) (Legal.Only event (refused (stale s.raid.number s.raid.next))) → MayTakeAll setup s possible 0 event.steps
    by true is ends = turn_ends setup told s possible event turn now facts scans
        (same_turn_is turn s.raid.next (and_parts (number == s.raid.number) (Legal.same_turn turn s.raid.next) is).1) becomes ends
    by false is only = none_steps setup s possible event only.1

-- An event that is allowed keeps the facts in every state on the way, if what it writes belongs to the device and a scan finds what it has to.
pub allowed_facts : (setup : Setup) (told : Bool) (s : State) (possible : ℕ → Possible) (event : Event) → HasFacts setup s (possible 0) → WritesOwn setup event.call → ScansAll s (possible 0) event
    → BecomesAlong setup s possible 0 event.steps → Legal.Allowed setup told s event event.call → FactsAlong setup s possible 0 event.steps
allowed_facts setup told s possible event facts own scans becomes ends =
    facts_along setup s possible 0 event.steps (allowed_may setup told s possible event event.call facts own scans (λ part is. becomes) ends) becomes facts
