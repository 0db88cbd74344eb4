-- One turn of a raid behind others, and what a device makes of a whole raid.
use Rattle.std.proofs.Common.{◌≡◌, ◌≢◌, ℕ, ◌+◌, ◌*◌, ◌^◌, ◌<◌, ◌≤◌, min, Bool, true, false, ◌&&◌, cond, List, [], ◌∷◌, ◌++◌, map, inl, inr, refl, sym, ◌∙◌, ap, subst, arith}
use Rattle.std.specs.Prelude.{◌==◌, nat_lt, nat_le, Option, Some, None, Ok, Err, MatchBool}
use Rattle.std.proofs.lemmas.Bool.{eq-eqb}
use Rattle.std.proofs.lemmas.List.{append-nil, append_assoc}
use Rattle.law_lists.proofs.Each.{all_map}
use Rattle.disk_model.specs.Disk.{DiskView, IsDisk, IsHonest}
use Rattle.rec_format.specs.declared.version.Digest.{Digest}
use Rattle.rec_format.specs.declared.version.Stamp.{Stamp}
use Rattle.rec_format.specs.Versions.{top_number}
use Rattle.rec_format.specs.Places.{device_number}
use Rattle.model_device.specs.Book.{Setup}
use Rattle.model_device.specs.Device.{State, Turn, mark_turn, scan_turn, apply_turn, drop_turn, finished, history, history_of, part_of, digests_of}
use Rattle.model_device.specs.Steps.{part_total, after_steps, after_drop, raid_begun, scanned_block, done_part, Step, after_step}
use Rattle.model_device.specs.Events.{Event, Call, Answer, Cause, begin_call, turn_call, raid_numbered, raid_over, spent, refused, stale, after_event, after_events}
use Rattle.model_device.specs.Legal.{Allowed, Only, TurnEnds, same_turn, drop_step, drop_steps, marked_in}
use Rattle.model_device.specs.Vacating.{Outcome, IfRefused, did, stopped}
use Rattle.law_facts.specs.Facts.{Possible, SamePossible}
use Rattle.law_facts.specs.Asking.{ScansAll, ScansOnly}
use Rattle.raid_book.specs.declared.turn.RaidNext.{RaidNext}
use Rattle.raid_book.specs.declared.turn.RaidNext.TheVariants.{Mark, Scan, Apply, Drop, Finished}
use Rattle.raid_book.specs.Turns.{turn_of}
use Rattle.raid_book.specs.Books.{BookState}
use Rattle.block_shelf.specs.View.{ShelfView, AreSure}
use Rattle.block_shelf.specs.Scans.{possible_copies}
use Rattle.block_shelf.proofs.Surely.{sure_same}
use Rattle.model_node.specs.Commands.{Slot, slot_after, slot_after_all, Raids, TakesTurns, removed_by, cleared_by, fault_of}
use Rattle.law_raid.specs.Exact.{FindsAlong, RaidSpares}
use Rattle.law_raid.proofs.Spares.{IsOther, others_keep, drop_spares}
use Rattle.law_raid.proofs.Exact.{raid_exact}
use Rattle.line_proto.specs.declared.reply.LineFault.TheVariants as why
use Rattle.shard_raid.specs.Raids.{RaidView, IsNext}
use Rattle.shard_raid.specs.Scans.{cause_of}
use Rattle.shard_raid.specs.declared.scan.RaidRefusal.{RaidRefusal}
use Rattle.shard_core.specs.View.{ShardView, setup_of}
use Rattle.shard_core.specs.Stands.{Agrees, IsSafe}
use Rattle.shard_core.specs.Calls.{Makes}
use Rattle.law_steps.specs.Standing.{ShelfIsSafe}
use Rattle.shard_core.specs.Vacating.{MakesEvents}
use Rattle.shard_raid.specs.declared.turn.RaidDid.{RaidDid}
use Rattle.shard_raid.specs.declared.turn.RaidDid.TheVariants.{Marked, Scanned, Applied, Dropped, Done}
use Rattle.shard_raid.specs.Turns.{IsDidOf, IsNoDrop, did_answer, turn_answer}
use Rattle.shard_core.specs.Raids.{AreFewEnds, TurnMakes, TakesTurn}
use Rattle.shard_core.proofs.Events.{runs_one, makes_events, runs_made, after_all}
use Rattle.shard_raid.proofs.Taken.{possible_then, possible_aside, scans_all_as, scans_only_as, no_scan_all, no_scan_only, next_is}
use Rattle.core_run.specs.Turns.{GoesOn, IsRaid, slot_for}
use Rattle.core_run.specs.Raids.{ended_by}
use Rattle.core_run.proofs.Places.{slot_after_is}
use Rattle.core_run.proofs.Turning.{setups_same, goes_on_none}
use Rattle.core_run.proofs.Defragging.{makes_then}
use Rattle.core_run.proofs.Sparing.{none_comes, spares_on}

-- ---- by the model alone

-- a turn that isn't refused
went_on : (told : RaidDid) (answer : Answer) (Refused : Cause → Type 0) (Else : Type 0) → answer ≡ did_answer told → Else → IfRefused answer Refused Else
went_on told answer Refused Else is done = subst (λ (a : Answer). IfRefused a Refused Else) (sym is) (by told)
  where
    by : (d : RaidDid) → IfRefused (did_answer d) Refused Else
    by (Marked marks) = done
    by (Scanned block) = done
    by (Applied unmarked) = done
    by (Dropped removed cleared) = done
    by Done = done

-- what it removed and cleared
adds : (told : RaidDid) (answer : Answer) (gone bare : ℕ) → answer ≡ did_answer told → ended_by told ≡ Some (gone, bare) → (removed_by answer ≡ gone) × (cleared_by answer ≡ bare)
adds told answer gone bare is ended = (ap removed_by is ∙ (by told ended).0, ap cleared_by is ∙ (by told ended).1)
  where
    by : (d : RaidDid) → ended_by d ≡ Some (gone, bare) → (removed_by (did_answer d) ≡ gone) × (cleared_by (did_answer d) ≡ bare)
    by (Marked marks) e = let same : ◌≡◌ {A = ℕ × ℕ} (0, 0) (gone, bare) = cc in (ap (λ (p : ℕ × ℕ). p.0) same, ap (λ (p : ℕ × ℕ). p.1) same)
    by (Scanned block) e = let same : ◌≡◌ {A = ℕ × ℕ} (0, 0) (gone, bare) = cc in (ap (λ (p : ℕ × ℕ). p.0) same, ap (λ (p : ℕ × ℕ). p.1) same)
    by (Applied unmarked) e = let same : ◌≡◌ {A = ℕ × ℕ} (0, 0) (gone, bare) = cc in (ap (λ (p : ℕ × ℕ). p.0) same, ap (λ (p : ℕ × ℕ). p.1) same)
    by (Dropped removed cleared) e = let same : ◌≡◌ {A = ℕ × ℕ} (removed, cleared) (gone, bare) = cc in (ap (λ (p : ℕ × ℕ). p.0) same, ap (λ (p : ℕ × ℕ). p.1) same)
    by Done e = absurd cc

-- parts are marked, or blocks scanned, or what they have is compared
abbrev pub IsBefore : Turn → Type 0
IsBefore (mark_turn part) = Unit {0}
IsBefore (scan_turn block) = Unit {0}
IsBefore (apply_turn part) = Unit {0}
IsBefore (drop_turn part) = ⊥
IsBefore finished = ⊥

-- behind the end of a part none of that comes
ended_after : (setup : Setup) (part : ℕ) → IsBefore (after_drop setup part) → ⊥
ended_after setup part = by (nat_lt (part + 1) (part_total setup))
  where
    by : (b : Bool) → IsBefore (cond b (drop_turn (part + 1)) finished) → ⊥
    by true before = before
    by false before = before

ended_turn : (setup : Setup) (part : ℕ) (s : State) → (after_steps setup (drop_steps setup part s) s).raid.next ≡ after_drop setup part
unfolding after_step
ended_turn setup part s = over (marked_in setup part s) s
  where
    over : (ds : List Digest) (t : State) → (after_steps setup (map (drop_step s) ds ++ done_part part ∷ []) t).raid.next ≡ after_drop setup part
    over [] t = refl
    over (d ∷ ds) t = over ds (after_step setup (drop_step s d) t)

drops_on : (setup : Setup) (told : Bool) (s : State) (event : Event) (number part now : ℕ) → s.raid.next ≡ drop_turn part → Allowed setup told s event (turn_call number (drop_turn part) now)
    → IsBefore (after_event setup event s).raid.next → ⊥
drops_on setup told s event number part now at allowed = by ((number == s.raid.number) && same_turn (drop_turn part) s.raid.next) allowed
  where
    by : (b : Bool) → MatchBool b (TurnEnds setup told s event (drop_turn part) now) (Only event (refused (stale s.raid.number s.raid.next))) → IsBefore (after_event setup event s).raid.next → ⊥
    by true ends before = ended_after setup part (subst IsBefore (ap (λ l. (after_steps setup l s).raid.next) ends.1 ∙ ended_turn setup part s) before)
    by false only before = subst IsBefore (ap (λ l. (after_steps setup l s).raid.next) only.1 ∙ at) before

-- the last event of a turn that is refused isn't of a raid that is over
not_over : (setup : Setup) (told : Bool) (s : State) (event : Event) (number : ℕ) (next : RaidNext) (now : ℕ) (cause : Cause) → event.answer ≡ refused cause → number ≡ s.raid.number
    → s.raid.next ≡ turn_of next
    → Allowed setup told s event (turn_call number (turn_of next) now) → same_turn (turn_of next) finished ≡ false
not_over setup told s event number (Mark part) now cause is same at allowed = refl
not_over setup told s event number (Scan block) now cause is same at allowed = refl
not_over setup told s event number (Apply part) now cause is same at allowed = refl
not_over setup told s event number (Drop part) now cause is same at allowed = refl
not_over setup told s event number Finished now cause is same at allowed =
    by ((number == s.raid.number) && same_turn finished s.raid.next) ((λ i. eq-eqb number s.raid.number same i && same_turn finished (at i))) allowed
  where
    by : (b : Bool) → b ≡ true → MatchBool b (Only event raid_over) (Only event (refused (stale s.raid.number s.raid.next))) → true ≡ false
    by true comes only = let both : raid_over ≡ refused cause = sym only.0 ∙ is in absurd cc
    by false comes only = sym comes

-- one that isn't over
goes_on : (next : RaidNext) → next ≢ Finished → same_turn (turn_of next) finished ≡ false
goes_on (Mark part) other = refl
goes_on (Scan block) other = refl
goes_on (Apply part) other = refl
goes_on (Drop part) other = refl
goes_on Finished other = absurd (other refl)

slots_then : (xs : List Event) (x : Event) (slot : Slot) → slot_after_all (xs ++ x ∷ []) slot ≡ slot_after x (slot_after_all xs slot)
slots_then [] x slot = refl
slots_then (y ∷ xs) x slot = slots_then xs x (slot_after y slot)

finds_then : (setup : Setup) (possible : Possible) (xs : List Event) (x : Event) (s : State) → FindsAlong setup possible s xs → ScansAll (after_events setup xs s) possible x
    → ScansOnly (after_events setup xs s) possible x
    → FindsAlong setup possible s (xs ++ x ∷ [])
finds_then setup possible [] x s finds all only = (all, only, tt)
finds_then setup possible (y ∷ xs) x s finds all only = (finds.0, finds.1, finds_then setup possible xs x (after_event setup y s) finds.2 all only)

module _ (now number : ℕ) (slot : Slot) where
  -- So many entries were removed and so many covers cleared by these events: however it goes on from the state after them, so it is a raid.
  abbrev pub IsSoFar : (removed cleared : ℕ) → List Event → Type 0
  IsSoFar removed cleared events = (rest : List Event) (outcome : Outcome) → TakesTurns number now (slot_after_all events slot) removed cleared rest outcome → Raids now slot (events ++ rest) outcome

  -- it begins
  pub begins_so : (first : Event) → first.call ≡ begin_call → first.answer ≡ raid_numbered (Some number) → IsSoFar 0 0 (first ∷ [])
  begins_so first is_call is_answer = λ rest outcome turns. (first, rest, refl, is_call, inr (number, is_answer, turns))

  module _ (removed cleared : ℕ) (events : List Event) (far : IsSoFar removed cleared events) where
    abbrev here : Slot
    here = slot_after_all events slot

    -- it is over
    pub over_so : here.state.raid.next ≡ finished → Raids now slot events (did removed cleared)
    over_so over = subst (λ (l : List Event). Raids now slot l (did removed cleared)) (append-nil events) (far [] (did removed cleared) (over, refl))

    module _ (event : Event) (is_call : event.call ≡ turn_call number here.state.raid.next now) (more : same_turn here.state.raid.next finished ≡ false) where
      -- a turn more
      pub turn_so : (told : RaidDid) (gone bare : ℕ) → event.answer ≡ did_answer told → ended_by told ≡ Some (gone, bare) → IsSoFar (removed + gone) (cleared + bare) (events ++ event ∷ [])
      turn_so told gone bare is_answer ended = λ rest outcome turns.
          let both = adds told event.answer gone bare is_answer ended in
          let there : TakesTurns number now (slot_after event here) (removed + removed_by event.answer) (cleared + cleared_by event.answer) rest outcome =
          subst (λ (n : ℕ). TakesTurns number now (slot_after event here) (removed + n) (cleared + cleared_by event.answer) rest outcome) (sym both.0)
          (subst (λ (n : ℕ). TakesTurns number now (slot_after event here) (removed + gone) (cleared + n) rest outcome) (sym both.1)
          (subst (λ (x : Slot). TakesTurns number now x (removed + gone) (cleared + bare) rest outcome) (slots_then events event slot) turns)) in
          subst (λ (l : List Event). Raids now slot l outcome) (sym (append_assoc events (event ∷ []) rest))
          (far (event ∷ rest) outcome (
            is_call,
            more,
            went_on told event.answer (λ cause. (rest ≡ []) × (outcome ≡ stopped cause))
                (TakesTurns number now (slot_after event here) (removed + removed_by event.answer) (cleared + cleared_by event.answer) rest outcome) is_answer there,
          ))

      -- a turn was refused
      pub refused_so : (cause : Cause) → event.answer ≡ refused cause → Raids now slot (events ++ event ∷ []) (stopped cause)
      refused_so cause is_answer =
          far (event ∷ []) (stopped cause) (
            is_call,
            more,
            subst (λ (a : Answer). IfRefused a (λ other. (◌≡◌ {A = List Event} [] []) × (stopped cause ≡ stopped other))
                (TakesTurns number now (slot_after event here) (removed + removed_by event.answer) (cleared + cleared_by event.answer) [] (stopped cause))) (sym is_answer) (refl, refl),
          )

-- the beginning of a raid makes one step, which scans nothing and leaves the blocks
module _ (setup : Setup) (told : Bool) (s : State) (event : Event) (number : ℕ) (is : event.answer ≡ raid_numbered (Some number)) (allowed : Allowed setup told s event begin_call) where
  begun_by : event.steps ≡ raid_begun ∷ []
  begun_by = by (nat_le top_number s.raid.number) allowed
    where
      by : (b : Bool) → MatchBool b (Only event (raid_numbered None)) ((event.answer ≡ raid_numbered (Some (s.raid.number + 1))) × (event.steps ≡ raid_begun ∷ [])) → event.steps ≡ raid_begun ∷ []
      by true only = let both : raid_numbered None ≡ raid_numbered (Some number) = sym only.0 ∙ is in absurd cc
      by false begins = begins.1

  histories_then : (digest : Digest) → history (after_event setup event s) digest ≡ history s digest
  unfolding after_step
  histories_then digest = ap (λ (l : List Step). history_of digest (after_steps setup l s).log) begun_by

  no_scan : (copies : List (Digest × Stamp)) → event.steps ≡ scanned_block copies ∷ [] → ⊥
  no_scan copies steps = let both : raid_begun ∷ [] ≡ scanned_block copies ∷ [] = sym begun_by ∙ steps in absurd cc

  blocks_then : (after_event setup event s).book ≡ s.book
  unfolding after_step
  blocks_then = ap (λ (l : List Step). (after_steps setup l s).book) begun_by

-- ---- what a device makes of it

module _ {D : Type 0} (view : D → DiskView) (now number : ℕ) (old : ShardView D) (s : State) where
  -- Up to these events each scan found what it has to, and nothing but what was possible at the start, and until parts end that is possible still.
  pub record HaveFound (mid : ShardView D) (events : List Event) : Type 0 where
    pub finds : FindsAlong (setup_of old) (possible_copies view old.shelf s) s events
    pub alike : IsBefore (after_events (setup_of old) events s).raid.next → SamePossible (possible_copies view old.shelf s) (possible_copies view mid.shelf (after_events (setup_of old) events s))
    pub sure : AreSure mid.shelf.gates

  -- Up to these events nothing changed of a digest of which an older copy is possible now, and until parts end nothing at all.
  pub record HaveSpared (mid : ShardView D) (events : List Event) : Type 0 where
    pub spares : RaidSpares s (possible_copies view mid.shelf (after_events (setup_of old) events s)) (after_events (setup_of old) events s)
    pub before : IsBefore (after_events (setup_of old) events s).raid.next → (digest : Digest) → history (after_events (setup_of old) events s) digest ≡ history s digest

  -- So far a raid was taken.
  pub record HaveRaided (mid : ShardView D) (removed cleared : ℕ) (events : List Event) : Type 0 where
    pub so_far : IsSoFar now number (slot_for view old s) removed cleared events
    pub exact : AreSure old.shelf.gates → IsHonest (view old.shelf.disk) → IsSafe view old s → HaveFound mid events
    pub spared : IsHonest (view old.shelf.disk) → IsSafe view old s → HaveSpared mid events

  -- the device of the model is in the state after them
  here_is : (events : List Event) → (slot_after_all events (slot_for view old s)).state ≡ after_events (setup_of old) events s
  here_is events = ap (λ (x : Slot). x.state) (slot_after_is events (slot_for view old s))

module _ {D : Type 0} (view : D → DiskView) (now : ℕ) where
  abbrev pub RaidedSoFar : (number removed cleared : ℕ) → (old mid : ShardView D) → Type 0
  RaidedSoFar number removed cleared old mid = (s : State) → Agrees old s → MakesEvents view (HaveRaided view now number old s mid removed cleared) old s mid

  -- it has begun
  pub raid_begins : (number : ℕ) (old mid : ShardView D) (book : BookState) → mid ≡ record old { shelf = record old.shelf { raid = book } }
      → ((s : State) → Agrees old s → Makes view begin_call (raid_numbered (Some number)) old s mid) → RaidedSoFar number 0 0 old mid
  raid_begins number old mid book put makes = λ s agrees.
      let m = makes s agrees in
      let is : mid.shelf ≡ record old.shelf { raid = book } = ap (λ (v : ShardView D). v.shelf) put in
      let allowed = subst (λ (c : Call). Allowed (setup_of old) false s m.event c) m.is_call m.follows.allowed in
      makes_events view old mid s (HaveRaided view now number old s mid 0 0) (m.event ∷ []) (record {
        so_far = begins_so now number (slot_for view old s) m.event m.is_call m.is_answer;
        exact = λ sure honest safe. record {
          finds = (
            λ block copies at steps. absurd (no_scan (setup_of old) false s m.event number m.is_answer allowed copies steps),
            λ block copies at steps. absurd (no_scan (setup_of old) false s m.event number m.is_answer allowed copies steps),
            tt,
          );
          alike = λ before. possible_aside view old.shelf mid.shelf book s (after_event (setup_of old) m.event s) is (blocks_then (setup_of old) false s m.event number m.is_answer allowed);
          sure = subst AreSure (sym (ap (λ (v : ShelfView D). v.gates) is)) sure;
        };
        spared = λ honest safe. record {
          spares = λ digest. inl (histories_then (setup_of old) false s m.event number m.is_answer allowed digest);
          before = λ before. histories_then (setup_of old) false s m.event number m.is_answer allowed;
        };
      }) (runs_one view (setup_of old) begin_call (raid_numbered (Some number)) old.shelf mid.shelf s (Agrees mid) m)

  -- no raid begins any more
  pub raid_spent : (old mid : ShardView D) → ((s : State) → Agrees old s → Makes view begin_call (raid_numbered None) old s mid) → (s : State) → Agrees old s
      → MakesEvents view (IsRaid view old mid now s (Err why.Spent)) old s mid
  raid_spent old mid makes s agrees =
      let m = makes s agrees in
      makes_events view old mid s (IsRaid view old mid now s (Err why.Spent)) (m.event ∷ [])
      (stopped spent, (spent, refl, refl), (m.event, [], refl, m.is_call, inl (m.is_answer, refl, refl)), tt, tt)
      (runs_one view (setup_of old) begin_call (raid_numbered None) old.shelf mid.shelf s (Agrees mid) m)

  module _ (number removed cleared : ℕ) (old mid : ShardView D) (goes : GoesOn view old mid) (far : RaidedSoFar number removed cleared old mid) where
    -- it is over
    pub raid_done : mid.shelf.raid.next ≡ Finished → ((digest : Digest) → device_number (setup_of old).devices digest ≡ (setup_of old).device
        → part_of (setup_of old) digest < part_total (setup_of old))
        → (s : State) → Agrees old s → MakesEvents view (IsRaid view old mid now s (Ok (removed, cleared))) old s mid
    raid_done over each s agrees =
        let m = far s agrees in
        let slot = slot_for view old s in
        let at : (slot_after_all m.events slot).state.raid.next ≡ finished = ap (λ (t : State). t.raid.next) (here_is view now number old s m.events)
        ∙ next_is (setup_of mid) mid.shelf (after_events (setup_of old) m.events s) Finished m.stands.shelf over in
        let raids = over_so now number slot removed cleared m.events m.works.so_far at in
        makes_events view old mid s (IsRaid view old mid now s (Ok (removed, cleared))) m.events (
          did removed cleared,
          refl,
          raids,
          λ sure honest safe.
              let found = m.works.exact sure honest safe in
              raid_exact false slot now m.events removed cleared (possible_copies view old.shelf s) raids m.legal safe.safe.held.facts.blocks
              (all_map (λ d. device_number (setup_of old).devices d ≡ (setup_of old).device) (λ d. part_of (setup_of old) d < part_total (setup_of old))
              (digests_of s.log) each agrees.sprigs.own) found.finds,
          λ honest safe. (m.works.spared honest safe).spares,
        ) (runs_made view old mid s (HaveRaided view now number old s mid removed cleared) m)

    module _ (new : ShardView D) (raid : RaidView) (next : IsNext raid mid.shelf.raid) (same : raid.number ≡ number) where
      -- the call names the raid and its next turn
      named : (s : State) (events : List Event) (call : Call) → Agrees mid (after_events (setup_of old) events s) → call ≡ turn_call raid.number (turn_of raid.next) now
          → call ≡ turn_call number (slot_after_all events (slot_for view old s)).state.raid.next now
      named s events call stands is =
          let at : turn_of raid.next ≡ (slot_after_all events (slot_for view old s)).state.raid.next =
          ap turn_of next.next ∙ stands.shelf.queue.raid.turns.next ∙ sym (ap (λ (t : State). t.raid.next) (here_is view now number old s events)) in
          is ∙ (λ i. turn_call (same i) (at i) now)

      not_finished : (s : State) (events : List Event) → Agrees mid (after_events (setup_of old) events s) → same_turn (turn_of raid.next) finished ≡ false
          → same_turn (slot_after_all events (slot_for view old s)).state.raid.next finished ≡ false
      not_finished s events stands more =
          let at : turn_of raid.next ≡ (slot_after_all events (slot_for view old s)).state.raid.next =
          ap turn_of next.next ∙ stands.shelf.queue.raid.turns.next ∙ sym (ap (λ (t : State). t.raid.next) (here_is view now number old s events)) in
          ap (λ (x : Turn). same_turn x finished) (sym at) ∙ more

      -- ---- what was found with one turn more

      module _ (told : RaidDid) (took : TakesTurn view raid.next now (Ok told) mid new) (gone bare : ℕ) (ended : ended_by told ≡ Some (gone, bare)) (s : State)
          (m : MakesEvents view (HaveRaided view now number old s mid removed cleared) old s mid)
          (turn : TurnMakes view raid now (Ok told) mid (after_events (setup_of old) m.events s) new) where
        abbrev t : State
        t = after_events (setup_of old) m.events s

        e : Event
        e = turn.makes.event

        setups : setup_of mid ≡ setup_of old
        setups = setups_same view old mid goes

        more : raid.next ≢ Finished
        more over = by told (subst (λ (n : RaidNext). IsDidOf n told) over took.shelf.did) ended
          where
            by : (d : RaidDid) → IsDidOf Finished d → ended_by d ≡ Some (gone, bare) → ⊥
            by (Marked marks) is e = is
            by (Scanned block) is e = is
            by (Applied unmarked) is e = is
            by (Dropped r c) is e = is
            by Done is e = absurd cc

        comes : t.raid.next ≡ turn_of raid.next
        comes = sym m.stands.shelf.queue.raid.turns.next ∙ ap turn_of (sym next.next)

        module _ (found : HaveFound view now number old s mid m.events) (honest : IsHonest (view mid.shelf.disk)) (safe : IsSafe view mid t) where
          start : Possible
          start = possible_copies view old.shelf s

          all_found : (n : RaidNext) → raid.next ≡ n → ScansAll t start turn.makes.event
          unfolding start
          all_found (Mark part) at = no_scan_all t start turn.makes.event (mark_turn part) (comes ∙ ap turn_of at) (λ block is. absurd cc)
          all_found (Scan block) at = scans_all_as t start (possible_copies view mid.shelf t) turn.makes.event (found.alike (subst IsBefore (sym (comes ∙ ap turn_of at)) tt))
              (turn.all found.sure honest safe)
          all_found (Apply part) at = no_scan_all t start turn.makes.event (apply_turn part) (comes ∙ ap turn_of at) (λ block is. absurd cc)
          all_found (Drop part) at = no_scan_all t start turn.makes.event (drop_turn part) (comes ∙ ap turn_of at) (λ block is. absurd cc)
          all_found Finished at = absurd (more at)

          only_found : (n : RaidNext) → raid.next ≡ n → ScansOnly t start turn.makes.event
          unfolding start
          only_found (Mark part) at = no_scan_only t start turn.makes.event (mark_turn part) (comes ∙ ap turn_of at) (λ block is. absurd cc)
          only_found (Scan block) at = scans_only_as t start (possible_copies view mid.shelf t) turn.makes.event (found.alike (subst IsBefore (sym (comes ∙ ap turn_of at)) tt))
              (turn.only found.sure honest safe)
          only_found (Apply part) at = no_scan_only t start turn.makes.event (apply_turn part) (comes ∙ ap turn_of at) (λ block is. absurd cc)
          only_found (Drop part) at = no_scan_only t start turn.makes.event (drop_turn part) (comes ∙ ap turn_of at) (λ block is. absurd cc)
          only_found Finished at = absurd (more at)

          still : (n : RaidNext) → raid.next ≡ n → IsBefore (after_event (setup_of mid) turn.makes.event t).raid.next
              → SamePossible start (possible_copies view new.shelf (after_event (setup_of mid) turn.makes.event t))
          unfolding start
          still (Mark part) at before = possible_then start (possible_copies view mid.shelf t) _ (found.alike (subst IsBefore (sym (comes ∙ ap turn_of at)) tt))
              (turn.alike found.sure honest safe (subst IsNoDrop (sym at) tt))
          still (Scan block) at before = possible_then start (possible_copies view mid.shelf t) _ (found.alike (subst IsBefore (sym (comes ∙ ap turn_of at)) tt))
              (turn.alike found.sure honest safe (subst IsNoDrop (sym at) tt))
          still (Apply part) at before = possible_then start (possible_copies view mid.shelf t) _ (found.alike (subst IsBefore (sym (comes ∙ ap turn_of at)) tt))
              (turn.alike found.sure honest safe (subst IsNoDrop (sym at) tt))
          still (Drop part) at before =
              absurd (drops_on (setup_of mid) false t turn.makes.event raid.number part now (comes ∙ ap turn_of at)
              (subst (λ (x : Turn). Allowed (setup_of mid) false t turn.makes.event (turn_call raid.number x now)) (ap turn_of at)
              (subst (λ (c : Call). Allowed (setup_of mid) false t turn.makes.event c) turn.makes.is_call turn.makes.follows.allowed)) before)
          still Finished at before = absurd (more at)

          pub found_more : HaveFound view now number old s new (m.events ++ turn.makes.event ∷ [])
          unfolding start
          found_more = record {
            finds = finds_then (setup_of old) start m.events turn.makes.event s found.finds (all_found raid.next refl) (only_found raid.next refl);
            alike = λ before.
                let behind : after_events (setup_of old) (m.events ++ turn.makes.event ∷ []) s ≡ after_event (setup_of mid) turn.makes.event t =
                after_all (setup_of old) m.events (turn.makes.event ∷ []) s ∙ ap (λ (x : Setup). after_event x turn.makes.event t) (sym setups) in
                subst (λ (x : State). SamePossible start (possible_copies view new.shelf x)) (sym behind) (still raid.next refl (subst (λ (x : State). IsBefore x.raid.next) behind before));
            sure = subst AreSure (sym (took.shelf.sure found.sure)) found.sure;
          }

        -- ---- what was spared with one turn more

        module _ (have : HaveSpared view now number old s mid m.events) (safe : IsSafe view mid t) where
          abbrev then : State
          then = after_event (setup_of mid) turn.makes.event t

          allowed : (n : RaidNext) → raid.next ≡ n → Allowed (setup_of mid) false t turn.makes.event (turn_call raid.number (turn_of n) now)
          allowed n at = subst (λ (x : RaidNext). Allowed (setup_of mid) false t turn.makes.event (turn_call raid.number (turn_of x) now)) at
              (subst (λ (c : Call). Allowed (setup_of mid) false t turn.makes.event c) turn.makes.is_call turn.makes.follows.allowed)

          still_same : (n : RaidNext) → raid.next ≡ n → IsBefore (turn_of n) → IsOther (turn_of n) → (digest : Digest) → history then digest ≡ history s digest
          still_same n at before other digest =
              others_keep (setup_of mid) false t turn.makes.event raid.number now (turn_of n) other (allowed n at) digest ∙ have.before (subst IsBefore (sym (comes ∙ ap turn_of at)) before) digest

          abbrev Spared : Type 0
          Spared = RaidSpares s (possible_copies view new.shelf then) then × (IsBefore then.raid.next → (digest : Digest) → history then digest ≡ history s digest)

          spared_by : (n : RaidNext) → raid.next ≡ n → Spared
          spared_by (Mark part) at = ((λ digest. inl (still_same (Mark part) at tt tt digest)), λ before. still_same (Mark part) at tt tt)
          spared_by (Scan block) at = ((λ digest. inl (still_same (Scan block) at tt tt digest)), λ before. still_same (Scan block) at tt tt)
          spared_by (Apply part) at = ((λ digest. inl (still_same (Apply part) at tt tt digest)), λ before. still_same (Apply part) at tt tt)
          spared_by (Drop part) at =
              let at_turn : t.raid.next ≡ drop_turn part = comes ∙ ap turn_of at in
              let ends = took.shelf.ends part at in (
                spares_on s t then (possible_copies view mid.shelf t) (possible_copies view new.shelf then) have.spares
                    (drop_spares (setup_of mid) false t turn.makes.event raid.number now part (possible_copies view mid.shelf t) at_turn safe.safe.held.facts (allowed (Drop part) at))
                    (none_comes view mid.shelf new.shelf t then ends.0 ends.1 took.shelf.buffers took.shape.geometry (setup_of mid) (setup_of new)
                    m.stands.shelf.stands turn.makes.stands.shelf.stands),
                λ before. absurd (drops_on (setup_of mid) false t turn.makes.event raid.number part now at_turn (allowed (Drop part) at) before),
              )
          spared_by Finished at = absurd (more at)

          pub spared_more : HaveSpared view now number old s new (m.events ++ turn.makes.event ∷ [])
          spared_more =
              let behind : after_events (setup_of old) (m.events ++ turn.makes.event ∷ []) s ≡ then =
              after_all (setup_of old) m.events (turn.makes.event ∷ []) s ∙ ap (λ (x : Setup). after_event x turn.makes.event t) (sym setups) in
              let both : Spared = spared_by raid.next refl in
              record {
                spares = subst (λ (x : State). RaidSpares s (possible_copies view new.shelf x) x) (sym behind) both.0;
                before = subst (λ (x : State). IsBefore x.raid.next → (digest : Digest) → history x digest ≡ history s digest) (sym behind) both.1;
              }

      -- a turn more was taken
      pub raid_more : (told : RaidDid) (gone bare : ℕ) → TakesTurn view raid.next now (Ok told) mid new → ended_by told ≡ Some (gone, bare)
          → ((t : State) → Agrees mid t → TurnMakes view raid now (Ok told) mid t new) → RaidedSoFar number (removed + gone) (cleared + bare) old new
      raid_more told gone bare took ended makes = λ s agrees.
          let m = far s agrees in
          let t = after_events (setup_of old) m.events s in
          let turn = makes t m.stands in
          let one = makes_events view mid new t (λ events. events ≡ turn.makes.event ∷ []) (turn.makes.event ∷ []) refl
          (runs_one view (setup_of mid) (turn_call raid.number (turn_of raid.next) now) (turn_answer (Ok told)) mid.shelf new.shelf t (Agrees new) turn.makes) in
          makes_then view old mid new s (HaveRaided view now number old s mid removed cleared) (λ events. events ≡ turn.makes.event ∷ [])
          (HaveRaided view now number old s new (removed + gone) (cleared + bare)) goes m one
          (subst (λ (l : List Event). HaveRaided view now number old s new (removed + gone) (cleared + bare) (m.events ++ l)) (sym one.works) (record {
            so_far = turn_so now number (slot_for view old s) removed cleared m.events m.works.so_far turn.makes.event (named s m.events turn.makes.event.call m.stands turn.makes.is_call)
                (not_finished s m.events m.stands (goes_on raid.next (more told took gone bare ended s m turn))) told gone bare turn.makes.is_answer ended;
            exact = λ sure honest safe.
                found_more told took gone bare ended s m turn (m.works.exact sure honest safe) (goes.honest honest)
                (subst (λ (x : Setup). ShelfIsSafe view x mid.shelf t) (sym (setups_same view old mid goes)) (m.safe honest safe));
            spared = λ honest safe.
                spared_more told took gone bare ended s m turn (m.works.spared honest safe)
                (subst (λ (x : Setup). ShelfIsSafe view x mid.shelf t) (sym (setups_same view old mid goes)) (m.safe honest safe));
          }))

      -- a turn was refused
      pub raid_refused : (refusal : RaidRefusal) → ((t : State) → Agrees mid t → TurnMakes view raid now (Err refusal) mid t new) → (s : State) → Agrees old s
          → MakesEvents view (IsRaid view old new now s (Err (fault_of (cause_of refusal)))) old s new
      raid_refused refusal makes s agrees =
          let m = far s agrees in
          let t = after_events (setup_of old) m.events s in
          let turn = makes t m.stands in
          let cause = cause_of refusal in
          let one = makes_events view mid new t (λ events. events ≡ turn.makes.event ∷ []) (turn.makes.event ∷ []) refl
          (runs_one view (setup_of mid) (turn_call raid.number (turn_of raid.next) now) (turn_answer (Err refusal)) mid.shelf new.shelf t (Agrees new) turn.makes) in
          let allowed = subst (λ (c : Call). Allowed (setup_of mid) false t turn.makes.event c) turn.makes.is_call turn.makes.follows.allowed in
          let goes_further = not_over (setup_of mid) false t turn.makes.event raid.number raid.next now cause turn.makes.is_answer (next.number ∙ m.stands.shelf.queue.raid.turns.number)
          (sym m.stands.shelf.queue.raid.turns.next ∙ ap turn_of (sym next.next)) allowed in
          makes_then view old mid new s (HaveRaided view now number old s mid removed cleared) (λ events. events ≡ turn.makes.event ∷ []) (IsRaid view old new now s (Err (fault_of cause))) goes m one
          (subst (λ (l : List Event). IsRaid view old new now s (Err (fault_of cause)) (m.events ++ l)) (sym one.works) (
            stopped cause,
            (cause, refl, refl),
            refused_so now number (slot_for view old s) removed cleared m.events m.works.so_far turn.makes.event (named s m.events turn.makes.event.call m.stands turn.makes.is_call)
                (not_finished s m.events m.stands goes_further) cause turn.makes.is_answer,
            tt,
            tt,
          ))

-- ---- how a raid begins and how it is over

-- the beginning changes the book of the raid alone
module _ {D : Type 0} (view : D → DiskView) (old mid : ShardView D) (book : BookState) where
  abbrev pub with_book : ShardView D
  with_book = record old { shelf = record old.shelf { raid = book } }

  pub begun_goes : IsDisk (view old.shelf.disk) → (b : Bool) → mid ≡ cond b old with_book → GoesOn view old mid
  begun_goes is_disk true put = subst (GoesOn view old) (sym put) (goes_on_none view old is_disk)
  begun_goes is_disk false put = subst (GoesOn view old) (sym put) (record {
    shape = record { geometry = refl; set = refl };
    later = (goes_on_none view old is_disk).later;
    honest = λ honest. honest;
    sure = sure_same view old.shelf with_book.shelf refl refl;
  })

  -- a raid that begins has the book of one
  pub begun_is : (raid first : RaidView) (b : Bool) → ◌≡◌ {A = Option RaidView} (Some raid) (cond b None (Some first)) → mid ≡ cond b old with_book → mid ≡ with_book
  begun_is raid first true given put = absurd cc
  begun_is raid first false given put = put

-- none is told only where it is over
pub none_ended : (told : RaidDid) → ended_by told ≡ None → told ≡ Done
none_ended (Marked marks) is = absurd cc
none_ended (Scanned block) is = absurd cc
none_ended (Applied unmarked) is = absurd cc
none_ended (Dropped removed cleared) is = absurd cc
none_ended Done is = refl

pub done_over : (next : RaidNext) → IsDidOf next Done → next ≡ Finished
done_over (Mark part) is = absurd is
done_over (Scan block) is = absurd is
done_over (Apply part) is = absurd is
done_over (Drop part) is = absurd is
done_over Finished is = refl

pub some_more : (told : RaidDid) (both : ℕ × ℕ) → ended_by told ≡ Some both → told ≢ Done
some_more told both ended over = let none : Some both ≡ ended_by Done = sym ended ∙ ap ended_by over in absurd cc

-- The sums stay small: each end of a part adds at most 2^32, and there are at most 2^20 of them.
pub few_more : (told : RaidDid) (left then gone bare sum : ℕ) → ended_by told ≡ Some (gone, bare) → AreFewEnds left told → then < left → sum + min left (2 ^ 20) * 2 ^ 32 ≤ 2 ^ 52
    → (sum + gone + min then (2 ^ 20) * 2 ^ 32 ≤ 2 ^ 52) × (sum + bare + min then (2 ^ 20) * 2 ^ 32 ≤ 2 ^ 52)
few_more (Marked marks) left then gone bare sum ended few less most =
    let same : ◌≡◌ {A = ℕ × ℕ} (0, 0) (gone, bare) = cc in let one : 0 ≡ gone = ap (λ (p : ℕ × ℕ). p.0) same in let two : 0 ≡ bare =
    ap (λ (p : ℕ × ℕ). p.1) same in (omega (arith, one, less, most), omega (arith, two, less, most))
few_more (Scanned block) left then gone bare sum ended few less most =
    let same : ◌≡◌ {A = ℕ × ℕ} (0, 0) (gone, bare) = cc in let one : 0 ≡ gone = ap (λ (p : ℕ × ℕ). p.0) same in let two : 0 ≡ bare =
    ap (λ (p : ℕ × ℕ). p.1) same in (omega (arith, one, less, most), omega (arith, two, less, most))
few_more (Applied unmarked) left then gone bare sum ended few less most =
    let same : ◌≡◌ {A = ℕ × ℕ} (0, 0) (gone, bare) = cc in let one : 0 ≡ gone = ap (λ (p : ℕ × ℕ). p.0) same in let two : 0 ≡ bare =
    ap (λ (p : ℕ × ℕ). p.1) same in (omega (arith, one, less, most), omega (arith, two, less, most))
few_more (Dropped removed cleared) left then gone bare sum ended few less most =
    let same : ◌≡◌ {A = ℕ × ℕ} (removed, cleared) (gone, bare) = cc in
    let one : removed ≡ gone = ap (λ (p : ℕ × ℕ). p.0) same in
    let two : cleared ≡ bare = ap (λ (p : ℕ × ℕ). p.1) same in
    (omega (arith, one, few.0, few.2, less, most), omega (arith, two, few.1, few.2, less, most))
few_more Done left then gone bare sum ended few less most = absurd cc
