-- A block that was vacated has left the queue, and less is left to vacate. Where a block is free, none is refused for want of space.
use Rattle.std.proofs.Common.{◌≡◌, ◌≢◌, ◌⊎◌, inl, inr, ⊎_elim, ℕ, ◌+◌, ◌≤◌, ◌<◌, Bool, true, false, cond, ◌||◌, List, [], ◌∷◌, ◌++◌, length, refl, sym, ◌∙◌, ap, subst, arith}
use Rattle.std.specs.Prelude.{nat_lt, nat_le, Option, Some, None}
use Rattle.std.specs.List.{AllByRecursion}
use Rattle.std.proofs.lemmas.Bool.{both_ways, eq-eqb, leb-true}
use Rattle.rec_format.specs.declared.version.Digest.{Digest}
use Rattle.rec_format.specs.Versions.{top_number}
use Rattle.model_device.specs.Book.{Setup, Book, defrag, filling_buffer, has_room, is_in, use_of, may_be_queued}
use Rattle.model_device.specs.Device.{State}
use Rattle.model_device.specs.Steps.{Step, moved as moved_step, after_steps}
use Rattle.model_device.specs.Events.{choose_call, move_call, Cause, spent, overload, no_space, Answer, stamp_given, happened, found_version, counted}
use Rattle.model_device.specs.Events.{block_chosen, raid_numbered, marks_made, block_scanned, marks_undone, part_ended, raid_over, refused, Event, after_event}
use Rattle.model_device.specs.Events.{after_events, steps_of}
use Rattle.model_device.specs.Legal.{Allowed, Follows, IsLegal, move_reserve, no_new_buffer, no_place, queue_front}
use Rattle.model_device.specs.Vacating.{IfRefused, moved_by, MovesOut, Outcome, Vacates, did, stopped}
use Rattle.law_room.specs.Tidy.{IsTidy}
use Rattle.law_room.specs.Room.{NoneRefused, FindsRoom, left_to_vacate}
use Rattle.law_room.proofs.Draining.{AllFill, HasSpare, IsEmptying, copy_used, spare_room, step_empties}
use Rattle.law_room.proofs.Moves.{MoveEnds, stays, goes, lacks, fails, FailsOtherwise, move_ends, choice_ends, went_on, not_refused, not_for_space, fails_not_for_space}
use Rattle.law_room.proofs.Waiting.{unused_waits_not, waits_bare, waits_below}

-- ---- no place

module _ (setup : Setup) (block : ℕ) (book : Book) where
  -- where a block is free, a buffer that can't begin lacks something else
  none_begins : (cause : Cause) (free : ℕ) → 1 ≤ length book.free → no_new_buffer setup move_reserve book ≡ Some cause → cause ≢ no_space free
  none_begins cause free some is same = by (nat_lt top_number book.next_number) (nat_le setup.pending_limit (length book.buffers)) (nat_le (length book.free) move_reserve) refl is
    where
      by : (a b c : Bool) → nat_le (length book.free) move_reserve ≡ c
          → cond a (Some spent) (cond b (Some (overload (length book.buffers))) (cond c (Some (no_space (length book.free))) None)) ≡ Some cause → ⊥
      by true b c full e = let clash : spent ≡ no_space free = cc in absurd (cc)
      by false true c full e = let clash : overload (length book.buffers) ≡ no_space free = cc in absurd (cc)
      by false false true full e = absurd (omega (arith, leb-true (length book.free) move_reserve full, some))
      by false false false full e = absurd (cc)

  other_cause : (units : ℕ) (cause : Cause) (free : ℕ) → units ≤ use_of book block → (1 ≤ length book.free) ⊎ HasSpare setup block book
      → no_place setup defrag move_reserve units book ≡ Some cause → cause ≢ no_space free
  other_cause units cause free le either is same = by (has_room setup defrag units book) refl is either
    where
      by : (room : Bool) → has_room setup defrag units book ≡ room → cond room None (no_new_buffer setup move_reserve book) ≡ Some cause
          → (1 ≤ length book.free) ⊎ HasSpare setup block book → ⊥
      by true room e either = absurd (cc)
      by false none e (inl some) = none_begins cause free some e same
      by false none e (inr spare) = both_ways (has_room setup defrag units book) none (spare_room setup block units book spare le)

-- ---- the moves out of a block

-- an event was refused, or went on
when_refused : (answer : Answer) (Refused : Cause → Type 0) (Else : Type 0) → IfRefused answer Refused Else
    → ((cause : Cause) × (answer ≡ refused cause) × Refused cause) ⊎ (((cause : Cause) → answer ≢ refused cause) × Else)
when_refused (stamp_given s) Refused Else is = inr (λ cause same. cc, is)
when_refused (happened b) Refused Else is = inr (λ cause same. cc, is)
when_refused (found_version v) Refused Else is = inr (λ cause same. cc, is)
when_refused (counted n) Refused Else is = inr (λ cause same. cc, is)
when_refused (block_chosen b) Refused Else is = inr (λ cause same. cc, is)
when_refused (raid_numbered n) Refused Else is = inr (λ cause same. cc, is)
when_refused (marks_made n) Refused Else is = inr (λ cause same. cc, is)
when_refused (block_scanned b) Refused Else is = inr (λ cause same. cc, is)
when_refused (marks_undone n) Refused Else is = inr (λ cause same. cc, is)
when_refused (part_ended r c) Refused Else is = inr (λ cause same. cc, is)
when_refused raid_over Refused Else is = inr (λ cause same. cc, is)
when_refused (refused cause) Refused Else is = inl (cause, refl, is)

module _ (setup : Setup) (told : Bool) (block : ℕ) (behind : List ℕ) (start : Book) where
  abbrev Emptying : State → Type 0
  Emptying s = IsEmptying setup block behind start s.book

  -- an event that isn't refused goes on with it
  move_empties : (s : State) (event : Event) (digest : Digest) → Emptying s → MoveEnds setup s event digest block → ((cause : Cause) → event.answer ≢ refused cause)
      → Emptying (after_event setup event s)
  move_empties s event digest was (stays answer steps) none = subst (λ (l : List Step). Emptying (after_steps setup l s)) (sym steps) was
  move_empties s event digest was (goes has can answer steps) none =
      subst (λ (l : List Step). Emptying (after_steps setup l s)) (sym steps)
      (subst (λ (n : ℕ). IsEmptying setup n behind start (after_steps setup (moved_step digest ∷ []) s).book) has.there
      (step_empties setup s digest has.copy has.live can behind start (subst (λ (n : ℕ). IsEmptying setup n behind start s.book) (sym has.there) was)))
  move_empties s event digest was (lacks has cause is answer) none = absurd (none cause answer)
  move_empties s event digest was (fails is) none = absurd (none is.cause is.answers)

  -- and none is refused for want of space
  move_finds : (s : State) (event : Event) (digest : Digest) → setup.lwm ≤ 100 → 1 ≤ length start.free → Emptying s → MoveEnds setup s event digest block
      → IfRefused event.answer (λ cause. (free : ℕ) → cause ≢ no_space free) (Unit {0})
  move_finds s event digest low some was ends = not_for_space event.answer (by ends)
    where
      by : MoveEnds setup s event digest block → (free : ℕ) → event.answer ≢ refused (no_space free)
      by (stays answer steps) free same = let clash : happened false ≡ refused (no_space free) = sym answer ∙ same in absurd (cc)
      by (goes has can answer steps) free same = let clash : happened true ≡ refused (no_space free) = sym answer ∙ same in absurd (cc)
      by (lacks has cause is answer) free same =
          let clash : refused cause ≡ refused (no_space free) = sym answer ∙ same in
          other_cause setup block s.book has.copy.units cause free
          (subst (λ (n : ℕ). has.copy.units ≤ use_of s.book n) has.there (copy_used s.book digest has.copy was.tidy.own has.live)) (was.space low some) is (cc)
      by (fails is) free same = fails_not_for_space event is free same

  ends_of : (s : State) (faults : ℕ) (event : Event) (digest : Digest) → event.call ≡ move_call digest block → Follows setup told s faults event → MoveEnds setup s event digest block
  ends_of s faults event digest call follows = move_ends setup told s event digest block (subst (λ c. Allowed setup told s event c) call follows.allowed)

  -- the moves were made: nothing is left in the block
  moves_empty : (events : List Event) (s : State) (faults moved : ℕ) (outcome : Outcome) → Emptying s → IsLegal setup told s faults events → MovesOut setup block s moved events outcome
      → NoneRefused events → Emptying (after_events setup events s) × (use_of (after_events setup events s).book block ≡ 0)
  moves_empty [] s faults moved outcome was legal out none = (was, out.0)
  moves_empty (event ∷ events) s faults moved outcome was legal out none =
      moves_empty events (after_event setup event s) event.faults_after (moved + moved_by event.answer) outcome
      (move_empties s event out.0.0 was (ends_of s faults event out.0.0 out.0.1 legal.0) (λ cause. not_refused event.answer cause none.0)) legal.1
      (went_on event.answer (λ cause. (events ≡ []) × (outcome ≡ stopped cause)) (MovesOut setup block (after_event setup event s) (moved + moved_by event.answer) events outcome) none.0 out.1) none.1

  moves_find : (events : List Event) (s : State) (faults moved : ℕ) (outcome : Outcome) → setup.lwm ≤ 100 → 1 ≤ length start.free → Emptying s → IsLegal setup told s faults events
      → MovesOut setup block s moved events outcome → AllByRecursion (λ event. IfRefused event.answer (λ cause. (free : ℕ) → cause ≢ no_space free) (Unit {0})) events
  moves_find [] s faults moved outcome low some was legal out = tt
  moves_find (event ∷ events) s faults moved outcome low some was legal out =
      let ends = ends_of s faults event out.0.0 out.0.1 legal.0 in (
        move_finds s event out.0.0 low some was ends,
        ⊎_elim (λ (stop : (cause : Cause) × (event.answer ≡ refused cause) × ((events ≡ []) × (outcome ≡ stopped cause))).
            subst (AllByRecursion (λ e. IfRefused e.answer (λ cause. (free : ℕ) → cause ≢ no_space free) (Unit {0}))) (sym stop.2.0) tt)
            (λ (on : ((cause : Cause) → event.answer ≢ refused cause) × MovesOut setup block (after_event setup event s) (moved + moved_by event.answer) events outcome).
            moves_find events (after_event setup event s) event.faults_after (moved + moved_by event.answer) outcome low some (move_empties s event out.0.0 was ends on.0) legal.1 on.1)
            (when_refused event.answer (λ cause. (events ≡ []) × (outcome ≡ stopped cause)) (MovesOut setup block (after_event setup event s) (moved + moved_by event.answer) events outcome) out.1),
      )

-- ---- the front of the queue

front_is : (queue : List ℕ) (block : ℕ) → queue_front queue ≡ Some block → (behind : List ℕ) × (queue ≡ block ∷ behind)
front_is [] block is = absurd (cc)
front_is (b ∷ bs) block is = let same : b ≡ block = cc in (bs, ap (λ (n : ℕ). n ∷ bs) same)

none_queued : (queue : List ℕ) → queue_front queue ≡ None → queue ≡ []
none_queued [] is = refl
none_queued (b ∷ bs) is = absurd (cc)

module _ (setup : Setup) (book : Book) (tidy : IsTidy setup book) (block : ℕ) (behind : List ℕ) (front : book.queue ≡ block ∷ behind) where
  in_range : block < setup.blocks
  in_range = (subst (AllByRecursion (λ b. b < setup.blocks)) front tidy.below).0

  first_is : is_in book.queue block ≡ true
  first_is = ap (λ (l : List ℕ). is_in l block) front ∙ ap (λ (t : Bool). t || is_in behind block) (eq-eqb block block refl)

  front_waits : may_be_queued setup book block ≡ true
  front_waits = sym (tidy.queued block in_range) ∙ first_is

  front_empties : IsEmptying setup block behind book book
  front_empties = record {
    tidy = tidy;
    bare = waits_bare setup book block front_waits;
    less = waits_below setup book block front_waits;
    front = inl front;
    come = λ half. omega arith;
    free = λ low none. inl (none, omega arith);
    filled = λ low none all. all;
    space = λ low some. inl some;
  }

-- ---- vacating

-- what a block that was vacated leaves
pub record HasVacated (setup : Setup) (old new : Book) : Type 0 where
  pub tidy : IsTidy setup new
  pub less : left_to_vacate setup new + 1 ≤ left_to_vacate setup old
  pub shorter : length new.queue + 1 ≤ length old.queue
  pub free : filling_buffer defrag old.buffers ≡ None → length old.free ≤ length new.free + 1
  pub filled : filling_buffer defrag old.buffers ≡ None → AllFill old → AllFill new

emptied_vacates : (setup : Setup) (block : ℕ) (behind : List ℕ) (old new : Book) → setup.lwm ≤ 50 → old.queue ≡ block ∷ behind → IsEmptying setup block behind old new → use_of new block ≡ 0
    → HasVacated setup old new
emptied_vacates setup block behind old new half front is empty = record {
  tidy = is.tidy;
  less =
      let shorter = by is.front in
      let come = is.come half in
      omega (arith, shorter, ap length front, come);
  shorter = let shorter = by is.front in omega (arith, shorter, ap length front);
  filled = λ none all. is.filled (omega (arith, half)) none all;
  free = λ none.
      ⊎_elim (λ (same : (filling_buffer defrag new.buffers ≡ None) × (length old.free ≤ length new.free)). omega (arith, same.1))
      (λ (begun : HasSpare setup block new × (length old.free ≤ length new.free + 1)). begun.1) (is.free (omega (arith, half)) none);
}
  where
    by : (new.queue ≡ block ∷ behind) ⊎ ((length new.queue ≤ length behind) × (use_of new block ≡ 0)) → length new.queue ≤ length behind
    by (inl still) = absurd (both_ways (may_be_queued setup new block) (unused_waits_not setup new block empty) (front_waits setup new is.tidy block behind still))
    by (inr gone) = gone.0

module _ (setup : Setup) (told : Bool) (t : State) (faults : ℕ) (tidy : IsTidy setup t.book) (first : Event) (moves : List Event) (call : first.call ≡ choose_call)
    (legal : IsLegal setup told t faults (first ∷ moves)) where
  choice : (first.steps ≡ []) × ((first.answer ≡ block_chosen (queue_front t.book.queue)) ⊎ FailsOtherwise first)
  choice = choice_ends setup told t first (subst (λ c. Allowed setup told t first c) call legal.0.allowed)

  still : t ≡ after_event setup first t
  still = sym (ap (λ (l : List Step). after_steps setup l t) choice.0)

  -- what was chosen is the front
  chosen : (block : Option ℕ) → first.answer ≡ block_chosen block → queue_front t.book.queue ≡ block
  chosen block answer =
      ⊎_elim (λ (is : first.answer ≡ block_chosen (queue_front t.book.queue)).
      let same : block_chosen (queue_front t.book.queue) ≡ block_chosen block = sym is ∙ answer in cc)
      (λ (fails : FailsOtherwise first). let clash : refused fails.cause ≡ block_chosen block = sym fails.answers ∙ answer in absurd (cc)) choice.1

  abbrev Ends : Outcome → Type 0
  Ends outcome =
      ((first.answer ≡ block_chosen None) × (moves ≡ []) × (outcome ≡ did 0 0))
      ⊎ ((block : ℕ) × (first.answer ≡ block_chosen (Some block)) × MovesOut setup block (after_event setup first t) 0 moves outcome)
      ⊎ ((cause : Cause) × (first.answer ≡ refused cause) × (moves ≡ []) × (outcome ≡ stopped cause))

  vacates : (outcome : Outcome) → setup.lwm ≤ 50 → NoneRefused (first ∷ moves) → Ends outcome
      → ((t.book.queue ≡ []) × (steps_of (first ∷ moves) ≡ [])) ⊎ HasVacated setup t.book (after_events setup (first ∷ moves) t).book
  vacates outcome half none (inl ends) =
      inl (none_queued t.book.queue (chosen None ends.0), (λ i. choice.0 i ++ steps_of (ends.1 i)))
  vacates outcome half none (inr (inl ends)) =
      let front = front_is t.book.queue ends.0 (chosen (Some ends.0) ends.1) in
      let was = subst (λ (s : State). IsEmptying setup ends.0 front.0 t.book s.book) still (front_empties setup t.book tidy ends.0 front.0 front.1) in
      let made = moves_empty setup told ends.0 front.0 t.book moves (after_event setup first t) first.faults_after 0 outcome was legal.1 ends.2 none.1 in
      inr (emptied_vacates setup ends.0 front.0 t.book (after_events setup moves (after_event setup first t)).book half front.1 made.0 made.1)
  vacates outcome half none (inr (inr ends)) = absurd (not_refused first.answer ends.0 none.0 ends.1)

  finds : (outcome : Outcome) → setup.lwm ≤ 100 → 1 ≤ length t.book.free → Ends outcome
      → AllByRecursion (λ event. IfRefused event.answer (λ cause. (free : ℕ) → cause ≢ no_space free) (Unit {0})) (first ∷ moves)
  finds outcome low some ends = (not_for_space first.answer first_finds, by ends)
    where
      first_finds : (free : ℕ) → first.answer ≢ refused (no_space free)
      first_finds free same =
          ⊎_elim (λ (is : first.answer ≡ block_chosen (queue_front t.book.queue)). let clash : block_chosen (queue_front t.book.queue) ≡ refused (no_space free) = sym is ∙ same in absurd (cc))
          (λ (fails : FailsOtherwise first). fails_not_for_space first fails free same) choice.1

      nothing : moves ≡ [] → AllByRecursion (λ event. IfRefused event.answer (λ cause. (free : ℕ) → cause ≢ no_space free) (Unit {0})) moves
      nothing is = subst (AllByRecursion (λ event. IfRefused event.answer (λ cause. (free : ℕ) → cause ≢ no_space free) (Unit {0}))) (sym is) tt

      by : Ends outcome → AllByRecursion (λ event. IfRefused event.answer (λ cause. (free : ℕ) → cause ≢ no_space free) (Unit {0})) moves
      by (inl ends) = nothing ends.1
      by (inr (inl ends)) =
          let front = front_is t.book.queue ends.0 (chosen (Some ends.0) ends.1) in
          let was = subst (λ (s : State). IsEmptying setup ends.0 front.0 t.book s.book) still (front_empties setup t.book tidy ends.0 front.0 front.1) in
          moves_find setup told ends.0 front.0 t.book moves (after_event setup first t) first.faults_after 0 outcome low some was legal.1 ends.2
      by (inr (inr ends)) = nothing ends.2

-- Where no event was refused nothing was queued, or less is left to vacate; and one free block went at most, where no buffer gathered moved
-- records.
pub vacated : (setup : Setup) (told : Bool) (t : State) (faults : ℕ) (rest : List Event) (outcome : Outcome) → IsTidy setup t.book → setup.lwm ≤ 50 → Vacates setup t rest outcome
    → IsLegal setup told t faults rest → NoneRefused rest → ((t.book.queue ≡ []) × (steps_of rest ≡ [])) ⊎ HasVacated setup t.book (after_events setup rest t).book
vacated setup told t faults rest outcome tidy half (first, moves, is, call, ends) legal none =
    subst (λ (l : List Event). ((t.book.queue ≡ []) × (steps_of l ≡ [])) ⊎ HasVacated setup t.book (after_events setup l t).book) (sym is)
    (vacates setup told t faults tidy first moves call (subst (IsLegal setup told t faults) is legal) outcome half (subst NoneRefused is none) ends)

-- Where a block is free, no event is refused for want of space.
pub vacating_finds : (setup : Setup) (told : Bool) (t : State) (faults : ℕ) (rest : List Event) (outcome : Outcome) → IsTidy setup t.book → setup.lwm ≤ 100 → Vacates setup t rest outcome
    → IsLegal setup told t faults rest → FindsRoom t rest
vacating_finds setup told t faults rest outcome tidy low (first, moves, is, call, ends) legal some =
    subst (AllByRecursion (λ event. IfRefused event.answer (λ cause. (free : ℕ) → cause ≢ no_space free) (Unit {0}))) (sym is)
    (finds setup told t faults tidy first moves call (subst (IsLegal setup told t faults) is legal) outcome low some ends)
