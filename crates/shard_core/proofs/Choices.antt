-- The vacating of a block: a choice, by which the disk may be read, and then moves.
use Rattle.std.proofs.Common.{◌≡◌, inl, inr, ℕ, ◌<◌, Bool, false, List, [], ◌∷◌, refl, sym, ◌∙◌, ap, subst, arith}
use Rattle.std.specs.Prelude.{Option, Some, None, Result, Ok, Err, IfOk, IfSome}
use Rattle.std.proofs.lemmas.List.Sums.{sum_by-cons}
use Rattle.disk_model.specs.Disk.{DiskView, IsHonest}
use Rattle.model_device.specs.Book.{Setup}
use Rattle.model_device.specs.Device.{State}
use Rattle.model_device.specs.Steps.{Step, after_steps}
use Rattle.model_device.specs.Events.{Event, Call, choose_call, after_event}
use Rattle.model_device.specs.Legal.{Allowed, WhereReads, queue_front}
use Rattle.model_device.specs.Vacating.{moved_by}
use Rattle.block_shelf.specs.declared.refusals.VacateRefusal.{VacateRefusal}
use Rattle.block_shelf.specs.declared.refusals.VacateRefusal.TheVariants as vacate
use Rattle.block_shelf.specs.View.{ShelfView, IsSetupOf}
use Rattle.law_steps.specs.Standing.{ShelfStands}
use Rattle.law_steps.specs.Events.{MakesEvent}
use Rattle.defrag_pass.specs.Choosing.{HasFew, cause_of_choice, choose_answer}
use Rattle.shard_core.specs.declared.refusals.DefragRefusal.{DefragRefusal}
use Rattle.shard_core.specs.View.{ShardView, SameSetup, setup_of}
use Rattle.shard_core.specs.Stands.{Agrees, IsWhole}
use Rattle.shard_core.specs.Calls.{Makes}
use Rattle.shard_core.specs.Vacating.{MakesEvents, IsCauseOf, IsMovedOut, IsVacating, vacate_cause}
use Rattle.shard_core.proofs.Events.{RunsBy, runs_one, runs_then, makes_events, runs_made}
use Rattle.shard_core.proofs.Making.{setup_is, setup_same, shelf_lifted, whole_made}

-- a choice makes no step
choice_still : (setup : Setup) (told : Bool) (s : State) (event : Event) → Allowed setup told s event choose_call → event.steps ≡ []
choice_still setup told s event (inl only) = only.1
choice_still setup told s event (inr reads) = by (queue_front s.book.queue) reads
  where
    by : (front : Option ℕ) → WhereReads told event front → event.steps ≡ []
    by None never = absurd never
    by (Some block) (inl damaged) = damaged.2
    by (Some block) (inr fails) = fails.1

cause_is : (refusal : VacateRefusal) → IsCauseOf (vacate_cause refusal) (cause_of_choice refusal)
cause_is (vacate.Damaged block place) = refl
cause_is vacate.Memory = refl
cause_is vacate.Fault = refl

-- The shelf made the choice, and stayed as it was, but that its disk was read.
module _ {D : Type 0} (view : D → DiskView) (old : ShardView D) (mid : ShelfView D) (same : mid ≡ record old.shelf { disk = mid.disk }) (result : Result (Option ℕ) VacateRefusal)
    (chooses : (setup : Setup) (s : State) → IsSetupOf setup old.shelf → ShelfStands setup old.shelf s
    → MakesEvent view setup choose_call (choose_answer result) old.shelf s mid (ShelfStands setup mid)) (honest_on : IsHonest (view old.shelf.disk) → IsHonest (view mid.disk))
    (whole : IsWhole old) where
  abbrev pub over : ShardView D
  over = record { shelf = mid; set = old.set; sprigs = old.sprigs }

  abbrev setup : Setup
  setup = setup_of old

  -- few units are live in what was chosen
  abbrev pub AreLow : Type 0
  AreLow = (setup : Setup) (s : State) → IsSetupOf setup old.shelf → ShelfStands setup old.shelf s → IfOk result (λ first. IfSome first (λ b. HasFew b s.book))

  pub shape_over : SameSetup old over
  shape_over = record { geometry = ap (λ (v : ShelfView D). v.geometry) same; set = refl }

  chose : (s : State) → Agrees old s → Makes view choose_call (choose_answer result) old s over
  chose s agrees = shelf_lifted view old over shape_over refl choose_call (choose_answer result) tt refl s agrees
      (chooses setup s (setup_is old whole) agrees.shelf)

  pub whole_over : IsWhole over
  whole_over = whole_made view choose_call (choose_answer result) old over whole shape_over (ap (λ (v : ShelfView D). v.limits) same) whole.stands.0 (chose whole.stands.0 whole.stands.1)

  module _ (s : State) (agrees : Agrees old s) where
    abbrev made : Makes view choose_call (choose_answer result) old s over
    made = chose s agrees

    abbrev behind : State
    behind = after_event setup made.event s

    still : behind ≡ s
    still = ap (λ (steps : List Step). after_steps setup steps s) (choice_still setup false s made.event
        (subst (λ (c : Call). Allowed setup false s made.event c) made.is_call made.follows.allowed))

    runs : RunsBy view setup old.shelf s mid (Agrees over) (made.event ∷ [])
    runs = runs_one view setup choose_call (choose_answer result) old.shelf mid s (Agrees over) made

    -- nothing is queued
    pub gives_none : result ≡ Ok None → MakesEvents view (IsVacating old s (Ok None)) old s over
    gives_none none =
        makes_events view old over s (IsVacating old s (Ok None)) (made.event ∷ []) (made.event, [], refl, made.is_call, inl (made.is_answer ∙ ap choose_answer none, refl, refl)) runs

    -- what was read isn't a body, or the disk failed
    pub gives_not : (refusal : VacateRefusal) → result ≡ Err refusal → MakesEvents view (IsVacating old s (Err (record { moved = 0; cause = vacate_cause refusal }))) old s over
    gives_not refusal is =
        let answered = made.is_answer ∙ ap choose_answer is in
        makes_events view old over s (IsVacating old s (Err (record { moved = 0; cause = vacate_cause refusal }))) (made.event ∷ []) (
          cause_of_choice refusal,
          cause_is refusal,
          omega (arith, sum_by-cons (λ (e : Event). moved_by e.answer) made.event [], ap moved_by answered),
          (made.event, [], refl, made.is_call, inr (inr (cause_of_choice refusal, answered, refl, refl))),
        ) runs

    -- the front is vacated
    module _ (block : ℕ) (chosen : result ≡ Ok (Some block)) (low : AreLow) where
      answered : made.event.answer ≡ choose_answer (Ok (Some block))
      answered = made.is_answer ∙ ap choose_answer chosen

      few_behind : HasFew block behind.book
      few_behind = subst (λ (t : State). HasFew block t.book) (sym still)
          (subst (λ (r : Result (Option ℕ) VacateRefusal). IfOk r (λ first. IfSome first (λ b. HasFew b s.book))) chosen (low setup s (setup_is old whole) agrees.shelf))

      pub stands_few : (t : State) × Agrees over t × HasFew block t.book
      stands_few = (behind, made.stands, few_behind)

      module _ (new : ShardView D) where
        abbrev Moves : Result ℕ DefragRefusal → Type 0
        Moves r = (t : State) → Agrees over t → HasFew block t.book → MakesEvents view (IsMovedOut (setup_of over) block t r) over t new

        all_runs : (Work : List Event → Type 0) → (moves : MakesEvents view Work over behind new) → RunsBy view setup old.shelf s new.shelf (Agrees new) (made.event ∷ moves.events)
        all_runs Work moves = runs_then view setup old.shelf mid new.shelf s (Agrees over) (Agrees new) (made.event ∷ []) moves.events honest_on runs
            (subst (λ (x : Setup). RunsBy view x mid behind new.shelf (Agrees new) moves.events) (sym (setup_same old over shape_over)) (runs_made view over new behind Work moves))

        pub gives_all : IfOk result (λ first. first ≡ queue_front old.shelf.queue.queue) → (moved : ℕ) → Moves (Ok moved)
            → MakesEvents view (IsVacating old s (Ok (Some (record { block = block; moved = moved })))) old s new
        gives_all first moved moves =
            let then = moves behind made.stands few_behind in
            let works = subst (λ (x : Setup). IsMovedOut x block behind (Ok moved) then.events) (sym (setup_same old over shape_over)) then.works in
            makes_events view old new s (IsVacating old s (Ok (Some (record { block = block; moved = moved })))) (made.event ∷ then.events) (
              ap queue_front agrees.shelf.queue.same ∙ sym (subst (λ (r : Result (Option ℕ) VacateRefusal). IfOk r (λ first. first ≡ queue_front old.shelf.queue.queue)) chosen first),
              (made.event, then.events, refl, made.is_call, inr (inl (block, answered, works.1))),
            ) (all_runs (IsMovedOut (setup_of over) block behind (Ok moved)) then)

        pub gives_some : (refusal : DefragRefusal) → Moves (Err refusal) → MakesEvents view (IsVacating old s (Err refusal)) old s new
        gives_some refusal moves =
            let then = moves behind made.stands few_behind in
            let works = subst (λ (x : Setup). IsMovedOut x block behind (Err refusal) then.events) (sym (setup_same old over shape_over)) then.works in
            makes_events view old new s (IsVacating old s (Err refusal)) (made.event ∷ then.events) (
              works.0,
              works.1,
              omega (arith, works.2, sum_by-cons (λ (e : Event). moved_by e.answer) made.event then.events, ap moved_by answered),
              (made.event, then.events, refl, made.is_call, inr (inl (block, answered, works.4))),
            ) (all_runs (IsMovedOut (setup_of over) block behind (Err refusal)) then)

  -- some state for which the shard stands, with few units in the block that was chosen
  pub gives_few : (block : ℕ) → result ≡ Ok (Some block) → AreLow → (s : State) × Agrees over s × HasFew block s.book
  gives_few block chosen low = stands_few whole.stands.0 whole.stands.1 block chosen low

  pub within : (block : ℕ) → result ≡ Ok (Some block) → IfOk result (λ first. IfSome first (λ b. b < old.shelf.geometry.blocks)) → block < mid.geometry.blocks
  within block chosen below =
      subst (λ (v : ShelfView D). block < v.geometry.blocks) (sym same)
      (subst (λ (r : Result (Option ℕ) VacateRefusal). IfOk r (λ first. IfSome first (λ b. b < old.shelf.geometry.blocks))) chosen below)
