-- One vacating behind others is a longer run of vacatings, and what a device makes of it.
use Rattle.std.proofs.Common.{◌≡◌, inl, inr, ℕ, suc, ◌+◌, ◌-◌, ◌<◌, ◌≤◌, List, [], ◌++◌, length, refl, sym, subst, arith}
use Rattle.std.specs.Prelude.{Some, None, Ok, Err}
use Rattle.std.proofs.lemmas.List.{append-nil, append_assoc}
use Rattle.disk_model.specs.Disk.{DiskView, IsDisk}
use Rattle.model_device.specs.Book.{Setup}
use Rattle.model_device.specs.Device.{State}
use Rattle.model_device.specs.Events.{Event, Cause, after_events}
use Rattle.model_device.specs.Vacating.{Outcome, Vacates, VacatesUpTo, did, stopped}
use Rattle.shard_core.specs.View.{ShardView, setup_of}
use Rattle.shard_core.specs.Stands.{Agrees}
use Rattle.shard_core.specs.Vacating.{MakesEvents, IsVacating}
use Rattle.shard_core.specs.declared.defrag.Vacated.{Vacated}
use Rattle.shard_core.specs.declared.refusals.DefragRefusal.{DefragRefusal}
use Rattle.shard_core.proofs.Events.{RunsBy, runs_none, runs_then, makes_events, runs_made, after_all}
use Rattle.core_run.specs.Turns.{GoesOn, IsDefrag}
use Rattle.core_run.proofs.Turning.{setups_same}

-- ---- by the model alone

module _ (setup : Setup) (n : ℕ) (s : State) where
  -- So many records were moved out of so many blocks by these events: however it goes on from the state after them, so it goes from the first.
  abbrev pub IsSoFar : (moved vacated : ℕ) → List Event → Type 0
  IsSoFar moved vacated events = (rest : List Event) (outcome : Outcome) → VacatesUpTo setup (n - vacated) (after_events setup events s) moved vacated rest outcome
      → VacatesUpTo setup n s 0 0 (events ++ rest) outcome

  pub none_so_far : IsSoFar 0 0 []
  none_so_far = λ rest outcome goes. let all : n - 0 ≡ n = omega arith in subst (λ (k : ℕ). VacatesUpTo setup k s 0 0 rest outcome) all goes

  module _ (moved vacated : ℕ) (events : List Event) (far : IsSoFar moved vacated events) where
    -- no block more may be vacated
    pub all_vacated : n ≤ vacated → VacatesUpTo setup n s 0 0 events (did moved vacated)
    all_vacated all =
        let none : 0 ≡ n - vacated = omega (arith, all) in
        subst (λ (l : List Event). VacatesUpTo setup n s 0 0 l (did moved vacated)) (append-nil events)
        (far [] (did moved vacated) (subst (λ (k : ℕ). VacatesUpTo setup k (after_events setup events s) moved vacated [] (did moved vacated)) none (refl, refl)))

    module _ (mine : List Event) (more : vacated < n) where
      left : ℕ
      left = n - (vacated + 1)

      goes_so : (rest : List Event) (outcome : Outcome) → VacatesUpTo setup (suc left) (after_events setup events s) moved vacated rest outcome → VacatesUpTo setup n s 0 0 (events ++ rest) outcome
      unfolding left
      goes_so rest outcome goes =
          let one : suc left ≡ n - vacated = omega (arith, more) in far rest outcome (subst (λ (k : ℕ). VacatesUpTo setup k (after_events setup events s) moved vacated rest outcome) one goes)

      -- nothing was queued
      pub none_queued : Vacates setup (after_events setup events s) mine (did 0 0) → VacatesUpTo setup n s 0 0 (events ++ mine) (did moved vacated)
      none_queued vacates = goes_so mine (did moved vacated) (mine, [], sym (append-nil mine), inl (vacates, refl, refl))

      -- it was refused
      pub vacating_stopped : (cause : Cause) → Vacates setup (after_events setup events s) mine (stopped cause) → VacatesUpTo setup n s 0 0 (events ++ mine) (stopped cause)
      vacating_stopped cause vacates = goes_so mine (stopped cause) (mine, [], sym (append-nil mine), inr (inr (cause, vacates, refl, refl)))

      -- a block more was vacated
      pub one_vacated : (x : ℕ) → Vacates setup (after_events setup events s) mine (did x 1) → IsSoFar (moved + x) (vacated + 1) (events ++ mine)
      unfolding left
      one_vacated x vacates = λ rest outcome goes.
          subst (λ (l : List Event). VacatesUpTo setup n s 0 0 l outcome) (sym (append_assoc events mine rest))
          (goes_so (mine ++ rest) outcome (
            mine,
            rest,
            refl,
            inr
                (inl (x, vacates, subst (λ (t : State). VacatesUpTo setup left t (moved + x) (vacated + 1) rest outcome) (after_all setup events mine s) goes)),
          ))

-- ---- what a device makes of it

module _ {D : Type 0} (view : D → DiskView) where
  -- events of the device, and then others
  pub makes_then : (old mid new : ShardView D) (s : State) (Work More Both : List Event → Type 0) → GoesOn view old mid → (first : MakesEvents view Work old s mid)
      → (then : MakesEvents view More mid (after_events (setup_of old) first.events s) new) → Both (first.events ++ then.events) → MakesEvents view Both old s new
  makes_then old mid new s Work More Both goes first then both =
      makes_events view old new s Both (first.events ++ then.events) both
      (runs_then view (setup_of old) old.shelf mid.shelf new.shelf s (Agrees mid) (Agrees new) first.events then.events goes.honest (runs_made view old mid s Work first)
      (subst (λ (setup : Setup). RunsBy view setup mid.shelf (after_events (setup_of old) first.events s) new.shelf (Agrees new) then.events) (setups_same view old mid goes)
      (runs_made view mid new (after_events (setup_of old) first.events s) More then)))

  -- So far a device was defragmented, where so many blocks were queued at the start.
  abbrev pub DefragsSoFar : (queued moved vacated : ℕ) → (old mid : ShardView D) → Type 0
  DefragsSoFar queued moved vacated old mid = (s : State) → Agrees old s → queued ≡ length s.book.queue → MakesEvents view (IsSoFar (setup_of old) queued s moved vacated) old s mid

  pub defrag_begins : (queued : ℕ) (shard : ShardView D) → IsDisk (view shard.shelf.disk) → DefragsSoFar queued 0 0 shard shard
  defrag_begins queued shard is_disk = λ s agrees same.
      makes_events view shard shard s (IsSoFar (setup_of shard) queued s 0 0) [] (none_so_far (setup_of shard) queued s) (runs_none view (setup_of shard) shard.shelf s (Agrees shard) is_disk agrees)

  module _ (queued moved vacated : ℕ) (old mid : ShardView D) (goes : GoesOn view old mid) (far : DefragsSoFar queued moved vacated old mid) where
    -- all that waited at the start were vacated
    pub defrag_done : queued ≤ vacated → (s : State) → Agrees old s → queued ≡ length s.book.queue → MakesEvents view (IsDefrag old s (Ok (moved, vacated))) old s mid
    defrag_done all s agrees same =
        let m = far s agrees same in
        makes_events view old mid s (IsDefrag old s (Ok (moved, vacated))) m.events
        (did moved vacated, refl, subst (λ (n : ℕ). VacatesUpTo (setup_of old) n s 0 0 m.events (did moved vacated)) same (all_vacated (setup_of old) queued s moved vacated m.events m.works all))
        (runs_made view old mid s (IsSoFar (setup_of old) queued s moved vacated) m)

    module _ (new : ShardView D) (more : vacated < queued) where
      -- what a vacating is by the setup at the start
      by_old : (t : State) (events : List Event) (outcome : Outcome) → Vacates (setup_of mid) t events outcome → Vacates (setup_of old) t events outcome
      by_old t events outcome vacates = subst (λ (setup : Setup). Vacates setup t events outcome) (setups_same view old mid goes) vacates

      -- a block more was vacated
      pub defrag_more : (one : Vacated) → ((t : State) → Agrees mid t → MakesEvents view (IsVacating mid t (Ok (Some one))) mid t new) → DefragsSoFar queued (moved + one.moved) (vacated + 1) old new
      defrag_more one makes = λ s agrees same.
          let m = far s agrees same in
          let then = makes (after_events (setup_of old) m.events s) m.stands in
          makes_then old mid new s (IsSoFar (setup_of old) queued s moved vacated) (IsVacating mid (after_events (setup_of old) m.events s) (Ok (Some one)))
          (IsSoFar (setup_of old) queued s (moved + one.moved) (vacated + 1)) goes m then
          (one_vacated (setup_of old) queued s moved vacated m.events m.works then.events more one.moved (by_old (after_events (setup_of old) m.events s) then.events (did one.moved 1) then.works.1))

      -- nothing waits any more
      pub defrag_none : ((t : State) → Agrees mid t → MakesEvents view (IsVacating mid t (Ok None)) mid t new) → (s : State) → Agrees old s → queued ≡ length s.book.queue
          → MakesEvents view (IsDefrag old s (Ok (moved, vacated))) old s new
      defrag_none makes s agrees same =
          let m = far s agrees same in
          let then = makes (after_events (setup_of old) m.events s) m.stands in
          makes_then old mid new s (IsSoFar (setup_of old) queued s moved vacated) (IsVacating mid (after_events (setup_of old) m.events s) (Ok None))
          (IsDefrag old s (Ok (moved, vacated))) goes m then (
            did moved vacated,
            refl,
            subst (λ (n : ℕ). VacatesUpTo (setup_of old) n s 0 0 (m.events ++ then.events) (did moved vacated)) same
                (none_queued (setup_of old) queued s moved vacated m.events m.works then.events more (by_old (after_events (setup_of old) m.events s) then.events (did 0 0) then.works)),
          )

      -- the next was refused
      pub defrag_refused : (refusal : DefragRefusal) → ((t : State) → Agrees mid t → MakesEvents view (IsVacating mid t (Err refusal)) mid t new) → (s : State) → Agrees old s
          → queued ≡ length s.book.queue
          → MakesEvents view (IsDefrag old s (Err refusal.cause)) old s new
      defrag_refused refusal makes s agrees same =
          let m = far s agrees same in
          let then = makes (after_events (setup_of old) m.events s) m.stands in
          let cause = then.works.0 in
          makes_then old mid new s (IsSoFar (setup_of old) queued s moved vacated) (IsVacating mid (after_events (setup_of old) m.events s) (Err refusal))
          (IsDefrag old s (Err refusal.cause)) goes m then (
            stopped cause,
            (cause, then.works.1, refl),
            subst (λ (n : ℕ). VacatesUpTo (setup_of old) n s 0 0 (m.events ++ then.events) (stopped cause)) same
                (vacating_stopped (setup_of old) queued s moved vacated m.events m.works then.events more cause
                (by_old (after_events (setup_of old) m.events s) then.events (stopped cause) then.works.3)),
          )
