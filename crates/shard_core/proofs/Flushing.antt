-- What sealing and flushing make of a shelf.
use Rattle.std.proofs.Common.{◌≡◌, ◌≢◌, ℕ, ◌≤◌, Bool, true, false, List, [], ◌++◌, refl, sym, ◌∙◌, ap, subst, inl, inr, arith}
use Rattle.std.specs.Prelude.{Option, Some, None, Result, Ok, Err, OnErr, IfOk, MatchOption}
use Rattle.std.specs.List.{AllByRecursion}
use Rattle.model_faults.specs.Counts.{Rose}
use Rattle.model_device.specs.Book.{Setup}
use Rattle.model_device.specs.Device.{State}
use Rattle.model_device.specs.Steps.{Step, after_steps}
use Rattle.model_device.specs.Events.{Event, Call, counted}
use Rattle.model_device.specs.Legal.{Allowed, FlushEnds, flush_count, flush_first}
use Rattle.disk_model.specs.Disk.{DiskView, IsHonest}
use Rattle.block_shelf.specs.View.{ShelfView, is_unsealed}
use Rattle.block_shelf.specs.Flushes.{FirstLeaves, FirstStays, FlushMakes}
use Rattle.block_shelf.specs.Calls.{Goes}
use Rattle.block_shelf.proofs.Going.{goes_then}
use Rattle.law_steps.specs.Standing.{ShelfStands}
use Rattle.law_steps.specs.Events.{MakesEvent}
use Rattle.law_steps.proofs.Making.{event_of, makes_by}
use Rattle.shard_core.specs.Calls.{FlushesAll, flush_answer}
use Rattle.shard_core.specs.Flushing.{flushed_count}
use Rattle.shard_core.specs.Keeping.{FlushesInTurn}
use Rattle.shard_core.proofs.FlushSteps.{flush_is_one}
use Rattle.shard_core.proofs.FlushLoop.{stays_some}
use Rattle.shard_core.proofs.Keeping.{flushes_here, flushes_more, flushes_none, flushes_stopped}

-- ---- how a flush ends

flush_ends : {E : Type 0} (result : Result ℕ E) (call : Call) (before after : ℕ) (first rest steps : List Step) → FlushesAll result rest steps → OnErr result (Rose before after)
    → FlushEnds (record { call = call; answer = flush_answer result; steps = first ++ steps; faults_before = before; faults_after = after }) first rest
flush_ends (Ok n) call before after first rest steps flushes rose = inl (ap (λ (x : List Step). first ++ x) flushes.0, ap (λ (k : ℕ). counted k) flushes.1)
flush_ends (Err e) call before after first rest steps stops rose = inr (refl, rose, steps, refl, stops)

-- ---- the event

-- Buffers were sealed in memory, and then some flushed, with an event that ends so.
module _ {D E : Type 0} (view : D → DiskView) (setup : Setup) (old mid new : ShelfView D) (s : State) (stands : ShelfStands setup old s) (first rest : List Step)
    (seals : Goes view setup first old s mid) (disk : mid.disk ≡ old.disk) (result : Result ℕ E)
    (flushes : (steps : List Step) × FlushesAll result rest steps × Goes view setup steps mid (after_steps setup first s) new)
    (count : (view mid.disk).faults ≤ (view new.disk).faults) (rose : OnErr result (Rose (view mid.disk).faults (view new.disk).faults)) where
  abbrev steps : List Step
  steps = first ++ flushes.0

  -- The count of faults rose since the sealing, which calls no disk.
  rose_since : OnErr result (Rose (view old.disk).faults (view new.disk).faults)
  rose_since = subst (λ (d : D). OnErr result (Rose (view d).faults (view new.disk).faults)) disk rose

  pub makes_flush : (call : Call) → ((event : Event) → FlushEnds event first rest → (told : Bool) → Allowed setup told s event call)
      → MakesEvent view setup call (flush_answer result) old s new (ShelfStands setup new)
  makes_flush call allowed =
      let event : Event = event_of view setup old new s call (flush_answer result) steps in
      let may = allowed event (flush_ends result call (view old.disk).faults (view new.disk).faults first rest flushes.0 flushes.1 rose_since) in
      let goes = goes_then view setup first flushes.0 old mid new s (λ honest. subst (λ (d : D). IsHonest (view d)) (sym disk) honest) seals flushes.2 in
      makes_by view setup old new s call (flush_answer result) steps (ShelfStands setup new) (subst (λ (d : D). (view d).faults ≤ (view new.disk).faults) disk count) goes
      (may false) (λ honest safe. may true) (record { stands = goes.stands; queue = goes.queued stands.queue })

-- ---- the flush of one buffer

module _ {E : Type 0} where
  pub counted_all : (s : State) (result : Result (Option ℕ) E) (made : List Step) → FlushMakes result (flush_first s.book) made → FlushesAll (flushed_count result) (flush_first s.book) made
  counted_all s (Ok None) made none = (none.1 ∙ sym none.0, ap flush_count (sym none.0))
  counted_all s (Ok (Some number)) made one = (one.0, sym (flush_is_one s one.1 number one.2))
  counted_all s (Err e) made stops = stops

  pub counted_err : (X : Type 0) (result : Result (Option ℕ) E) → OnErr result X → OnErr (flushed_count result) X
  counted_err X (Ok None) err = tt
  counted_err X (Ok (Some number)) err = tt
  counted_err X (Err e) err = err

  pub counted_one : (result : Result (Option ℕ) E) → IfOk (flushed_count result) (λ n. n ≤ 1)
  counted_one (Ok None) = omega arith
  counted_one (Ok (Some number)) = omega arith
  counted_one (Err e) = tt

  pub counted_none : (result : Result (Option ℕ) E) → flushed_count result ≡ Ok 0 → result ≡ Ok None
  counted_none (Ok None) is = refl
  counted_none (Ok (Some number)) is = absurd cc
  counted_none (Err e) is = absurd cc

-- what it leaves, flushed or not
module _ {D E : Type 0} (mid new : ShelfView D) where
  pub one_in_turn : (result : Result (Option ℕ) E) → IfOk result (λ number. MatchOption number (new ≡ mid) (λ n. FirstLeaves n mid new)) → OnErr result (FirstStays mid new) → FlushesInTurn mid new
  one_in_turn (Ok None) first left = flushes_here mid mid new (flushes_none mid) first
  one_in_turn (Ok (Some number)) first left = flushes_here mid new new (flushes_more number mid mid new (flushes_none mid) first) refl
  one_in_turn (Err e) first left = flushes_stopped mid mid new (flushes_none mid) left

  pub one_left : (result : Result (Option ℕ) E) → OnErr result (FirstStays mid new) → OnErr (flushed_count result) (new.buffers ≢ [])
  one_left (Ok None) left = tt
  one_left (Ok (Some number)) left = tt
  one_left (Err e) left = stays_some mid new left

  pub none_sealed : (result : Result (Option ℕ) E) → IfOk result (λ number. MatchOption number (new ≡ mid) (λ n. FirstLeaves n mid new))
      → (result ≡ Ok None → AllByRecursion (λ b. is_unsealed b.phase ≡ true) mid.buffers) → flushed_count result ≡ Ok 0 → AllByRecursion (λ b. is_unsealed b.phase ≡ true) new.buffers
  none_sealed result first none is =
      let is_none = counted_none result is in
      let same = subst (λ (r : Result (Option ℕ) E). IfOk r (λ number. MatchOption number (new ≡ mid) (λ n. FirstLeaves n mid new))) is_none first in
      subst (λ (v : ShelfView D). AllByRecursion (λ b. is_unsealed b.phase ≡ true) v.buffers) (sym same) (none is_none)
