-- What closing the gates of which it isn't known whether they are closed makes of a device: one event without a step.
use Rattle.std.proofs.Common.{◌≡◌, ℕ, ◌<◌, ◌≤◌, ◌^◌, [], refl, inl, inr, ap, arith}
use Rattle.std.specs.Prelude.{Result, Ok, Err, OnErr, IfOk}
use Rattle.model_faults.specs.Counts.{Rose}
use Rattle.model_device.specs.Book.{Setup}
use Rattle.model_device.specs.Device.{State}
use Rattle.model_device.specs.Events.{heal_call}
use Rattle.model_device.specs.Legal.{Heals}
use Rattle.disk_model.specs.Disk.{DiskView}
use Rattle.block_shelf.specs.View.{ShelfView, SameShape}
use Rattle.block_shelf.specs.Calls.{Goes}
use Rattle.law_steps.specs.Standing.{ShelfStands}
use Rattle.law_steps.specs.Events.{MakesEvent}
use Rattle.law_steps.proofs.Making.{makes_by}
use Rattle.shard_core.specs.Calls.{flush_answer}

heals_so : {E : Type 0} (result : Result ℕ E) (before after : ℕ) → OnErr result (Rose before after)
    → Heals (record { call = heal_call; answer = flush_answer result; steps = []; faults_before = before; faults_after = after })
heals_so (Ok n) before after rose = inl (n, refl, refl)
heals_so (Err e) before after rose = inr (refl, refl, rose)

module _ {D E : Type 0} (view : D → DiskView) (setup : Setup) (old new : ShelfView D) (s : State) (stands : ShelfStands setup old s) (result : Result ℕ E)
    (goes : Goes view setup [] old s new) (count : (view old.disk).faults ≤ (view new.disk).faults) (rose : OnErr result (Rose (view old.disk).faults (view new.disk).faults)) where
  pub makes_heal : MakesEvent view setup heal_call (flush_answer result) old s new (ShelfStands setup new)
  makes_heal =
      let heals = heals_so result (view old.disk).faults (view new.disk).faults rose in
      makes_by view setup old new s heal_call (flush_answer result) [] (ShelfStands setup new) count goes heals (λ honest safe. heals)
      (record { stands = goes.stands; queue = goes.queued stands.queue })

-- no more gates than blocks
pub few_gates : {E : Type 0} (result : Result ℕ E) (blocks : ℕ) → blocks ≤ 65536 → IfOk result (λ n. n ≤ blocks) → IfOk result (λ n. n < 2 ^ 60)
few_gates (Ok n) blocks few most = omega (arith, few, most)
few_gates (Err e) blocks few most = tt

-- the shape stays where all but the disk and the gates does
pub shape_kept : {D : Type 0} (old new : ShelfView D) → new ≡ record old { disk = new.disk; gates = new.gates } → SameShape old new
shape_kept {D} old new kept = record {
  geometry = ap (λ (v : ShelfView D). v.geometry) kept;
  limits = ap (λ (v : ShelfView D). v.limits) kept;
  raid = ap (λ (v : ShelfView D). v.raid) kept;
}
