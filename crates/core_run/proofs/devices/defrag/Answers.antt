use Rattle.std.proofs.Common.{ℕ, ◌+◌, ◌<◌, ◌^◌, arith, sym, subst, ap}
use Rattle.std.specs.Prelude.{Option, Ok, IfSome}
use Rattle.rec_format.specs.declared.entry.Counts.{Counts}
use Rattle.model_device.specs.Device.{State}
use Rattle.shard_core.specs.Stands.{Agrees}
use Rattle.shard_core.specs.Vacating.{MakesEvents, IsVacating}
use Rattle.shard_core.specs.declared.defrag.Vacated.{Vacated}
use Rattle.core_run.specs.Turns.{GoesOn}
use Rattle.core_run.proofs.Turning.{goes_on_none, goes_on_then}
use Rattle.core_run.proofs.Defragging.{DefragsSoFar, defrag_begins, defrag_done, defrag_more, defrag_none, defrag_refused}
use Rattle.core_run.proofs.devices.defrag.Goals as goal

pub loop-vacated-init : goal.loop-vacated-init
loop-vacated-init g c =
    let is_disk = g.met.D.Disk.is_disk c.args.shard.now.shelf.disk in
    record {
      goes = goes_on_none g.D.Disk.view c.args.shard.now is_disk;
      far = defrag_begins g.D.Disk.view c.counts-queued.result.queued c.args.shard.now is_disk;
      few = omega arith;
      most = omega arith;
    }

pub loop-vacated-preserved : goal.loop-vacated-preserved
loop-vacated-preserved g c =
    let e = c.in-Ok-Some.ensures {u = tt} in
    let so_far = c.loop-vacated.invariant in
    let turn : GoesOn g.D.Disk.view c.loop-vacated.shard c.defrag_one.new.self = record { shape = e.shape; later = e.later; honest = e.honest; sure = e.sure } in
    let was_few = so_far.few in
    let few : c.in-Ok-Some.one.moved < 2 ^ 16 = subst (λ (done : Option Vacated). IfSome done (λ one. one.moved < 2 ^ 16)) c.in-Ok-Some.field-0-is e.few in
    let makes = subst (λ (done : Option Vacated). (s : State) → Agrees c.loop-vacated.shard s
    → MakesEvents g.D.Disk.view (IsVacating c.loop-vacated.shard s (Ok done)) c.loop-vacated.shard s c.defrag_one.new.self) c.in-Ok-Some.field-0-is e.makes in
    let same = c.from-moved.ensures in
    let there = c.loop-vacated-test.true in
    record {
      goes = goes_on_then g.D.Disk.view c.args.shard.now c.loop-vacated.shard c.defrag_one.new.self so_far.goes turn;
      far = subst (λ (n : ℕ). DefragsSoFar g.D.Disk.view c.counts-queued.result.queued (c.loop-vacated.moved + n) (c.loop-vacated.vacated + 1) c.args.shard.now c.defrag_one.new.self) (sym same)
          (defrag_more g.D.Disk.view c.counts-queued.result.queued c.loop-vacated.moved c.loop-vacated.vacated c.args.shard.now c.loop-vacated.shard so_far.goes so_far.far
          c.defrag_one.new.self there c.in-Ok-Some.one makes);
      few = omega (arith, was_few, few, same);
      most = omega (arith, there);
    }

pub returns-in-Err-clause-defrags : goal.returns-in-Err-clause-defrags
returns-in-Err-clause-defrags g c =
    let e = c.in-Err.ensures {u = tt} in
    let so_far = c.loop-vacated.invariant in
    let turn : GoesOn g.D.Disk.view c.loop-vacated.shard c.defrag_one.new.self = record { shape = e.shape; later = e.later; honest = e.honest; sure = e.sure } in
    record {
      goes = goes_on_then g.D.Disk.view c.args.shard.now c.loop-vacated.shard c.defrag_one.new.self so_far.goes turn;
      makes = λ s agrees.
          defrag_refused g.D.Disk.view c.counts-queued.result.queued c.loop-vacated.moved c.loop-vacated.vacated c.args.shard.now c.loop-vacated.shard so_far.goes so_far.far
          c.defrag_one.new.self c.loop-vacated-test.true
          c.in-Err.refusal e.makes s agrees (ap (λ (n : Counts). n.queued) (c.counts-queued.ensures.state s agrees));
    }

pub returns-after-loop-vacated-clause-defrags : goal.returns-after-loop-vacated-clause-defrags
returns-after-loop-vacated-clause-defrags g c =
    let so_far = c.loop-vacated.invariant in
    let over = c.loop-vacated-test.false in
    record {
      goes = so_far.goes;
      makes = λ s agrees.
          defrag_done g.D.Disk.view c.counts-queued.result.queued c.loop-vacated.moved c.loop-vacated.vacated c.args.shard.now c.loop-vacated.shard so_far.goes so_far.far (omega (arith, over))
          s agrees (ap (λ (n : Counts). n.queued) (c.counts-queued.ensures.state s agrees));
    }

pub returns-in-Ok-None-clause-defrags : goal.returns-in-Ok-None-clause-defrags
returns-in-Ok-None-clause-defrags g c =
    let e = c.in-Ok-None.ensures {u = tt} in
    let so_far = c.loop-vacated.invariant in
    let turn : GoesOn g.D.Disk.view c.loop-vacated.shard c.defrag_one.new.self = record { shape = e.shape; later = e.later; honest = e.honest; sure = e.sure } in
    let makes = subst (λ (done : Option Vacated). (s : State) → Agrees c.loop-vacated.shard s
    → MakesEvents g.D.Disk.view (IsVacating c.loop-vacated.shard s (Ok done)) c.loop-vacated.shard s c.defrag_one.new.self) c.in-Ok-None.field-0-is e.makes in
    record {
      goes = goes_on_then g.D.Disk.view c.args.shard.now c.loop-vacated.shard c.defrag_one.new.self so_far.goes turn;
      makes = λ s agrees.
          defrag_none g.D.Disk.view c.counts-queued.result.queued c.loop-vacated.moved c.loop-vacated.vacated c.args.shard.now c.loop-vacated.shard so_far.goes so_far.far
          c.defrag_one.new.self c.loop-vacated-test.true
          makes s agrees (ap (λ (n : Counts). n.queued) (c.counts-queued.ensures.state s agrees));
    }
