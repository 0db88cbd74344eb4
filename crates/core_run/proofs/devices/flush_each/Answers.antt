use Rattle.std.proofs.Common.{ℕ, ◌+◌, ◌<◌, sym, subst, arith, refl, get_or, set}
use Rattle.std.specs.Prelude.{Result, Ok, Err}
use Rattle.law_lists.proofs.Answers.{err_alone}
use Rattle.disk_model.specs.declared.disk.DiskFault.{DiskFault}
use Rattle.core_run.specs.Turns.{WorkTurn, FlushesOn, FlushesEach, plus_one}
use Rattle.node_replies.proofs.Through.{through_next, through_all}
use Rattle.core_run.proofs.Looping.{worked_all, work_fails, one_fault}
use Rattle.core_run.proofs.devices.flush_each.Goals as goal

pub loop-shard-init : goal.loop-shard-init
loop-shard-init g c = record { turns = (refl, refl); few = omega arith }

pub returns-in_err-flushed : goal.returns-in_err-flushed
returns-in_err-flushed g c =
    let e = c.flush.ensures in
    let old = get_or c.loop-shard.shards c.loop-shard.shard-index c.shard-item.result in
    let turn : FlushesOn g.D.Disk.view c.flush.result old c.flush.new.self =
    record { goes = record { shape = e.shape; later = e.later; honest = e.honest; sure = e.sure }; makes = e.makes; quiet = e.quiet; left = e.left } in
    let failed : FlushesOn {E = DiskFault} g.D.Disk.view (Err c.in_err-flushed.field-0.0) old c.flush.new.self =
    subst (λ (r : Result ℕ DiskFault). FlushesOn g.D.Disk.view r old c.flush.new.self) c.in_err-flushed.was turn in
    err_alone (λ r. FlushesEach g.D.Disk.view r c.args.shards.now (set c.loop-shard.shards c.loop-shard.shard-index c.flush.new.self)) c.from_residual.result c.from_residual.ensures.0
    (λ fault. work_fails (FlushesOn {E = DiskFault} g.D.Disk.view) plus_one fault c.loop-shard.shard-index 0 c.args.shards.now c.loop-shard.shards c.loop-shard.flushed c.shard-item.result
    c.flush.new.self c.loop-shard.invariant.turns
    (subst (λ (n : ℕ). c.loop-shard.shard-index < n) (sym c.loop-shard.auto.shards) c.loop-shard-test.true)
    (subst (λ (e : DiskFault). FlushesOn {E = DiskFault} g.D.Disk.view (Err e) old c.flush.new.self) (one_fault c.in_err-flushed.field-0.0 fault) failed))

pub overflow_add-flushed : goal.overflow_add-flushed
overflow_add-flushed g c =
    let few = c.in_ok-flushed.ensures.few in
    let so_far = c.loop-shard.invariant.few in
    let there = c.loop-shard-test.true in
    let most = c.requires.few in
    omega (arith, few, so_far, there, most)

pub loop-shard-preserved : goal.loop-shard-preserved
loop-shard-preserved g c =
    let e = c.flush.ensures in
    let old = get_or c.loop-shard.shards c.loop-shard.shard-index c.shard-item.result in
    let turn : FlushesOn g.D.Disk.view c.flush.result old c.flush.new.self =
    record { goes = record { shape = e.shape; later = e.later; honest = e.honest; sure = e.sure }; makes = e.makes; quiet = e.quiet; left = e.left } in
    let went : FlushesOn {E = DiskFault} g.D.Disk.view (Ok c.in_ok-flushed.field-0) old c.flush.new.self =
    subst (λ (r : Result ℕ DiskFault). FlushesOn g.D.Disk.view r old c.flush.new.self) c.in_ok-flushed.was turn in
    let few = c.in_ok-flushed.ensures.few in
    let so_far = c.loop-shard.invariant.few in
    record {
      turns = through_next (WorkTurn (FlushesOn {E = DiskFault} g.D.Disk.view) plus_one) c.loop-shard.shard-index 0 c.args.shards.now c.loop-shard.shards c.loop-shard.flushed
          c.shard-item.result c.flush.new.self (c.loop-shard.flushed + c.in_ok-flushed.field-0)
          c.loop-shard.invariant.turns (subst (λ (n : ℕ). c.loop-shard.shard-index < n) (sym c.loop-shard.auto.shards) c.loop-shard-test.true) (c.in_ok-flushed.field-0, went, refl);
      few = omega (arith, few, so_far);
    }

pub returns : goal.returns
returns g c =
    worked_all (FlushesOn {E = DiskFault} g.D.Disk.view) plus_one 0 c.args.shards.now c.loop-shard.shards c.loop-shard.flushed
    (through_all (WorkTurn (FlushesOn {E = DiskFault} g.D.Disk.view) plus_one) c.loop-shard.shard-index 0 c.args.shards.now c.loop-shard.shards c.loop-shard.flushed c.loop-shard.invariant.turns
    (λ there. let over = c.loop-shard-test.false in let same = c.loop-shard.auto.shards in omega (arith, over, same, there)))

pub bounds-shards-shard-index : goal.bounds-shards-shard-index
bounds-shards-shard-index g c = subst (λ (n : ℕ). c.loop-shard.shard-index < n) (sym c.loop-shard.auto.shards) c.loop-shard-test.true

pub loop-shard-smaller : goal.loop-shard-smaller
loop-shard-smaller g c = let there = c.loop-shard-test.true in omega (arith, there)
