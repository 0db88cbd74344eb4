use Rattle.std.proofs.Common.{ℕ, ◌+◌, ◌<◌, sym, subst, arith, refl, get_or, set}
use Rattle.std.specs.Prelude.{Result, Ok, Err}
use Rattle.law_lists.proofs.Answers.{err_alone}
use Rattle.disk_model.specs.declared.disk.DiskFault.{DiskFault}
use Rattle.core_run.specs.Turns.{WorkTurn, HealsOn, HealsEach, plus_one}
use Rattle.node_replies.proofs.Through.{through_next, through_all}
use Rattle.core_run.proofs.Looping.{worked_all, work_fails, one_fault}
use Rattle.core_run.proofs.devices.heal_each.Goals as goal

pub loop-shard-init : goal.loop-shard-init
loop-shard-init g c = record { turns = (refl, refl); few = omega arith }

pub returns-in_err-healed : goal.returns-in_err-healed
returns-in_err-healed g c =
    let e = c.heal.ensures in
    let old = get_or c.loop-shard.shards c.loop-shard.shard-index c.shard-item.result in
    let turn : HealsOn g.D.Disk.view c.heal.result old c.heal.new.self =
    record { goes = record { shape = e.shape; later = e.later; honest = e.honest; sure = e.sure }; makes = e.makes; known = e.known } in
    let failed : HealsOn {E = DiskFault} g.D.Disk.view (Err c.in_err-healed.field-0.0) old c.heal.new.self =
    subst (λ (r : Result ℕ DiskFault). HealsOn g.D.Disk.view r old c.heal.new.self) c.in_err-healed.was turn in
    err_alone (λ r. HealsEach g.D.Disk.view r c.args.shards.now (set c.loop-shard.shards c.loop-shard.shard-index c.heal.new.self)) c.from_residual.result c.from_residual.ensures.0
    (λ fault. work_fails (HealsOn {E = DiskFault} g.D.Disk.view) plus_one fault c.loop-shard.shard-index 0 c.args.shards.now c.loop-shard.shards c.loop-shard.healed c.shard-item.result
    c.heal.new.self c.loop-shard.invariant.turns
    (subst (λ (n : ℕ). c.loop-shard.shard-index < n) (sym c.loop-shard.auto.shards) c.loop-shard-test.true)
    (subst (λ (e : DiskFault). HealsOn {E = DiskFault} g.D.Disk.view (Err e) old c.heal.new.self) (one_fault c.in_err-healed.field-0.0 fault) failed))

pub overflow_add-healed : goal.overflow_add-healed
overflow_add-healed g c =
    let few = c.in_ok-healed.ensures.few in
    let so_far = c.loop-shard.invariant.few in
    let there = c.loop-shard-test.true in
    let most = c.requires.few in
    omega (arith, few, so_far, there, most)

pub loop-shard-preserved : goal.loop-shard-preserved
loop-shard-preserved g c =
    let e = c.heal.ensures in
    let old = get_or c.loop-shard.shards c.loop-shard.shard-index c.shard-item.result in
    let turn : HealsOn g.D.Disk.view c.heal.result old c.heal.new.self =
    record { goes = record { shape = e.shape; later = e.later; honest = e.honest; sure = e.sure }; makes = e.makes; known = e.known } in
    let went : HealsOn {E = DiskFault} g.D.Disk.view (Ok c.in_ok-healed.field-0) old c.heal.new.self =
    subst (λ (r : Result ℕ DiskFault). HealsOn g.D.Disk.view r old c.heal.new.self) c.in_ok-healed.was turn in
    let few = c.in_ok-healed.ensures.few in
    let so_far = c.loop-shard.invariant.few in
    record {
      turns = through_next (WorkTurn (HealsOn {E = DiskFault} g.D.Disk.view) plus_one) c.loop-shard.shard-index 0 c.args.shards.now c.loop-shard.shards c.loop-shard.healed
          c.shard-item.result c.heal.new.self (c.loop-shard.healed + c.in_ok-healed.field-0)
          c.loop-shard.invariant.turns (subst (λ (n : ℕ). c.loop-shard.shard-index < n) (sym c.loop-shard.auto.shards) c.loop-shard-test.true) (c.in_ok-healed.field-0, went, refl);
      few = omega (arith, few, so_far);
    }

pub returns : goal.returns
returns g c =
    worked_all (HealsOn {E = DiskFault} g.D.Disk.view) plus_one 0 c.args.shards.now c.loop-shard.shards c.loop-shard.healed
    (through_all (WorkTurn (HealsOn {E = DiskFault} g.D.Disk.view) plus_one) c.loop-shard.shard-index 0 c.args.shards.now c.loop-shard.shards c.loop-shard.healed c.loop-shard.invariant.turns
    (λ there. let over = c.loop-shard-test.false in let same = c.loop-shard.auto.shards in omega (arith, over, same, there)))

pub bounds-shards-shard-index : goal.bounds-shards-shard-index
bounds-shards-shard-index g c = subst (λ (n : ℕ). c.loop-shard.shard-index < n) (sym c.loop-shard.auto.shards) c.loop-shard-test.true

pub loop-shard-smaller : goal.loop-shard-smaller
loop-shard-smaller g c = let there = c.loop-shard-test.true in omega (arith, there)
