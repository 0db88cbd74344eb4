use Rattle.std.proofs.Common.{ℕ, ◌+◌, ◌<◌, sym, subst, arith, refl}
use Rattle.std.proofs.lemmas.Result.{err_from_is_err_and}
use Rattle.core_run.specs.Turns.{WorkTurn, DefragsOn, plus_both}
use Rattle.node_replies.proofs.Through.{through_next, through_all}
use Rattle.core_run.proofs.Looping.{worked_all, work_fails}
use Rattle.core_run.proofs.devices.defrag_each.Goals as goal

pub returns-in_err-one : goal.returns-in_err-one
returns-in_err-one g c =
    let p = err_from_is_err_and c.from_residual.result c.from_residual.ensures.1 in
    rw (p.1, p.2)
    (work_fails (DefragsOn g.D.Disk.view) plus_both c.in_err-one.field-0.0 c.loop-shard.shard-index (0, 0) c.args.shards.now c.loop-shard.shards
    (c.loop-shard.moved, c.loop-shard.vacated) c.shard-item.result c.defrag.new.shard
    c.loop-shard.invariant.turns (subst (λ (n : ℕ). c.loop-shard.shard-index < n) (sym c.loop-shard.auto.shards) c.loop-shard-test.true) (c.in_err-one.ensures {u = tt}).defrags)

pub loop-shard-preserved : goal.loop-shard-preserved
loop-shard-preserved g c =
    let e = c.in_ok-one.ensures in
    let so_far = c.loop-shard.invariant in
    let few = e.few in
    let moved = so_far.few_moved in
    let vacated = so_far.few_vacated in
    record {
      turns = through_next (WorkTurn (DefragsOn g.D.Disk.view) plus_both) c.loop-shard.shard-index (0, 0) c.args.shards.now c.loop-shard.shards
          (c.loop-shard.moved, c.loop-shard.vacated) c.shard-item.result c.defrag.new.shard
          (c.loop-shard.moved + c.in_ok-one.one.0, c.loop-shard.vacated + c.in_ok-one.one.1) so_far.turns
          (subst (λ (n : ℕ). c.loop-shard.shard-index < n) (sym c.loop-shard.auto.shards) c.loop-shard-test.true)
          (c.in_ok-one.one, e.defrags, refl);
      few_moved = omega (arith, few, moved);
      few_vacated = omega (arith, few, vacated);
    }

pub returns : goal.returns
returns g c =
    worked_all (DefragsOn g.D.Disk.view) plus_both (0, 0) c.args.shards.now c.loop-shard.shards (c.loop-shard.moved, c.loop-shard.vacated)
    (through_all (WorkTurn (DefragsOn g.D.Disk.view) plus_both) c.loop-shard.shard-index (0, 0) c.args.shards.now c.loop-shard.shards
    (c.loop-shard.moved, c.loop-shard.vacated) c.loop-shard.invariant.turns
    (λ there. let over = c.loop-shard-test.false in let same = c.loop-shard.auto.shards in omega (arith, over, same, there)))

pub loop-shard-init : goal.loop-shard-init
loop-shard-init g c = record { turns = (refl, refl); few_moved = omega arith; few_vacated = omega arith }

pub overflow_add-moved : goal.overflow_add-moved
overflow_add-moved g c =
    let few = c.in_ok-one.ensures.few in
    let so_far = c.loop-shard.invariant.few_moved in
    let there = c.loop-shard-test.true in
    let most = c.requires.few in
    omega (arith, few, so_far, there, most)

pub overflow_add-vacated : goal.overflow_add-vacated
overflow_add-vacated g c =
    let few = c.in_ok-one.ensures.few in
    let so_far = c.loop-shard.invariant.few_vacated in
    let there = c.loop-shard-test.true in
    let most = c.requires.few in
    omega (arith, few, so_far, there, most)

pub bounds-shards-shard-index : goal.bounds-shards-shard-index
bounds-shards-shard-index g c = subst (λ (n : ℕ). c.loop-shard.shard-index < n) (sym c.loop-shard.auto.shards) c.loop-shard-test.true

pub loop-shard-smaller : goal.loop-shard-smaller
loop-shard-smaller g c = let there = c.loop-shard-test.true in omega (arith, there)
