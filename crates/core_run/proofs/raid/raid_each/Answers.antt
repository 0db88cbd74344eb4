use Rattle.std.proofs.Common.{ℕ, ◌+◌, ◌<◌, sym, subst, arith, refl}
use Rattle.std.proofs.lemmas.Result.{err_from_is_err_and}
use Rattle.core_run.specs.Turns.{WorkTurn, RaidsOn, plus_both}
use Rattle.node_replies.proofs.Through.{through_next, through_all}
use Rattle.core_run.proofs.Looping.{worked_all, work_fails}
use Rattle.core_run.proofs.raid.raid_each.Goals as goal

pub returns-in_err-one : goal.returns-in_err-one
returns-in_err-one g c =
    let p = err_from_is_err_and c.from_residual.result c.from_residual.ensures.1 in
    rw (p.1, p.2)
    (work_fails (RaidsOn g.D.Disk.view c.args.now) plus_both c.in_err-one.field-0.0 c.loop-shard.shard-index (0, 0) c.args.shards.now c.loop-shard.shards
    (c.loop-shard.removed, c.loop-shard.cleared) c.shard-item.result c.raid.new.shard
    c.loop-shard.invariant.turns (subst (λ (n : ℕ). c.loop-shard.shard-index < n) (sym c.loop-shard.auto.shards) c.loop-shard-test.true) (c.in_err-one.ensures {u = tt}).raids)

pub loop-shard-preserved : goal.loop-shard-preserved
loop-shard-preserved g c =
    let e = c.in_ok-one.ensures in
    let so_far = c.loop-shard.invariant in
    let few = e.few in
    let removed = so_far.few_removed in
    let cleared = so_far.few_cleared in
    record {
      turns = through_next (WorkTurn (RaidsOn g.D.Disk.view c.args.now) plus_both) c.loop-shard.shard-index (0, 0) c.args.shards.now c.loop-shard.shards
          (c.loop-shard.removed, c.loop-shard.cleared) c.shard-item.result c.raid.new.shard
          (c.loop-shard.removed + c.in_ok-one.one.0, c.loop-shard.cleared + c.in_ok-one.one.1) so_far.turns
          (subst (λ (n : ℕ). c.loop-shard.shard-index < n) (sym c.loop-shard.auto.shards) c.loop-shard-test.true)
          (c.in_ok-one.one, e.raids, refl);
      few_removed = omega (arith, few, removed);
      few_cleared = omega (arith, few, cleared);
    }

pub returns : goal.returns
returns g c =
    worked_all (RaidsOn g.D.Disk.view c.args.now) plus_both (0, 0) c.args.shards.now c.loop-shard.shards (c.loop-shard.removed, c.loop-shard.cleared)
    (through_all (WorkTurn (RaidsOn g.D.Disk.view c.args.now) plus_both) c.loop-shard.shard-index (0, 0) c.args.shards.now c.loop-shard.shards
    (c.loop-shard.removed, c.loop-shard.cleared) c.loop-shard.invariant.turns
    (λ there. let over = c.loop-shard-test.false in let same = c.loop-shard.auto.shards in omega (arith, over, same, there)))

pub loop-shard-init : goal.loop-shard-init
loop-shard-init g c = record { turns = (refl, refl); few_removed = omega arith; few_cleared = omega arith }

pub overflow_add-removed : goal.overflow_add-removed
overflow_add-removed g c =
    let few = c.in_ok-one.ensures.few in
    let so_far = c.loop-shard.invariant.few_removed in
    let there = c.loop-shard-test.true in
    let most = c.requires.few in
    omega (arith, few, so_far, there, most)

pub overflow_add-cleared : goal.overflow_add-cleared
overflow_add-cleared g c =
    let few = c.in_ok-one.ensures.few in
    let so_far = c.loop-shard.invariant.few_cleared in
    let there = c.loop-shard-test.true in
    let most = c.requires.few in
    omega (arith, few, so_far, there, most)

pub bounds-shards-shard-index : goal.bounds-shards-shard-index
bounds-shards-shard-index g c = subst (λ (n : ℕ). c.loop-shard.shard-index < n) (sym c.loop-shard.auto.shards) c.loop-shard-test.true

pub loop-shard-smaller : goal.loop-shard-smaller
loop-shard-smaller g c = let there = c.loop-shard-test.true in omega (arith, there)
