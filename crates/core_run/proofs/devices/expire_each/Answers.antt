use Rattle.std.proofs.Common.{ℕ, ◌+◌, ◌<◌, sym, subst, arith, refl}
use Rattle.std.proofs.lemmas.Result.{err_from_is_err_and}
use Rattle.core_run.specs.Turns.{WorkTurn, ExpiresOn, plus_one}
use Rattle.node_replies.proofs.Through.{through_next, through_all}
use Rattle.core_run.proofs.Looping.{worked_all, work_fails}
use Rattle.core_run.proofs.devices.expire_each.Goals as goal

pub returns-in_err-removed : goal.returns-in_err-removed
returns-in_err-removed g c =
    let p = err_from_is_err_and c.from_residual.result c.from_residual.ensures.1 in
    rw (p.1, p.2)
    (work_fails (ExpiresOn g.D.Disk.view c.args.now) plus_one c.in_err-removed.field-0.0 c.loop-shard.shard-index 0 c.args.shards.now c.loop-shard.shards c.loop-shard.removed
    c.shard-item.result c.expire.new.shard
    c.loop-shard.invariant.turns (subst (λ (n : ℕ). c.loop-shard.shard-index < n) (sym c.loop-shard.auto.shards) c.loop-shard-test.true) (c.in_err-removed.ensures {u = tt}).expires)

pub loop-shard-preserved : goal.loop-shard-preserved
loop-shard-preserved g c =
    let e = c.in_ok-removed.ensures in
    let so_far = c.loop-shard.invariant in
    let few = e.few in
    let less = so_far.few in
    record {
      turns = through_next (WorkTurn (ExpiresOn g.D.Disk.view c.args.now) plus_one) c.loop-shard.shard-index 0 c.args.shards.now c.loop-shard.shards c.loop-shard.removed
          c.shard-item.result c.expire.new.shard
          (c.loop-shard.removed + c.in_ok-removed.field-0) so_far.turns (subst (λ (n : ℕ). c.loop-shard.shard-index < n) (sym c.loop-shard.auto.shards) c.loop-shard-test.true)
          (c.in_ok-removed.field-0, e.expires, refl);
      few = omega (arith, few, less);
    }

pub returns : goal.returns
returns g c =
    worked_all (ExpiresOn g.D.Disk.view c.args.now) plus_one 0 c.args.shards.now c.loop-shard.shards c.loop-shard.removed
    (through_all (WorkTurn (ExpiresOn g.D.Disk.view c.args.now) plus_one) c.loop-shard.shard-index 0 c.args.shards.now c.loop-shard.shards c.loop-shard.removed c.loop-shard.invariant.turns
    (λ there. let over = c.loop-shard-test.false in let same = c.loop-shard.auto.shards in omega (arith, over, same, there)))

pub loop-shard-init : goal.loop-shard-init
loop-shard-init g c = record { turns = (refl, refl); few = omega arith }

pub overflow_add-removed : goal.overflow_add-removed
overflow_add-removed g c =
    let few = c.in_ok-removed.ensures.few in
    let so_far = c.loop-shard.invariant.few in
    let there = c.loop-shard-test.true in
    let most = c.requires.few in
    omega (arith, few, so_far, there, most)

pub bounds-shards-shard-index : goal.bounds-shards-shard-index
bounds-shards-shard-index g c = subst (λ (n : ℕ). c.loop-shard.shard-index < n) (sym c.loop-shard.auto.shards) c.loop-shard-test.true

pub loop-shard-smaller : goal.loop-shard-smaller
loop-shard-smaller g c = let there = c.loop-shard-test.true in omega (arith, there)
