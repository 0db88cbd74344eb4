use Rattle.std.proofs.Common.{ℕ, sym, subst, arith, refl, ◌<◌, get_or}
use Rattle.shard_core.proofs.Tending.{only_tends}
use Rattle.core_run.specs.Turns.{TendTurn, TendsOn}
use Rattle.node_replies.proofs.Through.{through_next, through_all}
use Rattle.core_run.proofs.devices.tend_each.Goals as goal

pub loop-shard-init : goal.loop-shard-init
loop-shard-init g c = (refl, refl)

pub loop-shard-preserved : goal.loop-shard-preserved
loop-shard-preserved g c =
    let e = c.tend.ensures in
    let old = get_or c.loop-shard.shards c.loop-shard.shard-index c.shard-item.result in
    let turn : TendsOn g.D.Disk.view old c.tend.new.self =
    record { goes = record { shape = e.shape; later = e.later; honest = e.honest; sure = e.sure }; makes = λ s agrees. only_tends g.D.Disk.view old c.tend.new.self s (e.makes s agrees) } in
    through_next (TendTurn {A = ℕ} g.D.Disk.view) c.loop-shard.shard-index 0 c.args.shards.now c.loop-shard.shards 0 c.shard-item.result c.tend.new.self 0 c.loop-shard.invariant
    (subst (λ (n : ℕ). c.loop-shard.shard-index < n) (sym c.loop-shard.auto.shards) c.loop-shard-test.true) turn

pub returns : goal.returns
returns g c =
    through_all (TendTurn {A = ℕ} g.D.Disk.view) c.loop-shard.shard-index 0 c.args.shards.now c.loop-shard.shards 0 c.loop-shard.invariant
    (λ there. let over = c.loop-shard-test.false in let same = c.loop-shard.auto.shards in omega (arith, over, same, there))

pub bounds-shards-shard-index : goal.bounds-shards-shard-index
bounds-shards-shard-index g c = subst (λ (n : ℕ). c.loop-shard.shard-index < n) (sym c.loop-shard.auto.shards) c.loop-shard-test.true

pub loop-shard-smaller : goal.loop-shard-smaller
loop-shard-smaller g c = let there = c.loop-shard-test.true in omega (arith, there)
