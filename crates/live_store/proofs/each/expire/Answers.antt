use Rattle.std.proofs.Common.{ℕ, subst, refl, ◌∙◌}
use Rattle.model_device.specs.Vacating.{stopped}
use Rattle.shard_core.specs.Calls.{cause_of_write}
use Rattle.turn_table.specs.Passes.{view}
use Rattle.live_node.specs.Lives.{opening_at}
use Rattle.live_store.specs.Works.{SweepsFrom}
use Rattle.live_store.proofs.Working.{swept_more, swept_stop}
use Rattle.live_store.proofs.each.expire.Goals as goal

pub loop-part-preserved : goal.loop-part-preserved
loop-part-preserved g c =
    let e = c.in-Ok.ensures {u = tt} in
    let before = c.loop-part.invariant in
    record {
      pass = e.pass;
      numbers = (e.numbers.0 ∙ before.numbers.0, e.numbers.1 ∙ before.numbers.1);
      so_far = swept_more g.D.Disk.view (opening_at c.args.live.now) c.args.now c.parts-part-end.result (view c.args.pass.now) c.loop-part.part c.loop-part.removed (view c.loop-part.pass)
          (view c.expire_part.new.pass) c.in-Ok.here before.so_far c.loop-part-test.true e.sweeps;
    }

pub returns-in-Err-clause-expires : goal.returns-in-Err-clause-expires
returns-in-Err-clause-expires g c =
    let e = c.in-Err.ensures {u = tt} in
    let why = cause_of_write (let refusal = c.in-Err.refusal in refusal.cause) in (
      stopped why,
      (why, refl, refl),
      subst (λ (n : ℕ). SweepsFrom g.D.Disk.view (opening_at c.args.live.now) c.args.now n 0 0 (view c.args.pass.now) (view c.expire_part.new.pass) (stopped why)) c.parts-part-end.ensures.total
          (swept_stop g.D.Disk.view (opening_at c.args.live.now) c.args.now c.parts-part-end.result (view c.args.pass.now) c.loop-part.part c.loop-part.removed (view c.loop-part.pass)
          (view c.expire_part.new.pass) c.in-Err.refusal c.loop-part.invariant.so_far c.loop-part-test.true e.sweeps),
    )
