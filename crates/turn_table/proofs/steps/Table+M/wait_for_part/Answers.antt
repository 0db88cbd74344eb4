use Rattle.std.proofs.Common.{◌∙◌}
use Rattle.turn_table.specs.Passes.{view}
use Rattle.turn_table.proofs.PassSteps.{waited_more}
use Rattle.turn_table.proofs.steps.Table+M.wait_for_part.Goals as goal

pub loop-preserved : goal.loop-preserved
loop-preserved g c =
    let inv = c.loop.invariant in
    let e = c.in_default.ensures in
    let n = waited_more _ (view c.args.pass.now) (view c.loop.pass) (view c.try_part.new.pass) inv.waits inv.waited e.none.0 in record {
      of = e.pass;
      numbers = (e.numbers.0 ∙ inv.numbers.0, e.numbers.1 ∙ inv.numbers.1);
      waits = n.0;
      waited = n.1;
    }
