use Rattle.turn_table.specs.Passes.{view}
use Rattle.turn_table.proofs.PassSteps.{waited_once}
use Rattle.turn_table.proofs.steps.Table+M.take_part.Goals as goal

pub returns-in-None-clause-waited : goal.returns-in-None-clause-waited
returns-in-None-clause-waited g c =
    waited_once c.args.part (view c.args.pass.now) (view c.try_part.new.pass) (view c.wait_for_part.new.pass) c.in-None.ensures.none.0 c.wait_for_part.ensures.waited
