use Rattle.turn_table.specs.Passes.{view, part_count}
use Rattle.turn_table.proofs.PassSteps.{waited_once}
use Rattle.turn_table.proofs.steps.Table+M.take_hub.Goals as goal

pub returns-in-None-clause-waited : goal.returns-in-None-clause-waited
returns-in-None-clause-waited g c =
    waited_once (part_count c.args.self.now) (view c.args.pass.now) (view c.try_hub.new.pass) (view c.wait_for_hub.new.pass) c.in-None.ensures.none.0 c.wait_for_hub.ensures.waited
