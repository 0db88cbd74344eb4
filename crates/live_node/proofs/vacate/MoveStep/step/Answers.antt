use Rattle.live_node.proofs.vacate.MoveStep.step.Goals as goal

pub returns-clause-makes : goal.returns-clause-makes
returns-clause-makes g c setup s is stand = c.move_one.ensures.makes setup s is.of_shelf stand
