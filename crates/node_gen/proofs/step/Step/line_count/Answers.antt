use Rattle.node_gen.proofs.Lines.{step_count}
use Rattle.node_gen.proofs.step.Step.line_count.Goals as goal

pub returns-clause-lines : goal.returns-clause-lines
returns-clause-lines c =
    let counted = step_count c.args.self c.args.count in cc
