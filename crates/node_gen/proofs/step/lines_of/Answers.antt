use Rattle.std.proofs.Common.{arith}
use Rattle.node_gen.proofs.Lines.{all_counted}
use Rattle.node_gen.proofs.step.lines_of.Goals as goal

pub loop-next-init : goal.loop-next-init
loop-next-init c =
    let all = all_counted c.args.count in
    record { rest = omega arith; below = omega arith }
