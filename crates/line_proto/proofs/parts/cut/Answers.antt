use Rattle.std.proofs.Common.{arith, ◌+◌}
use Rattle.std.proofs.lemmas.List.{take_rest}
use Rattle.line_proto.proofs.Cutting.{cut_at}
use Rattle.line_proto.proofs.parts.cut.Goals as goal

pub returns : goal.returns
returns c =
    let text = c.args.text.now in
    let at = c.in_ok-at.at in
    let found = c.in_ok-at.ensures in
    rw (take_rest text (at + 1)) (cut_at c.args.separator text at found.0.high (λ k near. found.0.before k (omega arith) near) found.1)
