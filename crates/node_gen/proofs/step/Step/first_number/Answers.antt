use Rattle.std.proofs.Common.{◌%◌, ap, ◌∙◌, arith}
use Rattle.node_gen.proofs.Steps.{number_found, number_passed}
use Rattle.node_gen.proofs.step.Step.first_number.Goals as goal

pub loop-number-preserved : goal.loop-number-preserved
loop-number-preserved c =
    c.loop-number.invariant
    ∙ number_passed c.args.self c.loop-number.number c.args.count (omega arith) (λ none. c.if-number-stride-eq0.false (ap (λ k. c.loop-number.number % k) c.stride-stride.ensures.value ∙ none))

pub returns-then-number-stride-eq0-clause-numbers : goal.returns-then-number-stride-eq0-clause-numbers
returns-then-number-stride-eq0-clause-numbers c =
    let divides = rw c.stride-stride.ensures.value at c.if-number-stride-eq0.true in
    c.loop-number.invariant ∙ number_found c.args.self c.loop-number.number c.args.count (omega arith) divides
