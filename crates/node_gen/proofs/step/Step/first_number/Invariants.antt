use Rattle.std.proofs.Common.{◌≡◌}
use Rattle.node_gen.specs.Places.{numbers_from}
use Rattle.node_gen.proofs.step.Step.first_number.Given as goal

abbrev pub invariant-loop-number : goal.invariant-loop-number
invariant-loop-number l = numbers_from l.fn.self l.fn.from l.fn.count ≡ numbers_from l.fn.self l.number l.fn.count
