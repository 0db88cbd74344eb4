use Rattle.test_devices.specs.Trials.{IsGiven}
use Rattle.test_devices.proofs.tests.mixed.take_turns.Given as goal

abbrev pub invariant-loop-count : goal.invariant-loop-count
invariant-loop-count g l = IsGiven l.fn.live l.hand.pass
