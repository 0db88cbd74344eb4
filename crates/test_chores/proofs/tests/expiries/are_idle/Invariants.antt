use Rattle.live_chores.specs.Expires.{expirer}
use Rattle.test_chores.specs.Trials.{IsHired}
use Rattle.test_chores.proofs.tests.expiries.are_idle.Given as goal

abbrev pub invariant-loop : goal.invariant-loop
invariant-loop g l = IsHired l.live (expirer l.chore)
