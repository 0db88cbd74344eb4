use Rattle.live_chores.specs.Raids.{raider}
use Rattle.test_chores.specs.Trials.{IsHired}
use Rattle.test_chores.proofs.tests.raids.raided.Given as goal

abbrev pub invariant-loop : goal.invariant-loop
invariant-loop g l = IsHired l.live (raider l.chore)
