use Rattle.test_devices.specs.Trials.{IsShardAlone}
use Rattle.test_devices.proofs.tests.mixed.compared.Given as goal

abbrev pub invariant-loop-digest : goal.invariant-loop-digest
invariant-loop-digest l = IsShardAlone l.shard
