use Rattle.std.proofs.Common.{◌≡◌, drop}
use Rattle.law_serve.specs.Promises.{first_failed}
use Rattle.node_jobs.proofs.serve.failed_first.Given as goal

abbrev pub invariant-loop-device : goal.invariant-loop-device
invariant-loop-device g l = first_failed 0 l.closings ≡ first_failed l.device (drop l.device l.closings)
