use Rattle.std.proofs.Common.{◌*◌, ◌≤◌, ◌^◌}
use Rattle.core_run.specs.Turns.{GoesOn}
use Rattle.core_run.proofs.Expiring.{ExpiredSoFar}
use Rattle.core_run.proofs.devices.expire.Given as goal

abbrev pub invariant-loop-part : goal.invariant-loop-part
invariant-loop-part g l = record {
  goes : GoesOn g.D.Disk.view l.initial.shard l.shard;
  far : ExpiredSoFar g.D.Disk.view l.now l.part l.removed l.initial.shard l.shard;
  few : l.removed ≤ l.part * 2 ^ 32;
}
