use Rattle.std.proofs.Common.{◌-◌, ◌*◌, ◌≤◌, ◌^◌}
use Rattle.core_run.specs.Turns.{GoesOn}
use Rattle.core_run.proofs.Defragging.{DefragsSoFar}
use Rattle.core_run.proofs.devices.defrag.Given as goal

abbrev pub invariant-loop-vacated : goal.invariant-loop-vacated
invariant-loop-vacated g l = record {
  goes : GoesOn g.D.Disk.view l.initial.shard l.shard;
  far : DefragsSoFar g.D.Disk.view l.queued l.moved l.vacated l.initial.shard l.shard;
  few : l.moved ≤ l.vacated * 2 ^ 16;
  most : l.vacated ≤ l.queued;
}

abbrev pub decreases-loop-vacated : goal.decreases-loop-vacated
decreases-loop-vacated g l = l.queued - l.vacated
