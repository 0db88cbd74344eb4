use Rattle.std.proofs.Common.{◌≡◌, ◌≤◌, ◌+◌, ◌*◌, ◌^◌, min}
use Rattle.shard_raid.specs.Raids.{IsNext, turns_left}
use Rattle.core_run.specs.Turns.{GoesOn}
use Rattle.core_run.proofs.Raiding.{RaidedSoFar}
use Rattle.core_run.proofs.raid.raid.Given as goal

abbrev pub invariant-loop-did : goal.invariant-loop-did
invariant-loop-did g l = record {
  goes : GoesOn g.D.Disk.view l.fn.shard l.shard;
  next : IsNext l.raid l.shard.shelf.raid;
  number : l.raid.number ≡ l.initial.raid.number;
  far : RaidedSoFar g.D.Disk.view l.now l.initial.raid.number l.removed l.cleared l.fn.shard l.shard;
  few_removed : l.removed + min (turns_left l.shard.shelf.raid) (2 ^ 20) * 2 ^ 32 ≤ 2 ^ 52;
  few_cleared : l.cleared + min (turns_left l.shard.shelf.raid) (2 ^ 20) * 2 ^ 32 ≤ 2 ^ 52;
}

abbrev pub decreases-loop-did : goal.decreases-loop-did
decreases-loop-did g l = turns_left l.shard.shelf.raid
