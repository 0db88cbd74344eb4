use Rattle.std.proofs.Common.{◌≤◌, length, vec_capacity}
use Rattle.live_crew.proofs.Giving.{GivenSoFar}
use Rattle.live_crew.proofs.dealing.split_each.Given as goal

-- those of the devices before this one gave one each
abbrev pub invariant-loop-device : goal.invariant-loop-device
invariant-loop-device g l = record {
  so_far : GivenSoFar l.lives l.initial.passes l.passes l.list.items l.device;
  room : length l.lives ≤ vec_capacity l.list;
}
