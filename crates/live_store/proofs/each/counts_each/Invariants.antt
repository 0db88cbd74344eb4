use Rattle.node_replies.specs.Through.{Through}
use Rattle.live_store.specs.Known.{ArePasses, KeepNumbers, known_each}
use Rattle.live_store.proofs.Counted.{CountedSoFar, LookTurn}
use Rattle.live_store.proofs.each.counts_each.Given as goal

-- the devices so far are looked at, and their numbers are together
abbrev pub invariant-loop-device : goal.invariant-loop-device
invariant-loop-device g l = record {
  seated : ArePasses l.lives l.passes;
  numbers : KeepNumbers l.initial.passes l.passes;
  turns : Through (LookTurn g.D.Disk.view) l.device 0 (known_each l.lives l.initial.passes) (known_each l.lives l.passes) 0;
  counted : CountedSoFar g.D.Disk.view l.device (known_each l.lives l.passes) l.sum;
}
