use Rattle.node_replies.specs.Through.{Through}
use Rattle.live_store.specs.Known.{ArePasses, KeepNumbers, known_each}
use Rattle.live_store.specs.Works.{CountsOnce}
use Rattle.live_store.specs.Upkeep.{call_of}
use Rattle.live_store.proofs.Working.{WorkTurn}
use Rattle.live_store.proofs.each.keep_up_each.Given as goal

-- the devices so far have done it
abbrev pub invariant-loop-device : goal.invariant-loop-device
invariant-loop-device g l = record {
  seated : ArePasses l.lives l.passes;
  numbers : KeepNumbers l.initial.passes l.passes;
  turns : Through (WorkTurn (CountsOnce g.D.Disk.view (call_of l.upkeep))) l.device (0, 0) (known_each l.lives l.initial.passes) (known_each l.lives l.passes) (l.sum, 0);
}
