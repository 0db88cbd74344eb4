use Rattle.std.proofs.Common.{◌≡◌}
use Rattle.std.specs.Prelude.{vec_capacity}
use Rattle.node_replies.specs.Through.{Through}
use Rattle.live_store.specs.Known.{ArePasses, KeepNumbers, known_each}
use Rattle.live_store.specs.Works.{Defragments}
use Rattle.live_store.proofs.Working.{WorkTurn}
use Rattle.live_store.proofs.each.defrag_each.Given as goal

-- the devices so far are defragmented
abbrev pub invariant-loop-device : goal.invariant-loop-device
invariant-loop-device g l = record {
  seated : ArePasses l.lives l.passes;
  numbers : KeepNumbers l.initial.passes l.passes;
  room : vec_capacity l.list ≡ vec_capacity l.initial.list;
  turns : Through (WorkTurn (Defragments g.D.Disk.view)) l.device (0, 0) (known_each l.lives l.initial.passes) (known_each l.lives l.passes) (l.moved, l.vacated);
}
