use Rattle.block_shelf.proofs.Healing.{HealsTo}
use Rattle.block_shelf.proofs.shelf.Shelf.heal_each.Given as goal

abbrev pub invariant-loop-block : goal.invariant-loop-block
invariant-loop-block g l = HealsTo g.D.Disk.view g.met.D.Disk.is_disk l.fn.self l.block l.closed l.self
