use Rattle.block_shelf.specs.Heals.{Covers}
use Rattle.block_shelf.proofs.shelf.Shelf.cover_each.Given as goal

abbrev pub invariant-loop-block : goal.invariant-loop-block
invariant-loop-block g l = Covers g.D.Disk.view l.fn.self l.self
