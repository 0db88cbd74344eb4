use Rattle.block_shelf.proofs.Healing.{covers_none, covers_then}
use Rattle.block_shelf.proofs.shelf.Shelf.cover_each.Goals as goal

pub loop-block-init : goal.loop-block-init
loop-block-init g c = covers_none g.D.Disk.view g.met.D.Disk.is_disk c.args.self.now

pub loop-block-preserved : goal.loop-block-preserved
loop-block-preserved g c = covers_then g.D.Disk.view g.met.D.Disk.is_disk c.args.self.now c.loop-block.self c.cover_block.new.self c.loop-block.invariant c.cover_block.ensures
