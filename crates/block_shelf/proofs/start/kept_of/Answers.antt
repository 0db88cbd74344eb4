use Rattle.std.proofs.Common.{◌∙◌, arith, rules}
use Rattle.write_buffer.proofs.Sizes.{sized}
use Rattle.block_shelf.proofs.StartShelf.{free_is}
use Rattle.block_shelf.proofs.start.kept_of.Goals as goal

pub overflow_sub-geometry : goal.overflow_sub-geometry
overflow_sub-geometry c = let s = sized c.args.geometry.now.block_size c.requires.geometry.block_size in omega (arith, s.low)

pub returns : goal.returns
returns c = record {
  size = c.in_ok-ledger.ensures.size;
  copies = c.in_ok-ledger.ensures.copies;
  free = c.in_ok-free.ensures.blocks ∙ free_is c.args.geometry.now c.args.live.now c.in_ok-ledger.ledger c.requires.live c.in_ok-ledger.ensures.copies;
  memory = c.in_ok-free.ensures.room;
  shape = c.in_ok-queue.ensures.shape;
  queue = c.in_ok-queue.ensures.blocks;
  cache = search rules;
  raid = search rules;
  body = search rules;
}
