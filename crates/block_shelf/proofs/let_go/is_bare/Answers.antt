use Rattle.block_shelf.proofs.Freeing.{told_bare}
use Rattle.block_shelf.proofs.let_go.is_bare.Goals as goal

pub returns : goal.returns
returns c = told_bare c.args.buffers.now c.args.ledger.now c.args.block c.used.result c.used.ensures c.requires.each c.if-has_block.ensures.told
