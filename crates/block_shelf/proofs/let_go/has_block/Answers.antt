use Rattle.block_shelf.proofs.Freeing.{none_has}
use Rattle.block_shelf.proofs.let_go.has_block.Goals as goal

pub returns-clause-value : goal.returns-clause-value
returns-clause-value c = none_has c.args.buffers.now c.args.block c.loop-buffer.buffer-index c.loop-buffer.invariant c.loop-buffer.auto.buffer-index-end c.loop-buffer-test.false
