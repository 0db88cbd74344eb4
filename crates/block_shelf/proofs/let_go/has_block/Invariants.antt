use Rattle.std.proofs.Common.{◌≢◌, take}
use Rattle.std.specs.List.{AllByRecursion}
use Rattle.block_shelf.proofs.let_go.has_block.Given as goal

abbrev pub invariant-loop-buffer : goal.invariant-loop-buffer
invariant-loop-buffer l = AllByRecursion (λ b. b.block ≢ l.block) (take l.buffer-index l.buffers)
