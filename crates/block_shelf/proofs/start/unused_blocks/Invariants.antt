use Rattle.std.proofs.Common.{◌≡◌, ◌≤◌, deque_capacity}
use Rattle.std.specs.Prelude.{filter, ◌==◌}
use Rattle.std.specs.List.{range_with_len}
use Rattle.block_shelf.specs.Lives.{use_in}
use Rattle.block_shelf.proofs.start.unused_blocks.Given as goal

abbrev pub invariant-loop-block : goal.invariant-loop-block
invariant-loop-block l = (l.free.items ≡ filter (λ b. use_in b l.ledger == 0) (range_with_len 0 l.block)) × (l.blocks ≤ deque_capacity l.free)
