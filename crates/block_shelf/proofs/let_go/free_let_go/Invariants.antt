use Rattle.std.proofs.Common.{◌≤◌, ◌-◌, length}
use Rattle.std.specs.VecDeque.{deque_capacity}
use Rattle.hold_book.specs.Holds.{without_buffer}
use Rattle.block_shelf.specs.LetGo.{IsLetGo}
use Rattle.block_shelf.proofs.Freeing.{AreFreed}
use Rattle.block_shelf.proofs.let_go.free_let_go.Given as goal

abbrev pub invariant-loop-block : goal.invariant-loop-block
invariant-loop-block l = record {
  are : AreFreed (length l.ledger) (IsLetGo l.number l.own l.holds.holds (without_buffer l.holds.holds l.number) l.buffers l.ledger) l.initial.free.items l.from l.free.items;
  room : length l.ledger ≤ deque_capacity l.free;
  within : l.from ≤ length l.ledger;
}

abbrev pub decreases-loop-block : goal.decreases-loop-block
decreases-loop-block l = length l.ledger - l.from
