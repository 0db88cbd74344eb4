use Rattle.std.proofs.Common.{◌≡◌, true}
use Rattle.std.specs.Prelude.{filter}
use Rattle.std.specs.List.{range_with_len}
use Rattle.rec_format.specs.Versions.{block_capacity}
use Rattle.block_shelf.specs.Lives.{use_in}
use Rattle.defrag_queue.specs.Queues.{is_below_mark}
use Rattle.block_shelf.proofs.start.queue_of.Given as goal

abbrev pub invariant-loop-block : goal.invariant-loop-block
invariant-loop-block l = record {
  blocks : l.queue.blocks ≡ l.geometry.blocks;
  capacity : l.queue.capacity ≡ block_capacity l.geometry.block_size;
  mark : l.queue.lwm ≡ l.lwm;
  queued : l.queue.queue ≡ filter (λ b. is_below_mark (block_capacity l.geometry.block_size) l.lwm (use_in b l.ledger) true) (range_with_len 0 l.block);
}
