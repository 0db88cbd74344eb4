use Rattle.std.proofs.Common.{ℕ, Bool, true, ◌∙◌, ap}
use Rattle.rec_format.specs.Versions.{block_capacity}
use Rattle.block_shelf.specs.Lives.{use_in}
use Rattle.defrag_queue.specs.Queues.{QueueState, is_below_mark, requeued}
use Rattle.block_shelf.proofs.StartLives.{considering}
use Rattle.block_shelf.proofs.start.queue_of.Goals as goal

pub loop-block-preserved : goal.loop-block-preserved
loop-block-preserved c =
    let was = c.loop-block.invariant in
    let k : ℕ = c.loop-block.block in
    let is = c.consider.ensures in
    let mark : ℕ → Bool = λ b. is_below_mark (block_capacity c.args.geometry.now.block_size) c.args.lwm (use_in b c.args.ledger.now) true in
    record {
      blocks = ap (λ (q : QueueState). q.blocks) is ∙ was.blocks;
      capacity = ap (λ (q : QueueState). q.capacity) is ∙ was.capacity;
      mark = ap (λ (q : QueueState). q.lwm) is ∙ was.mark;
      queued = ap (λ (q : QueueState). q.queue) is ∙ (λ i. requeued (is_below_mark (was.capacity i) (was.mark i) (c.used.ensures i) true) k (was.queued i)) ∙ considering mark k;
    }
