use Rattle.std.proofs.Common.{ap, sym, length, ◌∙◌}
use Rattle.defrag_queue.specs.Queues.{QueueState}
use Rattle.defrag_queue.proofs.Rings.{walk_length}
use Rattle.defrag_queue.proofs.queue.Queue.len.Goals as goal

pub returns : goal.returns
returns c =
    let s = c.self.inside in
    sym (walk_length s.links.next.items s.count s.blocks) ∙ ap (λ (t : QueueState). length t.queue) c.self.view_is
