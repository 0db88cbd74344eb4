use Rattle.std.proofs.Common.{◌≡◌, List, Bool, length, false, replicate, ap, ◌∙◌, rules}
use Rattle.std.proofs.lemmas.List.{length-replicate}
use Rattle.defrag_queue.proofs.Marks.{none_marked}
use Rattle.defrag_queue.proofs.Rings.{ring_new}
use Rattle.defrag_queue.proofs.queue.Queue.new.Goals as goal

marks : (c : goal.In_ok-links) → c.in_ok-queued.queued.items ≡ replicate c.args.blocks false
marks c = c.in_ok-queued.ensures.items_if_clones_equal (λ y e. search rules)

pub invariant_of-result : goal.invariant_of-result
invariant_of-result c = (
  rw (marks c) (none_marked c.args.blocks),
  ap (λ (l : List Bool). length l) (marks c) ∙ length-replicate c.args.blocks false,
  rw (c.in_ok-links.ensures.0, c.in_ok-links.ensures.1) (ring_new c.args.blocks),
)
