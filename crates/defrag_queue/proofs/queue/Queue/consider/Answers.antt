use Rattle.std.proofs.Common.{ℕ, ◌≡◌, ◌<◌, ◌+◌, ◌-◌, ◌++◌, ◌∷◌, [], List, Bool, set, ap, sym, subst, ◌∙◌, arith}
use Rattle.std.proofs.lemmas.List.{length-set}
use Rattle.model_device.specs.Book.{is_in}
use Rattle.defrag_queue.specs.Queues.{QueueState, Marked, is_below_mark, considered}
use Rattle.defrag_queue.specs.Rings.{walk, Ring}
use Rattle.defrag_queue.proofs.Marks.{without, marked_enter, marked_leave, same, fewer, unmoved, moved_in, moved_out}
use Rattle.defrag_queue.proofs.Rings.{In, mark, is_out, is_there, walk_length, walk_pushed, walk_removed, last_within, before_within, after_within, ring_pushed, ring_removed, some_in}
use Rattle.defrag_queue.proofs.queue.Queue.consider.Goals as goal

pub returns-then-qualifies-index : goal.returns-then-qualifies-index
returns-then-qualifies-index c =
    let s = c.self.inside in
    let q = walk s.links.next.items s.count s.blocks in
    let within = subst (λ (t : QueueState). c.args.block < t.blocks) (sym c.self.view_is) c.requires in
    let low = is_below_mark s.capacity s.lwm c.args.used c.args.flushed in
    let at = mark c.args.block s.blocks q s.queued.items c.index.result.now c.is_low-qualifies.result c.self.invariant.0 c.self.invariant.1 within c.index.ensures in
    let marked : is_in q c.args.block ≡ low = at ∙ sym (same c.is_low-qualifies.result c.index.result.now c.if-qualifies-index.true) ∙ c.is_low-qualifies.ensures in
    let still = sym (unmoved c.args.block q low marked) in
    subst (λ (t : QueueState). t ≡ considered t c.args.block c.args.used c.args.flushed) c.self.view_is
    (λ i. record { queue = still i; blocks = s.blocks; capacity = s.capacity; lwm = s.lwm })

-- ---- a block enters

pub push-requires-clause-last : goal.push-requires-clause-last
push-requires-clause-last c =
    let s = c.self.inside in
    let within = subst (λ (t : QueueState). c.args.block < t.blocks) (sym c.self.view_is) c.requires in
    omega (
      arith,
      c.self.invariant.2.nexts,
      last_within s.links.next.items s.links.prev.items s.blocks c.args.block
          (walk s.links.next.items s.count s.blocks) s.queued.items c.self.invariant.0 c.self.invariant.1 c.self.invariant.2 within,
    )

pub overflow_add-self : goal.overflow_add-self
overflow_add-self c =
    let s = c.self.inside in
    let q = walk s.links.next.items s.count s.blocks in
    let within = subst (λ (t : QueueState). c.args.block < t.blocks) (sym c.self.view_is) c.requires in
    let few = fewer c.args.block q s.queued.items c.self.invariant.0 (omega (arith, c.self.invariant.1))
    (is_out c.args.block s.blocks q s.queued.items c.index.result.now c.is_low-qualifies.result
    c.self.invariant.0 c.self.invariant.1 within c.index.ensures c.if-qualifies-index.false c.if-qualifies.true) in
    omega (arith, few, walk_length s.links.next.items s.count s.blocks, c.self.invariant.1, c.self.ranges)

-- the ring then, and what it holds
entered : (c : goal.After-self-then-qualifies-1) → Ring c.push.new.self.next.items c.push.new.self.prev.items c.self.inside.blocks
    (walk c.self.inside.links.next.items c.self.inside.count c.self.inside.blocks ++ c.args.block ∷ [])
entered c =
    let s = c.self.inside in
    let q = walk s.links.next.items s.count s.blocks in
    let within = subst (λ (t : QueueState). c.args.block < t.blocks) (sym c.self.view_is) c.requires in
    let absent = is_out c.args.block s.blocks q s.queued.items c.index.result.now c.is_low-qualifies.result
    c.self.invariant.0 c.self.invariant.1 within c.index.ensures c.if-qualifies-index.false c.if-qualifies.true in
    rw (c.push.ensures.next, c.push.ensures.prev)
    (ring_pushed s.links.next.items s.links.prev.items s.blocks c.args.block q s.queued.items c.self.invariant.0 c.self.invariant.1 c.self.invariant.2 within absent)

more : (c : goal.After-self-then-qualifies-1) → walk c.push.new.self.next.items (c.self.inside.count + 1) c.self.inside.blocks
    ≡ walk c.self.inside.links.next.items c.self.inside.count c.self.inside.blocks ++ c.args.block ∷ []
more c = walk_pushed c.push.new.self.next.items c.push.new.self.prev.items c.self.inside.links.next.items c.self.inside.blocks c.self.inside.count c.args.block (entered c)

pub invariant_of-self : goal.invariant_of-self
invariant_of-self c =
    let s = c.self.inside in
    let q = walk s.links.next.items s.count s.blocks in
    let within = subst (λ (t : QueueState). c.args.block < t.blocks) (sym c.self.view_is) c.requires in
    let absent = is_out c.args.block s.blocks q s.queued.items c.index.result.now c.is_low-qualifies.result
    c.self.invariant.0 c.self.invariant.1 within c.index.ensures c.if-qualifies-index.false c.if-qualifies.true in (
      subst (λ (l : List ℕ). Marked l (set s.queued.items c.args.block c.is_low-qualifies.result)) (sym (more c))
          (subst (λ (v : Bool). Marked (q ++ c.args.block ∷ []) (set s.queued.items c.args.block v)) (sym c.if-qualifies.true)
          (marked_enter c.args.block q s.queued.items c.self.invariant.0 (omega (arith, c.self.invariant.1)) absent)),
      length-set s.queued.items c.args.block c.is_low-qualifies.result ∙ c.self.invariant.1,
      subst (λ (l : List ℕ). Ring c.push.new.self.next.items c.push.new.self.prev.items s.blocks l) (sym (more c)) (entered c),
    )

pub returns-then-qualifies : goal.returns-then-qualifies
returns-then-qualifies c =
    let s = c.self.inside in
    let q = walk s.links.next.items s.count s.blocks in
    let within = subst (λ (t : QueueState). c.args.block < t.blocks) (sym c.self.view_is) c.requires in
    let absent = is_out c.args.block s.blocks q s.queued.items c.index.result.now c.is_low-qualifies.result
    c.self.invariant.0 c.self.invariant.1 within c.index.ensures c.if-qualifies-index.false c.if-qualifies.true in
    let on = sym c.is_low-qualifies.ensures ∙ c.if-qualifies.true in
    let now = more c ∙ sym (moved_in c.args.block q (is_below_mark s.capacity s.lwm c.args.used c.args.flushed) on absent) in
    (λ i. record { queue = now i; blocks = s.blocks; capacity = s.capacity; lwm = s.lwm })
    ∙ ap (λ (t : QueueState). considered t c.args.block c.args.used c.args.flushed) c.self.view_is

-- ---- a block leaves

pub remove-requires-clause-before : goal.remove-requires-clause-before
remove-requires-clause-before c =
    let s = c.self.inside in
    let q = walk s.links.next.items s.count s.blocks in
    let within = subst (λ (t : QueueState). c.args.block < t.blocks) (sym c.self.view_is) c.requires in
    let there = is_there c.args.block s.blocks q s.queued.items c.index.result.now c.is_low-qualifies.result
    c.self.invariant.0 c.self.invariant.1 within c.index.ensures c.if-qualifies-index.false c.if-qualifies.false in
    omega (
      arith,
      c.self.invariant.2.nexts,
      before_within s.links.next.items s.links.prev.items s.blocks c.args.block q s.queued.items c.self.invariant.0 c.self.invariant.1
          c.self.invariant.2 within there,
    )

pub remove-requires-clause-after : goal.remove-requires-clause-after
remove-requires-clause-after c =
    let s = c.self.inside in
    let q = walk s.links.next.items s.count s.blocks in
    let within = subst (λ (t : QueueState). c.args.block < t.blocks) (sym c.self.view_is) c.requires in
    let there = is_there c.args.block s.blocks q s.queued.items c.index.result.now c.is_low-qualifies.result
    c.self.invariant.0 c.self.invariant.1 within c.index.ensures c.if-qualifies-index.false c.if-qualifies.false in
    omega (
      arith,
      c.self.invariant.2.prevs,
      after_within s.links.next.items s.links.prev.items s.blocks c.args.block q s.queued.items c.self.invariant.0 c.self.invariant.1
          c.self.invariant.2 within there,
    )

pub overflow_sub-self : goal.overflow_sub-self
overflow_sub-self c =
    let s = c.self.inside in
    let q = walk s.links.next.items s.count s.blocks in
    let within = subst (λ (t : QueueState). c.args.block < t.blocks) (sym c.self.view_is) c.requires in
    let there = is_there c.args.block s.blocks q s.queued.items c.index.result.now c.is_low-qualifies.result
    c.self.invariant.0 c.self.invariant.1 within c.index.ensures c.if-qualifies-index.false c.if-qualifies.false in
    omega (arith, some_in c.args.block q there, walk_length s.links.next.items s.count s.blocks)

here : (c : goal.After-self-else-qualifies-1) → In c.args.block (walk c.self.inside.links.next.items c.self.inside.count c.self.inside.blocks)
here c =
    let s = c.self.inside in
    let within = subst (λ (t : QueueState). c.args.block < t.blocks) (sym c.self.view_is) c.requires in
    is_there c.args.block s.blocks (walk s.links.next.items s.count s.blocks) s.queued.items c.index.result.now c.is_low-qualifies.result
    c.self.invariant.0 c.self.invariant.1 within c.index.ensures c.if-qualifies-index.false c.if-qualifies.false

left : (c : goal.After-self-else-qualifies-1) → Ring c.remove.new.self.next.items c.remove.new.self.prev.items c.self.inside.blocks
    (without c.args.block (walk c.self.inside.links.next.items c.self.inside.count c.self.inside.blocks))
left c =
    let s = c.self.inside in
    let q = walk s.links.next.items s.count s.blocks in
    let within = subst (λ (t : QueueState). c.args.block < t.blocks) (sym c.self.view_is) c.requires in
    rw (c.remove.ensures.next, c.remove.ensures.prev)
    (ring_removed s.links.next.items s.links.prev.items s.blocks c.args.block q s.queued.items c.self.invariant.0 c.self.invariant.1 c.self.invariant.2 within (here c))

less : (c : goal.After-self-else-qualifies-1) → walk c.remove.new.self.next.items (c.self.inside.count - 1) c.self.inside.blocks
    ≡ without c.args.block (walk c.self.inside.links.next.items c.self.inside.count c.self.inside.blocks)
less c =
    walk_removed c.remove.new.self.next.items c.remove.new.self.prev.items c.self.inside.links.next.items c.self.inside.blocks c.self.inside.count c.args.block
    c.self.inside.queued.items c.self.invariant.0 (here c) (left c)

pub invariant_of-self-else-qualifies : goal.invariant_of-self-else-qualifies
invariant_of-self-else-qualifies c =
    let s = c.self.inside in
    let q = walk s.links.next.items s.count s.blocks in
    let within = subst (λ (t : QueueState). c.args.block < t.blocks) (sym c.self.view_is) c.requires in (
      subst (λ (l : List ℕ). Marked l (set s.queued.items c.args.block c.is_low-qualifies.result)) (sym (less c))
          (subst (λ (v : Bool). Marked (without c.args.block q) (set s.queued.items c.args.block v)) (sym c.if-qualifies.false)
          (marked_leave c.args.block q s.queued.items c.self.invariant.0 (omega (arith, c.self.invariant.1)))),
      length-set s.queued.items c.args.block c.is_low-qualifies.result ∙ c.self.invariant.1,
      subst (λ (l : List ℕ). Ring c.remove.new.self.next.items c.remove.new.self.prev.items s.blocks l) (sym (less c)) (left c),
    )

pub returns-else-qualifies : goal.returns-else-qualifies
returns-else-qualifies c =
    let s = c.self.inside in
    let q = walk s.links.next.items s.count s.blocks in
    let off = sym c.is_low-qualifies.ensures ∙ c.if-qualifies.false in
    let now = less c ∙ sym (moved_out c.args.block q (is_below_mark s.capacity s.lwm c.args.used c.args.flushed) off) in
    (λ i. record { queue = now i; blocks = s.blocks; capacity = s.capacity; lwm = s.lwm })
    ∙ ap (λ (t : QueueState). considered t c.args.block c.args.used c.args.flushed) c.self.view_is
