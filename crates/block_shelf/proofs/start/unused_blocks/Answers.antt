use Rattle.std.proofs.Common.{◌≡◌, ◌≤◌, ℕ, deque_capacity, Global, sym, ◌∙◌, ap, subst, arith}
use Rattle.std.specs.Prelude.{◌==◌}
use Rattle.std.specs.declared.collections.VecDeque.{VecDeque}
use Rattle.std.proofs.lemmas.Bool.{eq-eqb, ne_eqb}
use Rattle.law_lists.proofs.Ranges.{filter_passing, filter_failing}
use Rattle.block_shelf.specs.Lives.{use_in}
use Rattle.block_shelf.proofs.start.unused_blocks.Goals as goal
use Rattle.block_shelf.proofs.start.unused_blocks.Goals.{then-used-eq0+in_ok-push_back, else-used-eq0}

pub loop-block-preserved : goal.loop-block-preserved
loop-block-preserved c =
    let k : ℕ = c.loop-block.block in
    let same : c.used.result ≡ use_in k c.args.ledger.now = c.used.ensures in
    let room : c.args.blocks ≤ deque_capacity c.loop-block.free = c.loop-block.invariant.1 in
    elim c.if-used-eq0.branch [
      | then-used-eq0+in_ok-push_back w ↦
          let grown = w.push_back.ensures.capacity in (
            filter_passing (λ b. use_in b c.args.ledger.now == 0) k c.loop-block.free.items c.if-used-eq0.free.items c.loop-block.invariant.0
                (eq-eqb (use_in k c.args.ledger.now) 0 (sym same ∙ w.if-used-eq0.true))
                (ap (λ (q : VecDeque ℕ Global). q.items) w.free-is ∙ w.in_ok-push_back.ensures.items),
            subst (λ (q : VecDeque ℕ Global). c.args.blocks ≤ deque_capacity q) (sym w.free-is) (omega (arith, grown, room)),
          )
      | else-used-eq0 w ↦ (
        filter_failing (λ b. use_in b c.args.ledger.now == 0) k c.if-used-eq0.free.items (ap (λ (q : VecDeque ℕ Global). q.items) w.free-is ∙ c.loop-block.invariant.0)
            (ne_eqb (use_in k c.args.ledger.now) 0 (λ none. w.if-used-eq0.false (same ∙ none))),
        subst (λ (q : VecDeque ℕ Global). c.args.blocks ≤ deque_capacity q) (sym w.free-is) room,
      )
    ]
