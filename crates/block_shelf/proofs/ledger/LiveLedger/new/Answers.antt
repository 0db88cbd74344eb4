use Rattle.std.proofs.Common.{ℕ, List, sym, subst}
use Rattle.std.specs.Prelude.{replicate}
use Rattle.block_shelf.specs.Lives.{AreCounted}
use Rattle.block_shelf.proofs.Uses.{none_counted}
use Rattle.block_shelf.proofs.ledger.LiveLedger.new.Goals as goal

pub invariant_of-result : goal.invariant_of-result
invariant_of-result c =
    subst (λ (uses : List ℕ). AreCounted uses c.new-2.result.lists) (sym c.in_ok-uses.ensures)
    (subst (AreCounted (replicate c.args.blocks 0)) (sym c.new-2.ensures) (none_counted c.args.blocks))
