use Rattle.std.proofs.Common.{sym, ◌∙◌, subst}
use Rattle.block_shelf.specs.View.{ShelfView}
use Rattle.block_shelf.specs.Low.{HoldsDead}
use Rattle.block_shelf.proofs.OverDead.{none_used}
use Rattle.block_shelf.proofs.shelf.Shelf.holds_dead.Goals as goal

pub returns-then-used-eq0 : goal.returns-then-used-eq0
returns-then-used-eq0 g c =
    subst (λ (v : ShelfView g.row.D.Denot). HoldsDead v c.args.number) c.self.view_is (record {
      block = c.in-Some.block;
      held = c.in-Some.ensures.held;
      dead = none_used _ (c.self.invariant.0.each c.in-Some.block).takes (sym c.used.ensures ∙ c.if-used-eq0.true);
    })
