use Rattle.std.proofs.Common.{◌∙◌, ap, subst}
use Rattle.block_shelf.specs.Lives.{use_in}
use Rattle.block_shelf.specs.View.{ShelfView, IsShelf}
use Rattle.block_shelf.proofs.QueueSteps.{use_in_is}
use Rattle.block_shelf.proofs.shelf.Shelf.used.Goals as goal

pub returns-clause-units : goal.returns-clause-units
returns-clause-units g c = c.used.ensures ∙ ap (λ (v : ShelfView g.row.D.Denot). use_in c.args.block v.lives) c.self.view_is

pub returns-clause-state : goal.returns-clause-state
returns-clause-state g c setup s stands =
    let old = c.args.self.now in
    let whole : IsShelf g.D.Disk.view old = subst (IsShelf g.D.Disk.view) c.self.view_is c.self.invariant.0 in
    returns-clause-units g c ∙ use_in_is old.lives s.book c.args.block stands.lives (whole.each c.args.block) stands.listed.own
