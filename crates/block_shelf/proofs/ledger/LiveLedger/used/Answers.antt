use Rattle.std.proofs.Common.{◌<◌, List, length, ap, sym, subst, ◌∙◌}
use Rattle.block_shelf.specs.Lives.{LiveCopy, use_in}
use Rattle.block_shelf.proofs.Uses.{counted_use}
use Rattle.block_shelf.proofs.ledger.LiveLedger.used.Goals as goal

pub returns : goal.returns
returns c =
    let within = subst (λ (l : List (List LiveCopy)). c.args.block < length l) (sym c.self.view_is) c.requires in
    c.used.ensures ∙ counted_use c.self.inside.uses c.self.inside.copies.lists c.self.invariant c.args.block within ∙ ap (use_in c.args.block) c.self.view_is
