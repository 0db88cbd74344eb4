use Rattle.std.proofs.Common.{ap, sym, ◌∙◌}
use Rattle.hold_book.specs.Holds.{HoldState, has_hold}
use Rattle.hold_book.proofs.Pairs.{contains-pairs}
use Rattle.hold_book.proofs.Order.{told_has}
use Rattle.hold_book.proofs.book.HoldBook.holds.Goals as goal

pub returns : goal.returns
returns c =
    c.is_ok.ensures.value ∙ told_has c.self.inside.pairs.items (c.args.buffer, c.args.block) c.find.result (rw c.deref.ensures.value at c.find.ensures)
    ∙ sym (contains-pairs c.self.inside.pairs.items (c.args.buffer, c.args.block))
    ∙ ap (λ (s : HoldState). has_hold s.holds c.args.buffer c.args.block) c.self.view_is
