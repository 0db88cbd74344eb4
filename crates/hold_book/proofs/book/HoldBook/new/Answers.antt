use Rattle.std.proofs.Common.{rules, [], sym, subst}
use Rattle.hold_book.specs.Counts.{CountsPairs}
use Rattle.hold_book.proofs.Order.{AreRising, none_rise}
use Rattle.hold_book.proofs.book.HoldBook.new.Goals as goal

pub invariant_of-result : goal.invariant_of-result
invariant_of-result c =
    let counted : CountsPairs [] c.new-2.result = search rules in
    (subst (λ ps. CountsPairs ps c.new-2.result) (sym c.new.ensures.items) counted, subst AreRising (sym c.new.ensures.items) none_rise)
