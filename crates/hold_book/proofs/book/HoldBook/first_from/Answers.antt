use Rattle.std.proofs.Common.{MatchOption, subst}
use Rattle.hold_book.specs.Holds.{HoldState, HoldsNoneFrom, IsFirstHeld}
use Rattle.hold_book.proofs.Order.{first_told}
use Rattle.hold_book.proofs.book.HoldBook.first_from.Goals as goal

pub returns : goal.returns
returns c =
    subst (λ (s : HoldState). MatchOption c.first_from.result (HoldsNoneFrom s.holds c.args.buffer c.args.from) (IsFirstHeld s.holds c.args.buffer c.args.from)) c.self.view_is
    (first_told c.self.inside.pairs.items c.args.buffer c.args.from c.first_from.result (rw c.deref.ensures.value at c.first_from.ensures))
