use Rattle.std.proofs.Common.{ap, ◌∙◌}
use Rattle.std.specs.FinSet as set
use Rattle.hold_book.specs.Holds.{HoldState}
use Rattle.hold_book.proofs.book.HoldBook.reserve.Goals as goal

pub returns-clause-holds : goal.returns-clause-holds
returns-clause-holds c = ap (λ l. set.from_list l) c.reserve.ensures.items ∙ ap (λ (s : HoldState). s.holds) c.self.view_is
