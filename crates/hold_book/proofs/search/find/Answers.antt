use Rattle.hold_book.proofs.Order.{told_place}
use Rattle.hold_book.proofs.search.find.Goals as goal

pub returns : goal.returns
returns c = told_place c.args.pairs.now (c.args.buffer, c.args.block) c.binary_search.result c.requires c.binary_search.ensures.bound c.binary_search.ensures.position
