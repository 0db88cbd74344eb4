-- The head decides first, and then the records behind it.
use Rattle.std.proofs.Common.{length}
use Rattle.block_format.proofs.BodyLaws.{numbered_of, small_body, unread_at}
use Rattle.block_format.proofs.body.check_body.Goals as goal

pub returns-in-Ok-clause-there : goal.returns-in-Ok-clause-there
returns-in-Ok-clause-there c =
    let h = c.in-Some.head in
    numbered_of c.args.body.now c.args.block h.number h.records h.units c.in-Some.ensures.head c.in-Ok.ensures.there

pub returns-in-Err-clause-refused : goal.returns-in-Err-clause-refused
returns-in-Err-clause-refused c =
    let h = c.in-Some.head in
    unread_at c.args.body.now c.args.block h.number h.records h.units c.in-Err.place (small_body (length c.args.body.now) c.requires.size) c.in-Some.ensures.head c.in-Err.ensures.refused
