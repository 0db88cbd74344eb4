-- The head decides first, and then the records behind it.
use Rattle.std.proofs.Common.{length}
use Rattle.block_format.proofs.BodyLaws.{few_listed, listing_of, small_body, unread_at}
use Rattle.block_format.proofs.body.digests_of.Goals as goal

pub returns-in-Ok-clause-listed : goal.returns-in-Ok-clause-listed
returns-in-Ok-clause-listed c =
    let h = c.in-Some.head in
    listing_of c.args.body.now c.args.block h.number h.records h.units c.list_records.new.digests.items c.in-Some.ensures.head c.in-Ok.ensures.listed

pub returns-in-Err-clause-refused : goal.returns-in-Err-clause-refused
returns-in-Err-clause-refused c =
    let h = c.in-Some.head in
    unread_at c.args.body.now c.args.block h.number h.records h.units c.in-Err.place (small_body (length c.args.body.now) c.requires.size) c.in-Some.ensures.head c.in-Err.ensures.refused

pub returns-in-Ok-clause-few : goal.returns-in-Ok-clause-few
returns-in-Ok-clause-few c = few_listed c.args.body.now c.args.block c.list_records.new.digests.items (returns-in-Ok-clause-listed c)
