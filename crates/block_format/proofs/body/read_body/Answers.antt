-- The head decides first, and then the records behind it.
use Rattle.std.proofs.Common.{length}
use Rattle.block_format.proofs.BodyLaws.{one_body, one_fault, reading_of, small_body, unread_of}
use Rattle.block_format.proofs.body.read_body.Goals as goal

pub returns-in_default-clause-one_body : goal.returns-in_default-clause-one_body
returns-in_default-clause-one_body c = one_body

pub returns-in_default-clause-one_fault : goal.returns-in_default-clause-one_fault
returns-in_default-clause-one_fault c = one_fault

pub returns-in-Ok-clause-read : goal.returns-in-Ok-clause-read
returns-in-Ok-clause-read c =
    let h = c.in-Some.head in
    reading_of c.args.body.now c.args.block h.number h.records h.units c.in-Ok.found.items c.in-Some.ensures.head c.in-Ok.ensures.found

pub returns-in-Ok-clause-one_body : goal.returns-in-Ok-clause-one_body
returns-in-Ok-clause-one_body c = one_body

pub returns-in-Ok-clause-one_fault : goal.returns-in-Ok-clause-one_fault
returns-in-Ok-clause-one_fault c = one_fault

pub returns-in-Err-clause-refused : goal.returns-in-Err-clause-refused
returns-in-Err-clause-refused c =
    let h = c.in-Some.head in
    unread_of c.args.body.now c.args.block h.number h.records h.units c.in-Err.refusal (small_body (length c.args.body.now) c.requires.size) c.in-Some.ensures.head c.in-Err.ensures.refused

pub returns-in-Err-clause-one_body : goal.returns-in-Err-clause-one_body
returns-in-Err-clause-one_body c = one_body

pub returns-in-Err-clause-one_fault : goal.returns-in-Err-clause-one_fault
returns-in-Err-clause-one_fault c = one_fault
