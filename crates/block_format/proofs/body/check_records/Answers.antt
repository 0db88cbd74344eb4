-- Record by record, until one isn't there or all of them are.
use Rattle.std.proofs.Common.{◌++◌, ◌∷◌, []}
use Rattle.block_format.proofs.BodyRecords.{records_more}
use Rattle.block_format.proofs.body.check_records.Goals as goal

pub loop-record-preserved : goal.loop-record-preserved
loop-record-preserved c =
    let next = c.in-Some.next in
    let there = c.loop-record.invariant.0 in (
      (there.0 ++ next ∷ [], records_more c.args.body.now c.loop-record._record c.loop-record.used c.args.head.now.units there.0 next there.1 c.in-Some.ensures.next),
      c.in-Some.ensures.next.within,
    )
