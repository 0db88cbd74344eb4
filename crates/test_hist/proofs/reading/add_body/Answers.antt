use Rattle.std.proofs.Common.{◌++◌, List, ◌∙◌, ap}
use Rattle.block_format.proofs.BodyRecords.{Record}
use Rattle.test_hist.proofs.Places.{body_stands, record_more, as_many}
use Rattle.test_hist.proofs.reading.add_body.Goals as goal

pub record_at-requires : goal.record_at-requires
record_at-requires c =
    let r = c.in-Ok.ensures.read in
    let at = body_stands _ c.args.body.now r.body c.deref-record-items.result.now r.is_body (c.deref-record-items.ensures.value ∙ r.found_is) c.loop-record.record-index _ c.loop-record-test.true in
    (at.digest, at.version, at.there)

pub loop-record-preserved : goal.loop-record-preserved
loop-record-preserved c = λ b is heads.
    c.in_ok-push.ensures.items
    ∙ record_more _ c.args.body.now b c.deref-record-items.result.now is heads c.loop-record.record-index _ c.loop-record-test.true c.in_ok-read.read c.in_ok-read.ensures
    c.args.records.now.items c.loop-record.records.items (c.loop-record.invariant b is heads)

pub returns : goal.returns
returns c =
    let r = c.in-Ok.ensures.read in
    let heads = c.deref-record-items.ensures.value ∙ r.found_is in (
      r.body,
      r.is_body,
      r.block_is,
      c.loop-record.invariant r.body r.is_body heads
          ∙ ap (λ (l : List Record). c.args.records.now.items ++ l) (as_many r.body c.deref-record-items.result.now heads c.loop-record.record-index c.loop-record-test.false),
    )
