use Rattle.std.proofs.Common.{◌≡◌, ◌++◌, take}
use Rattle.block_format.specs.Layout.{Body, IsBody}
use Rattle.block_format.specs.Readings.{body_capacity, found_from}
use Rattle.test_hist.proofs.reading.add_body.Given as goal

abbrev pub invariant-loop-record : goal.invariant-loop-record
invariant-loop-record l =
    (b : Body) → IsBody (body_capacity l.body) l.body b → l.record-items ≡ found_from 0 b.records → l.records.items ≡ l.fn.records.items ++ take l.record-index b.records
