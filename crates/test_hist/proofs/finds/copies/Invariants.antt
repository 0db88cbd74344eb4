use Rattle.std.proofs.Common.{◌≡◌, List}
use Rattle.block_format.specs.Layout.{Body}
use Rattle.test_hist.specs.Finds.{records_of}
use Rattle.test_hist.proofs.Fronts.{Front}
use Rattle.test_hist.proofs.finds.copies.Given as goal

abbrev pub invariant-loop-block : goal.invariant-loop-block
invariant-loop-block l = (front : List Body) × Front l.geometry l.image l.block front × (l.records.items ≡ records_of front)
