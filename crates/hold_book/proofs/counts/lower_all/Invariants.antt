use Rattle.std.proofs.Common.{drop}
use Rattle.hold_book.proofs.Lowered.{Lowered}
use Rattle.hold_book.proofs.counts.lower_all.Given as goal

abbrev pub invariant-loop-holder : goal.invariant-loop-holder
invariant-loop-holder l = Lowered l.buffer l.pairs (drop l.holder-index l.pairs) l.counts
