use Rattle.std.proofs.Common.{◌≡◌, ◌++◌, take}
use Rattle.std.specs.List.{flat_map}
use Rattle.line_proto.specs.Printing.{spaced}
use Rattle.line_proto.proofs.print.put_numbers.Given as goal

abbrev pub invariant-loop-number : goal.invariant-loop-number
invariant-loop-number l = l.page ≡ l.fn.page ++ flat_map spaced (take l.number-index l.numbers)
