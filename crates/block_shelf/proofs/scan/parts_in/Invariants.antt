use Rattle.std.proofs.Common.{◌≡◌, map, take}
use Rattle.rec_format.specs.Places.{part_number_of}
use Rattle.block_shelf.proofs.scan.parts_in.Given as goal

abbrev pub invariant-loop-record : goal.invariant-loop-record
invariant-loop-record l = l.parts.items ≡ map (λ f. part_number_of l.geometry.devices l.sprigs f.head.digest) (take l.record-index l.found)
