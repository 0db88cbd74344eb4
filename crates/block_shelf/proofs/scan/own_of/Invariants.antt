use Rattle.std.proofs.Common.{◌≡◌, take}
use Rattle.block_shelf.specs.Scans.{own_found}
use Rattle.block_shelf.proofs.scan.own_of.Given as goal

abbrev pub invariant-loop-record : goal.invariant-loop-record
invariant-loop-record l = l.own.items ≡ own_found l.geometry (take l.record-index l.found)
