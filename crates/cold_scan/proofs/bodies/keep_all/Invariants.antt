use Rattle.std.proofs.Common.{map, take}
use Rattle.cold_scan.specs.Found.{kept_found, KeepsAll}
use Rattle.cold_scan.proofs.bodies.keep_all.Given as goal

abbrev pub invariant-loop-record : goal.invariant-loop-record
invariant-loop-record l = KeepsAll l.geometry (map (kept_found l.block) (take l.record-index l.found)) l.fn.latest l.latest
