use Rattle.std.proofs.Common.{◌≡◌, false, None}
use Rattle.sound_scan.specs.Tallied.{walk}
use Rattle.sound_scan.proofs.walk.least_bare.Given as goal

abbrev pub invariant-loop-name : goal.invariant-loop-name
invariant-loop-name l = walk l.last l.behind l.name-iterator ≡ walk None false l.past.entries
