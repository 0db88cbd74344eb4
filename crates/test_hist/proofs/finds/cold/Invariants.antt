use Rattle.std.proofs.Common.{◌≡◌, ◌++◌, List, length}
use Rattle.rec_format.specs.declared.version.Digest.{Digest}
use Rattle.rec_format.specs.declared.version.Version.{Version}
use Rattle.test_hist.proofs.Latest.{latest_of}
use Rattle.test_hist.proofs.finds.cold.Given as goal

-- the records behind those that are left, of which this is the latest
abbrev pub invariant-loop-named : goal.invariant-loop-named
invariant-loop-named l = (behind : List (Digest × Version)) × (l.initial.records.items ≡ l.records.items ++ behind) × (l.latest ≡ latest_of l.digest behind)

abbrev pub decreases-loop-named : goal.decreases-loop-named
decreases-loop-named l = length l.records.items
