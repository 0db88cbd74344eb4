-- The records so far are there, within the units that the head gives.
use Rattle.std.proofs.Common.{◌≤◌}
use Rattle.block_format.specs.Readings.{AreThere}
use Rattle.block_format.proofs.body.check_records.Given as goal

abbrev pub invariant-loop-record : goal.invariant-loop-record
invariant-loop-record l = AreThere l.body l._record l.used × (l.used ≤ l.head.units)
