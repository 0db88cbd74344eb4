-- The records so far are there, within the units that the head gives.
use Rattle.std.proofs.Common.{◌≤◌}
use Rattle.block_format.specs.Readings.{HasRecords}
use Rattle.block_format.proofs.body.read_records.Given as goal

abbrev pub invariant-loop-record : goal.invariant-loop-record
invariant-loop-record l = HasRecords l.body l._record l.used l.found.items × (l.used ≤ l.head.units)
