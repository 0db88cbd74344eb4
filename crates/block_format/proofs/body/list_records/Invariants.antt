-- The digests so far are those of the records so far, which are within the units that the head gives; each took at least three.
use Rattle.std.proofs.Common.{◌≡◌, ◌*◌, ◌≤◌, vec_len, vec_capacity}
use Rattle.block_format.specs.Readings.{HasDigests}
use Rattle.block_format.proofs.body.list_records.Given as goal

abbrev pub invariant-loop-record : goal.invariant-loop-record
invariant-loop-record l = HasDigests l.body l._record l.used l.digests.items × (l.used ≤ l.head.units) × (3 * vec_len l.digests ≤ l.used) × (vec_capacity l.digests ≡ vec_capacity l.fn.digests)
