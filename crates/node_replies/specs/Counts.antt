-- Crate node_replies. The sums of numbers that go around at 2^64.
use Rattle.std.specs.Prelude.{ℕ, ◌+◌, ◌%◌, ◌^◌}
use Rattle.rec_format.specs.declared.entry.Counts.{Counts}

abbrev pub wrapped : ℕ → ℕ → ℕ
wrapped a b = (a + b) % 2 ^ 64

abbrev pub wrapped_sum : Counts → Counts → Counts
wrapped_sum a b = record {
  records = wrapped a.records b.records;
  tombstones = wrapped a.tombstones b.tombstones;
  covered = wrapped a.covered b.covered;
  free = wrapped a.free b.free;
  pending = wrapped a.pending b.pending;
  queued = wrapped a.queued b.queued;
  held = wrapped a.held b.held;
}
