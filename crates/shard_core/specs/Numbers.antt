-- Crate shard_core. The numbers of a device, and the tally of its sprigs, which a shard keeps.
use Rattle.std.specs.Prelude.{◌≡◌, ℕ, ◌%◌, ◌^◌, ◌<◌, ◌≤◌, List, length, sum_by}
use Rattle.rec_format.specs.declared.entry.Counts.{Counts}
use Rattle.rec_format.specs.Versions.{block_capacity}
use Rattle.block_format.specs.Layout.{most_records}
use Rattle.model_device.specs.Book.{held_blocks}
use Rattle.model_device.specs.Device.{State, put_count, tombstone_count, covered_count}
use Rattle.sprig_tree.specs.declared.tally.Tally.{Tally}
use Rattle.sprig_tree.specs.State.{SprigState}
use Rattle.sprig_tree.specs.Tallies.{tally_of}
use Rattle.shard_core.specs.View.{ShardView}
use Rattle.shard_core.specs.Stands.{IsWhole}

-- the numbers that a state has
abbrev pub counts_of : State → Counts
counts_of s = record {
  records = put_count s;
  tombstones = tombstone_count s;
  covered = covered_count s;
  free = length s.book.free;
  pending = length s.book.buffers;
  queued = length s.book.queue;
  held = length (held_blocks s.book.holds);
}

-- each of the numbers is so small that those of 16 devices add up without going around
pub record AreFew (counts : Counts) : Type 0 where
  pub records : counts.records < 2 ^ 60
  pub tombstones : counts.tombstones < 2 ^ 60
  pub covered : counts.covered < 2 ^ 60
  pub free : counts.free < 2 ^ 60
  pub pending : counts.pending < 2 ^ 60
  pub queued : counts.queued < 2 ^ 60
  pub held : counts.held < 2 ^ 60

-- the tallies of all sprigs together, where a sum goes around at 2^64
abbrev pub tally_sum : List SprigState → Tally
tally_sum sprigs = record {
  records = sum_by (λ s. (tally_of s.entries).records) sprigs % 2 ^ 64;
  tombstones = sum_by (λ s. (tally_of s.entries).tombstones) sprigs % 2 ^ 64;
  covered = sum_by (λ s. (tally_of s.entries).covered) sprigs % 2 ^ 64;
}

-- What the fields of every shard keep: it is whole, the tally is that of its sprigs, and the list has room for the most records that a block can
-- have.
pub record IsKept {D : Type 0} (shard : ShardView D) (tally : Tally) (room : ℕ) : Type 0 where
  pub whole : IsWhole shard
  pub tallied : tally ≡ tally_sum shard.sprigs
  pub listed : most_records (block_capacity shard.shelf.geometry.block_size) ≤ room
