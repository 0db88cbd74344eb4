-- The numbers of a node are the sums of those of its devices, and no sum goes around.
use Rattle.std.proofs.Common.{◌≡◌, ℕ, zero, suc, ◌+◌, ◌*◌, ◌-◌, ◌%◌, ◌^◌, ◌<◌, ◌≤◌, [], ◌∷◌, length, take, ap, arith}
use Rattle.std.specs.Prelude.{Some, slice_get}
use Rattle.std.proofs.lemmas.List.Sums.{sum_by-cons}
use Rattle.rec_format.specs.declared.entry.Counts.{Counts}
use Rattle.model_device.specs.Book.{held_blocks}
use Rattle.model_device.specs.Device.{State, put_count, tombstone_count, covered_count}
use Rattle.shard_core.specs.Numbers.{AreFew, counts_of}
use Rattle.model_node.specs.Commands.{Slot, Node, total, node_counts}
use Rattle.node_replies.specs.Counts.{wrapped, wrapped_sum}

-- the numbers of some devices, where a sum goes around at 2^64
abbrev pub wrapped_counts : Node → Counts
wrapped_counts node = record {
  records = total put_count node % 2 ^ 64;
  tombstones = total tombstone_count node % 2 ^ 64;
  covered = total covered_count node % 2 ^ 64;
  free = total (λ s. length s.book.free) node % 2 ^ 64;
  pending = total (λ s. length s.book.buffers) node % 2 ^ 64;
  queued = total (λ s. length s.book.queue) node % 2 ^ 64;
  held = total (λ s. length (held_blocks s.book.holds)) node % 2 ^ 64;
}

-- a number of one device more
one_more : (number : State → ℕ) (node : Node) (k : ℕ) (slot : Slot) → slice_get node k ≡ Some slot → total number (take (suc k) node) ≡ total number (take k node) + number slot.state
one_more number [] k slot there = cc
one_more number (s ∷ node) zero slot there = let same : s ≡ slot = cc in ap (λ (x : Slot). 0 + number x.state) same
one_more number (s ∷ node) (suc k) slot there =
    let more = one_more number node k slot there in
    let longer = sum_by-cons (λ (x : Slot). number x.state) s (take (suc k) node) in
    let shorter = sum_by-cons (λ (x : Slot). number x.state) s (take k node) in
    omega (arith, more, longer, shorter)

-- each of the numbers is at most so large
pub record AreUnder (bound : ℕ) (counts : Counts) : Type 0 where
  pub records : counts.records ≤ bound
  pub tombstones : counts.tombstones ≤ bound
  pub covered : counts.covered ≤ bound
  pub free : counts.free ≤ bound
  pub pending : counts.pending ≤ bound
  pub queued : counts.queued ≤ bound
  pub held : counts.held ≤ bound

-- so large is one of one device at most
abbrev pub most_of_one : ℕ
most_of_one = 2 ^ 60 - 1

module _ (node : Node) (k : ℕ) (slot : Slot) (there : slice_get node k ≡ Some slot) where
  more_under : (number : State → ℕ) → number slot.state < 2 ^ 60 → total number (take k node) ≤ k * most_of_one → total number (take (suc k) node) ≤ suc k * most_of_one
  more_under number few under = let more = one_more number node k slot there in omega (arith, more, few, under)

  more_wrapped : (number : State → ℕ) → wrapped (total number (take k node) % 2 ^ 64) (number slot.state) ≡ total number (take (suc k) node) % 2 ^ 64
  more_wrapped number = let more = one_more number node k slot there in omega (arith, more)

  pub under_more : AreFew (counts_of slot.state) → AreUnder (k * most_of_one) (node_counts (take k node)) → AreUnder (suc k * most_of_one) (node_counts (take (suc k) node))
  under_more few under = record {
    records = more_under put_count few.records under.records;
    tombstones = more_under tombstone_count few.tombstones under.tombstones;
    covered = more_under covered_count few.covered under.covered;
    free = more_under (λ s. length s.book.free) few.free under.free;
    pending = more_under (λ s. length s.book.buffers) few.pending under.pending;
    queued = more_under (λ s. length s.book.queue) few.queued under.queued;
    held = more_under (λ s. length (held_blocks s.book.holds)) few.held under.held;
  }

  pub wrapped_more : wrapped_sum (wrapped_counts (take k node)) (counts_of slot.state) ≡ wrapped_counts (take (suc k) node)
  wrapped_more = λ i. record {
    records = more_wrapped put_count i;
    tombstones = more_wrapped tombstone_count i;
    covered = more_wrapped covered_count i;
    free = more_wrapped (λ s. length s.book.free) i;
    pending = more_wrapped (λ s. length s.book.buffers) i;
    queued = more_wrapped (λ s. length s.book.queue) i;
    held = more_wrapped (λ s. length (held_blocks s.book.holds)) i;
  }

-- no sum went around
same_small : (a bound : ℕ) → bound ≤ 16 → a ≤ bound * most_of_one → a % 2 ^ 64 ≡ a
same_small a bound few under = omega (arith, few, under)

pub unwrapped : (k : ℕ) (node : Node) → k ≤ 16 → AreUnder (k * most_of_one) (node_counts node) → wrapped_counts node ≡ node_counts node
unwrapped k node few under = λ i. record {
  records = same_small (total put_count node) k few under.records i;
  tombstones = same_small (total tombstone_count node) k few under.tombstones i;
  covered = same_small (total covered_count node) k few under.covered i;
  free = same_small (total (λ s. length s.book.free) node) k few under.free i;
  pending = same_small (total (λ s. length s.book.buffers) node) k few under.pending i;
  queued = same_small (total (λ s. length s.book.queue) node) k few under.queued i;
  held = same_small (total (λ s. length (held_blocks s.book.holds)) node) k few under.held i;
}

pub none_under : AreUnder 0 (node_counts [])
none_under = record { records = omega arith; tombstones = omega arith; covered = omega arith; free = omega arith; pending = omega arith; queued = omega arith; held = omega arith }
