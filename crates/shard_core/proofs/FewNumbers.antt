-- Each of a shard's numbers is small: a device has at most 65,536 blocks, and at most 2^32 places.
use Rattle.std.proofs.Common.{◌≡◌, ℕ, ◌<◌, ◌≤◌, ◌^◌, List, length, map, nat_eq, sym, ◌∙◌, ap, subst, arith}
use Rattle.std.proofs.lemmas.Bool.{eqb-true}
use Rattle.std.proofs.lemmas.List.{length-map}
use Rattle.std.proofs.lemmas.Map.Steps.{length-le_from_distinct_below}
use Rattle.law_lists.proofs.Finding.{some_at}
use Rattle.model_device.specs.Book.{held_blocks}
use Rattle.model_device.specs.Device.{State}
use Rattle.disk_model.specs.Disk.{DiskView}
use Rattle.hold_book.specs.Holds.{Holds, HoldsBelow, CountsHeld}
use Rattle.block_shelf.specs.View.{IsShelf}
use Rattle.block_shelf.specs.Standing.{book_buffer}
use Rattle.block_shelf.proofs.Blocks.{few, apart_back}
use Rattle.block_shelf.proofs.Counted.{counted}
use Rattle.shard_core.specs.Numbers.{AreFew, counts_of}
use Rattle.shard_core.specs.Stands.{Agrees, IsWhole}
use Rattle.shard_core.specs.View.{ShardView}
use Rattle.shard_core.proofs.FlushLoop.{few_buffers}
use Rattle.shard_core.proofs.Tallies.{few_puts, few_tombstones, few_covered}

-- at most as many blocks are held as there are
few_held : (limit : ℕ) (holds : Holds) (count : ℕ) → HoldsBelow limit holds → CountsHeld holds count → count ≤ limit
few_held limit holds count below counts =
    subst (λ (n : ℕ). n ≤ limit) counts.size
    (length-le_from_distinct_below counts.blocks limit counts.differ
    (λ q is.
    let some = some_at (nat_eq q) counts.blocks is in
    let held = (counts.held some.0).0 some.1 in
    subst (λ (k : ℕ). k < limit) (sym (eqb-true q some.0 some.2)) (below held.0 some.0 held.1)))

-- The numbers of a state for which a shard stands are small, where its shelf counts the blocks that are held.
pub few_counts : {D : Type 0} (view : D → DiskView) (shard : ShardView D) (s : State) → IsShelf view shard.shelf → IsWhole shard → Agrees shard s
    → (held : ℕ) → CountsHeld shard.shelf.holds.holds held → (queued : ℕ) → queued ≡ length s.book.queue → queued < 2 ^ 32 → AreFew (counts_of s)
few_counts view shard s is whole agrees held counts queued all_queued few_queued =
    let stands = agrees.shelf.stands in
    let blocks = shard.shelf.geometry.blocks in
    let free : length s.book.free ≤ blocks = subst (λ (l : List ℕ). length l ≤ blocks) (sym stands.free)
    (few blocks shard.shelf.free (apart_back (map (λ b. b.block) shard.shelf.buffers) shard.shelf.free is.apart) is.free) in
    let pending : length s.book.buffers ≡ length shard.shelf.buffers = ap length stands.buffers ∙ length-map shard.shelf.buffers book_buffer in
    let all_held : held ≡ length (held_blocks s.book.holds) = counted shard.shelf.holds.holds s.book held stands.holds counts in
    record {
      records = omega (arith, few_puts view shard s is whole agrees);
      tombstones = omega (arith, few_tombstones view shard s is whole agrees);
      covered = omega (arith, few_covered view shard s is whole agrees);
      free = omega (arith, free, is.geometry.blocks);
      pending = omega (arith, pending, few_buffers view shard.shelf is);
      queued = omega (arith, all_queued, few_queued);
      held = omega (arith, all_held, few_held blocks shard.shelf.holds.holds held is.held counts, is.geometry.blocks);
    }
