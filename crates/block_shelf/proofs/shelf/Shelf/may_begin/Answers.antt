use Rattle.std.proofs.Common.{◌≡◌, ◌<◌, ◌≤◌, length, map, sym, ◌∙◌, arith}
use Rattle.law_lists.proofs.Each.{all_map}
use Rattle.write_buffer.specs.Buffers.{BufferState}
use Rattle.block_shelf.specs.View.{IsBufferOf}
use Rattle.block_shelf.proofs.Blocks.{at_most, apart_back, few}
use Rattle.block_shelf.proofs.shelf.Shelf.may_begin.Goals as goal

pub overflow_cast-pending : goal.overflow_cast-pending
overflow_cast-pending g c =
    let few : length c.self.inside.buffers.items ≤ c.self.inside.geometry.blocks =
    at_most c.self.inside.geometry.blocks c.self.inside.buffers.items c.self.inside.free.items c.self.invariant.0.apart
    (all_map (IsBufferOf c.self.inside.geometry c.self.inside.next_number) (λ b. b.block < c.self.inside.geometry.blocks) c.self.inside.buffers.items (λ b h. h.block) c.self.invariant.0.buffers) in
    let size : length c.self.inside.buffers.items ≡ c.len-pending.result = sym c.self.inside.buffers.ok.0 ∙ sym c.len-pending.ensures in
    omega arith

pub overflow_cast-free : goal.overflow_cast-free
overflow_cast-free g c =
    let free = c.self.inside.free.items in
    let limit = few c.self.inside.geometry.blocks free (apart_back (map (λ (b : BufferState). b.block) c.self.inside.buffers.items) free c.self.invariant.0.apart) c.self.invariant.0.free in
    omega (arith, limit)
