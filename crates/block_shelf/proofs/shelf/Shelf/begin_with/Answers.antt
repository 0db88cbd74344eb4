use Rattle.std.proofs.Common.{◌≡◌, ◌≢◌, ◌<◌, ◌≤◌, ◌+◌, ℕ, Ok, Err, List, [], ◌∷◌, ◌++◌, length, map, drop, sym, ◌∙◌, ap, subst}
use Rattle.std.proofs.lemmas.List.{get_or-set_same, with_items_is}
use Rattle.std.specs.Prelude.{slice_set}
use Rattle.std.specs.Vec.{with_items}
use Rattle.rec_format.specs.Versions.{top_number}
use Rattle.model_device.specs.Book.{first_block}
use Rattle.block_format.specs.declared.geometry.Gate.{Gate}
use Rattle.block_format.specs.declared.geometry.Gate.TheVariants.{Shut, Unsure}
use Rattle.write_buffer.specs.declared.stream.Stream.{Stream}
use Rattle.write_buffer.specs.Buffers.{BufferState}
use Rattle.post_cache.specs.Bodies.{CacheState}
use Rattle.block_shelf.specs.declared.refusals.PutRefusal.TheVariants.{Memory, Fault}
use Rattle.block_shelf.specs.View.{ShelfView, IsShelf, gate_at}
use Rattle.block_shelf.specs.Changes.{sealed_in, begun_buffer, with_begun, without_kept}
use Rattle.block_shelf.specs.Appends.{with_first_shut, with_first_unclosed}
use Rattle.block_shelf.specs.Begins.{BeginsIn}
use Rattle.block_shelf.proofs.Beginning.{begun_shelf}
use Rattle.block_shelf.proofs.Begins.{unbegun, closed_begins, unclosed_begins}
use Rattle.block_shelf.proofs.FirstClosed.{turned, same_parts, first_below, shut_shelf, unclosed_shelf}
use Rattle.block_shelf.proofs.shelf.Shelf.begin_with.Goals as goal

pub invariant_of-self-in_default-shut_gate : goal.invariant_of-self-in_default-shut_gate
invariant_of-self-in_default-shut_gate g c =
    let d = g.D.Disk in
    let law = g.met.D.Disk in
    let old : ShelfView g.row.D.Denot = record {
      disk = c.self.inside.disk;
      geometry = c.self.inside.geometry;
      limits = c.self.inside.limits;
      buffers = c.self.inside.buffers.items;
      gates =
          c.self.inside.gates.items;
      lives = c.self.inside.ledger;
      holds = c.self.inside.holds;
      free = c.self.inside.free.items;
      queue = c.self.inside.queue;
      cache = c.self.inside.cache;
      raid = c.self.inside.raid;
      next_number = c.self.inside.next_number;
    } in
    let is : IsShelf d.view old = c.self.invariant.0 in
    let some : 0 < length old.free = subst (λ (v : ShelfView g.row.D.Denot). 0 < length v.free) (sym c.self.view_is) c.requires.some in
    let at : c.block-block.result ≡ first_block old.free = c.block-block.ensures ∙ ap (λ (b : BufferState). b.block) c.requires.buffer
    ∙ ap (λ (v : ShelfView g.row.D.Denot). first_block v.free) (sym c.self.view_is) in
    let disk = c.shut_gate.new.disk in
    let e = c.in_default-shut_gate.ensures in
    let known : c.shut_gate.new.gates ≡ slice_set old.gates c.block-block.result Unsure = e.known ∙ ap (λ (l : List Gate). slice_set l c.block-block.result Unsure) c.deref_mut.ensures.value in
    let gates : (with_items c.self.inside.gates c.shut_gate.new.gates).items ≡ c.shut_gate.new.gates =
    with_items_is c.self.inside.gates c.shut_gate.new.gates (c.shut_gate.auto.gates ∙ c.deref_mut.ensures.len) in (
      subst (IsShelf d.view)
          (sym (same_parts old disk old.cache old.next_number c.reserve.new.self.items old.buffers _
          (slice_set old.gates (first_block old.free) Unsure) c.rotate_left.new.self.items _ c.reserve.ensures.items (gates ∙ known ∙ ap (λ (k : ℕ). slice_set old.gates k Unsure) at)
          (c.rotate_left.ensures.items ∙ turned old.free)))
          (unclosed_shelf d.view law.is_disk old disk c.block-block.result is some at e.later e.honest e.was_honest e.images c.shut_gate.new.gates e.stands (e.was_told, e.bytes) known),
      subst (λ (n : ℕ). c.self.inside.geometry.blocks ≤ n) (sym c.rotate_left.ensures.capacity) c.self.invariant.1,
      c.self.invariant.2,
    )

pub returns-in_default : goal.returns-in_default
returns-in_default g c =
    let same : _ ≡ c.args.self.now =
    ap (λ (bs : List BufferState). record {
      disk = c.self.inside.disk;
      geometry = c.self.inside.geometry;
      limits = c.self.inside.limits;
      buffers = bs;
      gates = c.self.inside.gates.items;
      lives = c.self.inside.ledger;
      holds = c.self.inside.holds;
      free = c.self.inside.free.items;
      queue = c.self.inside.queue;
      cache = c.self.inside.cache;
      raid = c.self.inside.raid;
      next_number = c.self.inside.next_number;
    }) c.reserve.ensures.items ∙ c.self.view_is in
    subst (λ (v : ShelfView g.row.D.Denot). BeginsIn g.D.Disk.view c.args.buffer.stream c.args.self.now v (Err Memory)) (sym same)
    (unbegun g.D.Disk.view g.met.D.Disk.is_disk c.args.buffer.stream c.args.self.now)

pub returns-in_default-shut_gate : goal.returns-in_default-shut_gate
returns-in_default-shut_gate g c =
    let d = g.D.Disk in
    let law = g.met.D.Disk in
    let old : ShelfView g.row.D.Denot = record {
      disk = c.self.inside.disk;
      geometry = c.self.inside.geometry;
      limits = c.self.inside.limits;
      buffers = c.self.inside.buffers.items;
      gates =
          c.self.inside.gates.items;
      lives = c.self.inside.ledger;
      holds = c.self.inside.holds;
      free = c.self.inside.free.items;
      queue = c.self.inside.queue;
      cache = c.self.inside.cache;
      raid = c.self.inside.raid;
      next_number = c.self.inside.next_number;
    } in
    let is : IsShelf d.view old = c.self.invariant.0 in
    let some : 0 < length old.free = subst (λ (v : ShelfView g.row.D.Denot). 0 < length v.free) (sym c.self.view_is) c.requires.some in
    let at : c.block-block.result ≡ first_block old.free = c.block-block.ensures ∙ ap (λ (b : BufferState). b.block) c.requires.buffer
    ∙ ap (λ (v : ShelfView g.row.D.Denot). first_block v.free) (sym c.self.view_is) in
    let disk = c.shut_gate.new.disk in
    let e = c.in_default-shut_gate.ensures in
    let known : c.shut_gate.new.gates ≡ slice_set old.gates c.block-block.result Unsure = e.known ∙ ap (λ (l : List Gate). slice_set l c.block-block.result Unsure) c.deref_mut.ensures.value in
    let gates : (with_items c.self.inside.gates c.shut_gate.new.gates).items ≡ c.shut_gate.new.gates =
    with_items_is c.self.inside.gates c.shut_gate.new.gates (c.shut_gate.auto.gates ∙ c.deref_mut.ensures.len) in
    let left : ShelfView g.row.D.Denot = record old {
      disk = disk;
      buffers = c.reserve.new.self.items;
      gates = (with_items c.self.inside.gates c.shut_gate.new.gates).items;
      free =
          c.rotate_left.new.self.items;
    } in
    let new : left ≡ with_first_unclosed disk old = same_parts old disk old.cache old.next_number c.reserve.new.self.items old.buffers _
    (slice_set old.gates (first_block old.free) Unsure) c.rotate_left.new.self.items _ c.reserve.ensures.items (gates ∙ known ∙ ap (λ (k : ℕ). slice_set old.gates k Unsure) at)
    (c.rotate_left.ensures.items ∙ turned old.free) in
    let unshut : gate_at old.gates c.block-block.result ≢ Shut = subst (λ (l : List Gate). gate_at l c.block-block.result ≢ Shut) c.deref_mut.ensures.value e.unshut in
    subst (λ (v : ShelfView g.row.D.Denot). BeginsIn d.view c.args.buffer.stream v left (Err Fault)) c.self.view_is
    (subst (λ (v : ShelfView g.row.D.Denot). BeginsIn d.view c.args.buffer.stream old v (Err Fault)) (sym new)
    (unclosed_begins d.view law.is_disk c.args.buffer.stream old disk c.block-block.result is some at e.later e.honest e.was_honest e.images c.shut_gate.new.gates e.stands
    e.was_told e.bytes known unshut e.cause))

pub invariant_of-self-2 : goal.invariant_of-self-2
invariant_of-self-2 g c =
    let d = g.D.Disk in
    let law = g.met.D.Disk in
    let old : ShelfView g.row.D.Denot = record {
      disk = c.self.inside.disk;
      geometry = c.self.inside.geometry;
      limits = c.self.inside.limits;
      buffers = c.self.inside.buffers.items;
      gates =
          c.self.inside.gates.items;
      lives = c.self.inside.ledger;
      holds = c.self.inside.holds;
      free = c.self.inside.free.items;
      queue = c.self.inside.queue;
      cache = c.self.inside.cache;
      raid = c.self.inside.raid;
      next_number = c.self.inside.next_number;
    } in
    let is : IsShelf d.view old = c.self.invariant.0 in
    let some : 0 < length old.free = subst (λ (v : ShelfView g.row.D.Denot). 0 < length v.free) (sym c.self.view_is) c.requires.some in
    let at : c.block-block.result ≡ first_block old.free = c.block-block.ensures ∙ ap (λ (b : BufferState). b.block) c.requires.buffer
    ∙ ap (λ (v : ShelfView g.row.D.Denot). first_block v.free) (sym c.self.view_is) in
    let disk = c.shut_gate.new.disk in
    let e = c.in-Ok-shut_gate.ensures in
    let known : c.shut_gate.new.gates ≡ slice_set old.gates c.block-block.result Shut = e.known ∙ ap (λ (l : List Gate). slice_set l c.block-block.result Shut) c.deref_mut.ensures.value in
    let gates : (with_items c.self.inside.gates c.shut_gate.new.gates).items ≡ c.shut_gate.new.gates =
    with_items_is c.self.inside.gates c.shut_gate.new.gates (c.shut_gate.auto.gates ∙ c.deref_mut.ensures.len) in
    let sealed : (with_items c.reserve.new.self c.seal_each.new.buffers).items ≡ map (sealed_in c.args.buffer.stream) old.buffers =
    with_items_is c.reserve.new.self c.seal_each.new.buffers (c.seal_each.auto.buffers ∙ c.deref_mut-2.ensures.len) ∙ c.seal_each.ensures
    ∙ ap (λ (stream : Stream). map (sealed_in stream) c.deref_mut-2.result.now) c.stream-stream.ensures
    ∙ ap (map (sealed_in c.args.buffer.stream)) (c.deref_mut-2.ensures.value ∙ c.reserve.ensures.items) in
    let buffer : c.args.buffer ≡ begun_buffer c.args.buffer.stream old = c.requires.buffer ∙ ap (λ (v : ShelfView g.row.D.Denot). begun_buffer c.args.buffer.stream v) (sym c.self.view_is) in
    let pushed : c.push_reserved.new.self.items ≡ map (sealed_in c.args.buffer.stream) old.buffers ++ begun_buffer c.args.buffer.stream old ∷ [] =
    c.push_reserved.ensures.items ∙ ap (λ (bs : List BufferState). bs ++ c.args.buffer ∷ []) sealed ∙ ap (λ (b : BufferState). map (sealed_in c.args.buffer.stream) old.buffers ++ b ∷ []) buffer in
    let number : old.next_number ≤ top_number = subst (λ (v : ShelfView g.row.D.Denot). v.next_number ≤ top_number) (sym c.self.view_is) c.requires.number in
    let shut : gate_at (slice_set old.gates (first_block old.free) Shut) (first_block old.free) ≡ Shut =
    get_or-set_same old.gates (first_block old.free) Shut Shut (subst (λ (n : ℕ). first_block old.free < n) (sym is.gates) (first_below d.view old is some)) in (
      subst (IsShelf d.view)
          (sym (same_parts old disk c.forget.new.self (old.next_number + 1) c.push_reserved.new.self.items _ _ (slice_set old.gates (first_block old.free) Shut) c.pop_front.new.self.items
          (drop 1 old.free) pushed (gates ∙ known ∙ ap (λ (k : ℕ). slice_set old.gates k Shut) at) c.pop_front.ensures.rest
          ∙ ap (λ (cache : CacheState BufferState). record (with_begun c.args.buffer.stream (with_first_shut disk old)) { cache = cache })
          (c.forget.ensures.kept ∙ ap (λ (k : ℕ). without_kept k old.cache) at)))
          (begun_shelf d.view (with_first_shut disk old)
          (shut_shelf d.view law.is_disk old disk c.block-block.result is some at e.later e.honest e.was_honest e.images c.shut_gate.new.gates e.stands (e.was_told, e.bytes) known)
          c.args.buffer.stream number some shut),
      subst (λ (n : ℕ). c.self.inside.geometry.blocks ≤ n) (sym c.pop_front.ensures.capacity) c.self.invariant.1,
      c.self.invariant.2,
    )

pub returns : goal.returns
returns g c =
    let d = g.D.Disk in
    let law = g.met.D.Disk in
    let old : ShelfView g.row.D.Denot = record {
      disk = c.self.inside.disk;
      geometry = c.self.inside.geometry;
      limits = c.self.inside.limits;
      buffers = c.self.inside.buffers.items;
      gates =
          c.self.inside.gates.items;
      lives = c.self.inside.ledger;
      holds = c.self.inside.holds;
      free = c.self.inside.free.items;
      queue = c.self.inside.queue;
      cache = c.self.inside.cache;
      raid = c.self.inside.raid;
      next_number = c.self.inside.next_number;
    } in
    let is : IsShelf d.view old = c.self.invariant.0 in
    let some : 0 < length old.free = subst (λ (v : ShelfView g.row.D.Denot). 0 < length v.free) (sym c.self.view_is) c.requires.some in
    let at : c.block-block.result ≡ first_block old.free = c.block-block.ensures ∙ ap (λ (b : BufferState). b.block) c.requires.buffer
    ∙ ap (λ (v : ShelfView g.row.D.Denot). first_block v.free) (sym c.self.view_is) in
    let disk = c.shut_gate.new.disk in
    let e = c.in-Ok-shut_gate.ensures in
    let known : c.shut_gate.new.gates ≡ slice_set old.gates c.block-block.result Shut = e.known ∙ ap (λ (l : List Gate). slice_set l c.block-block.result Shut) c.deref_mut.ensures.value in
    let gates : (with_items c.self.inside.gates c.shut_gate.new.gates).items ≡ c.shut_gate.new.gates =
    with_items_is c.self.inside.gates c.shut_gate.new.gates (c.shut_gate.auto.gates ∙ c.deref_mut.ensures.len) in
    let sealed : (with_items c.reserve.new.self c.seal_each.new.buffers).items ≡ map (sealed_in c.args.buffer.stream) old.buffers =
    with_items_is c.reserve.new.self c.seal_each.new.buffers (c.seal_each.auto.buffers ∙ c.deref_mut-2.ensures.len) ∙ c.seal_each.ensures
    ∙ ap (λ (stream : Stream). map (sealed_in stream) c.deref_mut-2.result.now) c.stream-stream.ensures
    ∙ ap (map (sealed_in c.args.buffer.stream)) (c.deref_mut-2.ensures.value ∙ c.reserve.ensures.items) in
    let buffer : c.args.buffer ≡ begun_buffer c.args.buffer.stream old = c.requires.buffer ∙ ap (λ (v : ShelfView g.row.D.Denot). begun_buffer c.args.buffer.stream v) (sym c.self.view_is) in
    let pushed : c.push_reserved.new.self.items ≡ map (sealed_in c.args.buffer.stream) old.buffers ++ begun_buffer c.args.buffer.stream old ∷ [] =
    c.push_reserved.ensures.items ∙ ap (λ (bs : List BufferState). bs ++ c.args.buffer ∷ []) sealed ∙ ap (λ (b : BufferState). map (sealed_in c.args.buffer.stream) old.buffers ++ b ∷ []) buffer in
    let quiet : gate_at old.gates c.block-block.result ≡ Shut → disk ≡ old.disk = λ shut. e.quiet (ap (λ (l : List Gate). gate_at l c.block-block.result) c.deref_mut.ensures.value ∙ shut) in
    let left : ShelfView g.row.D.Denot = record old {
      disk = disk;
      buffers = c.push_reserved.new.self.items;
      gates = (with_items c.self.inside.gates c.shut_gate.new.gates).items;
      free =
          c.pop_front.new.self.items;
      cache = c.forget.new.self;
      next_number = old.next_number + 1;
    } in
    let new : left ≡ with_begun c.args.buffer.stream (with_first_shut disk old) =
    same_parts old disk c.forget.new.self (old.next_number + 1) c.push_reserved.new.self.items _ _ (slice_set old.gates (first_block old.free) Shut) c.pop_front.new.self.items
    (drop 1 old.free) pushed (gates ∙ known ∙ ap (λ (k : ℕ). slice_set old.gates k Shut) at) c.pop_front.ensures.rest
    ∙ ap (λ (cache : CacheState BufferState). record (with_begun c.args.buffer.stream (with_first_shut disk old)) { cache = cache })
    (c.forget.ensures.kept ∙ ap (λ (k : ℕ). without_kept k old.cache) at) in
    subst (λ (v : ShelfView g.row.D.Denot). BeginsIn d.view c.args.buffer.stream v left (Ok tt)) c.self.view_is
    (subst (λ (v : ShelfView g.row.D.Denot). BeginsIn d.view c.args.buffer.stream old v (Ok tt)) (sym new)
    (closed_begins d.view law.is_disk c.args.buffer.stream old disk c.block-block.result is some at e.later e.honest e.was_honest e.images c.shut_gate.new.gates e.stands
    e.was_told e.bytes known quiet))
