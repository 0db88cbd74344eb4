use Rattle.std.proofs.Common.{◌≡◌, List, map, sym, ◌∙◌, ap, subst}
use Rattle.std.proofs.lemmas.List.{with_items_is}
use Rattle.std.specs.Prelude.{is_some}
use Rattle.std.specs.Vec.{with_items}
use Rattle.write_buffer.specs.Buffers.{BufferState}
use Rattle.model_device.specs.Book.{filling_buffer}
use Rattle.model_device.specs.Legal.{seal_if}
use Rattle.block_shelf.specs.View.{IsShelf}
use Rattle.block_shelf.specs.Standing.{book_stream}
use Rattle.block_shelf.specs.Calls.{Goes}
use Rattle.block_shelf.specs.Changes.{sealed_in}
use Rattle.block_shelf.specs.Low.{with_sealed}
use Rattle.block_shelf.proofs.Sealing.{seals_in, sealed_shelf}
use Rattle.block_shelf.proofs.SealSteps.{goes_stream}
use Rattle.block_shelf.proofs.shelf.Shelf.seal_stream.Goals as goal

pub invariant_of-self : goal.invariant_of-self
invariant_of-self g c =
    let d = g.D.Disk in
    let same : (with_items c.self.inside.buffers c.seal_each.new.buffers).items ≡ map (sealed_in c.args.stream) c.self.inside.buffers.items =
    with_items_is c.self.inside.buffers c.seal_each.new.buffers (c.seal_each.auto.buffers ∙ c.deref_mut.ensures.len) ∙ c.seal_each.ensures
    ∙ ap (map (sealed_in c.args.stream)) c.deref_mut.ensures.value in (
      subst (λ (bs : List BufferState). IsShelf {D = g.row.D.Denot} d.view
          (record {
            disk = c.self.inside.disk;
            geometry = c.self.inside.geometry;
            limits = c.self.inside.limits;
            buffers = bs;
            gates = c.self.inside.gates.items;
            lives =
                c.self.inside.ledger;
            holds = c.self.inside.holds;
            free = c.self.inside.free.items;
            queue = c.self.inside.queue;
            cache = c.self.inside.cache;
            raid = c.self.inside.raid;
            next_number = c.self.inside.next_number;
          }))
          (sym same) (sealed_shelf (sealed_in c.args.stream) (seals_in c.args.stream) d.view _ c.self.invariant.0),
      c.self.invariant.1,
      c.self.invariant.2,
    )

pub returns-clause-is : goal.returns-clause-is
returns-clause-is g c =
    let same : (with_items c.self.inside.buffers c.seal_each.new.buffers).items ≡ map (sealed_in c.args.stream) c.self.inside.buffers.items =
    with_items_is c.self.inside.buffers c.seal_each.new.buffers (c.seal_each.auto.buffers ∙ c.deref_mut.ensures.len) ∙ c.seal_each.ensures
    ∙ ap (map (sealed_in c.args.stream)) c.deref_mut.ensures.value in
    ap (λ (bs : List BufferState). record {
      disk = c.self.inside.disk;
      geometry = c.self.inside.geometry;
      limits = c.self.inside.limits;
      buffers = bs;
      gates = c.self.inside.gates.items;
      lives = c.self.inside.ledger;
      holds = c.self.inside.holds;
      free = c.self.inside.free.items;
      queue = c.self.inside.queue;
      cache = c.self.inside.cache;
      raid = c.self.inside.raid;
      next_number = c.self.inside.next_number;
    }) same
    ∙ ap (with_sealed c.args.stream) c.self.view_is

pub returns-clause-sealed : goal.returns-clause-sealed
returns-clause-sealed g c setup s stands =
    let d = g.D.Disk in
    let old = c.args.self.now in
    subst (Goes d.view setup (seal_if (is_some (filling_buffer (book_stream c.args.stream) s.book.buffers)) (book_stream c.args.stream)) old s) (sym (returns-clause-is g c))
    (goes_stream d.view setup c.args.stream old s (g.met.D.Disk.is_disk old.disk) stands)
