use Rattle.std.proofs.Common.{◌<◌, not, sym, subst}
use Rattle.block_shelf.specs.View.{ShelfView, IsQueueOf}
use Rattle.block_shelf.proofs.QueueSteps.{queue_shelf, considered_is}
use Rattle.block_shelf.proofs.shelf.Shelf.requeue.Goals as goal

pub invariant_of-self : goal.invariant_of-self
invariant_of-self g c =
    let i = c.self.inside in
    let old : ShelfView g.row.D.Denot = record {
      disk = i.disk;
      geometry = i.geometry;
      limits = i.limits;
      buffers = i.buffers.items;
      gates = i.gates.items;
      lives = i.ledger;
      holds = i.holds;
      free = i.free.items;
      queue = i.queue;
      cache = i.cache;
      raid = i.raid;
      next_number = i.next_number;
    } in
    let lt : c.args.block < old.geometry.blocks = subst (λ (v : ShelfView g.row.D.Denot). c.args.block < v.geometry.blocks) (sym c.self.view_is) c.requires.block in (
      queue_shelf g.D.Disk.view old c.consider.new.self c.self.invariant.0
          (subst (IsQueueOf old.geometry old.limits) (sym c.consider.ensures)
          (considered_is old.geometry old.limits old.queue c.args.block c.used-used.result (not c.has_block-flushed.result) lt c.self.invariant.0.queue)),
      c.self.invariant.1,
      c.self.invariant.2,
    )
