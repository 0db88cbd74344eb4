use Rattle.std.proofs.Common.{List, sym, subst}
use Rattle.block_shelf.specs.Lives.{LiveCopy}
use Rattle.block_shelf.specs.View.{ShelfView, IsShelf}
use Rattle.block_shelf.proofs.Rooms.{roomed_shelf}
use Rattle.block_shelf.proofs.shelf.Shelf.reserve.Goals as goal

pub invariant_of-self-in_default-reserve : goal.invariant_of-self-in_default-reserve
invariant_of-self-in_default-reserve g c =
    let d = g.D.Disk in
    let old : ShelfView g.row.D.Denot = record {
      disk = c.self.inside.disk;
      geometry = c.self.inside.geometry;
      limits = c.self.inside.limits;
      buffers = c.self.inside.buffers.items;
      gates =
          c.self.inside.gates.items;
      lives = c.self.inside.ledger;
      holds = c.self.inside.holds;
      free = c.self.inside.free.items;
      queue = c.self.inside.queue;
      cache = c.self.inside.cache;
      raid = c.self.inside.raid;
      next_number = c.self.inside.next_number;
    } in (
      subst (λ (lives : List (List LiveCopy)). IsShelf d.view (record old { lives = lives; holds = c.reserve-2.new.self })) (sym c.reserve.ensures.same)
          (roomed_shelf d.view old c.reserve-2.new.self c.self.invariant.0 c.reserve-2.ensures.holds),
      c.self.invariant.1,
      c.self.invariant.2,
    )

pub invariant_of-self-2 : goal.invariant_of-self-2
invariant_of-self-2 g c =
    let d = g.D.Disk in
    let old : ShelfView g.row.D.Denot = record {
      disk = c.self.inside.disk;
      geometry = c.self.inside.geometry;
      limits = c.self.inside.limits;
      buffers = c.self.inside.buffers.items;
      gates =
          c.self.inside.gates.items;
      lives = c.self.inside.ledger;
      holds = c.self.inside.holds;
      free = c.self.inside.free.items;
      queue = c.self.inside.queue;
      cache = c.self.inside.cache;
      raid = c.self.inside.raid;
      next_number = c.self.inside.next_number;
    } in (
      subst (λ (lives : List (List LiveCopy)). IsShelf d.view (record old { lives = lives; holds = c.reserve-2.new.self })) (sym c.reserve.ensures.same)
          (roomed_shelf d.view old c.reserve-2.new.self c.self.invariant.0 c.reserve-2.ensures.holds),
      c.self.invariant.1,
      c.self.invariant.2,
    )
