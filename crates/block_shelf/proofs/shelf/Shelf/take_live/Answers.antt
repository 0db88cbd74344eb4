use Rattle.std.proofs.Common.{◌≡◌, ◌<◌, List, sym, subst}
use Rattle.std.specs.Prelude.{IsSomeAnd}
use Rattle.block_shelf.specs.Lives.{LiveCopy, copies_in, copy_at}
use Rattle.block_shelf.specs.View.{ShelfView, IsShelf}
use Rattle.block_shelf.proofs.DropSteps.{some_copies, live_unlisted, taken_shelf}
use Rattle.block_shelf.proofs.shelf.Shelf.take_live.Goals as goal

pub invariant_of-self : goal.invariant_of-self
invariant_of-self g c =
    let d = g.D.Disk in
    let old : ShelfView g.row.D.Denot = record {
      disk = c.self.inside.disk;
      geometry = c.self.inside.geometry;
      limits = c.self.inside.limits;
      buffers = c.self.inside.buffers.items;
      gates =
          c.self.inside.gates.items;
      lives = c.self.inside.ledger;
      holds = c.self.inside.holds;
      free = c.self.inside.free.items;
      queue = c.self.inside.queue;
      cache = c.self.inside.cache;
      raid = c.self.inside.raid;
      next_number = c.self.inside.next_number;
    } in
    let below : c.args.place.block < old.geometry.blocks = subst (λ (v : ShelfView g.row.D.Denot). c.args.place.block < v.geometry.blocks) (sym c.self.view_is) c.requires.block in
    let live = subst (λ (v : ShelfView g.row.D.Denot). IsSomeAnd (copy_at c.args.place.unit (copies_in c.args.place.block v.lives)) (λ x. x.units ≡ c.args.place.units))
    (sym c.self.view_is) c.requires.live in (
      subst (λ (lives : List (List LiveCopy)). IsShelf {D = g.row.D.Denot} d.view
          (record {
            disk = c.self.inside.disk;
            geometry = c.self.inside.geometry;
            limits = c.self.inside.limits;
            buffers = c.self.inside.buffers.items;
            gates = c.self.inside.gates.items;
            lives = lives;
            holds = c.self.inside.holds;
            free = c.self.inside.free.items;
            queue = c.self.inside.queue;
            cache = c.self.inside.cache;
            raid = c.self.inside.raid;
            next_number =
                c.self.inside.next_number;
          })) (sym c.drop_live.ensures)
          (taken_shelf d.view old c.self.invariant.0 c.args.place below (some_copies c.args.place.unit (copies_in c.args.place.block old.lives) (λ x. x.units ≡ c.args.place.units) live)),
      c.self.invariant.1,
      c.self.invariant.2,
    )

pub returns-clause-unlisted : goal.returns-clause-unlisted
returns-clause-unlisted g c =
    let d = g.D.Disk in
    let shelf : IsShelf d.view c.args.self.now = subst (IsShelf d.view) c.self.view_is c.self.invariant.0 in
    live_unlisted d.view c.args.self.now shelf c.args.place.block
    (some_copies c.args.place.unit (copies_in c.args.place.block c.args.self.now.lives) (λ x. x.units ≡ c.args.place.units) c.requires.live)
