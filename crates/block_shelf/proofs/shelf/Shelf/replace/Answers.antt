use Rattle.std.proofs.Common.{◌≡◌, ◌<◌, List, sym, subst}
use Rattle.std.specs.Prelude.{IsSomeAnd}
use Rattle.std.specs.List.{AllByRecursion}
use Rattle.block_shelf.specs.Lives.{LiveCopy, copies_in, copy_at}
use Rattle.hold_book.specs.Holds.{HoldsBelow, Holds, IsHeld}
use Rattle.hold_book.proofs.Laws.{HoldsBelow-with_hold}
use Rattle.block_shelf.specs.View.{ShelfView, IsShelf}
use Rattle.block_shelf.proofs.DropSteps.{some_copies, live_unlisted, one_held, taken_shelf, held_shelf}
use Rattle.block_shelf.proofs.shelf.Shelf.replace.Goals as goal

pub invariant_of-self : goal.invariant_of-self
invariant_of-self g c =
    let d = g.D.Disk in
    let old : ShelfView g.row.D.Denot = record {
      disk = c.self.inside.disk;
      geometry = c.self.inside.geometry;
      limits = c.self.inside.limits;
      buffers = c.self.inside.buffers.items;
      gates =
          c.self.inside.gates.items;
      lives = c.self.inside.ledger;
      holds = c.self.inside.holds;
      free = c.self.inside.free.items;
      queue = c.self.inside.queue;
      cache = c.self.inside.cache;
      raid = c.self.inside.raid;
      next_number = c.self.inside.next_number;
    } in
    let below : c.args.prior.block < old.geometry.blocks = subst (λ (v : ShelfView g.row.D.Denot). c.args.prior.block < v.geometry.blocks) (sym c.self.view_is) c.requires.block in
    let live = subst (λ (v : ShelfView g.row.D.Denot). IsSomeAnd (copy_at c.args.prior.unit (copies_in c.args.prior.block v.lives)) (λ x. x.units ≡ c.args.prior.units))
    (sym c.self.view_is) c.requires.live in (
      subst (λ (lives : List (List LiveCopy)). IsShelf {D = g.row.D.Denot} d.view
          (record {
            disk = c.self.inside.disk;
            geometry = c.self.inside.geometry;
            limits = c.self.inside.limits;
            buffers = c.self.inside.buffers.items;
            gates = c.self.inside.gates.items;
            lives = lives;
            holds = c.hold.new.self;
            free = c.self.inside.free.items;
            queue = c.self.inside.queue;
            cache = c.self.inside.cache;
            raid = c.self.inside.raid;
            next_number =
                c.self.inside.next_number;
          })) (sym c.drop_live.ensures)
          (held_shelf d.view _ c.hold.new.self (subst (HoldsBelow old.geometry.blocks) (sym c.hold.ensures)
          (HoldsBelow-with_hold old.geometry.blocks old.holds.holds c.args.number c.args.prior.block below c.self.invariant.0.held))
          (subst (λ (h : Holds). AllByRecursion (λ b. IsHeld h b → ⊥) old.free) (sym c.hold.ensures)
          (one_held old.holds.holds c.args.number c.args.prior.block old.free
          (live_unlisted d.view old c.self.invariant.0 c.args.prior.block
          (some_copies c.args.prior.unit (copies_in c.args.prior.block old.lives) (λ x. x.units ≡ c.args.prior.units) live)) c.self.invariant.0.unheld))
          (taken_shelf d.view old c.self.invariant.0 c.args.prior below (some_copies c.args.prior.unit (copies_in c.args.prior.block old.lives) (λ x. x.units ≡ c.args.prior.units) live))),
      c.self.invariant.1,
      c.self.invariant.2,
    )
