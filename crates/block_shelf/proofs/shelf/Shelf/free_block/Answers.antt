use Rattle.std.proofs.Common.{◌≡◌, ◌≢◌, ◌<◌, ℕ, List, [], ◌∷◌, ◌++◌, sym, ◌∙◌, ap, subst, arith}
use Rattle.std.specs.List.{AllByRecursion}
use Rattle.std.specs.Result.{is_ok}
use Rattle.std.proofs.lemmas.Bool.{cond-true}
use Rattle.block_shelf.specs.View.{ShelfView, IsShelf, IsUnused}
use Rattle.block_shelf.proofs.DropSteps.{freed_shelf, freed_fits}
use Rattle.block_shelf.proofs.shelf.Shelf.free_block.Goals as goal

pub unwrap-requires : goal.unwrap-requires
unwrap-requires g c =
    let d = g.D.Disk in
    let old : ShelfView g.row.D.Denot = record {
      disk = c.self.inside.disk;
      geometry = c.self.inside.geometry;
      limits = c.self.inside.limits;
      buffers = c.self.inside.buffers.items;
      gates =
          c.self.inside.gates.items;
      lives = c.self.inside.ledger;
      holds = c.self.inside.holds;
      free = c.self.inside.free.items;
      queue = c.self.inside.queue;
      cache = c.self.inside.cache;
      raid = c.self.inside.raid;
      next_number = c.self.inside.next_number;
    } in
    let below : c.args.block < old.geometry.blocks = subst (λ (v : ShelfView g.row.D.Denot). c.args.block < v.geometry.blocks) (sym c.self.view_is) c.requires.block in
    let unlisted : AllByRecursion (λ b. b ≢ c.args.block) old.free = subst (λ (v : ShelfView g.row.D.Denot). AllByRecursion (λ b. b ≢ c.args.block) v.free) (sym c.self.view_is) c.requires.unlisted in
    let fits = freed_fits d.view old c.self.invariant.0 c.args.block below unlisted in
    let room = c.self.invariant.1 in
    c.push_back-put.ensures.succeeds (omega (arith, fits, room))

pub invariant_of-self : goal.invariant_of-self
invariant_of-self g c =
    let d = g.D.Disk in
    let old : ShelfView g.row.D.Denot = record {
      disk = c.self.inside.disk;
      geometry = c.self.inside.geometry;
      limits = c.self.inside.limits;
      buffers = c.self.inside.buffers.items;
      gates =
          c.self.inside.gates.items;
      lives = c.self.inside.ledger;
      holds = c.self.inside.holds;
      free = c.self.inside.free.items;
      queue = c.self.inside.queue;
      cache = c.self.inside.cache;
      raid = c.self.inside.raid;
      next_number = c.self.inside.next_number;
    } in
    let below : c.args.block < old.geometry.blocks = subst (λ (v : ShelfView g.row.D.Denot). c.args.block < v.geometry.blocks) (sym c.self.view_is) c.requires.block in
    let unlisted : AllByRecursion (λ b. b ≢ c.args.block) old.free = subst (λ (v : ShelfView g.row.D.Denot). AllByRecursion (λ b. b ≢ c.args.block) v.free) (sym c.self.view_is) c.requires.unlisted in
    let fits = freed_fits d.view old c.self.invariant.0 c.args.block below unlisted in
    let room = c.self.invariant.1 in
    let more : c.push_back-put.new.self.items ≡ old.free ++ c.args.block ∷ [] = c.push_back-put.ensures.items ∙ cond-true (is_ok c.push_back-put.result) _ _ (ap is_ok c.unwrap.ensures) in (
      subst (λ (free : List ℕ). IsShelf {D = g.row.D.Denot} d.view
          (record {
            disk = c.self.inside.disk;
            geometry = c.self.inside.geometry;
            limits = c.self.inside.limits;
            buffers = c.self.inside.buffers.items;
            gates = c.self.inside.gates.items;
            lives = c.self.inside.ledger;
            holds = c.self.inside.holds;
            free = free;
            queue = c.self.inside.queue;
            cache = c.self.inside.cache;
            raid = c.self.inside.raid;
            next_number =
                c.self.inside.next_number;
          })) (sym more)
          (freed_shelf d.view old c.self.invariant.0 c.args.block below unlisted (subst (λ (v : ShelfView g.row.D.Denot). IsUnused v c.args.block) (sym c.self.view_is) c.requires.unused)),
      (let grows = c.push_back-put.ensures.capacity in omega (arith, grows, room)),
      c.self.invariant.2,
    )
