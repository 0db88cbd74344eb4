use Rattle.std.proofs.Common.{◌≡◌, ◌≢◌, ◌<◌, arith, sym, subst}
use Rattle.std.specs.List.{AllByRecursion}
use Rattle.block_format.specs.declared.geometry.Gate.TheVariants.{Unsure}
use Rattle.block_shelf.specs.View.{ShelfView, IsShelf, gate_at}
use Rattle.block_shelf.specs.Heals.{Covers}
use Rattle.block_shelf.proofs.Healing.{covers_none, covers_one, covered_shelf}
use Rattle.block_shelf.proofs.shelf.Shelf.cover_block.Goals as goal

pub invariant_of-self : goal.invariant_of-self
invariant_of-self g c =
    let d = g.D.Disk in
    let law = g.met.D.Disk in
    let old : ShelfView g.row.D.Denot = record {
      disk = c.self.inside.disk;
      geometry = c.self.inside.geometry;
      limits = c.self.inside.limits;
      buffers = c.self.inside.buffers.items;
      gates =
          c.self.inside.gates.items;
      lives = c.self.inside.ledger;
      holds = c.self.inside.holds;
      free = c.self.inside.free.items;
      queue = c.self.inside.queue;
      cache = c.self.inside.cache;
      raid = c.self.inside.raid;
      next_number = c.self.inside.next_number;
    } in
    let is : IsShelf d.view old = c.self.invariant.0 in
    let lt : c.args.block < old.geometry.blocks = subst (λ (v : ShelfView g.row.D.Denot). c.args.block < v.geometry.blocks) (sym c.self.view_is) c.requires.block in
    let unbuffered : AllByRecursion (λ b. b.block ≢ c.args.block) old.buffers =
    subst (AllByRecursion (λ b. b.block ≢ c.args.block)) c.deref.ensures.value c.if-not-has_block.ensures.told in
    let unsure : gate_at old.gates c.args.block ≡ Unsure = subst (λ (v : ShelfView g.row.D.Denot). gate_at v.gates c.args.block ≡ Unsure) (sym c.self.view_is)
    (grind (arith, c.if-eq.true, c.eq.ensures, c.gate.ensures)) in
    let e = c.cover_unsure.ensures in (
      covered_shelf d.view law.is_disk old c.cover_unsure.new.disk c.args.block is lt unbuffered unsure e.later e.honest e.was_honest e.images e.stands e.was_told e.bytes,
      c.self.invariant.1,
      c.self.invariant.2,
    )

pub returns-then-not-has_block : goal.returns-then-not-has_block
returns-then-not-has_block g c =
    let d = g.D.Disk in
    let law = g.met.D.Disk in
    let old : ShelfView g.row.D.Denot = record {
      disk = c.self.inside.disk;
      geometry = c.self.inside.geometry;
      limits = c.self.inside.limits;
      buffers = c.self.inside.buffers.items;
      gates =
          c.self.inside.gates.items;
      lives = c.self.inside.ledger;
      holds = c.self.inside.holds;
      free = c.self.inside.free.items;
      queue = c.self.inside.queue;
      cache = c.self.inside.cache;
      raid = c.self.inside.raid;
      next_number = c.self.inside.next_number;
    } in
    let is : IsShelf d.view old = c.self.invariant.0 in
    let lt : c.args.block < old.geometry.blocks = subst (λ (v : ShelfView g.row.D.Denot). c.args.block < v.geometry.blocks) (sym c.self.view_is) c.requires.block in
    let unbuffered : AllByRecursion (λ b. b.block ≢ c.args.block) old.buffers =
    subst (AllByRecursion (λ b. b.block ≢ c.args.block)) c.deref.ensures.value c.if-not-has_block.ensures.told in
    let unsure : gate_at old.gates c.args.block ≡ Unsure = subst (λ (v : ShelfView g.row.D.Denot). gate_at v.gates c.args.block ≡ Unsure) (sym c.self.view_is)
    (grind (arith, c.if-eq.true, c.eq.ensures, c.gate.ensures)) in
    let e = c.cover_unsure.ensures in
    subst (λ (v : ShelfView g.row.D.Denot). Covers d.view v (record old { disk = c.cover_unsure.new.disk })) c.self.view_is
    (covers_one d.view law.is_disk old c.cover_unsure.new.disk c.args.block is lt unbuffered unsure e.later e.honest e.was_honest e.images e.stands)

pub returns-else-eq : goal.returns-else-eq
returns-else-eq g c = covers_none g.D.Disk.view g.met.D.Disk.is_disk c.args.self.now
