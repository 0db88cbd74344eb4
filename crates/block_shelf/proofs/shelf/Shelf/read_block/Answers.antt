use Rattle.std.proofs.Common.{arith, ◌≡◌, ◌-◌, List, ℕ, Err, length, ◌∙◌, ap, subst, drop}
use Rattle.std.specs.Prelude.{MatchResult}
use Rattle.std.proofs.lemmas.List.{take_at}
use Rattle.write_buffer.proofs.Sizes.{sized}
use Rattle.block_shelf.specs.declared.refusals.VacateRefusal.TheVariants.{Fault}
use Rattle.block_shelf.specs.View.{ShelfView}
use Rattle.block_shelf.specs.Scans.{ReadsBody, IsRefusalOf}
use Rattle.block_shelf.proofs.ReadOnly.{shelf_read}
use Rattle.block_shelf.proofs.Scanning.{block_of, block_read}
use Rattle.block_shelf.proofs.shelf.Shelf.read_block.Goals as goal

pub invariant_of-self : goal.invariant_of-self
invariant_of-self g c = (
  shelf_read g.D.Disk.view g.met.D.Disk.is_disk _ c.load_body.new.disk c.self.invariant.0 c.load_body.ensures.disk,
  c.self.invariant.1,
  (let size : length c.load_body.new.body ≡ c.self.inside.body.len = omega arith in
      ap length (take_at c.load_body.new.body (drop (length c.load_body.new.body) c.self.inside.body.items) c.self.inside.body.len size)
      ∙ omega (arith, size, c.deref_mut.ensures.len, ap length c.deref_mut.ensures.value, c.self.invariant.2)),
)

pub found_in-requires-clause-head : goal.found_in-requires-clause-head
found_in-requires-clause-head g c =
    let s = sized c.self.inside.geometry.block_size c.self.invariant.0.geometry.block_size in
    omega (arith, s.low, c.deref_mut.ensures.len, ap length c.deref_mut.ensures.value, c.deref.ensures.len, c.self.invariant.2)

pub found_in-requires-clause-size : goal.found_in-requires-clause-size
found_in-requires-clause-size g c =
    let s = sized c.self.inside.geometry.block_size c.self.invariant.0.geometry.block_size in
    omega (arith, s.high, c.deref_mut.ensures.len, ap length c.deref_mut.ensures.value, c.deref.ensures.len, c.self.invariant.2)

pub invariant_of-self-2 : goal.invariant_of-self-2
invariant_of-self-2 g c = (
  shelf_read g.D.Disk.view g.met.D.Disk.is_disk _ c.load_body.new.disk c.self.invariant.0 c.load_body.ensures.disk,
  c.self.invariant.1,
  (let size : length c.load_body.new.body ≡ c.self.inside.body.len = omega arith in
      ap length (take_at c.load_body.new.body (drop (length c.load_body.new.body) c.self.inside.body.items) c.self.inside.body.len size)
      ∙ omega (arith, size, c.deref_mut.ensures.len, ap length c.deref_mut.ensures.value, c.self.invariant.2)),
)

pub returns-in_default : goal.returns-in_default
returns-in_default g c =
    let old : ShelfView g.row.D.Denot = record {
      disk = c.self.inside.disk;
      geometry = c.self.inside.geometry;
      limits = c.self.inside.limits;
      buffers = c.self.inside.buffers.items;
      gates =
          c.self.inside.gates.items;
      lives = c.self.inside.ledger;
      holds = c.self.inside.holds;
      free = c.self.inside.free.items;
      queue = c.self.inside.queue;
      cache = c.self.inside.cache;
      raid = c.self.inside.raid;
      next_number = c.self.inside.next_number;
    } in
    block_of old c.args.self.now c.self.view_is g.D.Disk.view c.args.block c.load_body.new.disk _ (Err Fault)
    (block_read g.D.Disk.view g.met.D.Disk.is_disk c.args.block old _ c.self.invariant.0 c.load_body.new.disk c.load_body.ensures.disk (Err Fault)
    (λ told. tt) tt (λ same. c.in_default.ensures.cause))

pub returns : goal.returns
returns g c =
    let old : ShelfView g.row.D.Denot = record {
      disk = c.self.inside.disk;
      geometry = c.self.inside.geometry;
      limits = c.self.inside.limits;
      buffers = c.self.inside.buffers.items;
      gates =
          c.self.inside.gates.items;
      lives = c.self.inside.ledger;
      holds = c.self.inside.holds;
      free = c.self.inside.free.items;
      queue = c.self.inside.queue;
      cache = c.self.inside.cache;
      raid = c.self.inside.raid;
      next_number = c.self.inside.next_number;
    } in
    let size : length c.load_body.new.body ≡ c.self.inside.body.len = omega arith in
    let bytes = c.deref.ensures.value ∙ take_at c.load_body.new.body (drop (length c.load_body.new.body) c.self.inside.body.items) c.self.inside.body.len size in
    let long : length c.deref.result.now ≡ old.geometry.block_size - 4096 =
    omega (arith, c.deref_mut.ensures.len, ap length c.deref_mut.ensures.value, c.deref.ensures.len, c.self.invariant.2) in
    block_of old c.args.self.now c.self.view_is g.D.Disk.view c.args.block c.load_body.new.disk _ c.found_in.result
    (block_read g.D.Disk.view g.met.D.Disk.is_disk c.args.block old _ c.self.invariant.0 c.load_body.new.disk c.load_body.ensures.disk c.found_in.result
    (λ told. subst (λ (t : List ℕ). MatchResult c.found_in.result (λ found. ReadsBody old.geometry t c.args.block found.items) (IsRefusalOf old.geometry t c.args.block))
    (bytes ∙ c.in-Ok.ensures.read told) (c.found_in.ensures.read old.geometry long))
    c.found_in.ensures.of_block (λ same. absurd (c.found_in.ensures.quiet same)))
