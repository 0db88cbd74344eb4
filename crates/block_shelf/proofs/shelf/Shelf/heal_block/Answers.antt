use Rattle.std.proofs.Common.{◌≡◌, ◌≢◌, ap, subst, ◌∙◌}
use Rattle.std.specs.List.{AllByRecursion}
use Rattle.block_shelf.specs.View.{ShelfView}
use Rattle.block_shelf.proofs.Healing.{buffer_keeps, heals_closed, told_of}
use Rattle.block_shelf.proofs.shelf.Shelf.heal_block.Goals as goal

pub returns-then-has_block : goal.returns-then-has_block
returns-then-has_block g c =
    let same : c.deref.result.now ≡ c.args.self.now.buffers = c.deref.ensures.value ∙ ap (λ (v : ShelfView g.row.D.Denot). v.buffers) c.self.view_is in
    buffer_keeps g.D.Disk.view g.met.D.Disk.is_disk c.args.block c.args.self.now (told_of c.deref.result.now c.args.self.now.buffers c.args.block same c.has_block.ensures.value c.if-has_block.true)

pub close_unsure-requires-clause-unbuffered : goal.close_unsure-requires-clause-unbuffered
close_unsure-requires-clause-unbuffered g c =
    let same : c.deref.result.now ≡ c.args.self.now.buffers = c.deref.ensures.value ∙ ap (λ (v : ShelfView g.row.D.Denot). v.buffers) c.self.view_is in
    subst (AllByRecursion (λ b. b.block ≢ c.args.block)) same (c.if-has_block.ensures).told

pub returns : goal.returns
returns g c =
    let same : c.deref.result.now ≡ c.args.self.now.buffers = c.deref.ensures.value ∙ ap (λ (v : ShelfView g.row.D.Denot). v.buffers) c.self.view_is in
    heals_closed g.D.Disk.view g.met.D.Disk.is_disk c.args.block c.args.self.now c.close_unsure.new.self c.close_unsure.result
    (told_of c.deref.result.now c.args.self.now.buffers c.args.block same c.has_block.ensures.value c.if-has_block.false) c.close_unsure.ensures
