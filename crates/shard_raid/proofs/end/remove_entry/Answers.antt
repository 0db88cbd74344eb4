use Rattle.std.proofs.Common.{◌≡◌, sym, ap, subst, arith}
use Rattle.std.specs.Prelude.{IsSomeAnd, Contains}
use Rattle.block_format.specs.declared.geometry.Geometry.{Geometry}
use Rattle.sprig_tree.specs.State.{SprigState}
use Rattle.block_shelf.specs.Lives.{copies_in, copy_at}
use Rattle.block_shelf.specs.declared.place.Place.{Place}
use Rattle.block_shelf.specs.Calls.{copy_live}
use Rattle.shard_raid.proofs.OneEnd.{is_live, is_placed, lies_below, go_removed}
use Rattle.shard_raid.proofs.end.remove_entry.Goals as goal

pub prove-unreachable-requires : goal.prove-unreachable-requires
prove-unreachable-requires g c =
    let stand = c.requires.stand in
    let below = lies_below stand.0 stand.2 c.args.sprig.now c.args.shelf.now stand.1 stand.3 c.args.entry.now c.requires.found in
    absurd (omega (arith, below, ap (λ (p : Place). p.block) c.place_of_entry-place.ensures, c.if-prove.true, ap (λ (x : Geometry). x.blocks) c.geometry.ensures.shape))

pub drop_live-requires-clause-live : goal.drop_live-requires-clause-live
drop_live-requires-clause-live g c =
    let stand = c.requires.stand in
    let there = is_placed stand.0 stand.2 c.args.sprig.now c.args.shelf.now stand.1 stand.3 c.args.entry.now c.requires.found g.D.Disk.view c.geometry.ensures.whole in
    subst (λ (p : Place). IsSomeAnd (copy_at p.unit (copies_in p.block c.args.shelf.now.lives)) (λ x. x.units ≡ p.units)) (sym c.place_of_entry-place.ensures) there.1

pub returns-clause-goes : goal.returns-clause-goes
returns-clause-goes g c setup s part stand none =
    let live = is_live setup part c.args.sprig.now c.args.shelf.now s stand c.args.entry.now c.requires.found in
    let there = subst (λ (p : Place). Contains s.book.live (copy_live c.args.entry.now.digest p)) (sym c.place_of_entry-place.ensures) live in
    go_removed setup part c.args.sprig.now c.args.shelf.now s stand c.args.entry.now c.requires.found g.D.Disk.view c.remove-gone.new.self c.drop_live.new.self
    (record { entries = ap (λ (x : SprigState). x.entries) c.remove-gone.ensures.rest; high = ap (λ (x : SprigState). x.hw) c.remove-gone.ensures.rest })
    (c.drop_live.ensures.rid setup s c.args.entry.now.digest stand.is_setup stand.together.shelf_stands.stands there none)
