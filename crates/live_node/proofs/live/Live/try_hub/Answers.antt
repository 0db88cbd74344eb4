use Rattle.std.proofs.Common.{◌≡◌, ℕ, Some, ap, subst}
use Rattle.sprig_tree.specs.State.{SprigState}
use Rattle.turn_table.specs.Passes.{view, IsPassOf}
use Rattle.live_node.specs.Fits.{HubFits, PartFits}
use Rattle.live_node.specs.Calls.{seen_by}
use Rattle.live_node.specs.Lives.{Live, opening_at}
use Rattle.live_node.proofs.Right.{opened_at, right_still}
use Rattle.live_node.proofs.live.Live.try_hub.Goals as goal

pub returns-in_default-clause-right : goal.returns-in_default-clause-right
returns-in_default-clause-right g c =
    let told = c.in_default.ensures in
    right_still g.D.Disk.view (opening_at c.args.self.now) (view c.args.pass.now) (view c.try_hub.new.pass) told.seen (opened_at c.self.view_is told.pass.opened) (ap (λ v. v.mine) told.none.0)

pub returns-clause-right : goal.returns-clause-right
returns-clause-right g c =
    let told = c.in-Some.ensures in
    right_still g.D.Disk.view (opening_at c.args.self.now) (view c.args.pass.now) (view c.try_hub.new.pass) told.seen (opened_at c.self.view_is told.pass.opened) (ap (λ v. v.mine) told.some)

pub returns-clause-some : goal.returns-clause-some
returns-clause-some g c =
    let told = c.in-Some.ensures in
    let v = view c.args.pass.now in let w = view c.try_hub.new.pass in
    let hub = c.in-Some.hub in (
      (subst (λ (live : Live g.row.D.Denot). IsPassOf live c.try_hub.new.pass) c.self.view_is told.pass, ap (λ v. v.part) told.some, ap (λ v. v.hub) told.some),
      ap (λ v. v.found_out) told.some,
      subst (λ (live : Live g.row.D.Denot). HubFits g.D.Disk.view (opening_at live) (seen_by w) hub.shelf.value hub.tally.value) c.self.view_is told.fits,
      subst (λ (live : Live g.row.D.Denot). (k : ℕ) (p : SprigState) → v.part ≡ Some k → PartFits (opening_at live) (seen_by v) k p → PartFits (opening_at live) (seen_by w) k p)
          c.self.view_is told.still,
    )
