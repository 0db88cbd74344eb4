use Rattle.std.proofs.Common.{◌≡◌, ℕ, Some, ap, subst}
use Rattle.sprig_tree.specs.State.{SprigState}
use Rattle.turn_table.specs.Passes.{view}
use Rattle.live_node.specs.Fits.{PartFits}
use Rattle.live_node.specs.Calls.{seen_by}
use Rattle.live_node.specs.Lives.{Live, opening_at}
use Rattle.live_node.proofs.Right.{opened_at, right_still}
use Rattle.live_node.proofs.live.Live.take_hub.Goals as goal

pub returns-clause-right : goal.returns-clause-right
returns-clause-right g c =
    let told = c.take_hub.ensures in
    right_still g.D.Disk.view (opening_at c.args.self.now) (view c.args.pass.now) (view c.take_hub.new.pass) told.seen (opened_at c.self.view_is told.pass.0.opened) (ap (λ v. v.mine) told.pass.1)

pub returns-clause-still : goal.returns-clause-still
returns-clause-still g c =
    let v = view c.args.pass.now in let w = view c.take_hub.new.pass in
    subst (λ (live : Live g.row.D.Denot). (k : ℕ) (p : SprigState) → v.part ≡ Some k → PartFits (opening_at live) (seen_by v) k p → PartFits (opening_at live) (seen_by w) k p)
    c.self.view_is c.take_hub.ensures.still
