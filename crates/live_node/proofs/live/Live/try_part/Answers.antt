use Rattle.std.proofs.Common.{ap}
use Rattle.turn_table.specs.Passes.{view}
use Rattle.live_node.specs.Lives.{opening_at}
use Rattle.live_node.proofs.Right.{opened_at, right_still}
use Rattle.live_node.proofs.live.Live.try_part.Goals as goal

pub returns-in_default-clause-right : goal.returns-in_default-clause-right
returns-in_default-clause-right g c =
    let told = c.in_default.ensures in
    right_still g.D.Disk.view (opening_at c.args.self.now) (view c.args.pass.now) (view c.try_part.new.pass) told.seen (opened_at c.self.view_is told.pass.opened) (ap (λ v. v.mine) told.none.0)

pub returns-clause-right : goal.returns-clause-right
returns-clause-right g c =
    let told = c.in-Some.ensures in
    right_still g.D.Disk.view (opening_at c.args.self.now) (view c.args.pass.now) (view c.try_part.new.pass) told.seen (opened_at c.self.view_is told.pass.opened) (ap (λ v. v.mine) told.some)
