use Rattle.std.proofs.Common.{ap}
use Rattle.turn_table.specs.Passes.{view}
use Rattle.live_node.specs.Lives.{opening_at}
use Rattle.live_node.proofs.Right.{opened_at, right_still}
use Rattle.live_node.proofs.live.Live.take_part.Goals as goal

pub returns-clause-right : goal.returns-clause-right
returns-clause-right g c =
    let told = c.take_part.ensures in
    right_still g.D.Disk.view (opening_at c.args.self.now) (view c.args.pass.now) (view c.take_part.new.pass) told.seen (opened_at c.self.view_is told.pass.0.opened) (ap (λ v. v.mine) told.pass.1)
