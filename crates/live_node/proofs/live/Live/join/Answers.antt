use Rattle.std.proofs.Common.{ap}
use Rattle.turn_table.specs.Passes.{view}
use Rattle.live_node.specs.Lives.{opening_at}
use Rattle.live_node.proofs.Right.{opened_at, right_still}
use Rattle.live_node.proofs.live.Live.join.Goals as goal

pub returns-clause-right : goal.returns-clause-right
returns-clause-right g c =
    right_still g.D.Disk.view (opening_at c.args.self.now) (view c.args.pass.now) (view c.join.new.pass) c.join.ensures.seen (opened_at c.self.view_is c.join.ensures.pass.0.opened) (ap (λ v. v.mine) c.join.ensures.pass.1)
