use Rattle.std.proofs.Common.{ap}
use Rattle.turn_table.specs.Passes.{view}
use Rattle.live_node.specs.Calls.{seen_by}
use Rattle.live_node.specs.Lives.{opening_at}
use Rattle.live_node.proofs.Right.{opened_at, right_still}
use Rattle.live_node.proofs.live.Live.give_back.Goals as goal

pub returns-clause-right : goal.returns-clause-right
returns-clause-right g c =
    let gave = c.give_hub_back in
    right_still g.D.Disk.view (opening_at c.args.self.now) (view c.args.pass.now) (view gave.new.pass) gave.ensures.seen (opened_at c.self.view_is gave.ensures.pass.0.opened) (ap (λ v. v.mine) gave.ensures.pass.1)

pub returns-clause-seen : goal.returns-clause-seen
returns-clause-seen g c = ap seen_by c.give_hub_back.ensures.pass.1
