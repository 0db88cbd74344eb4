use Rattle.live_node.proofs.Opened.{over_at, is_over}
use Rattle.live_node.proofs.live.Live.known.Goals as goal

pub returns : goal.returns
returns g c = is_over c.args.self.now (over_at c.self.view_is c.self.invariant.0)
