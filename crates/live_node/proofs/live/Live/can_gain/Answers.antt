use Rattle.std.proofs.Common.{◌≡◌, List, [], sym, subst}
use Rattle.model_device.specs.Events.{Event}
use Rattle.model_device.specs.Vacating.{can_gain}
use Rattle.turn_table.specs.Passes.{view}
use Rattle.live_node.specs.Opening.{setup_at, state_at}
use Rattle.live_node.specs.Calls.{seen_by}
use Rattle.live_node.specs.Lives.{opening_at}
use Rattle.live_node.proofs.Right.{right_then}
use Rattle.live_node.proofs.Stepping.{by_lent}
use Rattle.live_node.proofs.live.Live.can_gain.Goals as goal

pub returns-clause-right : goal.returns-clause-right
returns-clause-right g c =
    right_then g.D.Disk.view (opening_at c.args.self.now) (view c.args.pass.now) (view c.take_hub-hub.new.pass) (view c.give_back.new.pass) [] [] c.take_hub-hub.ensures.right c.give_back.ensures.right

pub returns-clause-answer : goal.returns-clause-answer
returns-clause-answer g c =
    let o = opening_at c.args.self.now in
    let list = seen_by (view c.take_hub-hub.new.pass) in
    let hub = by_lent c.deref.ensures c.take_hub-hub.ensures.fits in
    subst (λ (l : List Event). c.can_gain-gains.result ≡ can_gain (state_at o l).book) (sym c.give_back.ensures.seen)
    (c.can_gain-gains.ensures.state (setup_at o) (state_at o list) hub.stands.stands hub.stands.queue)
