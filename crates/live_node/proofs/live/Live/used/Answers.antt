use Rattle.std.proofs.Common.{◌≡◌, List, [], sym, subst}
use Rattle.model_device.specs.Book.{use_of}
use Rattle.model_device.specs.Events.{Event}
use Rattle.turn_table.specs.Passes.{view}
use Rattle.live_node.specs.Opening.{setup_at, state_at}
use Rattle.live_node.specs.Calls.{seen_by}
use Rattle.live_node.specs.Lives.{opening_at}
use Rattle.live_node.proofs.Right.{right_then}
use Rattle.live_node.proofs.Stepping.{by_lent}
use Rattle.live_node.proofs.live.Live.used.Goals as goal

pub returns-clause-right : goal.returns-clause-right
returns-clause-right g c =
    right_then g.D.Disk.view (opening_at c.args.self.now) (view c.args.pass.now) (view c.take_hub-hub.new.pass) (view c.give_back.new.pass) [] [] c.take_hub-hub.ensures.right c.give_back.ensures.right

pub returns-clause-answer : goal.returns-clause-answer
returns-clause-answer g c =
    let o = opening_at c.args.self.now in
    let list = seen_by (view c.take_hub-hub.new.pass) in
    subst (λ (l : List Event). c.used-used.result ≡ use_of (state_at o l).book c.args.block) (sym c.give_back.ensures.seen)
    (c.used-used.ensures.state (setup_at o) (state_at o list) (by_lent c.deref.ensures c.take_hub-hub.ensures.fits).stands.stands)
