use Rattle.std.proofs.Common.{◌≡◌, List, [], sym, subst}
use Rattle.model_device.specs.Events.{Event}
use Rattle.shard_core.specs.Numbers.{counts_of}
use Rattle.turn_table.specs.Passes.{view}
use Rattle.live_node.specs.Opening.{state_at}
use Rattle.live_node.specs.Calls.{seen_by}
use Rattle.live_node.specs.Lives.{opening_at}
use Rattle.live_node.proofs.Right.{right_then}
use Rattle.live_node.proofs.live.Live.counts.Goals as goal

pub returns-clause-right : goal.returns-clause-right
returns-clause-right g c =
    right_then g.D.Disk.view (opening_at c.args.self.now) (view c.args.pass.now) (view c.take_hub-hub.new.pass) (view c.give_back.new.pass) [] [] c.take_hub-hub.ensures.right c.give_back.ensures.right

pub returns-clause-answer : goal.returns-clause-answer
returns-clause-answer g c =
    let o = opening_at c.args.self.now in
    subst (λ (l : List Event). c.counts-counts.result ≡ counts_of (state_at o l)) (sym c.give_back.ensures.seen)
    (c.counts-counts.ensures.numbers o (seen_by (view c.take_hub-hub.new.pass)) c.take_hub-hub.ensures.fits c.known.ensures.opening)

pub returns-clause-few : goal.returns-clause-few
returns-clause-few g c = c.counts-counts.ensures.few (opening_at c.args.self.now) (seen_by (view c.take_hub-hub.new.pass)) c.take_hub-hub.ensures.fits c.known.ensures.opening
