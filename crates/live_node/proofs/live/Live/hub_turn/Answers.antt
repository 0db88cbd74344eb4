use Rattle.turn_table.specs.Passes.{view}
use Rattle.live_node.specs.Fits.{Is}
use Rattle.live_node.specs.Lives.{opening_at}
use Rattle.live_node.proofs.Right.{answers_behind}
use Rattle.live_node.proofs.live.Live.hub_turn.Goals as goal

pub returns-clause-once : goal.returns-clause-once
returns-clause-once g c =
    let o = opening_at c.args.self.now in
    let call = c.args.call.now in
    let Said = Is (g.C.EventCall.call call) (g.C.EventCall.answers call c.enter_alone.result) in
    (answers_behind g.D.Disk.view o (view c.args.pass.now) (view c.take_hub-hub.new.pass) (view c.enter_alone.new.pass) Said
    c.take_hub-hub.ensures.right c.enter_alone.ensures.once).0
