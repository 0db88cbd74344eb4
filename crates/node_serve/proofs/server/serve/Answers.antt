use Rattle.std.proofs.Common.{◌≡◌, ◌^◌}
use Rattle.node_serve.specs.Closing.{IsClosed}
use Rattle.node_serve.specs.Serving.{ServesLink}
use Rattle.node_serve.proofs.Doing.{seats_stay_always}
use Rattle.node_serve.proofs.server.serve.Goals as goal

pub returns-clause-seats : goal.returns-clause-seats
returns-clause-seats g c =
    let door = c.serve_from.result.0 in
    seats_stay_always (ServesLink g.S.Store.acts g.S.Store.tends (g.G.Door.may_give c.args.door) g.G.Link.Ends.taken g.G.Link.Ends.left g.G.Link.Ends.written
    g.G.Link.Ends.handed g.G.Link.Ends.source_faults g.G.Link.Ends.sink_faults (2 ^ 40))
    g.S.Store.acts g.S.Store.tends g.K.Chore.turns (g.N.Nudge.tells c.args.nudge.now) g.C.Clock.times
    c.serve_from.result.1 (door ≡ c.args.door) (λ why. IsClosed why (g.G.Door.faults c.args.door) (g.G.Door.faults door) (g.G.Door.ended door))
    (g.G.Door.given c.args.door) (g.G.Door.given door) c.args.duties.now.items c.serve_from.new.duties.items c.serve_from.ensures.came
