use denote.Param.Send.{sendable}
use Rattle.std.proofs.Crossing.{crosses}
use Rattle.live_crew.proofs.Crossing.{store_send, chore_send}
use Rattle.live_serve.proofs.Crewing.{at_work_then, served_then}
use Rattle.live_serve.proofs.serving.work_through.Goals as goal

pub serve-requires-send-S : goal.serve-requires-send-S
serve-requires-send-S g c κs within = search (sendable, crosses, store_send) depth 20

pub serve-requires-send-K : goal.serve-requires-send-K
serve-requires-send-K g c κs within = search (sendable, crosses, chore_send) depth 20

pub returns-in-Ok-clause-at_work : goal.returns-in-Ok-clause-at_work
returns-in-Ok-clause-at_work g c =
    at_work_then _ g.D.Disk.view _ _ c.args.lives.now (g.C.Clock.times c.args.clock.now) _ _ _ _ _ _ c.deal.new.duties.items c.serve.new.duties.items c.serve.result.1 c.deal.new.passes
    c.serve.ensures.came c.deal.ensures.dealt.at_work

pub returns-in-Ok-clause-came : goal.returns-in-Ok-clause-came
returns-in-Ok-clause-came g c =
    let dealt = c.deal.ensures.dealt in
    served_then _ g.D.Disk.view _ _ c.args.lives.now (g.C.Clock.times c.args.clock.now) _ _ _ _ _ _ c.deal.new.duties.items c.serve.new.duties.items c.serve.result.1 c.args.seats
    c.serve.ensures.came c.serve.ensures.seats c.in-Ok.ensures.crew.seated dealt.new dealt.clocks
