use Rattle.live_serve.proofs.Linking.{door_came}
use Rattle.live_serve.proofs.serving.serve_door.Goals as goal

pub returns-clause-came : goal.returns-clause-came
returns-clause-came g c =
    door_came g.D.Disk.view _ _ _ _ _ _ _ c.args.lives.now c.collect.new.passes (g.C.Clock.times c.args.clock.now) c.collect.ensures.passes c.work_through-came.result.1 _ _ _ _ _ _
    c.work_through-came.new.duties.items c.args.seats c.work_through-came.ensures.came c.work_through-came.ensures.at_work.at c.collect.ensures.seen
