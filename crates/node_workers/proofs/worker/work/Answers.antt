use Rattle.std.proofs.Common.{refl, [], ◌≡◌, true}
use Rattle.node_workers.proofs.Turning.{has_taken_more}
use Rattle.node_workers.proofs.worker.work.Goals as goal

pub loop-init : goal.loop-init
loop-init g c = ([], refl, (refl, refl))

pub loop-preserved : goal.loop-preserved
loop-preserved g c =
    let goes : c.pause-goes_on.result ≡ true = search in
    has_taken_more g.T.Chore.turns (g.N.Nudge.tells c.args.nudge.now c.args.who) _ c.args.chore.now (g.C.Clock.times c.args.clock.now) _ _ _ _ _ _
    c.loop.invariant c.take_turn-did.ensures _ _ c.pause-goes_on.ensures c.is_idle.ensures goes c.saturating_add-count.ensures
