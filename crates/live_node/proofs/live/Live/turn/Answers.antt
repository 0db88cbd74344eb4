use Rattle.std.proofs.Common.{[]}
use Rattle.turn_table.specs.Passes.{view}
use Rattle.live_node.specs.Fits.{Is}
use Rattle.live_node.specs.Lives.{opening_at}
use Rattle.live_node.proofs.Right.{right_then, answers_between}
use Rattle.live_node.proofs.live.Live.turn.Goals as goal

pub enter-answer-requires-clause-sprig : goal.enter-answer-requires-clause-sprig
enter-answer-requires-clause-sprig g c = c.take_hub-hub.ensures.still c.args.part c.take_part-sprig.result c.take_part-sprig.ensures.pass.1 c.take_part-sprig.ensures.fits

pub returns-clause-once : goal.returns-clause-once
returns-clause-once g c =
    let o = opening_at c.args.self.now in
    let v0 = view c.args.pass.now in let v1 = view c.take_part-sprig.new.pass in let v2 = view c.take_hub-hub.new.pass in let v3 = view c.enter-answer.new.pass in let v4 = view c.give_part.new.pass in
    (answers_between g.D.Disk.view o v0 v2 v3 v4 (Is (g.C.EventCall.call c.args.call.now) (g.C.EventCall.answers c.args.call.now c.enter-answer.result))
    (right_then g.D.Disk.view o v0 v1 v2 [] [] c.take_part-sprig.ensures.right c.take_hub-hub.ensures.right) c.enter-answer.ensures.once.0 c.give_part.ensures.right c.give_part.ensures.seen).0
