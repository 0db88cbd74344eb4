use Rattle.std.proofs.Common.{ℕ, ◌<◌, sym, subst}
use Rattle.turn_table.specs.Passes.{view}
use Rattle.live_node.proofs.Several.{right_here}
use Rattle.live_node.proofs.Leaving.{first_between}
use Rattle.live_node.proofs.live.Live.move_first.Goals as goal

pub take_part-sprig-requires-clause-part : goal.take_part-sprig-requires-clause-part
take_part-sprig-requires-clause-part g c = subst (λ (n : ℕ). c.args.part < n) (sym c.known.ensures.all) c.requires.part

pub move_lying-answer-requires-clause-here : goal.move_lying-answer-requires-clause-here
move_lying-answer-requires-clause-here g c = right_here c.take_part-sprig.ensures.right

pub returns-clause-moves : goal.returns-clause-moves
returns-clause-moves g c =
    let gave = c.give_part.ensures in
    first_between (view c.args.pass.now) (view c.take_part-sprig.new.pass) (view c.move_lying-answer.new.pass) (view c.give_part.new.pass) c.args.part c.args.block
    c.move_lying-answer.result c.take_part-sprig.ensures.right c.move_lying-answer.ensures.moves gave.right gave.seen
