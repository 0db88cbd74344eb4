use Rattle.live_node.proofs.Turning.{moves_there}
use Rattle.live_node.proofs.live.Live.move_record.Goals as goal

pub returns-clause-moves : goal.returns-clause-moves
returns-clause-moves g c = record { once = c.turn.ensures.once; there = moves_there c.args.digest.now c.args.block c.turn.result c.turn.ensures.once }
