use Rattle.turn_table.specs.Passes.{view}
use Rattle.live_node.specs.Calls.{seen_by}
use Rattle.live_node.specs.Lives.{opening_at}
use Rattle.live_node.proofs.Leaving.{none_lies}
use Rattle.live_node.proofs.live.Live.move_lying.Goals as goal

pub returns-in-None-clause-moves : goal.returns-in-None-clause-moves
returns-in-None-clause-moves g c =
    (c.requires.here, none_lies (opening_at c.args.self.now) (seen_by (view c.args.pass.now)) c.args.part c.args.block c.args.sprig.now c.requires.fits c.in-None.ensures)
