use Rattle.std.proofs.Common.{◌++◌, sym, subst, ◌+◌}
use Rattle.std.specs.Prelude.{Ok}
use Rattle.turn_table.specs.Passes.{view}
use Rattle.live_node.specs.Calls.{seen_by}
use Rattle.live_node.specs.Lives.{opening_at}
use Rattle.live_node.specs.Several.{placed_events}
use Rattle.live_node.specs.Vacates.{MovesOut, StopsAfter}
use Rattle.live_node.proofs.Right.{prefix_on, seen_begins}
use Rattle.live_node.proofs.Several.{events_joined, shows_then}
use Rattle.live_node.proofs.Vacating.{moves_joined, stops_joined}
use Rattle.live_node.proofs.live.Live.vacate.Goals as goal

pub returns-in-Ok-clause-moves : goal.returns-in-Ok-clause-moves
returns-in-Ok-clause-moves g c =
    let o = opening_at c.args.self.now in
    let list = c.in_ok-moved.ensures.moves in
    let rest = c.in-Ok.ensures.moves in (
      list.0 ++ rest.0,
      shows_then list.0 rest.0 list.1 rest.1,
      subst (MovesOut o c.args.block c.args.list.now (Ok (c.in_ok-moved.moved + c.in-Ok.rest))) (sym (events_joined list.0 rest.0))
          (moves_joined o c.args.block c.args.list.now (placed_events list.0) (placed_events rest.0) c.in_ok-moved.moved list.2 c.in-Ok.rest rest.2),
    )

pub returns-in-Err-clause-moves : goal.returns-in-Err-clause-moves
returns-in-Err-clause-moves g c =
    let o = opening_at c.args.self.now in
    let list = c.in_ok-moved.ensures.moves in
    let rest = c.in-Err.ensures.moves in (
      list.0 ++ rest.0,
      shows_then list.0 rest.0 list.1 rest.1,
      subst (StopsAfter c.args.block _) (sym (events_joined list.0 rest.0))
          (stops_joined o c.args.block c.args.list.now (placed_events list.0) (placed_events rest.0) c.in_ok-moved.moved list.2 c.in-Err.refusal rest.2),
    )

pub returns-in-Ok-clause-leaves : goal.returns-in-Ok-clause-leaves
returns-in-Ok-clause-leaves g c from begins can =
    c.in-Ok.ensures.leaves from
    (prefix_on from (seen_by (view c.args.pass.now)) (seen_by (view c.move_listed.new.pass)) begins
    (seen_begins (view c.args.pass.now) (view c.move_listed.new.pass) c.in_ok-moved.ensures.moves.1.right.seen)) can
