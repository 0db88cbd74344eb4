use Rattle.std.proofs.Common.{◌+◌, [], ◌++◌, take, refl, sym, subst, ◌∙◌, arith}
use Rattle.std.specs.Prelude.{Ok}
use Rattle.live_node.specs.Lives.{opening_at}
use Rattle.live_node.specs.Several.{placed_events}
use Rattle.live_node.specs.Vacates.{MovesOut, StopsAfter}
use Rattle.live_node.proofs.Several.{events_joined, shows_none, shows_then, right_here}
use Rattle.live_node.proofs.Vacating.{take_more, moves_more, moves_stop}
use Rattle.live_node.proofs.live.Live.move_listed.Goals as goal

pub loop-digest-init : goal.loop-digest-init
loop-digest-init g c = record { few = omega arith; pass = c.requires.pass; numbers = (refl, refl); moves = ([], shows_none c.requires.here, (tt, refl, tt)) }

pub move_own-requires-clause-here : goal.move_own-requires-clause-here
move_own-requires-clause-here g c = right_here c.loop-digest.invariant.moves.1.right

pub loop-digest-preserved : goal.loop-digest-preserved
loop-digest-preserved g c =
    let o = opening_at c.args.self.now in
    let before = c.loop-digest.invariant.moves in
    let one = c.in-Ok.ensures.moves in
    let list = c.args.list.now in
    let at = c.loop-digest.digest-index in
    let count = c.count_of-moved in
    record {
      few = omega (arith, c.loop-digest.invariant.few, count.ensures.one);
      pass = c.in-Ok.ensures.pass;
      numbers = (c.in-Ok.ensures.numbers.0 ∙ c.loop-digest.invariant.numbers.0, c.in-Ok.ensures.numbers.1 ∙ c.loop-digest.invariant.numbers.1);
      moves = (
        before.0 ++ one.0,
        shows_then before.0 one.0 before.1 one.1,
        subst (MovesOut o c.args.block _ (Ok (c.loop-digest.moved + count.result))) (sym (events_joined before.0 one.0))
            (moves_more o c.args.block list at _ (take_more list at _ c.loop-digest-test.true) (placed_events before.0) (placed_events one.0) c.loop-digest.moved before.2
            count.result c.in-Ok.was_there count.ensures.moved one.2),
      );
    }

pub returns-in-Err-clause-moves : goal.returns-in-Err-clause-moves
returns-in-Err-clause-moves g c =
    let o = opening_at c.args.self.now in
    let before = c.loop-digest.invariant.moves in
    let one = c.in-Err.ensures.moves in (
      before.0 ++ one.0,
      shows_then before.0 one.0 before.1 one.1,
      subst (StopsAfter c.args.block (record { moved = c.loop-digest.moved; cause = c.in-Err.cause })) (sym (events_joined before.0 one.0))
          (moves_stop o c.args.block (take c.loop-digest.digest-index c.args.list.now) (placed_events before.0) (placed_events one.0) c.loop-digest.moved c.in-Err.cause before.2 one.2),
    )
