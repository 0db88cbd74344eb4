use Rattle.std.proofs.Common.{◌≡◌, ℕ, ◌+◌, [], ◌∷◌, ◌++◌, refl, sym, subst, ◌∙◌, arith}
use Rattle.std.specs.Prelude.{Option, Ok}
use Rattle.model_device.specs.Steps.{part_total}
use Rattle.turn_table.specs.Passes.{view}
use Rattle.live_node.specs.Opening.{setup_at}
use Rattle.live_node.specs.Calls.{seen_by}
use Rattle.live_node.specs.Lives.{opening_at}
use Rattle.live_node.specs.Several.{placed_events}
use Rattle.live_node.specs.Vacates.{MovesNext, MovesOut, StopsAfter}
use Rattle.live_node.proofs.Right.{prefix_here, prefix_on, seen_begins}
use Rattle.live_node.proofs.Several.{events_joined, right_here, shows_none, shows_one, shows_then, shows_still}
use Rattle.live_node.proofs.Vacating.{gone_more, moves_stop}
use Rattle.live_node.proofs.Leaving.{Wanes, wanes_first, wanes_by, wanes_all, parts_both, parts_own}
use Rattle.live_node.proofs.live.Live.move_rest.Goals as goal

pub loop-moved-init : goal.loop-moved-init
loop-moved-init g c =
    let used = c.used.ensures in
    let u = view c.args.pass.now in let v = view c.used.new.pass in
    record {
      few = omega (arith, c.min-left.ensures);
      pass = used.pass;
      numbers = used.numbers;
      moves = ([], shows_none used.right, (tt, refl, tt));
      left = λ digest up below. absurd (omega (arith, below));
      wanes = λ from first can.
          wanes_first (opening_at c.args.self.now) c.args.block from (seen_by v) c.min-left.result (prefix_on from (seen_by u) (seen_by v) first (seen_begins u v used.right.seen))
          used.right.legal can (λ low. omega (arith, low, used.answer, c.min-left.ensures));
    }

pub move_next-requires-clause-here : goal.move_next-requires-clause-here
move_next-requires-clause-here g c = right_here c.loop-moved.invariant.moves.1.right

pub loop-moved-preserved : goal.loop-moved-preserved
loop-moved-preserved g c =
    let o = opening_at c.args.self.now in
    let block = c.args.block in
    let u = view c.args.pass.now in let v = view c.loop-moved.pass in let w = view c.move_next.new.pass in
    let here = c.loop-moved.invariant in
    let told = c.move_next.ensures in
    let one = subst (λ (x : Option ℕ). MovesNext g.D.Disk.view o v w c.loop-moved.part block (Ok x)) c.in-Ok-Some.field-0-is c.in-Ok-Some.ensures.moves in
    let by = one.0 in
    let begins = seen_begins u v here.moves.1.right.seen in
    record {
      few = here.few;
      pass = told.pass;
      numbers = (told.numbers.0 ∙ here.numbers.0, told.numbers.1 ∙ here.numbers.1);
      moves = (
        here.moves.0 ++ record { past = by.past; event = by.event } ∷ [],
        shows_then here.moves.0 (record { past = by.past; event = by.event } ∷ []) here.moves.1 (shows_one by),
        subst (MovesOut o block [] (Ok (c.loop-moved.moved + 1))) (sym (events_joined here.moves.0 (record { past = by.past; event = by.event } ∷ [])))
            (gone_more o block (placed_events here.moves.0) c.loop-moved.moved by.event here.moves.2 by.said),
      );
      left = parts_both o block (seen_by u) (seen_by u) (seen_by v) (seen_by w) 0 c.loop-moved.part c.in-Ok-Some.at (prefix_here (seen_by u)) begins (seen_begins v w by.right.seen) here.left one.1;
      wanes = λ from first can. wanes_by o block from by c.loop-moved.moved c.min-left.result (prefix_on from (seen_by u) (seen_by v) first begins) (here.wanes from first can);
    }

pub returns-in-Ok-None-clause-moves : goal.returns-in-Ok-None-clause-moves
returns-in-Ok-None-clause-moves g c =
    let v = view c.loop-moved.pass in let w = view c.move_next.new.pass in
    let here = c.loop-moved.invariant.moves in
    let none = subst (λ (x : Option ℕ). MovesNext g.D.Disk.view (opening_at c.args.self.now) v w c.loop-moved.part c.args.block (Ok x)) c.in-Ok-None.field-0-is c.in-Ok-None.ensures.moves in
    (here.0, shows_still here.0 here.1 none.0, here.2)

pub returns-in-Ok-None-clause-leaves : goal.returns-in-Ok-None-clause-leaves
returns-in-Ok-None-clause-leaves g c from first can =
    let o = opening_at c.args.self.now in
    let u = view c.args.pass.now in let v = view c.loop-moved.pass in let w = view c.move_next.new.pass in
    let here = c.loop-moved.invariant in
    let none = subst (λ (x : Option ℕ). MovesNext g.D.Disk.view o v w c.loop-moved.part c.args.block (Ok x)) c.in-Ok-None.field-0-is c.in-Ok-None.ensures.moves in
    parts_own o c.args.block from (seen_by w) c.known.ensures.opening
    (parts_both o c.args.block from (seen_by u) (seen_by v) (seen_by w) 0 c.loop-moved.part (part_total (setup_at o)) first (seen_begins u v here.moves.1.right.seen)
    (seen_begins v w none.0.seen) here.left none.1)

pub returns-in-Err-clause-moves : goal.returns-in-Err-clause-moves
returns-in-Err-clause-moves g c =
    let here = c.loop-moved.invariant.moves in
    let by = c.in-Err.ensures.moves in (
      here.0 ++ record { past = by.past; event = by.event } ∷ [],
      shows_then here.0 (record { past = by.past; event = by.event } ∷ []) here.1 (shows_one by),
      subst (StopsAfter c.args.block (record { moved = c.loop-moved.moved; cause = c.in-Err.cause })) (sym (events_joined here.0 (record { past = by.past; event = by.event } ∷ [])))
          (moves_stop (opening_at c.args.self.now) c.args.block [] (placed_events here.0) (by.event ∷ []) c.loop-moved.moved c.in-Err.cause here.2 (by.event, refl, by.said)),
    )

pub returns-clause-moves : goal.returns-clause-moves
returns-clause-moves g c =
    let here = c.loop-moved.invariant.moves in
    let all : c.loop-moved.moved ≡ c.min-left.result = omega (arith, c.loop-moved-test.false, c.loop-moved.auto.moved-end) in
    (here.0, here.1, subst (λ (n : ℕ). MovesOut (opening_at c.args.self.now) c.args.block [] (Ok n) (placed_events here.0)) all here.2)

pub returns-clause-leaves : goal.returns-clause-leaves
returns-clause-leaves g c from first can =
    let o = opening_at c.args.self.now in
    let u = view c.args.pass.now in let v = view c.loop-moved.pass in
    let here = c.loop-moved.invariant in
    let all : c.loop-moved.moved ≡ c.min-left.result = omega (arith, c.loop-moved-test.false, c.loop-moved.auto.moved-end) in
    let left = wanes_all o c.args.block from (seen_by v) c.min-left.result (prefix_on from (seen_by u) (seen_by v) first (seen_begins u v here.moves.1.right.seen))
    (subst (λ (n : ℕ). Wanes o from (seen_by v) c.args.block n c.min-left.result) all (here.wanes from first can)) in
    λ digest own. left digest
