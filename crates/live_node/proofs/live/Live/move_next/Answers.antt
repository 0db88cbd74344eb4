use Rattle.std.proofs.Common.{◌≡◌, ℕ, ◌<◌, Bool, [], sym, ap, subst, refl, ◌∙◌, arith}
use Rattle.std.specs.Prelude.{Option, Result, Ok, Err}
use Rattle.std.proofs.lemmas.Result.{err_from_is_err_and}
use Rattle.shard_core.specs.declared.refusals.DefragCause.{DefragCause}
use Rattle.turn_table.specs.Passes.{view}
use Rattle.live_node.specs.Lives.{opening_at}
use Rattle.live_node.specs.Vacates.{MovesFirst, MovesNext}
use Rattle.live_node.proofs.Right.{right_then}
use Rattle.live_node.proofs.Leaving.{next_gone, next_part, next_stop}
use Rattle.live_node.proofs.live.Live.move_next.Goals as goal

pub loop-part-init : goal.loop-part-init
loop-part-init g c = record { pass = c.requires.pass; numbers = (refl, refl); right = c.requires.here; left = λ digest up below. absurd (omega (arith, up, below)) }

pub move_first-requires-clause-part : goal.move_first-requires-clause-part
move_first-requires-clause-part g c = subst (λ (n : ℕ). c.loop-part.part < n) c.parts-part-end.ensures.total c.loop-part-test.true

pub loop-part-preserved : goal.loop-part-preserved
loop-part-preserved g c =
    let o = opening_at c.args.self.now in
    let u = view c.args.pass.now in let v = view c.loop-part.pass in let w = view c.move_first.new.pass in
    let here = c.loop-part.invariant in
    let none = subst (λ (b : Bool). MovesFirst g.D.Disk.view o v w c.loop-part.part c.args.block (Ok b)) c.if-branch.false c.in_ok-move_first.ensures.moves in
    let told = c.move_first.ensures in
    record {
      pass = told.pass;
      numbers = (told.numbers.0 ∙ here.numbers.0, told.numbers.1 ∙ here.numbers.1);
      right = right_then g.D.Disk.view o u v w [] [] here.right none.0;
      left = next_part u v w c.args.first c.loop-part.part c.args.block here.right here.left none.0 none.1;
    }

pub returns-then-branch-clause-moves : goal.returns-then-branch-clause-moves
returns-then-branch-clause-moves g c =
    let v = view c.loop-part.pass in let w = view c.move_first.new.pass in
    next_gone (view c.args.pass.now) v w c.args.first c.loop-part.part c.args.block c.loop-part.invariant.right c.loop-part.invariant.left
    (subst (λ (b : Bool). MovesFirst g.D.Disk.view (opening_at c.args.self.now) v w c.loop-part.part c.args.block (Ok b)) c.if-branch.true c.in_ok-move_first.ensures.moves)

pub returns-in_err-move_first-clause-moves : goal.returns-in_err-move_first-clause-moves
returns-in_err-move_first-clause-moves g c =
    let u = view c.args.pass.now in let v = view c.loop-part.pass in let w = view c.move_first.new.pass in
    let cause : DefragCause = c.in_err-move_first.field-0.0 in
    let p = err_from_is_err_and c.from_residual.result c.from_residual.ensures.1 in
    let same : c.from_residual.result ≡ Err cause = p.1 ∙ ap (λ (r : DefragCause). Err r) p.2 in
    subst (λ (r : Result (Option ℕ) DefragCause). MovesNext g.D.Disk.view (opening_at c.args.self.now) u w c.args.first c.args.block r) (sym same)
    (next_stop u v w c.args.first c.loop-part.part c.args.block c.loop-part.invariant.right c.loop-part.invariant.left cause c.in_err-move_first.ensures.moves)

pub returns-clause-moves : goal.returns-clause-moves
returns-clause-moves g c = (
  c.loop-part.invariant.right,
  λ digest up below. c.loop-part.invariant.left digest up (omega (arith, below, c.loop-part-test.false, c.parts-part-end.ensures.total)),
)
