use Rattle.std.proofs.Common.{ap, arith, ◌∙◌}
use Rattle.sprig_tree.specs.declared.tally.Tally.{Tally}
use Rattle.sprig_tree.specs.Tallies.{parted}
use Rattle.turn_table.specs.Passes.{view}
use Rattle.live_node.specs.Opening.{setup_at, state_at}
use Rattle.live_node.specs.Calls.{seen_by}
use Rattle.live_node.specs.Lives.{opening_at}
use Rattle.live_node.proofs.Opened.{over_at}
use Rattle.live_node.proofs.Stepping.{by_lent, fits_alone, names_own, settings, is_setup_by, stand, counts_by, step_fits}
use Rattle.live_node.proofs.live.Live.enter.Goals as goal

pub step-answer-requires : goal.step-answer-requires
step-answer-requires g c =
    let fits = fits_alone (over_at c.self.view_is c.self.invariant.0) (by_lent c.deref_mut.ensures.value c.requires.hub) in record {
      asks = c.requires.asks;
      own = names_own fits (g.C.EventCall.call c.args.call.now) c.requires.own;
      settings = settings fits;
      stand = (
        setup_at (opening_at c.args.self.now),
        state_at (opening_at c.args.self.now) (seen_by (view c.args.pass.now)),
        is_setup_by fits,
        stand fits (g.C.Step.part c.args.call.now) c.args.part c.args.sprig.now c.requires.part c.requires.sprig,
      );
    }

pub give_step-requires-clause-made : goal.give_step-requires-clause-made
give_step-requires-clause-made g c =
    let call = c.args.call.now in
    let answer = c.step-answer in
    let old = c.args.sprig.now in
    let named = g.met.C.Step.named call (setup_at (opening_at c.args.self.now)) in
    step_fits (fits_alone (over_at c.self.view_is c.self.invariant.0) (by_lent c.deref_mut.ensures.value c.requires.hub)) (g.C.Step.part call) c.args.part (g.C.EventCall.call call) (g.C.EventCall.answers call answer.result) old answer.new.sprig answer.new.shelf _
    c.requires.part named c.requires.own answer.ensures.shape answer.ensures.honest c.requires.sprig
    (counts_by c.args.hub.tally.value c.tally-before.result c.tally.result c.minus.result c.plus.result c.args.part old answer.new.sprig
    c.tally-before.ensures c.tally.ensures (c.minus.ensures ∙ ap (λ (t : Tally). parted t c.tally-before.result) c.deref.ensures) c.plus.ensures (omega arith) (omega arith) (omega arith))
    answer.ensures.makes
