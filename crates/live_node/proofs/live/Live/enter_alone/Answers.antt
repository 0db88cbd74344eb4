use Rattle.std.proofs.Common.{ap}
use Rattle.model_device.specs.Steps.{part_total}
use Rattle.turn_table.specs.Passes.{view}
use Rattle.live_node.specs.Opening.{setup_at, state_at}
use Rattle.live_node.specs.Fits.{if_below}
use Rattle.live_node.specs.Calls.{seen_by}
use Rattle.live_node.specs.Lives.{opening_at}
use Rattle.live_node.proofs.Stepping.{by_lent, fits_alone, is_setup, hub_step_fits}
use Rattle.live_node.proofs.live.Live.enter_alone.Goals as goal

pub give_alone-requires-clause-made : goal.give_alone-requires-clause-made
give_alone-requires-clause-made g c =
    let o = opening_at c.args.self.now in
    let hub = by_lent c.deref_mut.ensures.value c.requires.hub in
    let fits = fits_alone c.known.ensures hub in
    let call = c.args.call.now in
    hub_step_fits fits (g.C.EventCall.call call) (g.C.EventCall.answers call c.step-answer.result) c.step-answer.new.shelf (ap (if_below (part_total (setup_at o))) (g.met.C.HubStep.named call (setup_at o))) (g.met.C.HubStep.own call (setup_at o))
    c.step-answer.ensures.shape c.step-answer.ensures.honest
    (c.step-answer.ensures.makes (setup_at o) (state_at o (seen_by (view c.args.pass.now))) (is_setup fits) hub.stands)

pub returns-clause-once : goal.returns-clause-once
returns-clause-once g c = c.give_alone.ensures.once.0
