use Rattle.std.proofs.Common.{List, sym, subst}
use Rattle.model_device.specs.Events.{Event}
use Rattle.turn_table.specs.Passes.{view}
use Rattle.live_node.specs.Fits.{HubFits, Is, PartFits}
use Rattle.live_node.specs.Lives.{opening_at}
use Rattle.live_node.proofs.Right.{opened_at, seen_more, answers_entered}
use Rattle.live_node.proofs.Stepping.{step_noted}
use Rattle.live_node.proofs.live.Live.give_step.Goals as goal

pub returns-clause-once : goal.returns-clause-once
returns-clause-once g c =
    let gave = c.give_hub in
    let said = (step_noted (view c.args.pass.now) (opening_at c.args.self.now) c.about-event.result c.requires.pass.0.opened c.about-event.ensures).said in
    answers_entered g.D.Disk.view (opening_at c.args.self.now) (view c.args.pass.now) (view gave.new.pass) c.about-event.result
    (Is (g.C.EventCall.call c.args.call.now) (g.C.EventCall.answers c.args.call.now c.args.answer.now)) said gave.ensures.pass.1 gave.ensures.seen (opened_at c.self.view_is gave.ensures.pass.0.opened)

pub returns-clause-sprig : goal.returns-clause-sprig
returns-clause-sprig g c =
    let gave = c.give_hub in
    let o = opening_at c.args.self.now in
    let step = step_noted (view c.args.pass.now) o c.about-event.result c.requires.pass.0.opened c.about-event.ensures in
    subst (λ (l : List Event). PartFits o l c.args.part c.args.sprig.now) (sym (seen_more (view c.args.pass.now) (view gave.new.pass) c.about-event.result gave.ensures.pass.1)) step.part_fits

pub returns-clause-hub : goal.returns-clause-hub
returns-clause-hub g c =
    let gave = c.give_hub in
    let o = opening_at c.args.self.now in
    let step = step_noted (view c.args.pass.now) o c.about-event.result c.requires.pass.0.opened c.about-event.ensures in
    subst (λ (l : List Event). HubFits g.D.Disk.view o l c.args.hub.shelf.value c.args.hub.tally.value) (sym (seen_more (view c.args.pass.now) (view gave.new.pass) c.about-event.result gave.ensures.pass.1)) step.hub_fits
