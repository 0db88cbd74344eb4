use Rattle.std.proofs.Common.{◌≡◌, ℕ, ◌<◌, List, [], refl, ap, sym, subst, ◌∙◌, arith}
use Rattle.disk_model.specs.Disk.{IsHonest}
use Rattle.model_device.specs.Events.{Event, turn_call}
use Rattle.raid_book.specs.Turns.{turn_of}
use Rattle.sprig_tree.specs.declared.tally.Tally.{Tally}
use Rattle.sprig_tree.specs.Tallies.{parted}
use Rattle.shard_raid.specs.Turns.{turn_answer}
use Rattle.turn_table.specs.Passes.{view}
use Rattle.live_node.specs.declared.raid.Turn.{Turn}
use Rattle.live_node.specs.Opening.{setup_at, state_at}
use Rattle.live_node.specs.Fits.{PartEvent, Is, HubFits, StepFits}
use Rattle.live_node.specs.Calls.{seen_by, AnswersBy}
use Rattle.live_node.specs.Lives.{opening_at}
use Rattle.live_node.proofs.Right.{right_then, answers_between}
use Rattle.live_node.proofs.Opened.{over_at}
use Rattle.live_node.proofs.Stepping.{by_lent, fits_alone, is_setup, counts_by, step_fits}
use Rattle.live_node.proofs.Raiding.{turn_shown}
use Rattle.live_node.proofs.live.Live.turn_at.Goals as goal

pub take_part-sprig-requires-clause-part : goal.take_part-sprig-requires-clause-part
take_part-sprig-requires-clause-part g c = subst (λ (n : ℕ). c.args.part < n) (sym c.known.ensures.all) c.requires.there

pub part_turn-answer-requires : goal.part_turn-answer-requires
part_turn-answer-requires g c =
    let o = opening_at c.args.self.now in
    let hub = by_lent c.deref_mut.ensures.value c.take_hub-hub.ensures.fits in
    let sprig = c.take_hub-hub.ensures.still c.args.part c.take_part-sprig.result c.take_part-sprig.ensures.pass.1 c.take_part-sprig.ensures.fits in record {
      stand = (
        setup_at o,
        state_at o (seen_by (view c.take_hub-hub.new.pass)),
        c.args.part,
        c.requires.part,
        is_setup (fits_alone (over_at c.self.view_is c.self.invariant.0) hub),
        record { sprig_stands = sprig; shelf_stands = hub.stands },
      );
    }

pub give_step-requires-clause-made : goal.give_step-requires-clause-made
give_step-requires-clause-made g c =
    let view' = g.D.Disk.view in
    let o = opening_at c.args.self.now in
    let hub = by_lent c.deref_mut.ensures.value c.take_hub-hub.ensures.fits in
    let fits = fits_alone (over_at c.self.view_is c.self.invariant.0) hub in
    let sprig = c.take_part-sprig.result in
    let sprig_fits = c.take_hub-hub.ensures.still c.args.part sprig c.take_part-sprig.ensures.pass.1 c.take_part-sprig.ensures.fits in
    let took = c.part_turn-answer in
    let answer = turn_answer took.result in
    let raid = c.args.raid.now in
    subst (λ (turn : Turn). (e : PartEvent) × StepFits view' o (seen_by (view c.take_hub-hub.new.pass)) (Is (turn_call turn.number (turn_of turn.next) turn.now) (λ a. a ≡ answer)) c.args.part
    took.new.shelf c.plus.result took.new.sprig e) (sym c.next_turn-turn.ensures)
    (step_fits fits (λ _. c.args.part) c.args.part (turn_call raid.number (turn_of raid.next) c.args.now) (λ a. a ≡ answer) sprig took.new.sprig took.new.shelf c.plus.result
    refl c.requires.part tt (took.ensures.geometry, took.ensures.limits) (λ honest. subst (λ (d : _). IsHonest (view' d)) (sym took.ensures.disk) honest) sprig_fits
    (counts_by c.take_hub-hub.result.tally.value c.tally-before.result c.tally.result c.minus.result c.plus.result c.args.part sprig took.new.sprig
    c.tally-before.ensures c.tally.ensures (c.minus.ensures ∙ ap (λ (t : Tally). parted t c.tally-before.result) c.deref.ensures) c.plus.ensures (omega arith) (omega arith) (omega arith))
    (λ x s is stand. (answer, refl, (took.ensures.makes x s c.args.part c.requires.part is.of_shelf is.raid_age stand).makes)))

pub returns-clause-turn : goal.returns-clause-turn
returns-clause-turn g c =
    let view' = g.D.Disk.view in
    let o = opening_at c.args.self.now in
    let v0 = view c.args.pass.now in let v1 = view c.take_part-sprig.new.pass in let v2 = view c.take_hub-hub.new.pass in let v3 = view c.give_step.new.pass in let v4 = view c.give_part.new.pass in
    let took = c.part_turn-answer in
    let raid = c.args.raid.now in
    let answer = turn_answer took.result in
    let turn = c.next_turn-turn.result in
    let gave = c.give_step.ensures.once in
    let between =
    answers_between view' o v0 v2 v3 v4 (Is (turn_call turn.number (turn_of turn.next) turn.now) (λ a. a ≡ answer))
    (right_then view' o v0 v1 v2 [] [] c.take_part-sprig.ensures.right c.take_hub-hub.ensures.right) gave.0 c.give_part.ensures.right c.give_part.ensures.seen in
    let all = subst (λ (t : Turn). (by : AnswersBy view' o v0 v4 (Is (turn_call t.number (turn_of t.next) t.now) (λ a. a ≡ answer))) × (by.past ≡ seen_by v2)) c.next_turn-turn.ensures
    (between.0, between.1 ∙ gave.1) in
    turn_shown view' o v0 v4 c.args.now raid took.new.raid took.result all.0
    c.deref_mut.result.now c.take_hub-hub.result.tally.value (subst (λ (l : List Event). HubFits view' o l c.deref_mut.result.now c.take_hub-hub.result.tally.value) (sym all.1) (by_lent c.deref_mut.ensures.value c.take_hub-hub.ensures.fits))
    took.new.shelf c.plus.result (subst (λ (l : List Event). HubFits view' o l took.new.shelf c.plus.result) (sym c.give_part.ensures.seen) c.give_step.ensures.hub)
    took.ensures.taken (λ other. (took.ensures.stale other).0) took.ensures.follows took.ensures.kept
