use Rattle.std.proofs.Common.{◌≡◌, List, refl, sym, ap, subst, ◌∙◌}
use Rattle.model_device.specs.Steps.{part_total}
use Rattle.model_device.specs.Events.{Event, turn_call}
use Rattle.raid_book.specs.declared.turn.RaidNext.{RaidNext}
use Rattle.raid_book.specs.Books.{BookState, FitsTurn}
use Rattle.raid_book.specs.Turns.{turn_of}
use Rattle.shard_raid.specs.Turns.{turn_answer}
use Rattle.turn_table.specs.Passes.{view}
use Rattle.live_node.specs.declared.raid.Turn.{Turn}
use Rattle.live_node.specs.Opening.{setup_at, state_at}
use Rattle.live_node.specs.Fits.{PartEvent, Is, HubFits, HubStepFits}
use Rattle.live_node.specs.Calls.{seen_by, AnswersBy}
use Rattle.live_node.specs.Lives.{opening_at}
use Rattle.live_node.proofs.Opened.{part_bounds}
use Rattle.live_node.proofs.Right.{answers_behind}
use Rattle.live_node.proofs.Stepping.{by_lent, fits_alone, is_setup, hub_step_fits}
use Rattle.live_node.proofs.Raiding.{none_own, none_next, turn_shown}
use Rattle.live_node.proofs.live.Live.turn_aside.Goals as goal

pub shelf_turn-answer-requires : goal.shelf_turn-answer-requires
shelf_turn-answer-requires g c = λ is.
    let o = opening_at c.args.self.now in
    let next = c.args.raid.now.next in
    let sprigs = c.known.ensures.opening.settings.sprigs in
    let at : c.next-next.result ≡ next = c.next-next.ensures.value ∙ ap (λ (b : BookState). b.next) c.raid.ensures.book ∙ sym is.next in
    let fits = subst (λ (b : BookState). FitsTurn next b) c.raid.ensures.book (subst (λ (n : RaidNext). FitsTurn n c.raid.result.now) at c.next-next.ensures.fits) in
    let hub = by_lent c.deref_mut-shelf.ensures.value c.take_hub-hub.ensures.fits in
    none_next next c.deref_mut-shelf.result.now.raid (part_total (setup_at o)) fits hub.stands.queue.raid.turns.parts
    (part_bounds o.shelf.geometry.device o.shelf.geometry.devices o.set.sprigs sprigs.0 sprigs.1).0 c.requires.aside

pub give_alone-requires-clause-made : goal.give_alone-requires-clause-made
give_alone-requires-clause-made g c =
    let view' = g.D.Disk.view in
    let o = opening_at c.args.self.now in
    let hub = by_lent c.deref_mut-shelf.ensures.value c.take_hub-hub.ensures.fits in
    let fits = fits_alone c.known.ensures hub in
    let took = c.shelf_turn-answer in
    let answer = turn_answer took.result in
    let raid = c.args.raid.now in
    let call = turn_call raid.number (turn_of raid.next) c.args.now in
    let made = (took.ensures.makes (setup_at o) (state_at o (seen_by (view c.take_hub-hub.new.pass))) c.args.now (is_setup fits) hub.stands).makes in
    subst (λ (turn : Turn). (e : PartEvent) × HubStepFits view' o (seen_by (view c.take_hub-hub.new.pass)) (Is (turn_call turn.number (turn_of turn.next) turn.now) (λ a. a ≡ answer))
    took.new.shelf c.take_hub-hub.result.tally.value e) (sym c.next_turn-turn.ensures)
    (hub_step_fits fits call (λ a. a ≡ answer) took.new.shelf (none_own (setup_at o) call c.requires.aside) tt (took.ensures.geometry, took.ensures.limits) took.ensures.honest (
      answer,
      refl,
      record {
        event = made.event;
        is_call = made.is_call;
        is_answer = made.is_answer;
        follows = made.follows;
        told = made.told;
        left = made.left;
        counted = made.counted;
        stands = made.stands.shelf_stands;
        placed = made.placed;
        safe = made.safe;
        leaves = made.leaves;
      },
    ))

pub returns-clause-turn : goal.returns-clause-turn
returns-clause-turn g c =
    let view' = g.D.Disk.view in
    let o = opening_at c.args.self.now in
    let v0 = view c.args.pass.now in let v1 = view c.take_hub-hub.new.pass in let v2 = view c.give_alone.new.pass in
    let took = c.shelf_turn-answer in
    let raid = c.args.raid.now in
    let answer = turn_answer took.result in
    let turn = c.next_turn-turn.result in
    let gave = c.give_alone.ensures.once in
    let tally = c.take_hub-hub.result.tally.value in
    let behind = answers_behind view' o v0 v1 v2 (Is (turn_call turn.number (turn_of turn.next) turn.now) (λ a. a ≡ answer)) c.take_hub-hub.ensures.right gave.0 in
    let all = subst (λ (t : Turn). (by : AnswersBy view' o v0 v2 (Is (turn_call t.number (turn_of t.next) t.now) (λ a. a ≡ answer))) × (by.past ≡ seen_by v1)) c.next_turn-turn.ensures
    (behind.0, behind.1 ∙ gave.1) in
    turn_shown view' o v0 v2 c.args.now raid took.new.raid took.result all.0
    c.deref_mut-shelf.result.now tally (subst (λ (l : List Event). HubFits view' o l c.deref_mut-shelf.result.now tally) (sym all.1) (by_lent c.deref_mut-shelf.ensures.value c.take_hub-hub.ensures.fits))
    took.new.shelf tally c.give_alone.ensures.hub
    took.ensures.taken (λ other. (took.ensures.stale other).0) took.ensures.follows took.ensures.kept
