use Rattle.std.proofs.Common.{◌≤◌, length, refl, ap, sym, subst, ◌∙◌, false, arith}
use Rattle.std.specs.Prelude.{List, IfOk, IfSome, ◌≡◌, ◌<◌}
use Rattle.rec_format.specs.Versions.{block_capacity}
use Rattle.block_format.specs.Layout.{most_records}
use Rattle.block_format.specs.declared.geometry.Geometry.{Geometry}
use Rattle.model_device.specs.Events.{choose_call}
use Rattle.model_device.specs.Device.{State}
use Rattle.model_device.specs.Legal.{Allowed, queue_front}
use Rattle.defrag_pass.specs.Choosing.{choose_answer}
use Rattle.turn_table.specs.Passes.{view}
use Rattle.live_node.specs.Opening.{setup_at, state_at}
use Rattle.live_node.specs.Calls.{seen_by}
use Rattle.live_node.specs.Lives.{opening_at}
use Rattle.live_node.specs.Laws.{state_more}
use Rattle.live_node.specs.Vacates.{CanEmpty}
use Rattle.live_node.proofs.Leaving.{choose_still, low_chosen}
use Rattle.live_node.proofs.Right.{allowed_in}
use Rattle.live_node.proofs.Stepping.{by_lent, fits_alone, is_setup, hub_step_fits}
use Rattle.live_node.proofs.live.Live.choose_in.Goals as goal

pub give_alone-requires-clause-made : goal.give_alone-requires-clause-made
give_alone-requires-clause-made g c =
    let o = opening_at c.args.self.now in
    let chose = c.choose_step-answer in
    let hub = by_lent c.deref_mut-shelf.ensures.value c.requires.hub in
    let fits = fits_alone c.known.ensures hub in
    hub_step_fits fits choose_call (λ answer. answer ≡ choose_answer chose.result) chose.new.shelf refl tt
    (ap (λ x. x.geometry) chose.ensures.rest, ap (λ x. x.limits) chose.ensures.rest) chose.ensures.disk.honest
    (choose_answer chose.result, refl, chose.ensures.makes (setup_at o) (state_at o (seen_by (view c.args.pass.now))) (is_setup fits) hub.stands)

pub returns-clause-chosen : goal.returns-clause-chosen
returns-clause-chosen g c =
    let hub = by_lent c.deref_mut-shelf.ensures.value c.requires.hub in
    subst (λ (queue : List _). IfOk c.choose_step-answer.result (λ chosen. chosen ≡ queue_front queue)) (sym hub.stands.queue.same) c.choose_step-answer.ensures.first

pub returns-clause-lists : goal.returns-clause-lists
returns-clause-lists g c was =
    let o = opening_at c.args.self.now in
    let hub = by_lent c.deref_mut-shelf.ensures.value c.requires.hub in
    let safe = hub.safe was in
    c.choose_step-answer.ensures.all (setup_at o) (state_at o (seen_by (view c.args.pass.now))) safe.honest hub.stands safe.safe.safe

pub returns-clause-below : goal.returns-clause-below
returns-clause-below g c =
    let hub = by_lent c.deref_mut-shelf.ensures.value c.requires.hub in
    subst (λ (x : Geometry). IfOk c.choose_step-answer.result (λ chosen. IfSome chosen (λ block. block < x.blocks))) hub.geometry c.choose_step-answer.ensures.below

pub returns-clause-low : goal.returns-clause-low
returns-clause-low g c =
    let o = opening_at c.args.self.now in
    let chose = c.choose_step-answer in
    let hub = by_lent c.deref_mut-shelf.ensures.value c.requires.hub in
    let gave = c.give_alone.ensures.once in
    let by = gave.0 in
    let s = state_at o (seen_by (view c.args.pass.now)) in
    let still : state_at o (seen_by (view c.give_alone.new.pass)) ≡ s =
    ap (state_at o) by.last ∙ state_more o by.past by.event
    ∙ choose_still (setup_at o) false (state_at o by.past) by.event (subst (Allowed (setup_at o) false (state_at o by.past) by.event) by.said.is_call (allowed_in by)) ∙ ap (state_at o) gave.1 in
    subst (λ (t : State). IfOk chose.result (λ chosen. IfSome chosen (λ block. CanEmpty block t.book))) (sym still)
    (low_chosen chose.result s.book hub.stands.stands.order.booked (chose.ensures.low (setup_at o) s (is_setup (fits_alone c.known.ensures hub)) hub.stands))

pub returns-clause-few : goal.returns-clause-few
returns-clause-few g c =
    let bound = subst (λ (x : Geometry). length c.choose_step-answer.new.digests.items ≤ most_records (block_capacity x.block_size)) (sym c.geometry-shape.ensures.shape) c.choose_step-answer.ensures.few in omega (arith, bound)
