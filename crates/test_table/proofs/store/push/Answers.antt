use Rattle.std.proofs.Common.{ap}
use Rattle.turn_table.specs.Rule.{events}
use Rattle.turn_table.specs.Passes.{view, seen, opening_of}
use Rattle.test_table.specs.Piles.{IsPush}
use Rattle.test_table.specs.Notes.{values}
use Rattle.test_table.proofs.Pushing.{for_opening, unchanged}
use Rattle.test_table.proofs.store.push.Goals as goal

pub about-event-requires : goal.about-event-requires
about-event-requires g c =
    let held = ap (λ v. v.part) c.take_part-values.ensures.pass.1 in
    let past = values (events (seen c.take_hub-log.new.pass)) in
    for_opening (view c.take_hub-log.new.pass).opening (opening_of c.args.table.now)
    (λ o e. IsPush o past c.args.pile c.args.value c.in-Ok.answer c.place.new.log.before c.place.new.log.values.items c.place.new.values.items e) c.take_hub-log.ensures.pass.0.opened
    (c.in-Ok.ensures.ok (opening_of c.args.table.now) past c.take_hub-log.ensures.fits (c.take_hub-log.ensures.still c.args.pile c.take_part-values.result held c.take_part-values.ensures.fits))

pub give_part-requires-in-Err-clause-fits : goal.give_part-requires-in-Err-clause-fits
give_part-requires-in-Err-clause-fits g c =
    let held = ap (λ v. v.part) c.take_part-values.ensures.pass.1 in
    unchanged (opening_of c.args.table.now) (view c.take_part-values.new.pass) (view c.take_hub-log.new.pass)
    (view c.give_hub_back.new.pass) c.args.pile c.take_part-values.result.items c.place.new.values.items held
    c.take_hub-log.ensures.pass.1 c.give_hub_back.ensures.pass.1 c.in-Err.ensures.err.2 (c.take_hub-log.ensures.still c.args.pile c.take_part-values.result held c.take_part-values.ensures.fits)
