use Rattle.std.proofs.Common.{ap, arith}
use Rattle.turn_table.specs.Rule.{events}
use Rattle.turn_table.specs.Passes.{seen, view}
use Rattle.test_threads.proofs.Adding.{added, kept, total-push}
use Rattle.test_threads.proofs.tests.counters.add.Goals as goal

pub give_hub-requires-clause-fits : goal.give_hub-requires-clause-fits
give_hub-requires-clause-fits g c =
    let p = total-push (events (seen c.take_hub-total.new.pass)) (c.args.part, c.args.amount) in
    omega (arith, p, c.take_hub-total.ensures.fits, c.in-Some-Some.ensures')

pub give_part-requires-clause-fits : goal.give_part-requires-clause-fits
give_part-requires-clause-fits g c =
    let held = ap (λ v. v.part) c.take_part-counter.ensures.pass.1 in
    added (view c.take_part-counter.new.pass) (view c.take_hub-total.new.pass) (view c.give_hub.new.pass) c.args.part c.take_part-counter.result held c.take_hub-total.ensures.pass.1
    (c.take_hub-total.ensures.still c.args.part c.take_part-counter.result held c.take_part-counter.ensures.fits) c.args.amount c.in-Some-Some.counter c.give_hub.ensures.pass.1
    c.in-Some-Some.ensures.1

pub give_part-requires-in_default-clause-fits : goal.give_part-requires-in_default-clause-fits
give_part-requires-in_default-clause-fits g c =
    let held = ap (λ v. v.part) c.take_part-counter.ensures.pass.1 in
    kept (view c.take_part-counter.new.pass) (view c.take_hub-total.new.pass) (view c.give_hub_back.new.pass) c.args.part c.take_part-counter.result held c.take_hub-total.ensures.pass.1
    (c.take_hub-total.ensures.still c.args.part c.take_part-counter.result held c.take_part-counter.ensures.fits) c.give_hub_back.ensures.pass.1
