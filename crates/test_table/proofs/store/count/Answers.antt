use Rattle.std.proofs.Common.{◌+◌, arith}
use Rattle.turn_table.specs.Rule.{events}
use Rattle.turn_table.specs.Passes.{view, seen, opening_of}
use Rattle.test_table.specs.Piles.{counted, IsCount}
use Rattle.test_table.specs.Notes.{values}
use Rattle.test_table.proofs.Pushing.{counts_as, for_opening}
use Rattle.test_table.proofs.store.count.Goals as goal

pub about-event-requires : goal.about-event-requires
about-event-requires g c =
    let past = values (events (seen c.take_hub-log.new.pass)) in
    let answer = c.from.result + c.len.result in
    for_opening (view c.take_hub-log.new.pass).opening (opening_of c.args.table.now)
    (λ o e. IsCount o past answer c.take_hub-log.result.before c.take_hub-log.result.values.items e) c.take_hub-log.ensures.pass.0.opened
    (counted answer, counts_as (opening_of c.args.table.now) past answer _ _ (omega (arith, c.from.ensures, c.len.ensures, c.take_hub-log.result.values.ok.0)) c.take_hub-log.ensures.fits)
