use Rattle.std.proofs.Common.{[]}
use Rattle.block_shelf.proofs.StartLives.{step_absent, step_fits}
use Rattle.block_shelf.proofs.start.ledger_of.Goals as goal

pub add-requires-clause-absent : goal.add-requires-clause-absent
add-requires-clause-absent c =
    step_absent c.args.geometry.now c.requires.geometry c.args.live.now c.requires.live c.loop-digest.digest-index c.loop-digest-test.true
    (record { 0 = [] }, record { block = 0; unit = 0; units = 0 })
    c.loop-digest.ledger c.loop-digest.invariant.0 c.loop-digest.invariant.1

pub add-requires-clause-fits : goal.add-requires-clause-fits
add-requires-clause-fits c =
    step_fits c.args.geometry.now c.requires.geometry c.args.live.now c.requires.live c.loop-digest.digest-index c.loop-digest-test.true (record { 0 = [] }, record { block = 0; unit = 0; units = 0 })
    c.loop-digest.ledger c.loop-digest.invariant.0 c.loop-digest.invariant.1
