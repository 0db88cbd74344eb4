use Rattle.std.proofs.Common.{subst}
use Rattle.block_format.specs.declared.geometry.BodyRefusal.{BodyRefusal}
use Rattle.block_format.specs.Readings.{IsUnreadBy}
use Rattle.block_format.proofs.BodyLaws.{one_body}
use Rattle.block_shelf.proofs.ScanBlocks.{damage_there}
use Rattle.block_shelf.proofs.scan.found_in.Goals as goal

pub returns-in-Err-clause-read : goal.returns-in-Err-clause-read
returns-in-Err-clause-read c g long = damage_there g c.args.body.now c.args.block c.in-Err.place long c.in-Err.ensures.refused

pub returns-in-Err-clause-one_body : goal.returns-in-Err-clause-one_body
returns-in-Err-clause-one_body c = one_body

pub returns-in-Err-Bad-clause-read : goal.returns-in-Err-Bad-clause-read
returns-in-Err-Bad-clause-read c g long =
    damage_there g c.args.body.now c.args.block c.in-Err-Bad.place long
    (subst (λ (r : BodyRefusal). IsUnreadBy c.args.body.now c.args.block r) c.in-Err-Bad.field-0-is c.in-Err-Bad.ensures.refused)
