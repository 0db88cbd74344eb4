use Rattle.block_shelf.proofs.ScanBlocks.{damage_there}
use Rattle.block_shelf.proofs.vacate.listed_in.Goals as goal

pub returns-in-Err-clause-listed : goal.returns-in-Err-clause-listed
returns-in-Err-clause-listed c g long = damage_there g c.args.body.now c.args.block c.in-Err.place long c.in-Err.ensures.refused
