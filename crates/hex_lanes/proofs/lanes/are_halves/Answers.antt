use Rattle.hex_lanes.proofs.EachLane.{are_halves_is}
use Rattle.hex_lanes.proofs.lanes.are_halves.Goals as goal

pub returns : goal.returns
returns c = are_halves_is c.args.halves c.fits-halves.0
