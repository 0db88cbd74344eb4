use Rattle.hex_lanes.proofs.EachLane.{joined_is}
use Rattle.hex_lanes.proofs.lanes.bytes_of.Goals as goal

pub returns : goal.returns
returns c = joined_is c.args.halves c.fits-halves.0 c.requires
