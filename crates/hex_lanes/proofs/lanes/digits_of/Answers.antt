use Rattle.hex_lanes.proofs.EachLane.{digits_are, digits_ok}
use Rattle.hex_lanes.proofs.lanes.digits_of.Goals as goal

pub swizzle : goal.swizzle
swizzle c = digits_ok c.args.halves c.fits-halves.0 c.requires

pub returns : goal.returns
returns c = digits_are c.args.halves c.fits-halves.0 c.requires
