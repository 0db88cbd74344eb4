use Rattle.hex_lanes.proofs.EachLane.{halves_are}
use Rattle.hex_lanes.proofs.lanes.halves_of.Goals as goal

pub returns : goal.returns
returns c = halves_are c.args.text c.fits-text.0 c.fits-text.1
