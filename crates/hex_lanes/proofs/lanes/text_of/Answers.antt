use Rattle.hex_lanes.proofs.EachLane.{high_small, low_small, text_is}
use Rattle.hex_lanes.proofs.lanes.text_of.Goals as goal

pub digits_of-high-requires : goal.digits_of-high-requires
digits_of-high-requires c = high_small c.args.bytes c.fits-bytes.0 c.fits-bytes.1

pub digits_of-low-requires : goal.digits_of-low-requires
digits_of-low-requires c = low_small c.args.bytes c.fits-bytes.0 c.fits-bytes.1

pub returns : goal.returns
returns c =
    text_is c.args.bytes c.digits_of-high.result c.digits_of-low.result c.fits-bytes.0 c.fits-bytes.1 c.digits_of-high.ensures c.digits_of-low.ensures
