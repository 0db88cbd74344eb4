use Rattle.std.proofs.Common.{arith}
use Rattle.cold_scan.proofs.Room.{size_bounds}
use Rattle.sound_scan.proofs.bodies.tally_of.Goals as goal

pub overflow_sub-size : goal.overflow_sub-size
overflow_sub-size g c = omega (arith, (size_bounds c.args.geometry.now c.requires.geometry).0)
