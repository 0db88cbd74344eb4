use Rattle.std.proofs.Common.{arith}
use Rattle.cold_scan.proofs.Room.{size_bounds}
use Rattle.cold_scan.proofs.bodies.open_bodies.Goals as goal

pub overflow_sub-geometry : goal.overflow_sub-geometry
overflow_sub-geometry g c = omega (arith, (size_bounds c.args.geometry.now c.requires.geometry).0)
