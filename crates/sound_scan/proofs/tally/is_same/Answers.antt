use Rattle.std.proofs.Common.{◌*◌, arith}
use Rattle.std.proofs.lemmas.List.{length-take}
use Rattle.cold_scan.proofs.Room.{size_bounds}
use Rattle.sound_scan.proofs.tally.is_same.Goals as goal

pub read_at-requires : goal.read_at-requires
read_at-requires g c =
    let bounds = size_bounds c.args.geometry.now c.requires.geometry in
    let within = c.requires.there.1 in
    let start = c.start_of_block.ensures.room in
    let taken = length-take (16 * c.args.past.now.units) c.args.other.now in
    omega (arith, bounds.0, within, start, taken, c.requires.room)
