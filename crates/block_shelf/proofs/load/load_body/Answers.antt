use Rattle.std.proofs.Common.{arith}
use Rattle.write_buffer.proofs.Sizes.{sized}
use Rattle.block_shelf.proofs.load.load_body.Goals as goal

pub read_at-requires : goal.read_at-requires
read_at-requires g c =
    let s = sized c.args.geometry.now.block_size c.requires.geometry.block_size in
    omega (arith, s.low, c.start_of_block.ensures.room, c.requires.room, c.requires.size)
