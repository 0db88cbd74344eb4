use Rattle.std.proofs.Common.{arith}
use Rattle.write_buffer.proofs.Sizes.{body_size}
use Rattle.block_shelf.proofs.load.load_copy.Goals as goal

pub read_at-requires : goal.read_at-requires
read_at-requires g c =
    let size = body_size c.args.geometry.now.block_size c.requires.geometry.block_size in
    omega (arith, size, c.start_of_block.ensures.room, c.requires.extent, c.requires.within, c.split_at_mut-copy.ensures.front_len)
