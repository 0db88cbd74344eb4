use Rattle.std.proofs.Common.{arith, ◌∙◌}
use Rattle.std.proofs.lemmas.Simd.{length-put_chunk}
use Rattle.hex.specs.Hex.{lower_digits}
use Rattle.hex_lanes.proofs.Chunks.{encode_all, encode_step}
use Rattle.hex_lanes.proofs.encode_into.Goals as goal

pub chunks-preserved : goal.chunks-preserved
chunks-preserved c =
    let long = c.chunks.invariant.3 in (
      omega arith,
      omega arith,
      omega arith,
      length-put_chunk _ c.chunks.text c.text_of.result ∙ long,
      encode_step lower_digits c.args.bytes.now c.chunks.text c.text_of.result c.chunks.at c.chunks.step (omega arith) c.chunks.invariant.2 long c.text_of.ensures c.chunks.invariant.4,
    )

pub returns-then-at-bytes : goal.returns-then-at-bytes
returns-then-at-bytes c = encode_all lower_digits c.args.bytes.now c.chunks.text c.chunks.at c.if-at-bytes.true c.chunks.invariant.3 c.chunks.invariant.4
