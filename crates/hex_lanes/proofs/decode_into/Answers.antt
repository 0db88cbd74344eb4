use Rattle.std.proofs.Common.{arith, length, refl, ◌*◌, ◌≡◌}
use Rattle.std.proofs.lemmas.List.{take_rest}
use Rattle.std.proofs.lemmas.Simd.{length-put_chunk}
use Rattle.hex_lanes.proofs.Chunks.{decode_all, decode_end, decode_step}
use Rattle.hex_lanes.proofs.decode_into.Goals as goal

pub chunks-preserved : goal.chunks-preserved
chunks-preserved c =
    let long = c.chunks.invariant.3 in
    let halves = c.halves_of-halves.result in
    let size : length halves ≡ 32 = omega arith in
    let kept = length-put_chunk c.chunks.at c.chunks.bytes c.bytes_of.result in
    let small = c.are_halves.ensures.0 c.if-not-are_halves.false in (
      omega (arith, kept),
      omega arith,
      omega arith,
      omega (arith, kept, long),
      rw c.bytes_of.ensures
          (decode_step c.args.text.now c.chunks.bytes halves c.chunks.at c.chunks.step (omega arith) c.chunks.invariant.2 long c.halves_of-halves.ensures size small c.chunks.invariant.4),
    )

pub returns-then-at-bytes : goal.returns-then-at-bytes
returns-then-at-bytes c = rw (decode_all c.args.text.now c.chunks.bytes c.chunks.at c.chunks.invariant.3 c.if-at-bytes.true c.chunks.invariant.4) (refl, refl)

pub returns-in-Ok : goal.returns-in-Ok
returns-in-Ok c =
    let text = c.args.text.now in
    let told = rw (take_rest text (2 * c.chunks.at)) at c.decode_to_slice-2.ensures.value in
    let left = c.split_at_mut-rest.ensures.back_len in
    let whole =
    decode_end text c.chunks.bytes c.decode_to_slice-2.new.out c.chunks.at _ c.decode_to_slice-2.result c.chunks.invariant.3 c.chunks.invariant.0
    (omega (arith, left)) c.chunks.invariant.4 told c.in-Ok.is
    in
    rw whole (refl, rw c.split_at_mut-rest.ensures.front refl)
