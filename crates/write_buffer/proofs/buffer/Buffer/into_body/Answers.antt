use Rattle.std.proofs.Common.{◌≡◌, ◌+◌, ◌*◌, length, subst}
use Rattle.block_format.specs.Layout.{IsBody}
use Rattle.write_buffer.specs.Buffers.{BufferState, body_in}
use Rattle.write_buffer.proofs.Appending.{is_body, length-bytes}
use Rattle.write_buffer.proofs.buffer.Buffer.into_body.Goals as goal

pub returns-clause-body : goal.returns-clause-body
returns-clause-body c =
    subst (λ (b : BufferState). IsBody b.capacity c.self.inside.bytes.items (body_in b)) c.self.view_is (is_body _ _ _ c.self.invariant)

pub returns-clause-size : goal.returns-clause-size
returns-clause-size c =
    subst (λ (b : BufferState). length c.self.inside.bytes.items ≡ 32 + 16 * b.capacity) c.self.view_is (length-bytes _ _ _ c.self.invariant)
