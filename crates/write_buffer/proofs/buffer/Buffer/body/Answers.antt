use Rattle.std.proofs.Common.{◌≡◌, ℕ, ◌+◌, ◌*◌, List, length, sym, ap, ◌∙◌, subst}
use Rattle.block_format.specs.Layout.{IsBody}
use Rattle.write_buffer.specs.Buffers.{BufferState, body_in}
use Rattle.write_buffer.proofs.Appending.{is_body, length-bytes}
use Rattle.write_buffer.proofs.buffer.Buffer.body.Goals as goal

pub returns-clause-body : goal.returns-clause-body
returns-clause-body c =
    subst (λ (r : List ℕ). IsBody c.args.self.now.capacity r (body_in c.args.self.now)) (sym c.as_slice.ensures.value)
    (subst (λ (b : BufferState). IsBody b.capacity c.self.inside.bytes.items (body_in b)) c.self.view_is (is_body _ _ _ c.self.invariant))

pub returns-clause-size : goal.returns-clause-size
returns-clause-size c =
    ap length c.as_slice.ensures.value
    ∙ subst (λ (b : BufferState). length c.self.inside.bytes.items ≡ 32 + 16 * b.capacity) c.self.view_is (length-bytes _ _ _ c.self.invariant)
