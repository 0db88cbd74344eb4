use Rattle.std.proofs.Common.{◌++◌, take, arith, ◌∙◌}
use Rattle.node_session.proofs.Sending.{extends_on, parts_on}
use Rattle.node_session.proofs.replies.send.Goals as goal

pub loop-rest-preserved : goal.loop-rest-preserved
loop-rest-preserved g c =
    let was = c.loop-rest.invariant in
    let rest = c.loop-rest.rest.now in
    let n = c.in_ok-count.count in
    record {
      sent = was.sent ++ take n rest;
      parts = rw c.split_at.ensures.back (parts_on c.args.text.now was.sent rest n was.parts);
      extends = extends_on _ _ _ was.sent (take n rest) was.extends c.in_ok-count.ensures.bytes.extends;
      later = omega (arith, was.later, c.write_some.ensures.cause.later);
      left = c.write_some.ensures.left ∙ was.left;
      taken = c.write_some.ensures.taken ∙ was.taken;
      source_faults = c.write_some.ensures.source_faults ∙ was.source_faults;
    }
