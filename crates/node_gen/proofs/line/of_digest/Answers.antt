use Rattle.std.proofs.Common.{append_assoc}
use Rattle.node_gen.proofs.line.of_digest.Goals as goal

pub returns-clause-bytes : goal.returns-clause-bytes
returns-clause-bytes c = rw (c.push_digest.ensures.bytes, c.push_str-2.ensures.bytes, c.push_str.ensures.bytes, c.new-line.ensures, c.digest_of.ensures) (simp append_assoc)
