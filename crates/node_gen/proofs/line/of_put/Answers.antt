use Rattle.std.proofs.Common.{arith}
use Rattle.node_gen.proofs.line.of_put.Goals as goal

pub push_bytes-requires : goal.push_bytes-requires
push_bytes-requires c = omega (arith, c.push_str.ensures.len, c.of_digest-line.ensures.len)

pub returns-clause-short : goal.returns-clause-short
returns-clause-short c = omega (arith, c.push_bytes.ensures.len, c.push_str.ensures.len, c.of_digest-line.ensures.len)
