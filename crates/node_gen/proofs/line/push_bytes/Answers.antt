use Rattle.std.proofs.Common.{sym, subst, rules}
use Rattle.std.specs.Prelude.{IsUtf8}
use Rattle.node_gen.specs.Script.{equal_bytes}
use Rattle.node_gen.proofs.HexText.{hex_is_text}
use Rattle.node_gen.proofs.line.push_bytes.Goals as goal

pub unreachable-requires-in_default-from_utf8 : goal.unreachable-requires-in_default-from_utf8
unreachable-requires-in_default-from_utf8 c = c.in_default-from_utf8.ensures.cases.0 (subst IsUtf8 (sym c.in-Ok.ensures.written) (hex_is_text _))

pub returns-clause-bytes : goal.returns-clause-bytes
unfolding equal_bytes
returns-clause-bytes c = search rules
