use Rattle.std.proofs.Common.{sym, subst}
use Rattle.std.specs.Prelude.{IsUtf8}
use Rattle.model_node.proofs.Digits.{digits_are_text}
use Rattle.model_node.proofs.report.push_digest.Goals as goal

pub unreachable-requires-in_default-from_utf8 : goal.unreachable-requires-in_default-from_utf8
unreachable-requires-in_default-from_utf8 c = c.in_default-from_utf8.ensures.cases.0 (subst IsUtf8 (sym c.in-Ok.ensures.written) (digits_are_text _))
