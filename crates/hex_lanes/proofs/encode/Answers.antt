use Rattle.std.proofs.Common.{◌≡◌, ◌∙◌, ◌++◌, sym, ap, subst}
use Rattle.std.proofs.lemmas.Str.{IsUtf8-from_ascii}
use Rattle.std.specs.Str.{IsAscii}
use Rattle.hex.specs.Hex.{encode_lower, lower_digits}
use Rattle.hex.proofs.HexLemmas.{IsAscii-encode_with}
use Rattle.hex_lanes.proofs.Chunks.{IsAscii-lower_digits}
use Rattle.hex_lanes.proofs.encode.Goals as goal

pub from_utf8_unchecked-requires : goal.from_utf8_unchecked-requires
from_utf8_unchecked-requires c =
    let digits = IsAscii-encode_with lower_digits c.args.bytes.now IsAscii-lower_digits in
    let alone : c.encode_onto.new.text.items ≡ encode_lower c.args.bytes.now =
    c.in_ok-encode_onto.ensures.ok ∙ ap (λ l. l ++ encode_lower c.args.bytes.now) c.new-text.ensures.items in
    IsUtf8-from_ascii _ (subst IsAscii (sym alone) digits)
