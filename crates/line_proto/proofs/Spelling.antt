-- The line that is printed of a command spells it, and is as long as each other line that does.
use Rattle.std.proofs.Common.{◌≡◌, ℕ, ◌≤◌, List, [], ◌∷◌, ◌++◌, length, Option, Some, None, refl, sym, ap, ◌∙◌, arith, length-append}
use Rattle.std.specs.Prelude.{codes, decimal}
use Rattle.hex.specs.Hex.{lower_digits}
use Rattle.hex.proofs.HexLemmas.{decode_of-ok, decode_of-encode_lower, length-encode_with}
use Rattle.rec_format.specs.declared.version.Digest.{Digest}
use Rattle.line_proto.specs.declared.command.Command.{Command}
use Rattle.line_proto.specs.declared.command.Command.TheVariants as command
use Rattle.line_proto.specs.Lines.{line_limit, IsDigestText, IsExpectText, IsDataText, IsDigestLine, IsPutLine, IsCommandLine, HasLine, words_line, digest_text, expect_text, data_text, command_line}

-- ---- the parts

digest_spelled : (text : List ℕ) (digest : Digest) → IsDigestText text digest → IsDigestText (digest_text digest) digest × (length (digest_text digest) ≡ length text)
digest_spelled text digest is =
    let read = decode_of-ok text digest.0 is.bytes in
    let long = length-encode_with lower_digits digest.0 in
    (record { size = omega (arith, read.2, long, is.size); bytes = decode_of-encode_lower digest.0 read.3 }, omega (arith, read.2, long))

data_spelled : (text bytes : List ℕ) → IsDataText text bytes → IsDataText (data_text bytes) bytes × (length (data_text bytes) ≡ length text)
data_spelled text [] is = (refl, ap length (sym is))
data_spelled text (byte ∷ bytes) is =
    let read = decode_of-ok text (byte ∷ bytes) is in
    (decode_of-encode_lower (byte ∷ bytes) read.3, omega (arith, read.2, length-encode_with lower_digits (byte ∷ bytes)))

expect_spelled : (text : List ℕ) (expect : Option ℕ) → IsExpectText text expect → IsExpectText (expect_text expect) expect × (length (expect_text expect) ≡ length text)
expect_spelled text None is = (refl, ap length (sym is))
expect_spelled text (Some g) is = ((refl, is.1), ap length (sym is.0))

-- ---- the line

two_long : (w a b : List ℕ) → length b ≡ length a → length (w ++ 32 ∷ b) ≡ length (w ++ 32 ∷ a)
two_long w a b same = omega (arith, length-append w (32 ∷ a), length-append w (32 ∷ b))

printed_digest : (line word : List ℕ) (digest : Digest) → IsDigestLine line word digest → IsDigestLine (words_line (word ∷ digest_text digest ∷ [])) word digest
    × (length (words_line (word ∷ digest_text digest ∷ [])) ≡ length line)
printed_digest line word digest is =
    let spelled = digest_spelled is.text digest is.is_digest in
    (record { text = digest_text digest; is_digest = spelled.0; line_is = refl }, two_long word is.text (digest_text digest) spelled.1 ∙ ap length (sym is.line_is))

put_long : (a b c d x y z : List ℕ) → length x ≡ length a → length y ≡ length c → length z ≡ length d
    → length (words_line (codes "put" ∷ x ∷ b ∷ y ∷ z ∷ [])) ≡ length (words_line (codes "put" ∷ a ∷ b ∷ c ∷ d ∷ []))
put_long a b c d x y z one three four = omega (
  arith,
  length-append a (32 ∷ (b ++ 32 ∷ (c ++ 32 ∷ d))),
  length-append b (32 ∷ (c ++ 32 ∷ d)),
  length-append c (32 ∷ d),
  length-append x (32 ∷ (b ++ 32 ∷ (y ++ 32 ∷ z))),
  length-append b (32 ∷ (y ++ 32 ∷ z)),
  length-append y (32 ∷ z),
)

printed_put : (line : List ℕ) (digest : Digest) (ttl : ℕ) (expect : Option ℕ) (payload : List ℕ) → IsPutLine line digest ttl expect payload
    → IsPutLine (command_line (command.Put digest ttl expect payload)) digest ttl expect payload × (length (command_line (command.Put digest ttl expect payload)) ≡ length line)
printed_put line digest ttl expect payload is =
    let one = digest_spelled is.digest_text digest is.is_digest in
    let three = expect_spelled is.expect_text expect is.is_expect in
    let four = data_spelled is.data_text payload is.is_data in (
      record {
        digest_text = digest_text digest;
        expect_text = expect_text expect;
        data_text = data_text payload;
        is_digest = one.0;
        in_range = is.in_range;
        is_expect = three.0;
        is_data = four.0;
        line_is = refl;
      },
      put_long is.digest_text (decimal ttl) is.expect_text is.data_text (digest_text digest) (expect_text expect) (data_text payload) one.1 three.1 four.1 ∙ ap length (sym is.line_is),
    )

as_short : (a b : ℕ) → a ≡ b → b ≤ line_limit → a ≤ line_limit
as_short a b same short = omega arith

alone : (line word : List ℕ) → length line ≤ line_limit → line ≡ word → length word ≤ line_limit
alone line word short is = as_short (length word) (length line) (ap length (sym is)) short

-- what is printed of a command that has a line spells it
pub printed_spells : (c : Command) → HasLine c → IsCommandLine (command_line c) c
printed_spells (command.Put digest ttl expect payload) has =
    let put = printed_put has.0 digest ttl expect payload has.1.spells in record { short = as_short _ _ put.1 has.1.short; spells = put.0 }
printed_spells (command.Get digest) has = let one = printed_digest has.0 (codes "get") digest has.1.spells in record { short = as_short _ _ one.1 has.1.short; spells = one.0 }
printed_spells (command.Meta digest) has = let one = printed_digest has.0 (codes "meta") digest has.1.spells in record { short = as_short _ _ one.1 has.1.short; spells = one.0 }
printed_spells (command.Del digest) has = let one = printed_digest has.0 (codes "del") digest has.1.spells in record { short = as_short _ _ one.1 has.1.short; spells = one.0 }
printed_spells (command.Bury digest) has = let one = printed_digest has.0 (codes "bury") digest has.1.spells in record { short = as_short _ _ one.1 has.1.short; spells = one.0 }
printed_spells command.Flush has = record { short = alone has.0 (codes "flush") has.1.short has.1.spells; spells = refl }
printed_spells command.Heal has = record { short = alone has.0 (codes "heal") has.1.short has.1.spells; spells = refl }
printed_spells command.Defrag has = record { short = alone has.0 (codes "defrag") has.1.short has.1.spells; spells = refl }
printed_spells command.Expire has = record { short = alone has.0 (codes "expire") has.1.short has.1.spells; spells = refl }
printed_spells command.Raid has = record { short = alone has.0 (codes "raid") has.1.short has.1.spells; spells = refl }
printed_spells command.Stat has = record { short = alone has.0 (codes "stat") has.1.short has.1.spells; spells = refl }
printed_spells command.Restart has = record { short = alone has.0 (codes "restart") has.1.short has.1.spells; spells = refl }
printed_spells command.Quit has = record { short = alone has.0 (codes "quit") has.1.short has.1.spells; spells = refl }
