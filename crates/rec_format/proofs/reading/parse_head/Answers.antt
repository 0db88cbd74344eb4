-- Either the tests are those of a head, or some test refuses the bytes.
use Rattle.std.proofs.Common.{◌≡◌, ◌∙◌, ap, sym, false, Ok, subst, arith}
use Rattle.std.proofs.lemmas.List.{take_all}
use Rattle.std.proofs.lemmas.Bool.{both_ways}
use Rattle.std.specs.Prelude.{Result}
use Rattle.rec_format.specs.declared.version.BadRec.{BadRec}
use Rattle.rec_format.specs.declared.version.Head.{Head}
use Rattle.rec_format.specs.RecordText.{CanBeHead, head_text}
use Rattle.rec_format.specs.RecordFlaws.{has_wrong_flags, has_wrong_magic, has_wrong_stamp, head_in}
use Rattle.rec_format.proofs.BytesFit.{AreBytes, bytes_below}
use Rattle.rec_format.proofs.HeadText.{head_from, text_from, tests_of}
use Rattle.rec_format.proofs.reading.parse_head.Goals as goal

pub returns-then-is_stamp_wrong-clause-head : goal.returns-then-is_stamp_wrong-clause-head
returns-then-is_stamp_wrong-clause-head c = λ h. (
  (λ e. cc),
  (λ ok. absurd (both_ways (has_wrong_stamp c.args.bytes.now) (tests_of c.args.bytes.now h ok.0 ok.1).stamp (sym c.is_stamp_wrong.ensures ∙ c.if-is_stamp_wrong.true))),
)

pub returns-clause-head : goal.returns-clause-head
returns-clause-head c =
    let xs = c.args.bytes.now in
    let magic : has_wrong_magic xs ≡ false = sym c.is_magic_wrong.ensures ∙ c.if-is_magic_wrong.false in
    let flags : has_wrong_flags xs ≡ false = sym c.are_flags_wrong.ensures ∙ c.if-are_flags_wrong.false in
    let stamp : has_wrong_stamp xs ≡ false = sym c.is_stamp_wrong.ensures ∙ c.if-is_stamp_wrong.false in
    let fit : AreBytes xs = bytes_below xs c.fits-bytes in
    let text : xs ≡ head_text (head_in xs) = sym (text_from xs fit (omega (arith, c.told-bytes)) magic flags ∙ take_all 48 xs (omega (arith, c.told-bytes))) in
    let sound : CanBeHead (head_in xs) = head_from xs fit (omega (arith, c.told-bytes)) flags stamp in
    λ h. (
      (λ e. let same : head_in xs ≡ h = sym c.read_head.ensures ∙ same_ok e in (subst CanBeHead same sound, text ∙ ap head_text same)),
      (λ ok. ap Ok (c.read_head.ensures ∙ (tests_of xs h ok.0 ok.1).fields)),
    )
  where
    same_ok : {a b : Head} → ◌≡◌ {A = Result Head BadRec} (Ok a) (Ok b) → a ≡ b
    same_ok e = cc
