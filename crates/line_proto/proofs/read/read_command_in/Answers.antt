use Rattle.std.proofs.Common.{◌≡◌, ◌≤◌, ◌↔◌, ◌∙◌, ℕ, List, ◌∷◌, ◌++◌, length, sym, arith}
use Rattle.std.specs.Prelude.{Option, Some, Result, Ok, Err, IfOk, IfSome, codes}
use Rattle.std.specs.Cmp.Lexicographic.{same_text, other_text}
use Rattle.line_proto.specs.declared.command.Command.{Command}
use Rattle.line_proto.specs.Lines.{line_limit, IsCommandLine, IsInRange, IsPutToData}
use Rattle.line_proto.specs.Reading.{IsWord, IsPutCommand, IsPutFront}
use Rattle.line_proto.proofs.Words.{line_of_digest, line_of_put, line_of_alone, read_in_range}
use Rattle.line_proto.proofs.read.read_command_in.Goals as goal

-- what stands behind `put ` is read as the line is
put_read : {E : Type 0} (line word text : List ℕ) (read : Result (Option Command) E) → length line ≤ line_limit → (line ≡ word ++ 32 ∷ text) × IsWord word → word ≡ codes "put"
    → IfOk read (λ r. (c : Command) → (r ≡ Some c) ↔ IsPutCommand text c) → IfOk read (λ r. (c : Command) → (r ≡ Some c) ↔ IsCommandLine line c) × IfOk read (λ r. IfSome r IsInRange)
put_read line word text (Ok read) fits parted is_put reads = let exact = line_of_put line word text read fits parted is_put reads in (exact, read_in_range line read exact)
put_read line word text (Err e) fits parted is_put reads = (tt, tt)

put_to_data : (line word text : List ℕ) → length line ≤ line_limit → (line ≡ word ++ 32 ∷ text) × IsWord word → word ≡ codes "put" → IsPutFront text → IsPutToData line
put_to_data line word text fits parted is_put front = record {
  short = fits;
  digest = front.digest;
  ttl = front.ttl;
  expect = front.expect;
  digest_text = front.digest_text;
  expect_text = front.expect_text;
  data_text = front.data_text;
  is_digest = front.is_digest;
  in_range = front.in_range;
  is_expect = front.is_expect;
  some = front.some;
  line_is = parted.0 ∙ (λ i. is_put i ++ 32 ∷ front.spelled i);
}

pub returns : goal.returns
returns c =
    let exact =
    line_of_digest c.args.line.now c.in-Some.word.now c.in-Some.text.now c.of_digest.result (omega arith) c.in-Some.ensures
    (λ is. other_text c.in-Some.word.now _ c.if-eq.ensures (is ∙ sym c.as_slice.ensures)) c.of_digest.ensures in
    record { exact = exact; memory = λ wrong. cc; in_range = read_in_range c.args.line.now c.of_digest.result exact }

pub returns-in_default : goal.returns-in_default
returns-in_default c =
    let exact = line_of_alone c.args.line.now c.alone_of.result (omega arith) c.in_default.ensures c.alone_of.ensures in
    record { exact = exact; memory = λ wrong. cc; in_range = read_in_range c.args.line.now c.alone_of.result exact }

pub returns-then-eq : goal.returns-then-eq
returns-then-eq c =
    let read =
    put_read c.args.line.now c.in-Some.word.now c.in-Some.text.now c.put_of.result (omega arith) c.in-Some.ensures (same_text c.in-Some.word.now _ c.if-eq.ensures ∙ c.as_slice.ensures)
    c.put_of.ensures.read in
    record {
      exact = read.0;
      memory = λ failed.
          put_to_data c.args.line.now c.in-Some.word.now c.in-Some.text.now (omega arith) c.in-Some.ensures (same_text c.in-Some.word.now _ c.if-eq.ensures ∙ c.as_slice.ensures)
          (c.put_of.ensures.memory failed);
      in_range = read.1;
    }
