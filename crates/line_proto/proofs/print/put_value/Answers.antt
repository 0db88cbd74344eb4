use Rattle.std.proofs.Common.{rules, ◌≡◌, ℕ, [], ◌∷◌, ◌++◌, subst}
use Rattle.std.specs.Prelude.{codes, decimal}
use Rattle.line_proto.specs.Lines.{data_text, words_line}
use Rattle.line_proto.proofs.Printing.{value_line}
use Rattle.line_proto.proofs.print.put_value.Goals as goal

pub returns-clause-ok : goal.returns-clause-ok
returns-clause-ok c =
    let generation : c.from.result ≡ c.args.stamp.gen_ = search rules in
    let words = subst (λ (n : ℕ). c.put_words.new.page ≡ c.args.page.now ++ words_line (codes "val" ∷ decimal n ∷ decimal c.args.stamp.lut ∷ decimal c.args.void ∷ []))
    generation c.in_ok-put_words.ensures.ok in
    value_line c.args.page.now c.put_words.new.page c.put_byte.new.page c.put_data.new.page c.put_byte-2.new.page
    (codes "val") (decimal c.args.stamp.gen_) (decimal c.args.stamp.lut) (decimal c.args.void) (data_text c.args.payload.now) c.put_byte-2.result
    words c.in_ok-put_byte.ensures.ok c.in_ok-put_data.ensures.ok c.put_byte-2.ensures.ok
