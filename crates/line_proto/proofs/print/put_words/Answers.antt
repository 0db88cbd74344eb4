use Rattle.line_proto.proofs.Printing.{added_on, words_of}
use Rattle.line_proto.proofs.print.put_words.Goals as goal

pub returns-clause-ok : goal.returns-clause-ok
returns-clause-ok c = added_on c.args.page.now _ _ _ c.put.new.page c.put_numbers.new.page c.put_numbers.result
    c.in_ok-put.ensures.ok (words_of c.args.word.now c.args.numbers.now) c.put_numbers.ensures.ok
