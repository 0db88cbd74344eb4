use Rattle.std.proofs.Common.{◌≡◌, ◌∙◌, ap, rules}
use Rattle.line_proto.specs.declared.line_end.LineEnd.TheVariants.{Whole, TooLong}
use Rattle.line_proto.specs.Stream.{line_end}
use Rattle.line_proto.proofs.Falling.{end_of_stream}
use Rattle.line_proto.proofs.open_line.OpenLine.lend.Goals as goal

pub returns-then-line-gt-LINE_LIMIT-clause-stream : goal.returns-then-line-gt-LINE_LIMIT-clause-stream
returns-then-line-gt-LINE_LIMIT-clause-stream c = λ line joins.
    let long : TooLong ≡ line_end c.so_far-line.result.now = search rules in
    end_of_stream c.args.self.now line c.args.last.now TooLong (long ∙ ap line_end c.so_far-line.ensures) joins

pub returns-clause-stream : goal.returns-clause-stream
returns-clause-stream c = λ line joins.
    let short : Whole c.so_far-line.result.now ≡ line_end c.so_far-line.result.now = search rules in
    end_of_stream c.args.self.now line c.args.last.now (Whole c.so_far-line.result.now) (short ∙ ap line_end c.so_far-line.ensures) joins
