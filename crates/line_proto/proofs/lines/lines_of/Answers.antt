use Rattle.std.proofs.Common.{[], ◌∷◌, ◌++◌, rules}
use Rattle.line_proto.proofs.Feeding.{next_stands, next_parts}
use Rattle.line_proto.proofs.lines.lines_of.Goals as goal

pub loop-line-preserved : goal.loop-line-preserved
loop-line-preserved c =
    let was = c.loop-line.invariant in
    let line = c.in-Some.line.now in
    record {
      gone = was.gone ++ (line ++ 10 ∷ []);
      parts = next_parts c.args.bytes.now was.gone c.loop-line.rest.now line c.in-Some.after.now was.parts c.in-Some.ensures.0;
      stands = next_stands c.loop-line.ready.items c.push_back.new.self.items c.end.result c.loop-line.tail c.go_on.new.self c.end.new.self was.gone line c.in_ok-push_back.ensures.items
          c.end.ensures.end (search rules) c.end.ensures.rest was.stands c.in-Some.ensures.1;
    }
