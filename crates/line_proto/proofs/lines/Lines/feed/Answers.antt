use Rattle.std.proofs.Common.{List, [], ◌∷◌, ◌++◌, ◌∙◌, ap, rules}
use Rattle.line_proto.specs.declared.line_end.LineEnd.{LineEnd}
use Rattle.line_proto.proofs.Feeding.{fed_piece}
use Rattle.line_proto.proofs.lines.Lines.feed.Goals as goal

pub returns-clause-ok : goal.returns-clause-ok
returns-clause-ok c =
    let here = c.self.inside in
    let next = c.next.inside in
    let reserved = ap (λ (l : List LineEnd). l ++ c.end-end.result ∷ []) c.in_ok-reserve.ensures.items in
    let moved = c.move_all.ensures ∙ ap (λ (l : List LineEnd). l ++ next.ready.items) (c.push_back_reserved.ensures.items ∙ reserved) in
    rw (← c.self.view_is) (λ bytes stands.
    fed_piece here.ready.items c.move_all.new.to.items c.end-end.result here.tail c.go_on-2.new.self
    (record { ready = next.ready.items; partial = next.tail.partial; size = next.tail.size }) bytes c.in-Some.first.now c.in-Some.others.now c.args.piece.now
    moved c.end-end.ensures.end (search rules) c.in-Some.ensures.0 stands c.in-Some.ensures.1 (rw c.next.view_is c.in_ok-next.ensures))
