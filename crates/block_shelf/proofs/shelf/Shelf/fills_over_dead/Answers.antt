use Rattle.std.proofs.Common.{◌≡◌, List, get_or, sym, ◌∙◌, ap, subst}
use Rattle.std.proofs.lemmas.List.{get_or_at}
use Rattle.std.specs.Prelude.{Contains}
use Rattle.write_buffer.specs.Buffers.{BufferState}
use Rattle.block_shelf.specs.View.{ShelfView, StandInOrder}
use Rattle.block_shelf.specs.Changes.{FillsAt}
use Rattle.block_shelf.proofs.OverDead.{over_filling, stands_there}
use Rattle.block_shelf.proofs.shelf.Shelf.fills_over_dead.Goals as goal

pub returns-in-Some : goal.returns-in-Some
returns-in-Some g c =
    let shelf = c.args.self.now in
    let at : FillsAt c.args.stream c.in-Some.at shelf.buffers = c.in-Some.ensures in
    let b = at.stands in
    let other = c.index.result.now in
    let read : c.index.result.now ≡ b.buffer =
    c.index.ensures ∙ ap (λ (v : ShelfView g.row.D.Denot). get_or v.buffers c.in-Some.at other) c.self.view_is ∙ ap (λ (bs : List BufferState). get_or bs c.in-Some.at other) b.parts
    ∙ get_or_at b.front b.buffer b.behind other c.in-Some.at b.before in
    over_filling c.args.stream shelf b.buffer (subst (λ (v : ShelfView g.row.D.Denot). StandInOrder v.buffers) c.self.view_is c.self.invariant.0.order)
    (subst (λ (bs : List BufferState). Contains bs b.buffer) (sym b.parts) (stands_there b.front b.buffer b.behind)) at.fills
    c.number.result (c.number.ensures.number ∙ ap (λ (x : BufferState). x.number) read) c.holds_dead.result c.holds_dead.ensures
