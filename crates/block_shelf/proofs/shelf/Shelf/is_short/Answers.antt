use Rattle.std.proofs.Common.{◌≡◌, ◌+◌, ◌*◌, List, get_or, sym, ◌∙◌, ap, subst}
use Rattle.std.proofs.lemmas.List.{get_or_at}
use Rattle.std.specs.Prelude.{Contains, nat_lt}
use Rattle.rec_format.specs.Versions.{block_capacity}
use Rattle.write_buffer.specs.Buffers.{BufferState, used_units}
use Rattle.write_buffer.specs.declared.stream.Stream.TheVariants.{Defrag}
use Rattle.block_shelf.specs.View.{ShelfView, IsShelf}
use Rattle.block_shelf.specs.Changes.{FillsAt}
use Rattle.block_shelf.proofs.OverDead.{short_at, stands_there}
use Rattle.block_shelf.proofs.shelf.Shelf.is_short.Goals as goal

pub returns-in-Some : goal.returns-in-Some
returns-in-Some g c =
    let shelf = c.args.self.now in
    let inside = c.self.inside in
    let at : FillsAt Defrag c.in-Some.at shelf.buffers = c.in-Some.ensures in
    let b = at.stands in
    let other = c.index.result.now in
    let read : c.index.result.now ≡ b.buffer =
    c.index.ensures ∙ ap (λ (v : ShelfView g.row.D.Denot). get_or v.buffers c.in-Some.at other) c.self.view_is ∙ ap (λ (bs : List BufferState). get_or bs c.in-Some.at other) b.parts
    ∙ get_or_at b.front b.buffer b.behind other c.in-Some.at b.before in
    let whole = subst (IsShelf g.D.Disk.view) c.self.view_is c.self.invariant.0 in
    short_at shelf shelf.next_number whole.buffers whole.order b.buffer
    (subst (λ (bs : List BufferState). Contains bs b.buffer) (sym b.parts) (stands_there b.front b.buffer b.behind)) at.fills
    c.room-room.result c.capacity.result (subst (λ (x : BufferState). used_units x + c.room-room.result ≡ x.capacity) read c.room-room.ensures)
    (c.capacity.ensures ∙ ap (λ (v : ShelfView g.row.D.Denot). block_capacity v.geometry.block_size) c.self.view_is)
    c.is_below_share.result (c.is_below_share.ensures ∙ ap (λ (v : ShelfView g.row.D.Denot). nat_lt (c.room-room.result * 100) (v.limits.lwm * c.capacity.result)) c.self.view_is)
