use Rattle.std.proofs.Common.{◌≡◌, sym, ap, subst}
use Rattle.law_lists.proofs.Each.{all_map}
use Rattle.rec_format.specs.Versions.{block_capacity}
use Rattle.block_shelf.specs.View.{ShelfView, IsBufferOf}
use Rattle.block_shelf.specs.Changes.{FillsAt, HasRoom, HasRoomAt}
use Rattle.block_shelf.proofs.StandingAt.{none_with_room, room_is_there, room_is_less}
use Rattle.block_shelf.proofs.shelf.Shelf.room_at.Goals as goal

pub returns-in-Some : goal.returns-in-Some
returns-in-Some g c =
    let bs = c.self.inside.buffers.items in
    let same = ap (λ (v : ShelfView g.row.D.Denot). v.buffers) c.self.view_is in
    let found : FillsAt c.args.stream c.in-Some.at bs = subst (FillsAt c.args.stream c.in-Some.at) (sym same) c.in-Some.ensures in
    subst (HasRoomAt c.args.stream c.args.units c.in-Some.at) same
    (room_is_there c.args.stream c.args.units bs c.in-Some.at found c.index.result.now c.index.ensures c.room.result c.room.ensures c.if-units-room.true)

pub returns-in_default : goal.returns-in_default
returns-in_default g c has =
    let i = c.self.inside in
    let bs = i.buffers.items in
    let same = ap (λ (v : ShelfView g.row.D.Denot). v.buffers) c.self.view_is in
    let shelf = c.self.invariant.0 in
    room_is_less c.args.stream c.args.units bs c.in-Some.at (subst (FillsAt c.args.stream c.in-Some.at) (sym same) c.in-Some.ensures) c.index.result.now c.index.ensures c.room.result
    c.room.ensures c.if-units-room.false
    shelf.order (block_capacity i.geometry.block_size) (all_map (IsBufferOf i.geometry i.next_number) (λ b. b.capacity ≡ block_capacity i.geometry.block_size) bs (λ b h. h.capacity) shelf.buffers)
    (subst (HasRoom c.args.stream c.args.units) (sym same) has)

pub returns-in_default-2 : goal.returns-in_default-2
returns-in_default-2 g c = none_with_room c.args.stream c.args.units c.args.self.now.buffers c.in_default.ensures
