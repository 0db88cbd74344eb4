use Rattle.std.proofs.Common.{◌≡◌, ◌≢◌, ℕ, ◌≤◌, Result, Ok, Err, sym, ◌∙◌, ap, subst}
use Rattle.std.specs.Prelude.{Option, None, IfErr, MatchResult}
use Rattle.rec_format.specs.Versions.{block_capacity}
use Rattle.model_device.specs.Events.{Cause}
use Rattle.write_buffer.specs.declared.stream.Stream.{Stream}
use Rattle.block_shelf.specs.declared.refusals.PutRefusal.{PutRefusal}
use Rattle.block_shelf.specs.declared.refusals.PutRefusal.TheVariants.{Memory, Fault}
use Rattle.block_shelf.specs.View.{ShelfView, IsShelf}
use Rattle.block_shelf.specs.Changes.{HasRoom, HasRoomAt, begin_refusal}
use Rattle.block_shelf.specs.Appends.{IsAppendRefusal, append_refusal, kept_free, stream_of}
use Rattle.block_shelf.proofs.Causes.{none_in_room, cause_in_new}
use Rattle.block_shelf.proofs.HavingRoom.{room_there, room_nowhere}
use Rattle.block_shelf.proofs.shelf.Shelf.may_append.Goals as goal

unfailed : (r : Result (Unit {0}) PutRefusal) → r ≢ Err Fault → r ≢ Err Memory → IfErr r (λ refusal. (refusal ≢ Memory) × (refusal ≢ Fault))
unfailed (Ok done) no_fault some_memory = tt
unfailed (Err refusal) no_fault some_memory = (λ is. some_memory (ap (λ (x : PutRefusal). Err x) is), λ is. no_fault (ap (λ (x : PutRefusal). Err x) is))

-- as the begin of a buffer is refused, or isn't
as_begun : (r : Result (Unit {0}) PutRefusal) (cause other : Option Cause) → other ≡ cause → MatchResult r (λ done. cause ≡ None) (IsAppendRefusal cause)
    → MatchResult r (λ done. other ≡ None) (IsAppendRefusal other)
as_begun r cause other same told = subst (λ (c : Option Cause). MatchResult r (λ done. c ≡ None) (IsAppendRefusal c)) (sym same) told

pub returns-in-Some-clause-causes : goal.returns-in-Some-clause-causes
returns-in-Some-clause-causes g c setup s is stands =
    let shelf : ShelfView g.row.D.Denot = c.args.self.now in
    let limit : c.capacity-capacity.result ≡ setup.capacity = c.capacity-capacity.ensures ∙ ap (λ (x : ShelfView g.row.D.Denot). block_capacity x.geometry.block_size) c.self.view_is
    ∙ sym is.shape.capacity in
    let room : HasRoomAt (stream_of c.args.class) c.args.units c.in-Some.field-0 shelf.buffers =
    subst (λ (x : Stream). HasRoomAt x c.args.units c.in-Some.field-0 shelf.buffers) c.stream_of.ensures c.in-Some.ensures in
    none_in_room setup s shelf stands is c.args.class c.args.units (subst (λ (n : ℕ). c.args.units ≤ n) limit c.if-units-capacity.false)
    (room_there g.D.Disk.view setup (stream_of c.args.class) s c.args.units shelf (subst (IsShelf g.D.Disk.view) c.self.view_is c.self.invariant.0) stands is c.in-Some.field-0 room)

pub returns-in-None-clause-causes : goal.returns-in-None-clause-causes
returns-in-None-clause-causes g c setup s is stands =
    let shelf : ShelfView g.row.D.Denot = c.args.self.now in
    let limit : c.capacity-capacity.result ≡ setup.capacity = c.capacity-capacity.ensures ∙ ap (λ (x : ShelfView g.row.D.Denot). block_capacity x.geometry.block_size) c.self.view_is
    ∙ sym is.shape.capacity in
    let none : HasRoom (stream_of c.args.class) c.args.units shelf.buffers → ⊥ = subst (λ (x : Stream). HasRoom x c.args.units shelf.buffers → ⊥) c.stream_of.ensures c.in-None.ensures in
    as_begun c.may_begin.result (begin_refusal (kept_free c.args.class) shelf) (append_refusal setup c.args.class c.args.units s.book)
    (cause_in_new setup s shelf stands is c.args.class c.args.units (subst (λ (n : ℕ). c.args.units ≤ n) limit c.if-units-capacity.false)
    (room_nowhere g.D.Disk.view setup (stream_of c.args.class) s c.args.units shelf c.may_begin.ensures.whole stands is none))
    c.may_begin.ensures.refusal

pub returns-in-None-clause-unfailed : goal.returns-in-None-clause-unfailed
returns-in-None-clause-unfailed g c = unfailed c.may_begin.result c.may_begin.ensures.unfailed c.may_begin.ensures.unwanting
