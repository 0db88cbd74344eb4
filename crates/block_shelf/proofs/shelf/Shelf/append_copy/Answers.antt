use Rattle.std.proofs.Common.{◌≡◌, ◌≤◌, ℕ, Err, length, sym, ◌∙◌, ap, subst}
use Rattle.law_lists.proofs.Answers.{passed_on}
use Rattle.rec_format.specs.Places.{device_number}
use Rattle.rec_format.specs.Versions.{version_units, block_capacity}
use Rattle.block_shelf.specs.declared.refusals.PutRefusal.{PutRefusal}
use Rattle.block_shelf.specs.View.{ShelfView, IsShelf}
use Rattle.block_shelf.specs.Calls.{IsPriorIn}
use Rattle.block_shelf.specs.Changes.{CanTake, HasRoomAt, SameButRoom, with_begun}
use Rattle.block_shelf.specs.Appends.{AppendsCopy, ready_for, stream_of, with_first_shut}
use Rattle.block_shelf.proofs.Roomed.{room_prior}
use Rattle.block_shelf.proofs.Appended.{begun_prior, shut_prior}
use Rattle.block_shelf.proofs.FoundRoom.{stands_within, told_room, told_no_room, can_in_room, can_in_new}
use Rattle.block_shelf.proofs.Appending.{too_big_for, lacks_memory, cannot_begin, appends_in_room, appends_in_new}
use Rattle.block_shelf.proofs.shelf.Shelf.append_copy.Goals as goal
use Rattle.block_shelf.proofs.shelf.Shelf.append_copy.Goals.{in-Some+in_ok-reserve_at-in-Some, in-None+in_ok-begin-in-None}

pub returns-then-units-capacity : goal.returns-then-units-capacity
returns-then-units-capacity g c =
    let old = c.args.self.now in
    let whole : IsShelf g.D.Disk.view old = subst (IsShelf g.D.Disk.view) c.self.view_is c.self.invariant.0 in
    too_big_for g.D.Disk.view g.met.D.Disk.is_disk c.args.class c.args.digest.now c.args.version.now c.args.prior old whole c.args.units c.capacity-capacity.result c.requires.units
    (c.capacity-capacity.ensures ∙ ap (λ (x : ShelfView g.row.D.Denot). block_capacity x.geometry.block_size) c.self.view_is) c.if-units-capacity.true

pub returns-in_err-reserve_at-in-Some : goal.returns-in_err-reserve_at-in-Some
returns-in_err-reserve_at-in-Some g c =
    let old = c.args.self.now in
    let new = c.reserve_at.new.self in
    let Q = AppendsCopy g.D.Disk.view c.args.class c.args.digest.now c.args.version.now c.args.prior old new in
    let whole : IsShelf g.D.Disk.view old = subst (IsShelf g.D.Disk.view) c.self.view_is c.self.invariant.0 in
    passed_on c.from_residual.result c.in_err-reserve_at-in-Some.field-0.0 Q c.from_residual.ensures.1
    (subst (λ (r : PutRefusal). Q (Err r)) (sym c.in_err-reserve_at-in-Some.ensures.memory)
    (lacks_memory g.D.Disk.view g.met.D.Disk.is_disk c.args.class c.args.digest.now c.args.version.now c.args.prior old whole new c.reserve_at.ensures.same))

pub returns-in_err-begin-in-None : goal.returns-in_err-begin-in-None
returns-in_err-begin-in-None g c =
    let old = c.args.self.now in
    let new = c.begin.new.self in
    let v = c.args.version.now in
    let Q = AppendsCopy g.D.Disk.view c.args.class c.args.digest.now v c.args.prior old new in
    let whole : IsShelf g.D.Disk.view old = subst (IsShelf g.D.Disk.view) c.self.view_is c.self.invariant.0 in
    let fits : version_units v ≤ block_capacity old.geometry.block_size =
    subst (λ (m : ℕ). m ≤ block_capacity old.geometry.block_size) c.requires.units
    (subst (λ (m : ℕ). c.args.units ≤ m) (c.capacity-capacity.ensures
    ∙ ap (λ (x : ShelfView g.row.D.Denot). block_capacity x.geometry.block_size) c.self.view_is) c.if-units-capacity.false) in
    let full = told_no_room c.stream_of.result (stream_of c.args.class) c.args.units (version_units v) old.buffers c.stream_of.ensures c.requires.units c.in-None.ensures in
    passed_on c.from_residual-in_err-begin-in-None.result c.in_err-begin-in-None.field-0.0 Q c.from_residual-in_err-begin-in-None.ensures.1
    (cannot_begin g.D.Disk.view g.met.D.Disk.is_disk c.args.class c.args.digest.now v c.args.prior old whole fits full new c.in_err-begin-in-None.field-0.0 c.in_err-begin-in-None.ensures)

pub reserve_at-requires : goal.reserve_at-requires
reserve_at-requires g c = record { within = stands_within c.in-Some.at c.args.self.now.buffers c.in-Some.ensures.stands }

pub put_here-requires-clause-units : goal.put_here-requires-clause-units
put_here-requires-clause-units g c = c.requires.units

pub put_here-requires-clause-version : goal.put_here-requires-clause-version
put_here-requires-clause-version g c = c.requires.version

pub put_here-requires-clause-hold : goal.put_here-requires-clause-hold
put_here-requires-clause-hold g c =
    elim c.match-room_at.branch [
      | in-Some+in_ok-reserve_at-in-Some w ↦ subst (λ (x : ShelfView g.row.D.Denot). 1 ≤ x.holds.spare) (sym w.self-is) w.in_ok-reserve_at-in-Some.ensures.hold
      | in-None+in_ok-begin-in-None w ↦ subst (λ (x : ShelfView g.row.D.Denot). 1 ≤ x.holds.spare) (sym w.self-is) w.in_ok-begin-in-None.ensures.hold
    ]

pub put_here-requires-clause-named : goal.put_here-requires-clause-named
put_here-requires-clause-named g c =
    elim c.match-room_at.branch [
      | in-Some+in_ok-reserve_at-in-Some w ↦
          subst (λ (x : ShelfView g.row.D.Denot). device_number x.geometry.devices c.args.digest.now ≡ x.geometry.device) (sym (w.self-is ∙ w.reserve_at.ensures.same.rest)) c.requires.named
      | in-None+in_ok-begin-in-None w ↦
          subst (λ (x : ShelfView g.row.D.Denot). device_number x.geometry.devices c.args.digest.now ≡ x.geometry.device) (sym (w.self-is ∙ w.in_ok-begin-in-None.ensures.begun)) c.requires.named
    ]

pub put_here-requires-clause-room : goal.put_here-requires-clause-room
put_here-requires-clause-room g c =
    let old = c.args.self.now in
    let stream = stream_of c.args.class in
    let mid = c.match-room_at.self in
    let at = c.match-room_at.at in
    let n = c.args.units in
    elim c.match-room_at.branch [
      | in-Some+in_ok-reserve_at-in-Some w ↦
          let room : HasRoomAt stream n w.in-Some.at old.buffers =
          told_room c.stream_of.result stream n n w.in-Some.at w.in-Some.at old.buffers c.stream_of.ensures (λ i. n) (λ i. w.in-Some.at) w.in-Some.ensures in
          let can = can_in_room stream n w.in-Some.at old w.reserve_at.new.self w.reserve_at.ensures.same room in
          subst (λ (k : ℕ). CanTake n k c.match-room_at.self) (sym w.at-is) (subst (CanTake n w.in-Some.at) (sym w.self-is) can)
      | in-None+in_ok-begin-in-None w ↦
          let e = w.in_ok-begin-in-None.ensures in
          let begun = w.begin.new.self in
          let is_begun : mid ≡ with_begun stream (ready_for begun old) = w.self-is ∙ e.begun in
          let count : w.len.result ≡ length mid.buffers =
          w.len.ensures ∙ w.self-in-None.inside.buffers.ok.0 ∙ ap (λ (x : ShelfView g.row.D.Denot). length x.buffers) w.self-in-None.view_is
          ∙ ap (λ (x : ShelfView g.row.D.Denot). length x.buffers) (sym w.self-is) in
          let small : n ≤ block_capacity old.geometry.block_size =
          subst (λ (m : ℕ). n ≤ m) (c.capacity-capacity.ensures ∙ ap (λ (x : ShelfView g.row.D.Denot). block_capacity x.geometry.block_size) c.self.view_is) c.if-units-capacity.false in
          can_in_new stream n old begun mid at w.len.result is_begun w.at-is count small
    ]

pub put_here-requires-clause-prior : goal.put_here-requires-clause-prior
put_here-requires-clause-prior g c =
    let old = c.args.self.now in
    elim c.match-room_at.branch [
      | in-Some+in_ok-reserve_at-in-Some w ↦ subst (λ (x : ShelfView g.row.D.Denot). IsPriorIn x c.args.prior) (sym w.self-is)
          (room_prior old w.reserve_at.new.self w.reserve_at.ensures.same c.args.prior c.requires.prior)
      | in-None+in_ok-begin-in-None w ↦
          let e = w.in_ok-begin-in-None.ensures in
          let begun = w.begin.new.self in
          subst (λ (x : ShelfView g.row.D.Denot). IsPriorIn x c.args.prior) (sym (w.self-is ∙ e.begun))
          (begun_prior (stream_of c.args.class) (ready_for begun old) c.args.prior
          (room_prior (with_first_shut begun.disk old) (ready_for begun old) e.ready c.args.prior (shut_prior begun.disk old c.args.prior c.requires.prior)))
    ]

pub returns : goal.returns
returns g c =
    let d = g.D.Disk in
    let v = c.args.version.now in
    let old = c.args.self.now in
    let stream = stream_of c.args.class in
    let mid = c.match-room_at.self in
    let at = c.match-room_at.at in
    let n = c.args.units in
    let whole : IsShelf d.view old = subst (IsShelf d.view) c.self.view_is c.self.invariant.0 in
    let fits : version_units v ≤ block_capacity old.geometry.block_size =
    subst (λ (m : ℕ). m ≤ block_capacity old.geometry.block_size) c.requires.units
    (subst (λ (m : ℕ). c.args.units ≤ m) (c.capacity-capacity.ensures
    ∙ ap (λ (x : ShelfView g.row.D.Denot). block_capacity x.geometry.block_size) c.self.view_is) c.if-units-capacity.false) in
    elim c.match-room_at.branch [
      | in-Some+in_ok-reserve_at-in-Some w ↦
          let room : HasRoomAt stream (version_units v) at old.buffers =
          told_room c.stream_of.result stream n (version_units v) w.in-Some.at at old.buffers c.stream_of.ensures c.requires.units w.at-is w.in-Some.ensures in
          let same : SameButRoom old mid = subst (SameButRoom old) (sym w.self-is) w.reserve_at.ensures.same in
          appends_in_room d.view g.met.D.Disk.is_disk c.args.class c.args.digest.now v c.args.prior old whole fits c.requires.prior at n c.requires.units mid c.put_here.new.self
          c.put_here.result c.put_here.ensures same room
      | in-None+in_ok-begin-in-None w ↦
          let full = told_no_room c.stream_of.result stream n (version_units v) old.buffers c.stream_of.ensures c.requires.units w.in-None.ensures in
          let count : w.len.result ≡ length mid.buffers =
          w.len.ensures ∙ w.self-in-None.inside.buffers.ok.0 ∙ ap (λ (x : ShelfView g.row.D.Denot). length x.buffers) w.self-in-None.view_is
          ∙ ap (λ (x : ShelfView g.row.D.Denot). length x.buffers) (sym w.self-is) in
          appends_in_new d.view g.met.D.Disk.is_disk c.args.class c.args.digest.now v c.args.prior old whole fits c.requires.prior at n c.requires.units mid c.put_here.new.self
          c.put_here.result c.put_here.ensures full w.begin.new.self w.in_ok-begin-in-None.ensures w.self-is w.len.result w.at-is count
    ]
