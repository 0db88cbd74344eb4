use Rattle.std.proofs.Common.{◌≡◌, ℕ, ◌<◌, List, refl, sym, ◌∙◌, ap, subst}
use Rattle.std.specs.Prelude.{Option}
use Rattle.block_format.specs.declared.geometry.Geometry.{Geometry}
use Rattle.write_buffer.specs.Buffers.{BufferState}
use Rattle.block_shelf.specs.Lives.{LiveCopy, copies_in}
use Rattle.hold_book.specs.Holds.{with_pair}
use Rattle.block_shelf.specs.declared.place.Place.{Place}
use Rattle.block_shelf.specs.View.{ShelfView, IsShelf, IsLiveList}
use Rattle.block_shelf.specs.Calls.{IsPriorIn}
use Rattle.block_shelf.specs.Changes.{CanTake, StandsAt, with_requeued, with_written, without_copy}
use Rattle.block_shelf.specs.Appends.{IsPlaceFor, PutsCopy}
use Rattle.block_shelf.proofs.OneRecord.{read_at}
use Rattle.block_shelf.proofs.shelf.Shelf.put_here.Goals as goal

pub write-place-requires-clause-room : goal.write-place-requires-clause-room
write-place-requires-clause-room g c =
    let can = c.requires.room in
    subst (CanTake {D = g.row.D.Denot} c.args.units c.args.at) (sym c.replace.ensures.taken) (record { stands = can.stands; fills = can.fills; room = can.room })

-- the same place in the list behind a replacement
abbrev stands_still : {D : Type 0} (old new : ShelfView D) (p : Place) (at : ℕ) → new ≡ record (without_copy p old) { holds = new.holds } → StandsAt at old.buffers → StandsAt at new.buffers
stands_still {D} old new p at taken s = record { front = s.front; buffer = s.buffer; behind = s.behind; parts = ap (λ (x : ShelfView D). x.buffers) taken ∙ s.parts; before = s.before }

pub requeue-requires : goal.requeue-requires
requeue-requires g c =
    let there = subst (IsPriorIn c.args.self.now) c.in-Some.is c.requires.prior in
    let written = c.write-place.ensures.written (stands_still c.args.self.now c.replace.new.self c.in-Some.before c.args.at c.replace.ensures.taken c.requires.room.stands) in
    record {
      block = subst (λ (n : ℕ). c.in-Some.before.block < n)
          (sym (ap (λ (x : ShelfView g.row.D.Denot). x.geometry.blocks) (written.0) ∙ ap (λ (x : ShelfView g.row.D.Denot). x.geometry.blocks) c.replace.ensures.taken)) there.0;
    }

-- what the parts leave of the shelf
all_is : {D : Type 0} (old replaced written new : ShelfView D) (p : Place) → replaced ≡ record (without_copy p old) { holds = replaced.holds } → (w : ShelfView D)
    → written ≡ record replaced { buffers = w.buffers; lives = w.lives } → new ≡ with_requeued p.block written
    → new ≡ record old { buffers = w.buffers; lives = w.lives; holds = replaced.holds; queue = new.queue }
all_is {D} old replaced written new p taken w was requeued =
    requeued ∙ ap (λ (x : ShelfView D). record x { queue = (with_requeued p.block written).queue }) (was ∙ ap (λ (x : ShelfView D). record x { buffers = w.buffers; lives = w.lives }) taken)
    ∙ ap (λ (x : ShelfView D). record old { buffers = w.buffers; lives = w.lives; holds = replaced.holds; queue = x.queue }) (sym requeued)

pub returns-in-Some : goal.returns-in-Some
returns-in-Some g c =
    let digest = c.args.digest.now in
    let v = c.args.version.now in
    let old = c.args.self.now in
    let p : Place = c.in-Some.before in
    let without : ShelfView g.row.D.Denot = record (without_copy p old) { holds = c.replace.new.self.holds } in
    let at_rest = stands_still old c.replace.new.self p c.args.at c.replace.ensures.taken c.requires.room.stands in
    let all = all_is old c.replace.new.self c.write-place.new.self c.requeue.new.self p c.replace.ensures.taken
    (with_written digest v at_rest.front at_rest.buffer at_rest.behind c.replace.new.self) (c.write-place.ensures.written at_rest).0 c.requeue.ensures in
    let lives : c.requeue.new.self.lives ≡ c.write-place.new.self.lives = ap (λ (x : ShelfView g.row.D.Denot). x.lives) c.requeue.ensures in
    record {
      put = λ s.
          let parts = ap (λ (x : ShelfView g.row.D.Denot). x.buffers) c.self.view_is ∙ s.parts in
          let here : c.index.result.now ≡ s.buffer = read_at s.front s.buffer s.behind c.self.inside.buffers.items c.args.at parts s.before c.index.result.now c.index.ensures in
          let number : c.number-number.result ≡ s.buffer.number = c.number-number.ensures.number ∙ ap (λ (b : BufferState). b.number) here in
          let written = c.write-place.ensures.written (stands_still old c.replace.new.self p c.args.at c.replace.ensures.taken s) in
          subst (λ (o : Option Place). PutsCopy digest v o s.front s.buffer s.behind old c.requeue.new.self c.write-place.result) (sym c.in-Some.is)
          (record {
            without = without;
            gone = (refl, c.replace.ensures.held ∙ ap (λ (n : ℕ). with_pair old.holds.holds n p.block) number);
            written = c.requeue.ensures ∙ ap (with_requeued p.block) (written.0 ∙ ap (with_written digest v s.front s.buffer s.behind) c.replace.ensures.taken);
            place_is = written.1;
          });
      there = subst (λ (x : Geometry). IsPlaceFor x c.args.units c.write-place.result) (ap (λ (x : ShelfView g.row.D.Denot). x.geometry) c.replace.ensures.taken) c.write-place.ensures.place;
      disk = ap (λ (x : ShelfView g.row.D.Denot). x.disk) all;
      shape = record {
        geometry = ap (λ (x : ShelfView g.row.D.Denot). x.geometry) all;
        limits = ap (λ (x : ShelfView g.row.D.Denot). x.limits) all;
        raid =
            ap (λ (x : ShelfView g.row.D.Denot). x.raid) all;
      };
      whole = subst (IsShelf g.D.Disk.view) c.self.view_is c.self.invariant.0;
      each = λ block. subst (λ (l : List (List LiveCopy)). IsLiveList (copies_in block l)) (sym lives) (c.write-place.ensures.each block);
    }

pub returns-in-None : goal.returns-in-None
returns-in-None g c =
    let old = c.args.self.now in
    let written = (c.write.ensures.written c.requires.room.stands).0 in
    record {
      put = λ s.
          let written = c.write.ensures.written s in
          subst (λ (o : Option Place). PutsCopy c.args.digest.now c.args.version.now o s.front s.buffer s.behind old c.write.new.self c.write.result) (sym c.in-None.is)
          (record { without = old; gone = refl; written = written.0; place_is = written.1 });
      there = c.write.ensures.place;
      disk = ap (λ (x : ShelfView g.row.D.Denot). x.disk) written;
      shape = record {
        geometry = ap (λ (x : ShelfView g.row.D.Denot). x.geometry) written;
        limits = ap (λ (x : ShelfView g.row.D.Denot). x.limits) written;
        raid =
            ap (λ (x : ShelfView g.row.D.Denot). x.raid) written;
      };
      whole = subst (IsShelf g.D.Disk.view) c.self.view_is c.self.invariant.0;
      each = c.write.ensures.each;
    }
