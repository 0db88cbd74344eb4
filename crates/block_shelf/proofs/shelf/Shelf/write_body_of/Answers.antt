use Rattle.std.proofs.Common.{◌≡◌, ◌<◌, ℕ, ◌+◌, ◌*◌, ◌∷◌, ◌++◌, [], List, refl, sym, ap, ◌∙◌, subst}
use Rattle.std.specs.List.{AllByRecursion}
use Rattle.std.specs.Prelude.{slice_set}
use Rattle.law_lists.proofs.Answers.{on_err}
use Rattle.law_lists.proofs.Between.{all_own}
use Rattle.disk_model.specs.Disk.{IsHonest}
use Rattle.block_format.specs.Layout.{body_bytes}
use Rattle.block_flusher.specs.Images.{HasOneBody}
use Rattle.model_faults.specs.Counts.{Rose}
use Rattle.model_device.specs.Book.{Setup}
use Rattle.model_device.specs.Device.{State}
use Rattle.write_buffer.specs.declared.phase.Phase.TheVariants.{Sealed, BodyDone}
use Rattle.write_buffer.specs.Buffers.{BufferState, with_phase}
use Rattle.write_buffer.proofs.Sizes.{body_size}
use Rattle.block_shelf.specs.Disks.{IsLater}
use Rattle.block_shelf.specs.View.{ShelfView, IsShelf, IsBufferOf}
use Rattle.block_shelf.specs.Standing.{StandsFor}
use Rattle.block_shelf.specs.Calls.{Goes}
use Rattle.block_shelf.specs.Flushes.{IsFirstAt, with_body}
use Rattle.block_shelf.proofs.FirstSealed.{FoundAt, IsFirstWith, found_at, first_is, set_first}
use Rattle.block_shelf.proofs.FlushShelf.{KeepsDisk}
use Rattle.block_shelf.proofs.FlushBody.{settled_phase, shut_before, tried_shelf, tried_goes, done_shelf, done_goes}
use Rattle.block_shelf.proofs.shelf.Shelf.write_body_of.Goals as goal

pub write_body-requires-clause-size : goal.write_body-requires-clause-size
write_body-requires-clause-size g c =
    let buffers : List BufferState = c.self.inside.buffers.items in
    let b : BufferState = c.index_mut-buffer.result.now in
    let first : FoundAt (λ x. x.phase ≡ Sealed) c.args.at buffers b =
    found_at (λ x. x.phase ≡ Sealed) c.args.at buffers b (subst (λ (v : ShelfView g.row.D.Denot). IsFirstWith (λ x. x.phase ≡ Sealed) c.args.at v.buffers) (sym c.self.view_is)
    (c.requires.first, c.requires.sealed c.requires.first)) c.index_mut-buffer.ensures.value in
    let own = all_own (IsBufferOf c.self.inside.geometry c.self.inside.next_number) first.front b first.behind
    (subst (AllByRecursion (IsBufferOf c.self.inside.geometry c.self.inside.next_number)) first.parts c.self.invariant.0.buffers) in
    c.body.ensures.size ∙ ap (λ (n : ℕ). 32 + 16 * n) own.capacity ∙ body_size c.self.inside.geometry.block_size c.self.invariant.0.geometry.block_size

pub write_body-requires-clause-shut : goal.write_body-requires-clause-shut
write_body-requires-clause-shut g c =
    let old : ShelfView g.row.D.Denot = record {
      disk = c.self.inside.disk;
      geometry = c.self.inside.geometry;
      limits = c.self.inside.limits;
      buffers = c.self.inside.buffers.items;
      gates =
          c.self.inside.gates.items;
      lives = c.self.inside.ledger;
      holds = c.self.inside.holds;
      free = c.self.inside.free.items;
      queue = c.self.inside.queue;
      cache = c.self.inside.cache;
      raid = c.self.inside.raid;
      next_number = c.self.inside.next_number;
    } in
    let b : BufferState = c.index_mut-buffer.result.now in
    let first : FoundAt (λ x. x.phase ≡ Sealed) c.args.at old.buffers b =
    found_at (λ x. x.phase ≡ Sealed) c.args.at old.buffers b
    (subst (λ (v : ShelfView g.row.D.Denot). IsFirstWith (λ x. x.phase ≡ Sealed) c.args.at v.buffers) (sym c.self.view_is) (c.requires.first, c.requires.sealed c.requires.first))
    c.index_mut-buffer.ensures.value in
    shut_before g.D.Disk.view old first.front b first.behind first.parts c.self.invariant.0 first.has c.block.result c.block.ensures

pub invariant_of-self : goal.invariant_of-self
invariant_of-self g c =
    let d = g.D.Disk in
    let law = g.met.D.Disk in
    let old : ShelfView g.row.D.Denot = record {
      disk = c.self.inside.disk;
      geometry = c.self.inside.geometry;
      limits = c.self.inside.limits;
      buffers = c.self.inside.buffers.items;
      gates =
          c.self.inside.gates.items;
      lives = c.self.inside.ledger;
      holds = c.self.inside.holds;
      free = c.self.inside.free.items;
      queue = c.self.inside.queue;
      cache = c.self.inside.cache;
      raid = c.self.inside.raid;
      next_number = c.self.inside.next_number;
    } in
    let b : BufferState = c.index_mut-buffer.result.now in
    let new = c.write_body.new.disk in
    let first : FoundAt (λ x. x.phase ≡ Sealed) c.args.at old.buffers b =
    found_at (λ x. x.phase ≡ Sealed) c.args.at old.buffers b
    (subst (λ (v : ShelfView g.row.D.Denot). IsFirstWith (λ x. x.phase ≡ Sealed) c.args.at v.buffers) (sym c.self.view_is) (c.requires.first, c.requires.sealed c.requires.first))
    c.index_mut-buffer.ensures.value in
    let call : KeepsDisk d.view old.disk new = record {
      is_disk = law.is_disk new;
      was_disk = law.is_disk old.disk;
      size = c.write_body.ensures.call.size;
      was_honest = c.write_body.ensures.call.was_honest;
      was_told = c.write_body.ensures.call.was_told;
      time = c.write_body.ensures.call.time;
    } in (
      subst (λ (bs : List BufferState). IsShelf d.view (record old { disk = new; buffers = bs })) (sym (first.set b b refl))
          (tried_shelf d.view old new first.front b first.behind first.parts c.self.invariant.0 call first.has c.block.result c.block.ensures c.write_body.ensures.images
          c.write_body.ensures.shut c.write_body.ensures.bytes),
      c.self.invariant.1,
      c.self.invariant.2,
    )

pub returns-in_err-write_body-clause-goes : goal.returns-in_err-write_body-clause-goes
returns-in_err-write_body-clause-goes g c =
    let d = g.D.Disk in
    let law = g.met.D.Disk in
    let old : ShelfView g.row.D.Denot = record {
      disk = c.self.inside.disk;
      geometry = c.self.inside.geometry;
      limits = c.self.inside.limits;
      buffers = c.self.inside.buffers.items;
      gates =
          c.self.inside.gates.items;
      lives = c.self.inside.ledger;
      holds = c.self.inside.holds;
      free = c.self.inside.free.items;
      queue = c.self.inside.queue;
      cache = c.self.inside.cache;
      raid = c.self.inside.raid;
      next_number = c.self.inside.next_number;
    } in
    let b : BufferState = c.index_mut-buffer.result.now in
    let new = c.write_body.new.disk in
    let first : FoundAt (λ x. x.phase ≡ Sealed) c.args.at old.buffers b =
    found_at (λ x. x.phase ≡ Sealed) c.args.at old.buffers b
    (subst (λ (v : ShelfView g.row.D.Denot). IsFirstWith (λ x. x.phase ≡ Sealed) c.args.at v.buffers) (sym c.self.view_is) (c.requires.first, c.requires.sealed c.requires.first))
    c.index_mut-buffer.ensures.value in
    let call : KeepsDisk d.view old.disk new = record {
      is_disk = law.is_disk new;
      was_disk = law.is_disk old.disk;
      size = c.write_body.ensures.call.size;
      was_honest = c.write_body.ensures.call.was_honest;
      was_told = c.write_body.ensures.call.was_told;
      time = c.write_body.ensures.call.time;
    } in
    subst (λ (v : ShelfView g.row.D.Denot). (setup : Setup) (s : State) → StandsFor setup v s
    → Goes d.view setup [] v s (record old { disk = new; buffers = slice_set old.buffers c.args.at b })) c.self.view_is
    (subst (λ (bs : List BufferState). (setup : Setup) (s : State) → StandsFor setup old s → Goes d.view setup [] old s (record old { disk = new; buffers = bs })) (sym (first.set b b refl))
    (tried_goes d.view old new first.front b first.behind first.parts c.self.invariant.0 call first.has c.block.result c.block.ensures c.write_body.ensures.images
    c.write_body.ensures.shut))

pub invariant_of-self-2 : goal.invariant_of-self-2
invariant_of-self-2 g c =
    let d = g.D.Disk in
    let law = g.met.D.Disk in
    let old : ShelfView g.row.D.Denot = record {
      disk = c.self.inside.disk;
      geometry = c.self.inside.geometry;
      limits = c.self.inside.limits;
      buffers = c.self.inside.buffers.items;
      gates =
          c.self.inside.gates.items;
      lives = c.self.inside.ledger;
      holds = c.self.inside.holds;
      free = c.self.inside.free.items;
      queue = c.self.inside.queue;
      cache = c.self.inside.cache;
      raid = c.self.inside.raid;
      next_number = c.self.inside.next_number;
    } in
    let b : BufferState = c.index_mut-buffer.result.now in
    let new = c.write_body.new.disk in
    let first : FoundAt (λ x. x.phase ≡ Sealed) c.args.at old.buffers b =
    found_at (λ x. x.phase ≡ Sealed) c.args.at old.buffers b
    (subst (λ (v : ShelfView g.row.D.Denot). IsFirstWith (λ x. x.phase ≡ Sealed) c.args.at v.buffers) (sym c.self.view_is) (c.requires.first, c.requires.sealed c.requires.first))
    c.index_mut-buffer.ensures.value in
    let call : KeepsDisk d.view old.disk new = record {
      is_disk = law.is_disk new;
      was_disk = law.is_disk old.disk;
      size = c.write_body.ensures.call.size;
      was_honest = c.write_body.ensures.call.was_honest;
      was_told = c.write_body.ensures.call.was_told;
      time = c.write_body.ensures.call.time;
    } in
    let to : slice_set old.buffers c.args.at c.set_phase.new.self ≡ first.front ++ with_phase BodyDone b ∷ first.behind =
    first.set c.set_phase.new.self (with_phase BodyDone b) (settled_phase b c.set_phase.new.self c.set_phase.ensures.set first.has) in
    let body = λ (honest : IsHonest (d.view new)) (x : List ℕ) (image : (d.view new).may_leave x). subst
    (λ (k : ℕ). HasOneBody old.geometry k c.body.result.now (d.view new).may_leave) c.block.ensures (c.in_ok-write_body.ensures.settled (call.was_honest honest).told) x image
    ∙ c.body.ensures.bytes in (
      subst (λ (bs : List BufferState). IsShelf d.view (record old { disk = new; buffers = bs })) (sym to)
          (done_shelf d.view old new first.front b first.behind first.parts c.self.invariant.0 call first.has c.block.result c.block.ensures c.write_body.ensures.images
          c.write_body.ensures.shut c.write_body.ensures.bytes body
          (λ told. subst (λ (k : ℕ). body_bytes old.geometry k (d.view new).seen ≡ c.body.result.now) c.block.ensures (c.in_ok-write_body.ensures.body (call.was_told told)) ∙ c.body.ensures.bytes)),
      c.self.invariant.1,
      c.self.invariant.2,
    )

pub returns-clause-goes : goal.returns-clause-goes
returns-clause-goes g c =
    let d = g.D.Disk in
    let law = g.met.D.Disk in
    let old : ShelfView g.row.D.Denot = record {
      disk = c.self.inside.disk;
      geometry = c.self.inside.geometry;
      limits = c.self.inside.limits;
      buffers = c.self.inside.buffers.items;
      gates =
          c.self.inside.gates.items;
      lives = c.self.inside.ledger;
      holds = c.self.inside.holds;
      free = c.self.inside.free.items;
      queue = c.self.inside.queue;
      cache = c.self.inside.cache;
      raid = c.self.inside.raid;
      next_number = c.self.inside.next_number;
    } in
    let b : BufferState = c.index_mut-buffer.result.now in
    let new = c.write_body.new.disk in
    let first : FoundAt (λ x. x.phase ≡ Sealed) c.args.at old.buffers b =
    found_at (λ x. x.phase ≡ Sealed) c.args.at old.buffers b
    (subst (λ (v : ShelfView g.row.D.Denot). IsFirstWith (λ x. x.phase ≡ Sealed) c.args.at v.buffers) (sym c.self.view_is) (c.requires.first, c.requires.sealed c.requires.first))
    c.index_mut-buffer.ensures.value in
    let call : KeepsDisk d.view old.disk new = record {
      is_disk = law.is_disk new;
      was_disk = law.is_disk old.disk;
      size = c.write_body.ensures.call.size;
      was_honest = c.write_body.ensures.call.was_honest;
      was_told = c.write_body.ensures.call.was_told;
      time = c.write_body.ensures.call.time;
    } in
    let to : slice_set old.buffers c.args.at c.set_phase.new.self ≡ first.front ++ with_phase BodyDone b ∷ first.behind =
    first.set c.set_phase.new.self (with_phase BodyDone b) (settled_phase b c.set_phase.new.self c.set_phase.ensures.set first.has) in
    subst (λ (v : ShelfView g.row.D.Denot). (setup : Setup) (s : State) → StandsFor setup v s
    → Goes d.view setup [] v s (record old { disk = new; buffers = slice_set old.buffers c.args.at c.set_phase.new.self })) c.self.view_is
    (subst (λ (bs : List BufferState). (setup : Setup) (s : State) → StandsFor setup old s → Goes d.view setup [] old s (record old { disk = new; buffers = bs })) (sym to)
    (done_goes d.view old new first.front b first.behind first.parts c.self.invariant.0 call first.has c.block.result c.block.ensures c.write_body.ensures.images
    c.write_body.ensures.shut))

pub returns-clause-changed : goal.returns-clause-changed
returns-clause-changed g c =
    let old : ShelfView g.row.D.Denot = record {
      disk = c.self.inside.disk;
      geometry = c.self.inside.geometry;
      limits = c.self.inside.limits;
      buffers = c.self.inside.buffers.items;
      gates =
          c.self.inside.gates.items;
      lives = c.self.inside.ledger;
      holds = c.self.inside.holds;
      free = c.self.inside.free.items;
      queue = c.self.inside.queue;
      cache = c.self.inside.cache;
      raid = c.self.inside.raid;
      next_number = c.self.inside.next_number;
    } in
    let b : BufferState = c.index_mut-buffer.result.now in
    subst (λ (v : ShelfView g.row.D.Denot). (first : IsFirstAt c.args.at v.buffers)
    → record old { disk = c.write_body.new.disk; buffers = slice_set old.buffers c.args.at c.set_phase.new.self } ≡ with_body c.write_body.new.disk v first.sealed) c.self.view_is
    (λ first.
    let same : b ≡ first.sealed.buffer = first_is c.args.at old.buffers first b c.index_mut-buffer.ensures.value in
    let sealed : b.phase ≡ Sealed =
    (found_at (λ x. x.phase ≡ Sealed) c.args.at old.buffers b
    (subst (λ (v : ShelfView g.row.D.Denot). IsFirstWith (λ x. x.phase ≡ Sealed) c.args.at v.buffers) (sym c.self.view_is) (c.requires.first, c.requires.sealed c.requires.first))
    c.index_mut-buffer.ensures.value).has in
    ap (λ (bs : List BufferState). record old { disk = c.write_body.new.disk; buffers = bs })
    (set_first c.args.at old.buffers first c.set_phase.new.self (with_phase BodyDone first.sealed.buffer) (settled_phase b c.set_phase.new.self c.set_phase.ensures.set sealed
    ∙ ap (with_phase BodyDone) same)))

-- ---- the disk

pub returns-in_err-write_body-clause-cause : goal.returns-in_err-write_body-clause-cause
returns-in_err-write_body-clause-cause g c =
    on_err c.from_residual.result (Rose (g.D.Disk.view c.args.self.now.disk).faults (g.D.Disk.view c.write_body.new.disk).faults)
    (subst (λ (v : ShelfView g.row.D.Denot). Rose (g.D.Disk.view v.disk).faults (g.D.Disk.view c.write_body.new.disk).faults) c.self.view_is c.in_err-write_body.ensures.call.cause.rose)

pub returns-clause-cause : goal.returns-clause-cause
returns-clause-cause g c = tt

pub returns-in_err-write_body-clause-later : goal.returns-in_err-write_body-clause-later
returns-in_err-write_body-clause-later g c =
    let call = c.write_body.ensures.call in
    subst (λ (v : ShelfView g.row.D.Denot). IsLater (g.D.Disk.view v.disk) (g.D.Disk.view c.write_body.new.disk)) c.self.view_is
    (record { time = call.time; count = call.cause.later; size = call.size })

pub returns-in_err-write_body-clause-honest : goal.returns-in_err-write_body-clause-honest
returns-in_err-write_body-clause-honest g c = subst (λ (v : ShelfView g.row.D.Denot). IsHonest (g.D.Disk.view v.disk)
    → IsHonest (g.D.Disk.view c.write_body.new.disk)) c.self.view_is c.write_body.ensures.call.honest

pub returns-clause-later : goal.returns-clause-later
returns-clause-later g c =
    let call = c.write_body.ensures.call in
    subst (λ (v : ShelfView g.row.D.Denot). IsLater (g.D.Disk.view v.disk) (g.D.Disk.view c.write_body.new.disk)) c.self.view_is
    (record { time = call.time; count = call.cause.later; size = call.size })

pub returns-clause-honest : goal.returns-clause-honest
returns-clause-honest g c = subst (λ (v : ShelfView g.row.D.Denot). IsHonest (g.D.Disk.view v.disk) → IsHonest (g.D.Disk.view c.write_body.new.disk)) c.self.view_is c.write_body.ensures.call.honest

pub write_body-requires-clause-geometry : goal.write_body-requires-clause-geometry
write_body-requires-clause-geometry g c = c.self.invariant.0.geometry

pub write_body-requires-clause-room : goal.write_body-requires-clause-room
write_body-requires-clause-room g c = c.self.invariant.0.room

pub write_body-requires-clause-block : goal.write_body-requires-clause-block
write_body-requires-clause-block g c =
    let old : ShelfView g.row.D.Denot = record {
      disk = c.self.inside.disk;
      geometry = c.self.inside.geometry;
      limits = c.self.inside.limits;
      buffers = c.self.inside.buffers.items;
      gates =
          c.self.inside.gates.items;
      lives = c.self.inside.ledger;
      holds = c.self.inside.holds;
      free = c.self.inside.free.items;
      queue = c.self.inside.queue;
      cache = c.self.inside.cache;
      raid = c.self.inside.raid;
      next_number = c.self.inside.next_number;
    } in
    let b : BufferState = c.index_mut-buffer.result.now in
    let first : FoundAt (λ x. x.phase ≡ Sealed) c.args.at old.buffers b =
    found_at (λ x. x.phase ≡ Sealed) c.args.at old.buffers b
    (subst (λ (v : ShelfView g.row.D.Denot). IsFirstWith (λ x. x.phase ≡ Sealed) c.args.at v.buffers) (sym c.self.view_is) (c.requires.first, c.requires.sealed c.requires.first))
    c.index_mut-buffer.ensures.value in
    let own = all_own (IsBufferOf old.geometry old.next_number) first.front b first.behind (subst (AllByRecursion (IsBufferOf old.geometry old.next_number)) first.parts c.self.invariant.0.buffers) in
    subst (λ (k : ℕ). k < old.geometry.blocks) (sym c.block.ensures) own.block
