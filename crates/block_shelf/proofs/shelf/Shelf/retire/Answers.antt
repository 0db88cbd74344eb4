use Rattle.std.proofs.Common.{◌≡◌, ◌≢◌, ◌<◌, ◌≤◌, ◌++◌, arith, ℕ, List, [], ◌∷◌, length, refl, sym, ap, subst, ◌∙◌}
use Rattle.std.specs.List.{AllByRecursion}
use Rattle.std.specs.VecDeque.{deque_capacity}
use Rattle.law_lists.proofs.Between.{all_own}
use Rattle.model_device.specs.Book.{Setup}
use Rattle.model_device.specs.Device.{State}
use Rattle.model_device.specs.Steps.{flushed_buffer}
use Rattle.block_format.specs.declared.geometry.Gate.TheVariants.{Set}
use Rattle.block_format.specs.Layout.{IsBody}
use Rattle.write_buffer.specs.declared.phase.Phase.TheVariants.{GateBegun}
use Rattle.write_buffer.specs.Buffers.{BufferState, bytes_of, body_in}
use Rattle.hold_book.specs.Holds.{HoldState, HoldsBelow, without_buffer}
use Rattle.post_cache.specs.Bodies.{CacheState, with_kept_body}
use Rattle.block_shelf.specs.View.{ShelfView, IsShelf, IsBufferOf, IsSetupOf, gate_at, is_written}
use Rattle.block_shelf.specs.Standing.{StandsFor}
use Rattle.block_shelf.specs.Calls.{Goes}
use Rattle.block_shelf.specs.Changes.{with_requeued, with_flushed}
use Rattle.block_shelf.specs.Flushes.{IsFirstAt, IsWithoutFirst}
use Rattle.block_shelf.specs.LetGo.{IsLetGo}
use Rattle.block_shelf.proofs.Blocks.{apart_back}
use Rattle.block_shelf.proofs.FirstSealed.{FoundAt, IsFirstWith, found_at, first_is, left_first}
use Rattle.block_shelf.proofs.FlushLeaving.{retired_unlisted, retired_shelf, retired_is, retired_goes}
use Rattle.block_shelf.proofs.FlushStages.{without_first}
use Rattle.block_shelf.proofs.shelf.Shelf.retire.Goals as goal

pub free_let_go-requires-clause-held : goal.free_let_go-requires-clause-held
free_let_go-requires-clause-held g c =
    subst (λ (n : ℕ). HoldsBelow n c.self.inside.holds.holds) (sym c.self.invariant.0.lives) c.self.invariant.0.held

pub free_let_go-requires-clause-each : goal.free_let_go-requires-clause-each
free_let_go-requires-clause-each g c =
    c.self.invariant.0.each

pub free_let_go-requires-clause-below : goal.free_let_go-requires-clause-below
free_let_go-requires-clause-below g c =
    subst (λ (n : ℕ). AllByRecursion (λ b. b < n) c.self.inside.free.items) (sym c.self.invariant.0.lives) c.self.invariant.0.free

pub free_let_go-requires-clause-room : goal.free_let_go-requires-clause-room
free_let_go-requires-clause-room g c =
    subst (λ (n : ℕ). n ≤ deque_capacity c.self.inside.free) (sym c.self.invariant.0.lives) c.self.invariant.1

pub free_let_go-requires-clause-few : goal.free_let_go-requires-clause-few
free_let_go-requires-clause-few g c =
    let most = c.self.invariant.0.geometry.blocks in
    omega (arith, most, c.self.invariant.0.lives)

pub free_let_go-requires-clause-own : goal.free_let_go-requires-clause-own
free_let_go-requires-clause-own g c =
    let old : ShelfView g.row.D.Denot = record {
      disk = c.self.inside.disk;
      geometry = c.self.inside.geometry;
      limits = c.self.inside.limits;
      buffers = c.self.inside.buffers.items;
      gates =
          c.self.inside.gates.items;
      lives = c.self.inside.ledger;
      holds = c.self.inside.holds;
      free = c.self.inside.free.items;
      queue = c.self.inside.queue;
      cache = c.self.inside.cache;
      raid = c.self.inside.raid;
      next_number = c.self.inside.next_number;
    } in
    let b : BufferState = c.remove-buffer.result in
    let first : FoundAt (λ x. x.phase ≡ GateBegun) c.args.at old.buffers b =
    found_at (λ x. x.phase ≡ GateBegun) c.args.at old.buffers b
    (subst (λ (v : ShelfView g.row.D.Denot). IsFirstWith (λ x. x.phase ≡ GateBegun) c.args.at v.buffers) (sym c.self.view_is) (c.requires.first, c.requires.begun c.requires.first))
    c.remove-buffer.ensures.value in
    let own = all_own (IsBufferOf old.geometry old.next_number) first.front b first.behind (subst (AllByRecursion (IsBufferOf old.geometry old.next_number)) first.parts c.self.invariant.0.buffers) in
    subst (λ (n : ℕ). c.block-block.result < n) (sym c.self.invariant.0.lives) (subst (λ (k : ℕ). k < old.geometry.blocks) (sym c.block-block.ensures) own.block)

pub free_let_go-requires-clause-apart : goal.free_let_go-requires-clause-apart
free_let_go-requires-clause-apart g c = apart_back _ _ c.self.invariant.0.apart

pub free_let_go-requires-clause-others : goal.free_let_go-requires-clause-others
free_let_go-requires-clause-others g c =
    let d = g.D.Disk in
    let old : ShelfView g.row.D.Denot = record {
      disk = c.self.inside.disk;
      geometry = c.self.inside.geometry;
      limits = c.self.inside.limits;
      buffers = c.self.inside.buffers.items;
      gates =
          c.self.inside.gates.items;
      lives = c.self.inside.ledger;
      holds = c.self.inside.holds;
      free = c.self.inside.free.items;
      queue = c.self.inside.queue;
      cache = c.self.inside.cache;
      raid = c.self.inside.raid;
      next_number = c.self.inside.next_number;
    } in
    let b : BufferState = c.remove-buffer.result in
    let first : FoundAt (λ x. x.phase ≡ GateBegun) c.args.at old.buffers b =
    found_at (λ x. x.phase ≡ GateBegun) c.args.at old.buffers b
    (subst (λ (v : ShelfView g.row.D.Denot). IsFirstWith (λ x. x.phase ≡ GateBegun) c.args.at v.buffers) (sym c.self.view_is) (c.requires.first, c.requires.begun c.requires.first))
    c.remove-buffer.ensures.value in
    let rest : c.remove-buffer.new.self.items ≡ first.front ++ first.behind = first.left c.remove-buffer.new.self.items c.remove-buffer.ensures.items in
    let seen : c.deref.result.now ≡ first.front ++ first.behind = c.deref.ensures.value ∙ rest in
    let holds : HoldState = record { holds = without_buffer old.holds.holds c.number-number.result; spare = 0 } in
    subst (λ (bs : List BufferState). (k : ℕ) → k < length old.lives
    → IsLetGo c.number-number.result c.block-block.result old.holds.holds (without_buffer old.holds.holds c.number-number.result) bs old.lives k
    → AllByRecursion (λ f. f ≢ k) old.free) (sym seen)
    (retired_unlisted d.view old first.front b first.behind first.parts c.self.invariant.0 holds c.number-number.result c.block-block.result c.number-number.ensures.number
    c.block-block.ensures refl (length old.lives) c.self.invariant.0.lives)

pub invariant_of-self : goal.invariant_of-self
invariant_of-self g c =
    let d = g.D.Disk in
    let old : ShelfView g.row.D.Denot = record {
      disk = c.self.inside.disk;
      geometry = c.self.inside.geometry;
      limits = c.self.inside.limits;
      buffers = c.self.inside.buffers.items;
      gates =
          c.self.inside.gates.items;
      lives = c.self.inside.ledger;
      holds = c.self.inside.holds;
      free = c.self.inside.free.items;
      queue = c.self.inside.queue;
      cache = c.self.inside.cache;
      raid = c.self.inside.raid;
      next_number = c.self.inside.next_number;
    } in
    let b : BufferState = c.remove-buffer.result in
    let first : FoundAt (λ x. x.phase ≡ GateBegun) c.args.at old.buffers b =
    found_at (λ x. x.phase ≡ GateBegun) c.args.at old.buffers b
    (subst (λ (v : ShelfView g.row.D.Denot). IsFirstWith (λ x. x.phase ≡ GateBegun) c.args.at v.buffers) (sym c.self.view_is) (c.requires.first, c.requires.begun c.requires.first))
    c.remove-buffer.ensures.value in
    let rest : c.remove-buffer.new.self.items ≡ first.front ++ first.behind = first.left c.remove-buffer.new.self.items c.remove-buffer.ensures.items in
    let seen : c.deref.result.now ≡ first.front ++ first.behind = c.deref.ensures.value ∙ rest in
    let each = rw seen at c.free_let_go.ensures.each in
    let kept : c.keep.new.self ≡ with_flushed b old.cache = c.keep.ensures.kept
    ∙ ap (λ (k : ℕ). record old.cache { kept = with_kept_body old.cache.limit k b old.cache.kept }) c.block-block.ensures in (
      subst (λ (cache : CacheState BufferState). IsShelf d.view
          (record old { buffers = c.remove-buffer.new.self.items; holds = c.release.new.self; free = c.free_let_go.new.free.items; cache = cache })) (sym kept)
          (subst (λ (bs : List BufferState). IsShelf d.view (record old { buffers = bs; holds = c.release.new.self; free = c.free_let_go.new.free.items; cache = with_flushed b old.cache })) (sym rest)
          (retired_shelf d.view old first.front b first.behind first.parts c.self.invariant.0 c.release.new.self c.number-number.result c.block-block.result c.number-number.ensures.number
          c.block-block.ensures c.release.ensures (length old.lives) c.self.invariant.0.lives c.free_let_go.new.free.items each c.free_let_go.ensures.below
          c.free_let_go.ensures.apart (ap is_written first.has))),
      rw c.self.invariant.0.lives at c.free_let_go.ensures.room,
      c.self.invariant.2,
    )

pub returns-clause-goes : goal.returns-clause-goes
returns-clause-goes g c =
    let law = g.met.D.Disk in
    let d = g.D.Disk in
    let old : ShelfView g.row.D.Denot = record {
      disk = c.self.inside.disk;
      geometry = c.self.inside.geometry;
      limits = c.self.inside.limits;
      buffers = c.self.inside.buffers.items;
      gates =
          c.self.inside.gates.items;
      lives = c.self.inside.ledger;
      holds = c.self.inside.holds;
      free = c.self.inside.free.items;
      queue = c.self.inside.queue;
      cache = c.self.inside.cache;
      raid = c.self.inside.raid;
      next_number = c.self.inside.next_number;
    } in
    let b : BufferState = c.remove-buffer.result in
    let first : FoundAt (λ x. x.phase ≡ GateBegun) c.args.at old.buffers b =
    found_at (λ x. x.phase ≡ GateBegun) c.args.at old.buffers b
    (subst (λ (v : ShelfView g.row.D.Denot). IsFirstWith (λ x. x.phase ≡ GateBegun) c.args.at v.buffers) (sym c.self.view_is) (c.requires.first, c.requires.begun c.requires.first))
    c.remove-buffer.ensures.value in
    let rest : c.remove-buffer.new.self.items ≡ first.front ++ first.behind = first.left c.remove-buffer.new.self.items c.remove-buffer.ensures.items in
    let seen : c.deref.result.now ≡ first.front ++ first.behind = c.deref.ensures.value ∙ rest in
    let holds : HoldState = c.release.new.self in
    let each = rw seen at c.free_let_go.ensures.each in
    let freed = rw seen at c.free_let_go.ensures.freed in
    let free : List ℕ = c.free_let_go.new.free.items in
    let gate : gate_at old.gates b.block ≡ Set = (found_at (λ x. gate_at old.gates x.block ≡ Set) c.args.at old.buffers b
    (subst (λ (v : ShelfView g.row.D.Denot). IsFirstWith (λ x. gate_at v.gates x.block ≡ Set) c.args.at v.buffers) (sym c.self.view_is)
    (c.requires.first, c.requires.opened c.requires.first)) c.remove-buffer.ensures.value).has in
    let is_body : IsBody b.capacity (bytes_of b) (body_in b) = subst (λ (l : List ℕ). IsBody b.capacity l (body_in b)) c.body-body.ensures.bytes c.body-body.ensures.body in
    let goes = retired_goes d.view old first.front b first.behind first.parts c.self.invariant.0 holds c.number-number.result c.block-block.result c.number-number.ensures.number
    c.block-block.ensures c.release.ensures (length old.lives) c.self.invariant.0.lives free each c.free_let_go.ensures.below c.free_let_go.ensures.apart freed (law.is_disk old.disk)
    (ap is_written first.has) gate is_body in
    let kept : c.keep.new.self ≡ with_flushed b old.cache = c.keep.ensures.kept ∙ ap (λ (k : ℕ). record old.cache { kept = with_kept_body old.cache.limit k b old.cache.kept }) c.block-block.ensures in
    let final = c.requeue.ensures ∙ ap (λ (cache : CacheState BufferState). with_requeued c.block-block.result
    (record old { buffers = c.remove-buffer.new.self.items; holds = holds; free = free; cache = cache })) kept
    ∙ ap (λ (bs : List BufferState). with_requeued c.block-block.result (record old { buffers = bs; holds = holds; free = free; cache = with_flushed b old.cache })) rest
    ∙ retired_is d.view old first.front b first.behind first.parts c.self.invariant.0 holds c.number-number.result c.block-block.result c.number-number.ensures.number
    c.block-block.ensures c.release.ensures (length old.lives) c.self.invariant.0.lives free each c.free_let_go.ensures.below c.free_let_go.ensures.apart in
    subst (λ (v : ShelfView g.row.D.Denot). (setup : Setup) (s : State) → IsSetupOf setup v → StandsFor setup v s
    → Goes d.view setup (flushed_buffer c.number-number.result ∷ []) v s c.requeue.new.self) c.self.view_is
    (subst (λ (new : ShelfView g.row.D.Denot). (setup : Setup) (s : State) → IsSetupOf setup old → StandsFor setup old s
    → Goes d.view setup (flushed_buffer c.number-number.result ∷ []) old s new) (sym final) goes)

pub returns-clause-number : goal.returns-clause-number
returns-clause-number g c =
    subst (λ (v : ShelfView g.row.D.Denot). (first : IsFirstAt c.args.at v.buffers) → c.number-number.result ≡ first.sealed.buffer.number) c.self.view_is
    (λ first. c.number-number.ensures.number ∙ ap (λ (x : BufferState). x.number) (first_is c.args.at c.self.inside.buffers.items first c.remove-buffer.result c.remove-buffer.ensures.value))

pub returns-clause-left : goal.returns-clause-left
returns-clause-left g c =
    let d = g.D.Disk in
    let old : ShelfView g.row.D.Denot = record {
      disk = c.self.inside.disk;
      geometry = c.self.inside.geometry;
      limits = c.self.inside.limits;
      buffers = c.self.inside.buffers.items;
      gates =
          c.self.inside.gates.items;
      lives = c.self.inside.ledger;
      holds = c.self.inside.holds;
      free = c.self.inside.free.items;
      queue = c.self.inside.queue;
      cache = c.self.inside.cache;
      raid = c.self.inside.raid;
      next_number = c.self.inside.next_number;
    } in
    let b : BufferState = c.remove-buffer.result in
    let first : FoundAt (λ x. x.phase ≡ GateBegun) c.args.at old.buffers b =
    found_at (λ x. x.phase ≡ GateBegun) c.args.at old.buffers b
    (subst (λ (v : ShelfView g.row.D.Denot). IsFirstWith (λ x. x.phase ≡ GateBegun) c.args.at v.buffers) (sym c.self.view_is) (c.requires.first, c.requires.begun c.requires.first))
    c.remove-buffer.ensures.value in
    let rest : c.remove-buffer.new.self.items ≡ first.front ++ first.behind = first.left c.remove-buffer.new.self.items c.remove-buffer.ensures.items in
    let seen : c.deref.result.now ≡ first.front ++ first.behind = c.deref.ensures.value ∙ rest in
    let holds : HoldState = c.release.new.self in
    let each = rw seen at c.free_let_go.ensures.each in
    let free : List ℕ = c.free_let_go.new.free.items in
    let kept : c.keep.new.self ≡ with_flushed b old.cache = c.keep.ensures.kept ∙ ap (λ (k : ℕ). record old.cache { kept = with_kept_body old.cache.limit k b old.cache.kept }) c.block-block.ensures in
    let final = c.requeue.ensures ∙ ap (λ (cache : CacheState BufferState). with_requeued c.block-block.result
    (record old { buffers = c.remove-buffer.new.self.items; holds = holds; free = free; cache = cache })) kept
    ∙ ap (λ (bs : List BufferState). with_requeued c.block-block.result (record old { buffers = bs; holds = holds; free = free; cache = with_flushed b old.cache })) rest
    ∙ retired_is d.view old first.front b first.behind first.parts c.self.invariant.0 holds c.number-number.result c.block-block.result c.number-number.ensures.number
    c.block-block.ensures c.release.ensures (length old.lives) c.self.invariant.0.lives free each c.free_let_go.ensures.below c.free_let_go.ensures.apart in
    let unheld = c.release.ensures in
    subst (λ (v : ShelfView g.row.D.Denot). (first : IsFirstAt c.args.at v.buffers) → IsWithoutFirst c.number-number.result first.sealed v c.requeue.new.self) c.self.view_is
    (λ other. without_first c.number-number.result c.args.at old c.requeue.new.self other (first.front ++ first.behind) b holds free
    (sym rest ∙ left_first c.args.at old.buffers other c.remove-buffer.new.self.items c.remove-buffer.ensures.items)
    (first_is c.args.at old.buffers other b c.remove-buffer.ensures.value) final unheld)
