use Rattle.std.proofs.Common.{◌≡◌, ◌<◌, ◌∷◌, ◌++◌, ℕ, List, true, sym, ap, ◌∙◌, subst}
use Rattle.std.specs.Prelude.{slice_set}
use Rattle.std.specs.List.{AllByRecursion}
use Rattle.std.proofs.lemmas.List.{set-set}
use Rattle.std.proofs.lemmas.Result.{MatchResult-from_err}
use Rattle.law_lists.proofs.Answers.{on_err}
use Rattle.law_lists.proofs.Between.{all_own}
use Rattle.model_faults.specs.Counts.{Rose}
use Rattle.disk_model.specs.Disk.{IsHonest}
use Rattle.model_device.specs.Book.{Setup}
use Rattle.model_device.specs.Device.{State}
use Rattle.block_format.specs.declared.geometry.Gate.{Gate}
use Rattle.block_format.specs.declared.geometry.Gate.TheVariants.{Set, Unsure}
use Rattle.block_format.specs.Layout.{IsBody, body_bytes}
use Rattle.write_buffer.specs.declared.phase.Phase.TheVariants.{GateBegun}
use Rattle.write_buffer.specs.Buffers.{BufferState, bytes_of, body_in, with_phase}
use Rattle.block_shelf.specs.Disks.{IsLater}
use Rattle.block_shelf.specs.View.{ShelfView, IsShelf, IsBufferOf, HasItsBody, is_written}
use Rattle.block_shelf.specs.Standing.{StandsFor}
use Rattle.block_shelf.specs.Calls.{Goes}
use Rattle.block_shelf.specs.Flushes.{IsFirstAt, gate_steps, with_opening}
use Rattle.block_shelf.proofs.FirstSealed.{FoundAt, IsFirstWith, found_at, first_is, set_first}
use Rattle.block_shelf.proofs.FlushShelf.{KeepsDisk}
use Rattle.block_shelf.proofs.FlushGate.{begun_phase, tried_gate_shelf, tried_gate_goes, done_gate_shelf, done_gate_goes}
use Rattle.block_shelf.proofs.shelf.Shelf.open.Goals as goal

pub invariant_of-self : goal.invariant_of-self
invariant_of-self g c =
    let d = g.D.Disk in
    let law = g.met.D.Disk in
    let old : ShelfView g.row.D.Denot = record {
      disk = c.self.inside.disk;
      geometry = c.self.inside.geometry;
      limits = c.self.inside.limits;
      buffers = c.self.inside.buffers.items;
      gates =
          c.self.inside.gates.items;
      lives = c.self.inside.ledger;
      holds = c.self.inside.holds;
      free = c.self.inside.free.items;
      queue = c.self.inside.queue;
      cache = c.self.inside.cache;
      raid = c.self.inside.raid;
      next_number = c.self.inside.next_number;
    } in
    let b : BufferState = c.index_mut-buffer.result.now in
    let new = c.open_gate.new.disk in
    let first : FoundAt (λ x. is_written x.phase ≡ true) c.args.at old.buffers b =
    found_at (λ x. is_written x.phase ≡ true) c.args.at old.buffers b
    (subst (λ (v : ShelfView g.row.D.Denot). IsFirstWith (λ x. is_written x.phase ≡ true) c.args.at v.buffers) (sym c.self.view_is)
    (c.requires.first, c.requires.written c.requires.first)) c.index_mut-buffer.ensures.value in
    let call : KeepsDisk d.view old.disk new = record {
      is_disk = law.is_disk new;
      was_disk = law.is_disk old.disk;
      size = c.open_gate.ensures.call.size;
      was_honest = c.open_gate.ensures.call.was_honest;
      was_told = c.open_gate.ensures.call.was_told;
      time = c.open_gate.ensures.call.time;
    } in
    let after : List BufferState = slice_set old.buffers c.args.at c.set_phase.new.self in
    let to : after ≡ first.front ++ with_phase GateBegun b ∷ first.behind = first.set c.set_phase.new.self (with_phase GateBegun b) (begun_phase b c.set_phase.new.self c.set_phase.ensures.set) in
    let is_body : IsBody b.capacity (bytes_of b) (body_in b) = subst (λ (l : List ℕ). IsBody b.capacity l (body_in b)) c.body-body.ensures.bytes c.body-body.ensures.body in (
      subst (λ (bs : List BufferState). IsShelf d.view (record old { disk = new; buffers = bs; gates = slice_set old.gates c.block-block.result Unsure })) (sym to)
          (tried_gate_shelf d.view old new first.front b first.behind first.parts c.self.invariant.0 call first.has is_body c.block-block.result c.block-block.ensures
          c.open_gate.ensures.images c.open_gate.ensures.bytes),
      c.self.invariant.1,
      c.self.invariant.2,
    )

pub returns-in_err-open_gate-clause-goes : goal.returns-in_err-open_gate-clause-goes
returns-in_err-open_gate-clause-goes g c =
    let d = g.D.Disk in
    let law = g.met.D.Disk in
    let old : ShelfView g.row.D.Denot = record {
      disk = c.self.inside.disk;
      geometry = c.self.inside.geometry;
      limits = c.self.inside.limits;
      buffers = c.self.inside.buffers.items;
      gates =
          c.self.inside.gates.items;
      lives = c.self.inside.ledger;
      holds = c.self.inside.holds;
      free = c.self.inside.free.items;
      queue = c.self.inside.queue;
      cache = c.self.inside.cache;
      raid = c.self.inside.raid;
      next_number = c.self.inside.next_number;
    } in
    let b : BufferState = c.index_mut-buffer.result.now in
    let new = c.open_gate.new.disk in
    let first : FoundAt (λ x. is_written x.phase ≡ true) c.args.at old.buffers b =
    found_at (λ x. is_written x.phase ≡ true) c.args.at old.buffers b
    (subst (λ (v : ShelfView g.row.D.Denot). IsFirstWith (λ x. is_written x.phase ≡ true) c.args.at v.buffers) (sym c.self.view_is)
    (c.requires.first, c.requires.written c.requires.first)) c.index_mut-buffer.ensures.value in
    let call : KeepsDisk d.view old.disk new = record {
      is_disk = law.is_disk new;
      was_disk = law.is_disk old.disk;
      size = c.open_gate.ensures.call.size;
      was_honest = c.open_gate.ensures.call.was_honest;
      was_told = c.open_gate.ensures.call.was_told;
      time = c.open_gate.ensures.call.time;
    } in
    let after : List BufferState = slice_set old.buffers c.args.at c.set_phase.new.self in
    let to : after ≡ first.front ++ with_phase GateBegun b ∷ first.behind = first.set c.set_phase.new.self (with_phase GateBegun b) (begun_phase b c.set_phase.new.self c.set_phase.ensures.set) in
    let is_body : IsBody b.capacity (bytes_of b) (body_in b) = subst (λ (l : List ℕ). IsBody b.capacity l (body_in b)) c.body-body.ensures.bytes c.body-body.ensures.body in
    let goes : (setup : Setup) (s : State) → StandsFor setup old s
    → Goes d.view setup (gate_steps b.phase b.number) old s (record old { disk = new; buffers = after; gates = slice_set old.gates c.block-block.result Unsure }) =
    subst (λ (bs : List BufferState). (setup : Setup) (s : State) → StandsFor setup old s
    → Goes d.view setup (gate_steps b.phase b.number) old s (record old { disk = new; buffers = bs; gates = slice_set old.gates c.block-block.result Unsure })) (sym to)
    (tried_gate_goes d.view old new first.front b first.behind first.parts c.self.invariant.0 call first.has is_body c.block-block.result c.block-block.ensures c.open_gate.ensures.images) in
    subst (λ (v : ShelfView g.row.D.Denot). (first : IsFirstAt c.args.at v.buffers) (setup : Setup) (s : State) → StandsFor setup v s
    → Goes d.view setup (gate_steps first.sealed.buffer.phase first.sealed.buffer.number) v s
    (record old { disk = new; buffers = after; gates = slice_set old.gates c.block-block.result Unsure })) c.self.view_is
    (λ first setup s stands. subst (λ (x : BufferState). Goes d.view setup (gate_steps x.phase x.number) old s
    (record old { disk = new; buffers = after; gates = slice_set old.gates c.block-block.result Unsure }))
    (first_is c.args.at old.buffers first b c.index_mut-buffer.ensures.value) (goes setup s stands))

pub returns-in_err-open_gate-clause-changed : goal.returns-in_err-open_gate-clause-changed
returns-in_err-open_gate-clause-changed g c first =
    let old : ShelfView g.row.D.Denot = record {
      disk = c.self.inside.disk;
      geometry = c.self.inside.geometry;
      limits = c.self.inside.limits;
      buffers = c.self.inside.buffers.items;
      gates =
          c.self.inside.gates.items;
      lives = c.self.inside.ledger;
      holds = c.self.inside.holds;
      free = c.self.inside.free.items;
      queue = c.self.inside.queue;
      cache = c.self.inside.cache;
      raid = c.self.inside.raid;
      next_number = c.self.inside.next_number;
    } in
    let b : BufferState = c.index_mut-buffer.result.now in
    let gates : List Gate = slice_set old.gates c.block-block.result Unsure in
    MatchResult-from_err c.from_residual.result _ _ c.from_residual.ensures.0 (λ fault.
    subst (λ (v : ShelfView g.row.D.Denot). (first : IsFirstAt c.args.at v.buffers)
    → record old { disk = c.open_gate.new.disk; buffers = slice_set old.buffers c.args.at c.set_phase.new.self; gates = gates }
    ≡ with_opening c.open_gate.new.disk Unsure v first.sealed) c.self.view_is
    (λ first.
    let same : b ≡ first.sealed.buffer = first_is c.args.at old.buffers first b c.index_mut-buffer.ensures.value in
    let buffers = set_first c.args.at old.buffers first c.set_phase.new.self (with_phase GateBegun first.sealed.buffer) (begun_phase b c.set_phase.new.self c.set_phase.ensures.set
    ∙ ap (with_phase GateBegun) same) in
    let gates_are = ap (λ (k : ℕ). slice_set old.gates k Unsure) (c.block-block.ensures ∙ ap (λ (x : BufferState). x.block) same) in
    λ i. record old { disk = c.open_gate.new.disk; buffers = buffers i; gates = gates_are i }) first)

pub invariant_of-self-2 : goal.invariant_of-self-2
invariant_of-self-2 g c =
    let d = g.D.Disk in
    let law = g.met.D.Disk in
    let old : ShelfView g.row.D.Denot = record {
      disk = c.self.inside.disk;
      geometry = c.self.inside.geometry;
      limits = c.self.inside.limits;
      buffers = c.self.inside.buffers.items;
      gates =
          c.self.inside.gates.items;
      lives = c.self.inside.ledger;
      holds = c.self.inside.holds;
      free = c.self.inside.free.items;
      queue = c.self.inside.queue;
      cache = c.self.inside.cache;
      raid = c.self.inside.raid;
      next_number = c.self.inside.next_number;
    } in
    let b : BufferState = c.index_mut-buffer.result.now in
    let new = c.open_gate.new.disk in
    let first : FoundAt (λ x. is_written x.phase ≡ true) c.args.at old.buffers b =
    found_at (λ x. is_written x.phase ≡ true) c.args.at old.buffers b
    (subst (λ (v : ShelfView g.row.D.Denot). IsFirstWith (λ x. is_written x.phase ≡ true) c.args.at v.buffers) (sym c.self.view_is)
    (c.requires.first, c.requires.written c.requires.first)) c.index_mut-buffer.ensures.value in
    let call : KeepsDisk d.view old.disk new = record {
      is_disk = law.is_disk new;
      was_disk = law.is_disk old.disk;
      size = c.open_gate.ensures.call.size;
      was_honest = c.open_gate.ensures.call.was_honest;
      was_told = c.open_gate.ensures.call.was_told;
      time = c.open_gate.ensures.call.time;
    } in
    let after : List BufferState = slice_set old.buffers c.args.at c.set_phase.new.self in
    let to : after ≡ first.front ++ with_phase GateBegun b ∷ first.behind = first.set c.set_phase.new.self (with_phase GateBegun b) (begun_phase b c.set_phase.new.self c.set_phase.ensures.set) in
    let is_body : IsBody b.capacity (bytes_of b) (body_in b) = subst (λ (l : List ℕ). IsBody b.capacity l (body_in b)) c.body-body.ensures.bytes c.body-body.ensures.body in (
      subst (λ (bs : List BufferState). IsShelf d.view (record old { disk = new; buffers = bs; gates = slice_set (slice_set old.gates c.block-block.result Unsure) c.block-block.result Set }))
          (sym to) (done_gate_shelf d.view old new first.front b first.behind first.parts c.self.invariant.0 call first.has is_body c.block-block.result c.block-block.ensures
          c.open_gate.ensures.images (λ honest. c.in_ok-open_gate.ensures.opened (call.was_honest honest).told) c.open_gate.ensures.bytes),
      c.self.invariant.1,
      c.self.invariant.2,
    )

pub returns-clause-goes : goal.returns-clause-goes
returns-clause-goes g c =
    let d = g.D.Disk in
    let law = g.met.D.Disk in
    let old : ShelfView g.row.D.Denot = record {
      disk = c.self.inside.disk;
      geometry = c.self.inside.geometry;
      limits = c.self.inside.limits;
      buffers = c.self.inside.buffers.items;
      gates =
          c.self.inside.gates.items;
      lives = c.self.inside.ledger;
      holds = c.self.inside.holds;
      free = c.self.inside.free.items;
      queue = c.self.inside.queue;
      cache = c.self.inside.cache;
      raid = c.self.inside.raid;
      next_number = c.self.inside.next_number;
    } in
    let b : BufferState = c.index_mut-buffer.result.now in
    let new = c.open_gate.new.disk in
    let first : FoundAt (λ x. is_written x.phase ≡ true) c.args.at old.buffers b =
    found_at (λ x. is_written x.phase ≡ true) c.args.at old.buffers b
    (subst (λ (v : ShelfView g.row.D.Denot). IsFirstWith (λ x. is_written x.phase ≡ true) c.args.at v.buffers) (sym c.self.view_is)
    (c.requires.first, c.requires.written c.requires.first)) c.index_mut-buffer.ensures.value in
    let call : KeepsDisk d.view old.disk new = record {
      is_disk = law.is_disk new;
      was_disk = law.is_disk old.disk;
      size = c.open_gate.ensures.call.size;
      was_honest = c.open_gate.ensures.call.was_honest;
      was_told = c.open_gate.ensures.call.was_told;
      time = c.open_gate.ensures.call.time;
    } in
    let after : List BufferState = slice_set old.buffers c.args.at c.set_phase.new.self in
    let to : after ≡ first.front ++ with_phase GateBegun b ∷ first.behind = first.set c.set_phase.new.self (with_phase GateBegun b) (begun_phase b c.set_phase.new.self c.set_phase.ensures.set) in
    let is_body : IsBody b.capacity (bytes_of b) (body_in b) = subst (λ (l : List ℕ). IsBody b.capacity l (body_in b)) c.body-body.ensures.bytes c.body-body.ensures.body in
    let goes : (setup : Setup) (s : State) → StandsFor setup old s
    → Goes d.view setup (gate_steps b.phase b.number) old s
    (record old { disk = new; buffers = after; gates = slice_set (slice_set old.gates c.block-block.result Unsure) c.block-block.result Set }) =
    subst (λ (bs : List BufferState). (setup : Setup) (s : State) → StandsFor setup old s
    → Goes d.view setup (gate_steps b.phase b.number) old s
    (record old { disk = new; buffers = bs; gates = slice_set (slice_set old.gates c.block-block.result Unsure) c.block-block.result Set })) (sym to)
    (done_gate_goes d.view old new first.front b first.behind first.parts c.self.invariant.0 call first.has is_body c.block-block.result c.block-block.ensures c.open_gate.ensures.images
    (λ honest. c.in_ok-open_gate.ensures.opened (call.was_honest honest).told) c.open_gate.ensures.call.honest) in
    subst (λ (v : ShelfView g.row.D.Denot). (first : IsFirstAt c.args.at v.buffers) (setup : Setup) (s : State) → StandsFor setup v s
    → Goes d.view setup (gate_steps first.sealed.buffer.phase first.sealed.buffer.number) v s
    (record old { disk = new; buffers = after; gates = slice_set (slice_set old.gates c.block-block.result Unsure) c.block-block.result Set })) c.self.view_is
    (λ first setup s stands. subst (λ (x : BufferState). Goes d.view setup (gate_steps x.phase x.number) old s
    (record old { disk = new; buffers = after; gates = slice_set (slice_set old.gates c.block-block.result Unsure) c.block-block.result Set }))
    (first_is c.args.at old.buffers first b c.index_mut-buffer.ensures.value) (goes setup s stands))

pub returns-clause-changed : goal.returns-clause-changed
returns-clause-changed g c =
    let old : ShelfView g.row.D.Denot = record {
      disk = c.self.inside.disk;
      geometry = c.self.inside.geometry;
      limits = c.self.inside.limits;
      buffers = c.self.inside.buffers.items;
      gates =
          c.self.inside.gates.items;
      lives = c.self.inside.ledger;
      holds = c.self.inside.holds;
      free = c.self.inside.free.items;
      queue = c.self.inside.queue;
      cache = c.self.inside.cache;
      raid = c.self.inside.raid;
      next_number = c.self.inside.next_number;
    } in
    let b : BufferState = c.index_mut-buffer.result.now in
    subst (λ (v : ShelfView g.row.D.Denot). (first : IsFirstAt c.args.at v.buffers)
    → record old {
      disk = c.open_gate.new.disk;
      buffers = slice_set old.buffers c.args.at c.set_phase.new.self;
      gates =
          slice_set (slice_set old.gates c.block-block.result Unsure) c.block-block.result Set;
    } ≡ with_opening c.open_gate.new.disk Set v first.sealed) c.self.view_is
    (λ first.
    let same : b ≡ first.sealed.buffer = first_is c.args.at old.buffers first b c.index_mut-buffer.ensures.value in
    let buffers = set_first c.args.at old.buffers first c.set_phase.new.self (with_phase GateBegun first.sealed.buffer) (begun_phase b c.set_phase.new.self c.set_phase.ensures.set
    ∙ ap (with_phase GateBegun) same) in
    let gates : slice_set (slice_set old.gates c.block-block.result Unsure) c.block-block.result Set ≡ slice_set old.gates first.sealed.buffer.block Set =
    set-set old.gates c.block-block.result Unsure Set ∙ ap (λ (k : ℕ). slice_set old.gates k Set) (c.block-block.ensures ∙ ap (λ (x : BufferState). x.block) same) in
    λ i. record old { disk = c.open_gate.new.disk; buffers = buffers i; gates = gates i })

-- ---- the disk

pub returns-in_err-open_gate-clause-cause : goal.returns-in_err-open_gate-clause-cause
returns-in_err-open_gate-clause-cause g c =
    on_err c.from_residual.result (Rose (g.D.Disk.view c.args.self.now.disk).faults (g.D.Disk.view c.open_gate.new.disk).faults)
    (subst (λ (v : ShelfView g.row.D.Denot). Rose (g.D.Disk.view v.disk).faults (g.D.Disk.view c.open_gate.new.disk).faults) c.self.view_is c.in_err-open_gate.ensures.call.cause.rose)

pub returns-clause-cause : goal.returns-clause-cause
returns-clause-cause g c = tt

pub returns-in_err-open_gate-clause-later : goal.returns-in_err-open_gate-clause-later
returns-in_err-open_gate-clause-later g c =
    let call = c.open_gate.ensures.call in
    subst (λ (v : ShelfView g.row.D.Denot). IsLater (g.D.Disk.view v.disk) (g.D.Disk.view c.open_gate.new.disk)) c.self.view_is
    (record { time = call.time; count = call.cause.later; size = call.size })

pub returns-in_err-open_gate-clause-honest : goal.returns-in_err-open_gate-clause-honest
returns-in_err-open_gate-clause-honest g c = subst (λ (v : ShelfView g.row.D.Denot). IsHonest (g.D.Disk.view v.disk)
    → IsHonest (g.D.Disk.view c.open_gate.new.disk)) c.self.view_is c.open_gate.ensures.call.honest

pub returns-clause-later : goal.returns-clause-later
returns-clause-later g c =
    let call = c.open_gate.ensures.call in
    subst (λ (v : ShelfView g.row.D.Denot). IsLater (g.D.Disk.view v.disk) (g.D.Disk.view c.open_gate.new.disk)) c.self.view_is
    (record { time = call.time; count = call.cause.later; size = call.size })

pub returns-clause-honest : goal.returns-clause-honest
returns-clause-honest g c = subst (λ (v : ShelfView g.row.D.Denot). IsHonest (g.D.Disk.view v.disk) → IsHonest (g.D.Disk.view c.open_gate.new.disk)) c.self.view_is c.open_gate.ensures.call.honest

pub open_gate-requires-clause-geometry : goal.open_gate-requires-clause-geometry
open_gate-requires-clause-geometry g c = c.self.invariant.0.geometry

pub open_gate-requires-clause-room : goal.open_gate-requires-clause-room
open_gate-requires-clause-room g c = c.self.invariant.0.room

pub open_gate-requires-clause-block : goal.open_gate-requires-clause-block
open_gate-requires-clause-block g c =
    let old : ShelfView g.row.D.Denot = record {
      disk = c.self.inside.disk;
      geometry = c.self.inside.geometry;
      limits = c.self.inside.limits;
      buffers = c.self.inside.buffers.items;
      gates =
          c.self.inside.gates.items;
      lives = c.self.inside.ledger;
      holds = c.self.inside.holds;
      free = c.self.inside.free.items;
      queue = c.self.inside.queue;
      cache = c.self.inside.cache;
      raid = c.self.inside.raid;
      next_number = c.self.inside.next_number;
    } in
    let b : BufferState = c.index_mut-buffer.result.now in
    let first : FoundAt (λ x. is_written x.phase ≡ true) c.args.at old.buffers b =
    found_at (λ x. is_written x.phase ≡ true) c.args.at old.buffers b
    (subst (λ (v : ShelfView g.row.D.Denot). IsFirstWith (λ x. is_written x.phase ≡ true) c.args.at v.buffers) (sym c.self.view_is)
    (c.requires.first, c.requires.written c.requires.first)) c.index_mut-buffer.ensures.value in
    let own = all_own (IsBufferOf old.geometry old.next_number) first.front b first.behind (subst (AllByRecursion (IsBufferOf old.geometry old.next_number)) first.parts c.self.invariant.0.buffers) in
    let below : c.block-block.result < old.geometry.blocks = subst (λ (k : ℕ). k < old.geometry.blocks) (sym c.block-block.ensures) own.block in
    below

pub index_mut-requires : goal.index_mut-requires
index_mut-requires g c =
    let old : ShelfView g.row.D.Denot = record {
      disk = c.self.inside.disk;
      geometry = c.self.inside.geometry;
      limits = c.self.inside.limits;
      buffers = c.self.inside.buffers.items;
      gates =
          c.self.inside.gates.items;
      lives = c.self.inside.ledger;
      holds = c.self.inside.holds;
      free = c.self.inside.free.items;
      queue = c.self.inside.queue;
      cache = c.self.inside.cache;
      raid = c.self.inside.raid;
      next_number = c.self.inside.next_number;
    } in
    let b : BufferState = c.index_mut-buffer.result.now in
    let first : FoundAt (λ x. is_written x.phase ≡ true) c.args.at old.buffers b =
    found_at (λ x. is_written x.phase ≡ true) c.args.at old.buffers b
    (subst (λ (v : ShelfView g.row.D.Denot). IsFirstWith (λ x. is_written x.phase ≡ true) c.args.at v.buffers) (sym c.self.view_is)
    (c.requires.first, c.requires.written c.requires.first)) c.index_mut-buffer.ensures.value in
    let own = all_own (IsBufferOf old.geometry old.next_number) first.front b first.behind (subst (AllByRecursion (IsBufferOf old.geometry old.next_number)) first.parts c.self.invariant.0.buffers) in
    let below : c.block-block.result < old.geometry.blocks = subst (λ (k : ℕ). k < old.geometry.blocks) (sym c.block-block.ensures) own.block in
    subst (λ (n : ℕ). c.block-block.result < n) (sym (c.self.inside.gates.ok.0 ∙ c.self.invariant.0.gates)) below

pub open_gate-requires-clause-settled : goal.open_gate-requires-clause-settled
open_gate-requires-clause-settled g c honest image left =
    let old : ShelfView g.row.D.Denot = record {
      disk = c.self.inside.disk;
      geometry = c.self.inside.geometry;
      limits = c.self.inside.limits;
      buffers = c.self.inside.buffers.items;
      gates =
          c.self.inside.gates.items;
      lives = c.self.inside.ledger;
      holds = c.self.inside.holds;
      free = c.self.inside.free.items;
      queue = c.self.inside.queue;
      cache = c.self.inside.cache;
      raid = c.self.inside.raid;
      next_number = c.self.inside.next_number;
    } in
    let b : BufferState = c.index_mut-buffer.result.now in
    let first : FoundAt (λ x. is_written x.phase ≡ true) c.args.at old.buffers b =
    found_at (λ x. is_written x.phase ≡ true) c.args.at old.buffers b
    (subst (λ (v : ShelfView g.row.D.Denot). IsFirstWith (λ x. is_written x.phase ≡ true) c.args.at v.buffers) (sym c.self.view_is)
    (c.requires.first, c.requires.written c.requires.first)) c.index_mut-buffer.ensures.value in
    let there = g.D.Disk.view old.disk in
    let ready = all_own (HasItsBody old.geometry there.may_leave) first.front b first.behind
    (subst (AllByRecursion (HasItsBody old.geometry there.may_leave)) first.parts (c.self.invariant.0.ready honest)) first.has in
    subst (λ (k : ℕ). body_bytes old.geometry k image ≡ body_bytes old.geometry k there.seen) (sym c.block-block.ensures) (ready image left ∙ sym (ready there.seen honest.image))
