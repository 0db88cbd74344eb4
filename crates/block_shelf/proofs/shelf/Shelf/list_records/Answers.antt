use Rattle.std.proofs.Common.{arith, ◌≡◌, ◌≢◌, ◌≤◌, ◌+◌, ◌*◌, ◌-◌, ◌/◌, List, ℕ, Err, length, ◌∙◌, sym, ap, subst, drop, rules}
use Rattle.std.specs.Prelude.{MatchResult}
use Rattle.std.specs.List.{AllByRecursion}
use Rattle.std.proofs.lemmas.List.{take_at}
use Rattle.rec_format.specs.Versions.{block_capacity}
use Rattle.block_format.specs.Layout.{IsBody, most_records}
use Rattle.write_buffer.specs.Buffers.{BufferState, bytes_of, body_in}
use Rattle.write_buffer.proofs.Sizes.{sized, body_size}
use Rattle.block_shelf.specs.declared.refusals.VacateRefusal.TheVariants.{Fault}
use Rattle.block_shelf.specs.View.{ShelfView, IsShelf, in_memory}
use Rattle.block_shelf.specs.Scans.{IsDamageOf}
use Rattle.block_shelf.specs.Vacating.{ListsBody}
use Rattle.block_shelf.proofs.ReadOnly.{shelf_read}
use Rattle.block_shelf.proofs.Vacating.{lists_memory, lists_disk, lists_read, lists_of}
use Rattle.block_shelf.proofs.shelf.Shelf.list_records.Goals as goal

-- as many records at most as a body of these bytes can have
few_in : (n size : ℕ) → (bytes : List ℕ) → length bytes ≡ size - 4096 → n ≤ most_records ((length bytes - 32) / 16) → n ≤ most_records (block_capacity size)
few_in n size bytes long few = subst (λ (k : ℕ). n ≤ most_records k) (ap (λ (m : ℕ). m / 16) (omega (arith, long))) few

pub listed_in-requires-clause-size : goal.listed_in-requires-clause-size
listed_in-requires-clause-size g c =
    let is : IsShelf g.D.Disk.view c.args.self.now = subst (IsShelf g.D.Disk.view) c.self.view_is c.self.invariant.0 in
    let s = sized c.args.self.now.geometry.block_size is.geometry.block_size in
    omega (arith, s.low, s.high, c.body.ensures.size, c.in-Some.ensures.capacity.0, body_size c.args.self.now.geometry.block_size is.geometry.block_size)

pub returns-in-Some-clause-listed : goal.returns-in-Some-clause-listed
returns-in-Some-clause-listed g c =
    let shelf = c.args.self.now in
    let is : IsShelf g.D.Disk.view shelf = subst (IsShelf g.D.Disk.view) c.self.view_is c.self.invariant.0 in
    let b : BufferState = c.in-Some.buffer.now in
    let long : length c.body.result.now ≡ shelf.geometry.block_size - 4096 = c.body.ensures.size ∙ ap (λ (n : ℕ). 32 + 16 * n) c.in-Some.ensures.capacity.0
    ∙ body_size shelf.geometry.block_size is.geometry.block_size in
    let is_body : IsBody (block_capacity shelf.geometry.block_size) (bytes_of b) (body_in b) =
    subst (λ (l : List ℕ). IsBody (block_capacity shelf.geometry.block_size) l (body_in b)) c.body.ensures.bytes
    (subst (λ (n : ℕ). IsBody n c.body.result.now (body_in b)) c.in-Some.ensures.capacity.0 c.body.ensures.body) in
    lists_memory g.D.Disk.view g.met.D.Disk.is_disk c.args.block shelf is c.listed_in.new.digests.items c.listed_in.result b c.in-Some.ensures.some.0 c.in-Some.ensures.some.1
    c.in-Some.ensures.only is_body
    (subst (λ (t : List ℕ). MatchResult c.listed_in.result (λ done. ListsBody shelf.geometry t c.args.block c.listed_in.new.digests.items) (IsDamageOf shelf.geometry t c.args.block))
    c.body.ensures.bytes (c.listed_in.ensures.listed shelf.geometry long))
    c.listed_in.ensures.told (few_in (length c.listed_in.new.digests.items) shelf.geometry.block_size c.body.result.now long c.listed_in.ensures.few)

pub invariant_of-self : goal.invariant_of-self
invariant_of-self g c = (
  shelf_read g.D.Disk.view g.met.D.Disk.is_disk _ c.load_body.new.disk c.self.invariant.0 c.load_body.ensures.disk,
  c.self.invariant.1,
  (let size : length c.load_body.new.body ≡ c.self.inside.body.len = omega arith in
      ap length (take_at c.load_body.new.body (drop (length c.load_body.new.body) c.self.inside.body.items) c.self.inside.body.len size)
      ∙ omega (arith, size, c.deref_mut.ensures.len, ap length c.deref_mut.ensures.value, c.self.invariant.2)),
)

pub listed_in-requires-2-clause-head : goal.listed_in-requires-2-clause-head
listed_in-requires-2-clause-head g c =
    let s = sized c.self.inside.geometry.block_size c.self.invariant.0.geometry.block_size in
    omega (arith, s.low, c.deref_mut.ensures.len, ap length c.deref_mut.ensures.value, c.deref.ensures.len, c.self.invariant.2)

pub listed_in-requires-2-clause-size : goal.listed_in-requires-2-clause-size
listed_in-requires-2-clause-size g c =
    let s = sized c.self.inside.geometry.block_size c.self.invariant.0.geometry.block_size in
    omega (arith, s.high, c.deref_mut.ensures.len, ap length c.deref_mut.ensures.value, c.deref.ensures.len, c.self.invariant.2)

pub invariant_of-self-2 : goal.invariant_of-self-2
invariant_of-self-2 g c = (
  shelf_read g.D.Disk.view g.met.D.Disk.is_disk _ c.load_body.new.disk c.self.invariant.0 c.load_body.ensures.disk,
  c.self.invariant.1,
  (let size : length c.load_body.new.body ≡ c.self.inside.body.len = omega arith in
      ap length (take_at c.load_body.new.body (drop (length c.load_body.new.body) c.self.inside.body.items) c.self.inside.body.len size)
      ∙ omega (arith, size, c.deref_mut.ensures.len, ap length c.deref_mut.ensures.value, c.self.invariant.2)),
)

pub returns-in_default-load_body-clause-listed : goal.returns-in_default-load_body-clause-listed
returns-in_default-load_body-clause-listed g c =
    let old : ShelfView g.row.D.Denot = record {
      disk = c.self.inside.disk;
      geometry = c.self.inside.geometry;
      limits = c.self.inside.limits;
      buffers = c.self.inside.buffers.items;
      gates = c.self.inside.gates.items;
      lives = c.self.inside.ledger;
      holds = c.self.inside.holds;
      free = c.self.inside.free.items;
      queue = c.self.inside.queue;
      cache = c.self.inside.cache;
      raid = c.self.inside.raid;
      next_number = c.self.inside.next_number;
    } in
    let none : AllByRecursion (λ b. b.block ≢ c.args.block) (in_memory c.args.self.now) = search rules in
    let unkept : AllByRecursion (λ b. b.block ≢ c.args.block) (in_memory old) =
    subst (λ (v : ShelfView g.row.D.Denot). AllByRecursion (λ b. b.block ≢ c.args.block) (in_memory v)) (sym c.self.view_is) none in
    lists_of old c.args.self.now c.self.view_is g.D.Disk.view c.args.block (record old { disk = c.load_body.new.disk }) c.args.digests.now.items (Err Fault)
    (lists_disk g.D.Disk.view g.met.D.Disk.is_disk c.args.block old c.self.invariant.0 c.args.digests.now.items (Err Fault) unkept c.load_body.new.disk c.load_body.ensures.disk
    (λ tells. tt) tt c.requires.empty (omega (arith, ap length c.requires.empty)) (λ same. c.in_default-load_body.ensures.cause))

pub returns-clause-listed : goal.returns-clause-listed
returns-clause-listed g c =
    let old : ShelfView g.row.D.Denot = record {
      disk = c.self.inside.disk;
      geometry = c.self.inside.geometry;
      limits = c.self.inside.limits;
      buffers = c.self.inside.buffers.items;
      gates = c.self.inside.gates.items;
      lives = c.self.inside.ledger;
      holds = c.self.inside.holds;
      free = c.self.inside.free.items;
      queue = c.self.inside.queue;
      cache = c.self.inside.cache;
      raid = c.self.inside.raid;
      next_number = c.self.inside.next_number;
    } in
    let size : length c.load_body.new.body ≡ c.self.inside.body.len = omega arith in
    let bytes = c.deref.ensures.value ∙ take_at c.load_body.new.body (drop (length c.load_body.new.body) c.self.inside.body.items) c.self.inside.body.len size in
    let long : length c.deref.result.now ≡ old.geometry.block_size - 4096 =
    omega (arith, c.deref_mut.ensures.len, ap length c.deref_mut.ensures.value, c.deref.ensures.len, c.self.invariant.2) in
    let none : AllByRecursion (λ b. b.block ≢ c.args.block) (in_memory c.args.self.now) = search rules in
    let unkept : AllByRecursion (λ b. b.block ≢ c.args.block) (in_memory old) =
    subst (λ (v : ShelfView g.row.D.Denot). AllByRecursion (λ b. b.block ≢ c.args.block) (in_memory v)) (sym c.self.view_is) none in
    lists_of old c.args.self.now c.self.view_is g.D.Disk.view c.args.block (record old { disk = c.load_body.new.disk }) c.listed_in-2.new.digests.items c.listed_in-2.result
    (lists_read g.D.Disk.view g.met.D.Disk.is_disk c.args.block old c.self.invariant.0 c.listed_in-2.new.digests.items c.listed_in-2.result unkept c.load_body.new.disk c.load_body.ensures.disk
    (λ tells. subst (λ (t : List ℕ). MatchResult c.listed_in-2.result (λ done. ListsBody old.geometry t c.args.block c.listed_in-2.new.digests.items) (IsDamageOf old.geometry t c.args.block))
    (bytes ∙ c.in-Ok.ensures.read tells) (c.listed_in-2.ensures.listed old.geometry long))
    c.listed_in-2.ensures.told c.listed_in-2.ensures.none
    (few_in (length c.listed_in-2.new.digests.items) old.geometry.block_size c.deref.result.now long c.listed_in-2.ensures.few))
