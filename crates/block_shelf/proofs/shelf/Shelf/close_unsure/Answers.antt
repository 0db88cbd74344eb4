use Rattle.std.proofs.Common.{arith, rules, true, ◌≡◌, ◌≢◌, ◌<◌, ℕ, List, Ok, Err, sym, ◌∙◌, ap, subst}
use Rattle.std.specs.Prelude.{slice_set}
use Rattle.std.specs.List.{AllByRecursion}
use Rattle.std.specs.Vec.{with_items}
use Rattle.std.proofs.lemmas.List.{get_or-set_same, with_items_is}
use Rattle.disk_model.specs.declared.disk.DiskFault.{DiskFault}
use Rattle.law_lists.proofs.Answers.{passed_on}
use Rattle.block_format.specs.declared.geometry.Gate.{Gate}
use Rattle.block_format.specs.declared.geometry.Gate.TheVariants.{Shut, Unsure}
use Rattle.block_shelf.specs.View.{ShelfView, IsShelf, gate_at}
use Rattle.block_shelf.specs.Heals.{ClosesUnsure}
use Rattle.block_shelf.proofs.Scanning.{no_close, closes, fails_to_close}
use Rattle.block_shelf.proofs.Unsure.{closed_shelf, goes_closed, goes_unclosed}
use Rattle.block_shelf.proofs.shelf.Shelf.close_unsure.Goals as goal

pub returns-then-ne : goal.returns-then-ne
returns-then-ne g c =
    let sure : gate_at c.args.self.now.gates c.args.block ≢ Unsure = grind (arith, c.if-ne.true, c.ne.ensures, c.gate.ensures) in
    no_close g.D.Disk.view g.met.D.Disk.is_disk c.args.block c.args.self.now sure (search rules)

pub invariant_of-self : goal.invariant_of-self
invariant_of-self g c =
    let d = g.D.Disk in
    let law = g.met.D.Disk in
    let old : ShelfView g.row.D.Denot = record {
      disk = c.self.inside.disk;
      geometry = c.self.inside.geometry;
      limits = c.self.inside.limits;
      buffers = c.self.inside.buffers.items;
      gates =
          c.self.inside.gates.items;
      lives = c.self.inside.ledger;
      holds = c.self.inside.holds;
      free = c.self.inside.free.items;
      queue = c.self.inside.queue;
      cache = c.self.inside.cache;
      raid = c.self.inside.raid;
      next_number = c.self.inside.next_number;
    } in
    let is : IsShelf d.view old = c.self.invariant.0 in
    let lt : c.args.block < old.geometry.blocks = subst (λ (v : ShelfView g.row.D.Denot). c.args.block < v.geometry.blocks) (sym c.self.view_is) c.requires.block in
    let unbuffered : AllByRecursion (λ b. b.block ≢ c.args.block) old.buffers =
    subst (λ (v : ShelfView g.row.D.Denot). AllByRecursion (λ b. b.block ≢ c.args.block) v.buffers) (sym c.self.view_is) c.requires.unbuffered in
    let disk = c.shut_gate.new.disk in
    let e = c.in_err-shut_gate.ensures in
    let known : c.shut_gate.new.gates ≡ slice_set old.gates c.args.block Unsure = e.known ∙ ap (λ (l : List Gate). slice_set l c.args.block Unsure) c.deref_mut.ensures.value in
    let gates : (with_items c.self.inside.gates c.shut_gate.new.gates).items ≡ c.shut_gate.new.gates =
    with_items_is c.self.inside.gates c.shut_gate.new.gates (c.shut_gate.auto.gates ∙ c.deref_mut.ensures.len) in (
      subst (λ (l : List Gate). IsShelf d.view (record old { disk = disk; gates = l })) (sym gates)
          (closed_shelf d.view law.is_disk old disk c.args.block is lt unbuffered e.later e.honest e.was_honest e.images c.shut_gate.new.gates e.stands e.was_told e.bytes Unsure known),
      c.self.invariant.1,
      c.self.invariant.2,
    )

pub returns-in_err-shut_gate : goal.returns-in_err-shut_gate
returns-in_err-shut_gate g c =
    let d = g.D.Disk in
    let law = g.met.D.Disk in
    let old : ShelfView g.row.D.Denot = record {
      disk = c.self.inside.disk;
      geometry = c.self.inside.geometry;
      limits = c.self.inside.limits;
      buffers = c.self.inside.buffers.items;
      gates =
          c.self.inside.gates.items;
      lives = c.self.inside.ledger;
      holds = c.self.inside.holds;
      free = c.self.inside.free.items;
      queue = c.self.inside.queue;
      cache = c.self.inside.cache;
      raid = c.self.inside.raid;
      next_number = c.self.inside.next_number;
    } in
    let is : IsShelf d.view old = c.self.invariant.0 in
    let lt : c.args.block < old.geometry.blocks = subst (λ (v : ShelfView g.row.D.Denot). c.args.block < v.geometry.blocks) (sym c.self.view_is) c.requires.block in
    let unbuffered : AllByRecursion (λ b. b.block ≢ c.args.block) old.buffers =
    subst (λ (v : ShelfView g.row.D.Denot). AllByRecursion (λ b. b.block ≢ c.args.block) v.buffers) (sym c.self.view_is) c.requires.unbuffered in
    let disk = c.shut_gate.new.disk in
    let e = c.in_err-shut_gate.ensures in
    let known : c.shut_gate.new.gates ≡ slice_set old.gates c.args.block Unsure = e.known ∙ ap (λ (l : List Gate). slice_set l c.args.block Unsure) c.deref_mut.ensures.value in
    let gates : (with_items c.self.inside.gates c.shut_gate.new.gates).items ≡ c.shut_gate.new.gates =
    with_items_is c.self.inside.gates c.shut_gate.new.gates (c.shut_gate.auto.gates ∙ c.deref_mut.ensures.len) in
    let unsure : gate_at old.gates c.args.block ≡ Unsure = subst (λ (v : ShelfView g.row.D.Denot). gate_at v.gates c.args.block ≡ Unsure) (sym c.self.view_is)
    (grind (arith, c.if-ne.false, c.ne.ensures, c.gate.ensures)) in
    let closed = closed_shelf d.view law.is_disk old disk c.args.block is lt unbuffered e.later e.honest e.was_honest e.images c.shut_gate.new.gates e.stands e.was_told e.bytes Unsure known in
    passed_on c.from_residual.result c.in_err-shut_gate.field-0.0 (ClosesUnsure d.view c.args.block c.args.self.now (record old { disk = disk; gates = (with_items c.self.inside.gates c.shut_gate.new.gates).items })) c.from_residual.ensures.1
    (subst (λ (v : ShelfView g.row.D.Denot). ClosesUnsure d.view c.args.block v (record old { disk = disk; gates = (with_items c.self.inside.gates c.shut_gate.new.gates).items }) (Err c.in_err-shut_gate.field-0.0))
    c.self.view_is
    (subst (λ (l : List Gate). ClosesUnsure d.view c.args.block old (record old { disk = disk; gates = l }) (Err c.in_err-shut_gate.field-0.0)) (sym gates)
    (fails_to_close d.view law.is_disk c.args.block old unsure disk c.shut_gate.new.gates closed
    (λ setup s stands. goes_unclosed d.view law.is_disk old disk c.args.block is lt unbuffered e.later e.honest e.was_honest e.images c.shut_gate.new.gates e.stands unsure setup s stands
    known) e.later e.honest c.in_err-shut_gate.field-0.0 known e.cause)))

pub invariant_of-self-2 : goal.invariant_of-self-2
invariant_of-self-2 g c =
    let d = g.D.Disk in
    let law = g.met.D.Disk in
    let old : ShelfView g.row.D.Denot = record {
      disk = c.self.inside.disk;
      geometry = c.self.inside.geometry;
      limits = c.self.inside.limits;
      buffers = c.self.inside.buffers.items;
      gates =
          c.self.inside.gates.items;
      lives = c.self.inside.ledger;
      holds = c.self.inside.holds;
      free = c.self.inside.free.items;
      queue = c.self.inside.queue;
      cache = c.self.inside.cache;
      raid = c.self.inside.raid;
      next_number = c.self.inside.next_number;
    } in
    let is : IsShelf d.view old = c.self.invariant.0 in
    let lt : c.args.block < old.geometry.blocks = subst (λ (v : ShelfView g.row.D.Denot). c.args.block < v.geometry.blocks) (sym c.self.view_is) c.requires.block in
    let unbuffered : AllByRecursion (λ b. b.block ≢ c.args.block) old.buffers =
    subst (λ (v : ShelfView g.row.D.Denot). AllByRecursion (λ b. b.block ≢ c.args.block) v.buffers) (sym c.self.view_is) c.requires.unbuffered in
    let disk = c.shut_gate.new.disk in
    let e = c.in_ok-shut_gate.ensures in
    let known : c.shut_gate.new.gates ≡ slice_set old.gates c.args.block Shut = e.known ∙ ap (λ (l : List Gate). slice_set l c.args.block Shut) c.deref_mut.ensures.value in
    let gates : (with_items c.self.inside.gates c.shut_gate.new.gates).items ≡ c.shut_gate.new.gates =
    with_items_is c.self.inside.gates c.shut_gate.new.gates (c.shut_gate.auto.gates ∙ c.deref_mut.ensures.len) in (
      subst (λ (l : List Gate). IsShelf d.view (record old { disk = disk; gates = l })) (sym gates)
          (closed_shelf d.view law.is_disk old disk c.args.block is lt unbuffered e.later e.honest e.was_honest e.images c.shut_gate.new.gates e.stands e.was_told e.bytes Shut known),
      c.self.invariant.1,
      c.self.invariant.2,
    )

pub returns : goal.returns
returns g c =
    let d = g.D.Disk in
    let law = g.met.D.Disk in
    let old : ShelfView g.row.D.Denot = record {
      disk = c.self.inside.disk;
      geometry = c.self.inside.geometry;
      limits = c.self.inside.limits;
      buffers = c.self.inside.buffers.items;
      gates =
          c.self.inside.gates.items;
      lives = c.self.inside.ledger;
      holds = c.self.inside.holds;
      free = c.self.inside.free.items;
      queue = c.self.inside.queue;
      cache = c.self.inside.cache;
      raid = c.self.inside.raid;
      next_number = c.self.inside.next_number;
    } in
    let is : IsShelf d.view old = c.self.invariant.0 in
    let lt : c.args.block < old.geometry.blocks = subst (λ (v : ShelfView g.row.D.Denot). c.args.block < v.geometry.blocks) (sym c.self.view_is) c.requires.block in
    let unbuffered : AllByRecursion (λ b. b.block ≢ c.args.block) old.buffers =
    subst (λ (v : ShelfView g.row.D.Denot). AllByRecursion (λ b. b.block ≢ c.args.block) v.buffers) (sym c.self.view_is) c.requires.unbuffered in
    let disk = c.shut_gate.new.disk in
    let e = c.in_ok-shut_gate.ensures in
    let known : c.shut_gate.new.gates ≡ slice_set old.gates c.args.block Shut = e.known ∙ ap (λ (l : List Gate). slice_set l c.args.block Shut) c.deref_mut.ensures.value in
    let gates : (with_items c.self.inside.gates c.shut_gate.new.gates).items ≡ c.shut_gate.new.gates =
    with_items_is c.self.inside.gates c.shut_gate.new.gates (c.shut_gate.auto.gates ∙ c.deref_mut.ensures.len) in
    let unsure : gate_at old.gates c.args.block ≡ Unsure = subst (λ (v : ShelfView g.row.D.Denot). gate_at v.gates c.args.block ≡ Unsure) (sym c.self.view_is)
    (grind (arith, c.if-ne.false, c.ne.ensures, c.gate.ensures)) in
    let closed = closed_shelf d.view law.is_disk old disk c.args.block is lt unbuffered e.later e.honest e.was_honest e.images c.shut_gate.new.gates e.stands e.was_told e.bytes Shut known in
    let shut : gate_at c.shut_gate.new.gates c.args.block ≡ Shut = ap (λ (l : List Gate). gate_at l c.args.block) known
    ∙ get_or-set_same old.gates c.args.block Shut Shut (subst (λ (n : ℕ). c.args.block < n) (sym is.gates) lt) in
    subst (λ (v : ShelfView g.row.D.Denot). ClosesUnsure {E = DiskFault} d.view c.args.block v (record old { disk = disk; gates = (with_items c.self.inside.gates c.shut_gate.new.gates).items }) (Ok true))
    c.self.view_is
    (subst (λ (l : List Gate). ClosesUnsure {E = DiskFault} d.view c.args.block old (record old { disk = disk; gates = l }) (Ok true)) (sym gates)
    (closes d.view law.is_disk c.args.block old unsure disk c.shut_gate.new.gates closed
    (λ setup s stands. goes_closed d.view law.is_disk old disk c.args.block is lt unbuffered e.later e.honest e.was_honest e.images c.shut_gate.new.gates e.stands unsure setup s stands
    known) e.later e.honest shut known))
