use Rattle.std.proofs.Common.{arith, ◌≡◌, ◌<◌, ℕ, Ok, Err, List, [], map, sym, ◌∙◌, ap, subst}
use Rattle.std.specs.List.{All}
use Rattle.std.proofs.lemmas.List.Elements.{All-from_recursion}
use Rattle.law_lists.proofs.Answers.{passed_on}
use Rattle.disk_model.specs.Disk.{IsHonest}
use Rattle.rec_format.specs.declared.version.Digest.{Digest}
use Rattle.rec_format.specs.declared.version.Stamp.{Stamp}
use Rattle.rec_format.specs.Places.{part_number_of, part_count}
use Rattle.model_device.specs.Device.{scan_turn}
use Rattle.model_device.specs.Steps.{after_step, scanned_block}
use Rattle.block_format.specs.declared.geometry.Found.{Found}
use Rattle.law_facts.specs.Asking.{FindsOlder}
use Rattle.law_images.specs.Held.{loosened}
use Rattle.law_images.proofs.Scanning.{scan_finds}
use Rattle.raid_book.specs.Books.{BookState, with_scan}
use Rattle.raid_book.specs.Found.{copies_for, with_parts}
use Rattle.raid_book.specs.Raids.{RaidStands, found_copies, found_parts}
use Rattle.raid_book.specs.Turns.{turn_of}
use Rattle.block_shelf.specs.declared.refusals.VacateRefusal.TheVariants.{Memory}
use Rattle.block_shelf.specs.View.{ShelfView, IsSetupOf, records_of, gate_at}
use Rattle.block_shelf.specs.Standing.{ImagesHold}
use Rattle.block_shelf.specs.Calls.{Goes}
use Rattle.block_shelf.specs.Scans.{ScansIn, ReadsAll, own_found, possible_copies}
use Rattle.block_shelf.proofs.Scanning.{reads_at, unread, wanting_memory, taken_in}
use Rattle.block_shelf.proofs.RaidTurns.{goes_scanned, raided_shelf}
use Rattle.block_shelf.proofs.ScanFinds.{own_finds, own_only, parts_below}
use Rattle.block_shelf.proofs.shelf.Shelf.scan_block.Goals as goal

pub returns-in_err-found : goal.returns-in_err-found
returns-in_err-found g c =
    passed_on c.from_residual.result c.in_err-found.field-0.0 (ScansIn g.D.Disk.view c.args.block c.args.self.now c.records_in.new.self) c.from_residual.ensures.1
    (unread g.D.Disk.view g.met.D.Disk.is_disk c.args.block c.args.self.now _ c.records_in.new.self c.in_err-found.field-0.0 c.in_err-found.ensures)

pub returns-in_default : goal.returns-in_default
returns-in_default g c = wanting_memory g.D.Disk.view g.met.D.Disk.is_disk c.args.block c.args.self.now _ c.records_in.new.self c.in_ok-found.found c.in_ok-found.ensures

pub returns-in_default-parts_in : goal.returns-in_default-parts_in
returns-in_default-parts_in g c = wanting_memory g.D.Disk.view g.met.D.Disk.is_disk c.args.block c.args.self.now _ c.records_in.new.self c.in_ok-found.found c.in_ok-found.ensures

pub scanned-requires-clause-turn : goal.scanned-requires-clause-turn
scanned-requires-clause-turn g c = ap (λ (v : ShelfView g.row.D.Denot). v.raid.next) (c.self.view_is ∙ c.records_in.ensures.rest) ∙ c.requires.turn

pub invariant_of-self : goal.invariant_of-self
invariant_of-self g c =
    let here : ShelfView g.row.D.Denot = record {
      disk = c.self.inside.disk;
      geometry = c.self.inside.geometry;
      limits = c.self.inside.limits;
      buffers = c.self.inside.buffers.items;
      gates =
          c.self.inside.gates.items;
      lives = c.self.inside.ledger;
      holds = c.self.inside.holds;
      free = c.self.inside.free.items;
      queue = c.self.inside.queue;
      cache = c.self.inside.cache;
      raid = c.self.inside.raid;
      next_number = c.self.inside.next_number;
    } in
    let was = c.self.invariant.0.raid in (
      raided_shelf g.D.Disk.view here c.scanned.new.self c.self.invariant.0
          (record {
            parts = ap (λ (b : BookState). b.parts) c.in_default-scanned.ensures.err
                ∙ was.parts;
            blocks = ap (λ (b : BookState). b.blocks) c.in_default-scanned.ensures.err ∙ was.blocks;
          }),
      c.self.invariant.1,
      c.self.invariant.2,
    )

pub invariant_of-self-2 : goal.invariant_of-self-2
invariant_of-self-2 g c =
    let here : ShelfView g.row.D.Denot = record {
      disk = c.self.inside.disk;
      geometry = c.self.inside.geometry;
      limits = c.self.inside.limits;
      buffers = c.self.inside.buffers.items;
      gates =
          c.self.inside.gates.items;
      lives = c.self.inside.ledger;
      holds = c.self.inside.holds;
      free = c.self.inside.free.items;
      queue = c.self.inside.queue;
      cache = c.self.inside.cache;
      raid = c.self.inside.raid;
      next_number = c.self.inside.next_number;
    } in
    let was = c.self.invariant.0.raid in (
      raided_shelf g.D.Disk.view here c.scanned.new.self c.self.invariant.0
          (record { parts = ap (λ (b : BookState). b.parts) c.in-Ok-scanned.ensures.book ∙ was.parts; blocks = ap (λ (b : BookState). b.blocks) c.in-Ok-scanned.ensures.book ∙ was.blocks }),
      c.self.invariant.1,
      c.self.invariant.2,
    )

pub scanned-requires-clause-below : goal.scanned-requires-clause-below
scanned-requires-clause-below g c =
    let shape = c.self.inside.geometry in
    let sprigs : ℕ = c.self.inside.limits.sprigs in
    let is = c.self.invariant.0 in
    let most : ℕ = part_count shape.device shape.devices sprigs in
    let parts : c.deref-4.result.now ≡ map (λ f. part_number_of shape.devices sprigs f.head.digest) (own_found shape c.deref.result.now) =
    c.deref-4.ensures.value ∙ c.in-Ok-parts_in.ensures.parts ∙ ap (map (λ (f : Found). part_number_of shape.devices sprigs f.head.digest)) (c.deref-2.ensures.value ∙ c.in-Ok.ensures) in
    subst (λ (n : ℕ). All (λ p. p < n) c.deref-4.result.now) (sym is.raid.parts)
    (subst (All (λ p. p < most)) (sym parts) (All-from_recursion (λ p. p < most) (map (λ f. part_number_of shape.devices sprigs f.head.digest) (own_found shape c.deref.result.now))
    (parts_below shape sprigs c.deref.result.now (let some = is.geometry.device in omega (arith, some)) (let some = is.limits.sprigs.0 in omega (arith, some)))))

pub returns-in_default-scanned : goal.returns-in_default-scanned
returns-in_default-scanned g c =
    let here : ShelfView g.row.D.Denot = record {
      disk = c.self.inside.disk;
      geometry = c.self.inside.geometry;
      limits = c.self.inside.limits;
      buffers = c.self.inside.buffers.items;
      gates =
          c.self.inside.gates.items;
      lives = c.self.inside.ledger;
      holds = c.self.inside.holds;
      free = c.self.inside.free.items;
      queue = c.self.inside.queue;
      cache = c.self.inside.cache;
      raid = c.self.inside.raid;
      next_number = c.self.inside.next_number;
    } in
    subst (λ (v : ShelfView g.row.D.Denot). ScansIn g.D.Disk.view c.args.block c.args.self.now v (Err Memory))
    (sym c.self.view_is ∙ ap (λ (b : BookState). record here { raid = b }) (sym c.in_default-scanned.ensures.err))
    (wanting_memory g.D.Disk.view g.met.D.Disk.is_disk c.args.block c.args.self.now _ c.records_in.new.self c.in_ok-found.found c.in_ok-found.ensures)

pub returns : goal.returns
returns g c =
    let view = g.D.Disk.view in
    let old = c.args.self.now in
    let here : ShelfView g.row.D.Denot = record {
      disk = c.self.inside.disk;
      geometry = c.self.inside.geometry;
      limits = c.self.inside.limits;
      buffers = c.self.inside.buffers.items;
      gates =
          c.self.inside.gates.items;
      lives = c.self.inside.ledger;
      holds = c.self.inside.holds;
      free = c.self.inside.free.items;
      queue = c.self.inside.queue;
      cache = c.self.inside.cache;
      raid = c.self.inside.raid;
      next_number = c.self.inside.next_number;
    } in
    taken_in view g.met.D.Disk.is_disk c.args.block old _ here c.in_ok-found.found c.scanned.new.self
    (reads_at view g.met.D.Disk.is_disk c.args.block old _ c.records_in.new.self here (Ok c.in_ok-found.found) (sym c.self.view_is) c.in_ok-found.ensures)
    (c.in-Ok-scanned.ensures.book ∙ ap (with_scan c.scanned.new.self.found) (ap (λ (v : ShelfView g.row.D.Denot). v.raid) (c.self.view_is ∙ c.records_in.ensures.rest)))
    (λ bytes reads.
    let found : List Found = c.in_ok-found.found.items in
    let rest : here ≡ record old { disk = c.records_in.new.self.disk; gates = c.records_in.new.self.gates } = c.self.view_is ∙ c.records_in.ensures.rest in
    let shape_is : here.geometry ≡ old.geometry = ap (λ (v : ShelfView g.row.D.Denot). v.geometry) rest in
    let sprigs_is : here.limits.sprigs ≡ old.limits.sprigs = ap (λ (v : ShelfView g.row.D.Denot). v.limits.sprigs) rest in
    let own : c.deref-3.result.now ≡ own_found here.geometry found = c.deref-3.ensures.value ∙ c.in-Ok.ensures ∙ ap (own_found here.geometry) c.deref.ensures.value in
    let own_here : c.deref-2.result.now ≡ own_found here.geometry found = c.deref-2.ensures.value ∙ c.in-Ok.ensures ∙ ap (own_found here.geometry) c.deref.ensures.value in
    let parts : c.deref-4.result.now ≡ map (λ f. part_number_of here.geometry.devices here.limits.sprigs f.head.digest) (own_found here.geometry found) =
    c.deref-4.ensures.value ∙ c.in-Ok-parts_in.ensures.parts ∙ ap (map (λ (f : Found). part_number_of here.geometry.devices here.limits.sprigs f.head.digest)) own_here in
    record {
      found = found;
      reads = reads;
      kept = λ part. c.in-Ok-scanned.ensures.found part ∙ (λ i. copies_for part (with_parts (own i) (parts i)))
          ∙ (λ i. copies_for part (with_parts (own_found (shape_is i) found)
          (map (λ f. part_number_of (shape_is i).devices (sprigs_is i) f.head.digest) (own_found (shape_is i) found))));
    })
    (λ setup s is stands books.
    let went : Goes view setup [] old s here = subst (Goes view setup [] old s) (sym c.self.view_is) (c.records_in.ensures.goes setup s stands) in
    let found : List Found = c.in_ok-found.found.items in
    let own : c.deref-3.result.now ≡ own_found here.geometry found = c.deref-3.ensures.value ∙ c.in-Ok.ensures ∙ ap (own_found here.geometry) c.deref.ensures.value in
    let copies : List (Digest × Stamp) = found_copies (own_found here.geometry found) in
    let setup_here : IsSetupOf setup here = subst (IsSetupOf setup) (sym (c.self.view_is ∙ c.records_in.ensures.rest))
    (record { shape = is.shape; pending = is.pending; lwm = is.lwm; cache = is.cache; sprigs = is.sprigs }) in
    let shape_here : here.geometry.devices ≡ setup.devices = sym setup_here.shape.devices in
    let sprigs_here : here.limits.sprigs ≡ setup.sprigs = sym setup_here.sprigs in
    let raid_was : RaidStands setup here.raid s.raid = (went.queued books).raid in
    let parts : c.deref-4.result.now ≡ found_parts setup c.deref-3.result.now =
    c.deref-4.ensures.value ∙ c.in-Ok-parts_in.ensures.parts
    ∙ ap (map (λ (f : Found). part_number_of here.geometry.devices here.limits.sprigs f.head.digest)) (c.deref-2.ensures.value ∙ sym c.deref-3.ensures.value)
    ∙ (λ i. map (λ (f : Found). part_number_of (shape_here i) (sprigs_here i) f.head.digest) c.deref-3.result.now) in
    let raid : RaidStands setup c.scanned.new.self (after_step setup (scanned_block copies) s).raid =
    subst (λ (l : List Found). RaidStands setup c.scanned.new.self (after_step setup (scanned_block (found_copies l)) s).raid) own (c.in-Ok-scanned.ensures.raid setup s raid_was parts) in
    let turn : s.raid.next ≡ scan_turn c.args.block = sym books.raid.turns.next ∙ ap turn_of c.requires.turn in
    let reads_here : IsHonest (view old.disk) → ImagesHold setup view old s → ReadsAll view here s c.args.block found =
    λ honest safe. subst (λ (v : ShelfView g.row.D.Denot). ReadsAll view v s c.args.block found) (sym c.self.view_is) (c.in_ok-found.ensures.all setup s honest stands safe) in
    let finds : IsHonest (view old.disk) → ImagesHold setup view old s → FindsOlder s (possible_copies view here s) c.args.block copies =
    λ honest safe.
    let reads = reads_here honest safe in
    let held = (went.safe honest safe).held in
    scan_finds here.geometry s (records_of here.buffers) (loosened here.geometry (gate_at here.gates) (view here.disk).may_leave) c.args.block reads.records copies reads.all
    (own_finds setup here.geometry s (possible_copies view here s) reads.records found held.shape held.facts reads.found_is) in
    record {
      copies = copies;
      goes = goes_scanned view setup old here s went c.args.block copies c.scanned.new.self turn raid finds;
      all = finds;
      only = λ honest safe. let reads = reads_here honest safe in own_only here.geometry (possible_copies view here s) c.args.block reads.records found reads.found_is reads.only;
    })
