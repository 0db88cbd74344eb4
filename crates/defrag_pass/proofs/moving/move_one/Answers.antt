use Rattle.std.proofs.Common.{◌≡◌, Bool, true, false, refl, sym, ◌∙◌, ap, subst, arith}
use Rattle.std.specs.Prelude.{◌≢◌, Option, Some, Result, Ok, Err, IfErr, IsSome, option_map}
use Rattle.std.specs.List.{AllByRecursion}
use Rattle.std.proofs.lemmas.Bool.{ne_eqb}
use Rattle.std.proofs.lemmas.Result.{err_from_is_err_and}
use Rattle.rec_format.specs.Entries.{Names}
use Rattle.rec_format.specs.declared.version.Digest.{Digest}
use Rattle.rec_format.specs.declared.entry.Entry.{Entry}
use Rattle.model_device.specs.Book.{first_block}
use Rattle.model_device.specs.Device.{part_of}
use Rattle.model_device.specs.Events.{Answer, happened, move_call}
use Rattle.block_format.specs.declared.geometry.Geometry.{Geometry}
use Rattle.block_format.specs.declared.geometry.Gate.TheVariants.{Shut}
use Rattle.block_flusher.proofs.Steps.{size_bounds}
use Rattle.sprig_tree.specs.Entries.{entry_of}
use Rattle.law_sprig.specs.Becoming.{moved_to}
use Rattle.block_shelf.specs.declared.place.Place.{Place}
use Rattle.block_shelf.specs.declared.refusals.PutRefusal.{PutRefusal}
use Rattle.block_shelf.specs.Calls.{IsPriorIn}
use Rattle.block_shelf.specs.Reads.{IsRead, copy_bytes}
use Rattle.block_shelf.specs.Standing.{HasRecord}
use Rattle.block_shelf.specs.View.{ShelfView, gate_at}
use Rattle.law_steps.specs.Sprigs.{place_of}
use Rattle.law_steps.specs.Events.{StepMakes}
use Rattle.law_steps.proofs.Found.{entry_named, lies_found, prior_stands}
use Rattle.defrag_pass.specs.declared.refusal.MoveRefusal.{MoveRefusal}
use Rattle.block_shelf.proofs.Surely.{sure_none, sure_read, sure_then}
use Rattle.defrag_pass.specs.Moves.{Answers, CopiesRecord, IsDamageOf, IsShelfLeft}
use Rattle.defrag_pass.proofs.Telling.{damage_told, no_damage_told, torn_none, torn_only, torn_read}
use Rattle.defrag_pass.proofs.Moved.{makes_elsewhere, makes_unread, makes_unappended, left_unappended, makes_moved, copy_is_read, stand_read, none_there, out_of, fits_here}
use Rattle.defrag_pass.proofs.Moved.{prior_at, live_at, version_at, shown_here, prior_read, read_then_later, replaced_by, replaced_found, setup_read}
use Rattle.rec_format.specs.Versions.{version_units}
use Rattle.defrag_pass.proofs.Kept.{keeps_elsewhere, keeps_moved, keeps_unappended, keeps_unfound, keeps_unread}
use Rattle.defrag_pass.proofs.moving.move_one.Goals as goal

-- ---- no copy in the block

pub returns-in_default-clause-makes : goal.returns-in_default-clause-makes
returns-in_default-clause-makes g c setup s is stand =
    let view = g.D.Disk.view in
    let out = none_there view setup c.args.digest.now c.args.block c.args.sprig.now c.args.shelf.now s stand (sym c.find.ensures.value ∙ c.in_default.is) in
    (happened false, refl, makes_elsewhere view setup c.args.digest.now c.args.block c.args.sprig.now c.args.shelf.now s stand (g.met.D.Disk.is_disk c.args.shelf.now.disk) out)

pub returns-then-entry-block-clause-makes : goal.returns-then-entry-block-clause-makes
returns-then-entry-block-clause-makes g c setup s is stand =
    let view = g.D.Disk.view in
    let found = sym c.find.ensures.value ∙ c.in-Some.is in
    let out = out_of view setup c.args.digest.now c.args.block c.args.sprig.now c.args.shelf.now s stand c.in-Some.entry found false
    (ne_eqb c.in-Some.entry.block c.args.block c.if-entry-block.true) in
    (happened false, refl, makes_elsewhere view setup c.args.digest.now c.args.block c.args.sprig.now c.args.shelf.now s stand (g.met.D.Disk.is_disk c.args.shelf.now.disk) out)

-- ---- what the calls ask

pub prove-unreachable-requires : goal.prove-unreachable-requires
prove-unreachable-requires g c =
    let r = c.requires.stand in
    let lies = lies_found r.0 c.args.digest.now c.args.sprig.now c.args.shelf.now r.1 r.3 c.in-Some.entry (sym c.find.ensures.value ∙ c.in-Some.is) in
    absurd (omega (arith, lies.lies.block, ap (λ (p : Place). p.block) c.place_of_entry-place.ensures, c.if-prove.true, ap (λ (x : Geometry). x.blocks) c.geometry.ensures.shape))

pub read_for-requires-clause-within : goal.read_for-requires-clause-within
read_for-requires-clause-within g c =
    let r = c.requires.stand in
    let lies = lies_found r.0 c.args.digest.now c.args.sprig.now c.args.shelf.now r.1 r.3 c.in-Some.entry (sym c.find.ensures.value ∙ c.in-Some.is) in
    omega (arith, lies.lies.within, ap (λ (p : Place). p.unit) c.place_of_entry-place.ensures, ap (λ (p : Place). p.units) c.place_of_entry-place.ensures)

pub append-requires-clause-size : goal.append-requires-clause-size
append-requires-clause-size g c =
    let r = c.requires.stand in
    let lies = lies_found r.0 c.args.digest.now c.args.sprig.now c.args.shelf.now r.1 r.3 c.in-Some.entry (sym c.find.ensures.value ∙ c.in-Some.is) in
    let bounds = size_bounds c.args.shelf.now.geometry c.geometry.ensures.whole.geometry in
    let named = (c.in_ok-version.ensures {u = tt}).names in
    let lent = ap version_units c.lent.ensures in
    omega (arith, lies.lies.within, bounds.1, named.units, lent)

pub append-requires-clause-prior : goal.append-requires-clause-prior
append-requires-clause-prior g c =
    let r = c.requires.stand in
    let there = subst (λ (o : Option Entry). IsPriorIn c.args.shelf.now (option_map place_of o)) (sym c.find.ensures.value ∙ c.in-Some.is)
    (prior_stands r.0 c.args.digest.now c.args.sprig.now c.args.shelf.now r.1 r.3 g.D.Disk.view c.geometry.ensures.whole) in
    prior_read c.place_of_entry-place.result c.args.shelf.now c.read_for.new.shelf c.read_for.ensures.same
    (subst (λ (p : Place). IsPriorIn c.args.shelf.now (Some p)) (sym c.place_of_entry-place.ensures) there)

pub replace-requires : goal.replace-requires
replace-requires g c =
    let found = sym c.find.ensures.value ∙ c.in-Some.is in
    let named = entry_named c.args.digest.now c.args.sprig.now.entries c.in-Some.entry found in
    subst IsSome (sym (ap (λ (x : Entry). entry_of x.digest c.args.sprig.now.entries) c.entry_at.ensures ∙ ap (λ (d : Digest). entry_of d c.args.sprig.now.entries) (sym named) ∙ found)) refl

-- ---- the record isn't read

pub returns-in_err-version-clause-makes : goal.returns-in_err-version-clause-makes
returns-in_err-version-clause-makes g c setup s is stand =
    let view = g.D.Disk.view in
    let e : Entry = c.in-Some.entry in
    let old = c.args.shelf.now in
    let mid = c.read_for.new.shelf in
    let found : entry_of c.args.digest.now c.args.sprig.now.entries ≡ Some e = sym c.find.ensures.value ∙ c.in-Some.is in
    let refusal : MoveRefusal = c.in_err-version.field-0.0 in
    let got = c.in_err-version.ensures {u = tt} in
    let live = live_at view setup c.args.digest.now c.args.block c.args.sprig.now old s stand e found c.place_of_entry-place.result c.place_of_entry-place.ensures in
    let version = version_at view setup c.args.digest.now c.args.block c.args.sprig.now old s stand e found in
    let shown = shown_here view setup c.args.digest.now c.args.block c.args.sprig.now old s stand e found in
    let p = err_from_is_err_and c.from_residual.result c.from_residual.ensures.1 in
    let same : c.from_residual.result ≡ Err refusal = p.1 ∙ ap (λ (r : MoveRefusal). Err r) p.2 in
    subst (λ (r : Result Bool MoveRefusal). (answer : Answer) × Answers r answer
    × StepMakes view setup (part_of setup c.args.digest.now) (move_call c.args.digest.now c.args.block) answer old s c.args.sprig.now mid) (sym same)
    (makes_unread view setup c.args.digest.now c.args.block c.args.sprig.now old s stand e found c.if-entry-block.false mid got.same got.disk (g.met.D.Disk.is_disk mid.disk) refusal
    (got.asked setup s is stand.shelf_stands.stands) (λ fault. got.cause (ap (λ (r : MoveRefusal). Err r) fault))
    (λ honest placed. got.written honest setup s shown.version stand.shelf_stands.stands placed live version shown.names))

-- ---- the copy

pub returns-in-Ok-clause-makes : goal.returns-in-Ok-clause-makes
returns-in-Ok-clause-makes g c setup s is stand =
    let view = g.D.Disk.view in
    let digest : Digest = c.args.digest.now in
    let e : Entry = c.in-Some.entry in
    let old = c.args.shelf.now in
    let mid = c.read_for.new.shelf in
    let found : entry_of digest c.args.sprig.now.entries ≡ Some e = sym c.find.ensures.value ∙ c.in-Some.is in
    let got = c.in_ok-version.ensures {u = tt} in
    let names = subst (Names e) (sym c.lent.ensures) got.names in
    let disk = g.met.D.Disk.is_disk mid.disk in
    let place : Place = c.place_of_entry-place.result in
    let live = live_at view setup digest c.args.block c.args.sprig.now old s stand e found place c.place_of_entry-place.ensures in
    let version = version_at view setup digest c.args.block c.args.sprig.now old s stand e found in
    let shown = shown_here view setup digest c.args.block c.args.sprig.now old s stand e found in
    let stands = stand_read view setup digest c.args.block c.args.sprig.now old s stand e found c.if-entry-block.false mid got.same got.disk disk in
    let takes = c.in-Ok.ensures.appended setup s (setup_read setup old mid got.same is) stands.shelf_stands.stands
    (prior_at view setup digest c.args.block c.args.sprig.now old s stand e found place c.place_of_entry-place.ensures)
    (copy_is_read view setup digest c.args.block c.args.sprig.now old s stand e found c.lent.result names) in
    let replaces = replaced_by c.entry_at.result (moved_to c.in-Ok.new.block c.in-Ok.new.unit e) c.args.sprig.now c.replace.new.self c.entry_at.ensures c.replace.ensures in (
      happened true,
      refl,
      makes_moved view setup digest c.args.block c.args.sprig.now old s stand e found c.if-entry-block.false mid got.same got.disk disk
          (fits_here view setup digest c.args.block c.args.sprig.now old s stand e found is) c.lent.result names (got.asked setup s is stand.shelf_stands.stands)
          c.append.new.self c.append.ensures.later.count c.in-Ok.new c.in-Ok.ensures.place.0 takes c.replace.new.self replaces
          (λ honest placed. c.lent.ensures ∙ got.written honest setup s shown.version stand.shelf_stands.stands placed live version shown.names),
    )

pub returns-in-Ok-clause-later : goal.returns-in-Ok-clause-later
returns-in-Ok-clause-later g c = read_then_later _ _ _ c.read_for.ensures.disk c.append.ensures.later

pub returns-clause-makes : goal.returns-clause-makes
returns-clause-makes g c setup s is stand =
    let view = g.D.Disk.view in
    let digest : Digest = c.args.digest.now in
    let e : Entry = c.in-Some.entry in
    let old = c.args.shelf.now in
    let mid = c.read_for.new.shelf in
    let found : entry_of digest c.args.sprig.now.entries ≡ Some e = sym c.find.ensures.value ∙ c.in-Some.is in
    let got = c.in_ok-version.ensures {u = tt} in
    let names = subst (Names e) (sym c.lent.ensures) got.names in
    let disk = g.met.D.Disk.is_disk mid.disk in
    let stands = stand_read view setup digest c.args.block c.args.sprig.now old s stand e found c.if-entry-block.false mid got.same got.disk disk in
    let told = c.in-Err.ensures.causes setup s (setup_read setup old mid got.same is) stands.shelf_stands.stands in
    subst (λ (r : MoveRefusal). (answer : Answer) × Answers (Err r) answer
    × StepMakes view setup (part_of setup digest) (move_call digest c.args.block) answer old s c.args.sprig.now c.append.new.self)
    (sym c.append_refusal.ensures)
    (makes_unappended view setup digest c.args.block c.args.sprig.now old s stand e found c.if-entry-block.false mid got.same got.disk disk
    (fits_here view setup digest c.args.block c.args.sprig.now old s stand e found is) c.lent.result names (got.asked setup s is stand.shelf_stands.stands)
    c.append.new.self c.append.ensures.later.count c.in-Err.refusal told.0 told.1 (λ fault. c.append.ensures.cause (c.in-Err.is ∙ ap (λ (r : PutRefusal). Err r) fault)) told.2)

pub returns-clause-later : goal.returns-clause-later
returns-clause-later g c = read_then_later _ _ _ c.read_for.ensures.disk c.append.ensures.later

-- ---- what is in memory

pub returns-in_err-version-clause-in_memory : goal.returns-in_err-version-clause-in_memory
returns-in_err-version-clause-in_memory g c x b found_x has at shut =
    let view = g.D.Disk.view in
    let r = c.requires.stand in
    let e : Entry = c.in-Some.entry in
    let old = c.args.shelf.now in
    let found : entry_of c.args.digest.now c.args.sprig.now.entries ≡ Some e = sym c.find.ensures.value ∙ c.in-Some.is in
    let one : Some x ≡ Some e = sym found_x ∙ found in
    let same : x ≡ e = cc in
    let place : Place = c.place_of_entry-place.result in
    let live = live_at view r.0 c.args.digest.now c.args.block c.args.sprig.now old r.1 r.3 e found place c.place_of_entry-place.ensures in
    let version = version_at view r.0 c.args.digest.now c.args.block c.args.sprig.now old r.1 r.3 e found in
    let shown = shown_here view r.0 c.args.digest.now c.args.block c.args.sprig.now old r.1 r.3 e found in
    let at_place = at ∙ ap (λ (y : Entry). y.block) same ∙ sym (ap (λ (p : Place). p.block) c.place_of_entry-place.ensures) in
    let kept : c.read_for.new.shelf ≡ old = c.read_for.ensures.kept r.0 r.1 shown.version b r.3.shelf_stands.stands live version shown.names has at_place in
    ap (λ (v : ShelfView g.row.D.Denot). v.disk) kept

pub returns-in-Ok-clause-in_memory : goal.returns-in-Ok-clause-in_memory
returns-in-Ok-clause-in_memory g c x b found_x has at shut =
    let view = g.D.Disk.view in
    let r = c.requires.stand in
    let e : Entry = c.in-Some.entry in
    let old = c.args.shelf.now in
    let found : entry_of c.args.digest.now c.args.sprig.now.entries ≡ Some e = sym c.find.ensures.value ∙ c.in-Some.is in
    let one : Some x ≡ Some e = sym found_x ∙ found in
    let same : x ≡ e = cc in
    let place : Place = c.place_of_entry-place.result in
    let live = live_at view r.0 c.args.digest.now c.args.block c.args.sprig.now old r.1 r.3 e found place c.place_of_entry-place.ensures in
    let version = version_at view r.0 c.args.digest.now c.args.block c.args.sprig.now old r.1 r.3 e found in
    let shown = shown_here view r.0 c.args.digest.now c.args.block c.args.sprig.now old r.1 r.3 e found in
    let at_place = at ∙ ap (λ (y : Entry). y.block) same ∙ sym (ap (λ (p : Place). p.block) c.place_of_entry-place.ensures) in
    let kept : c.read_for.new.shelf ≡ old = c.read_for.ensures.kept r.0 r.1 shown.version b r.3.shelf_stands.stands live version shown.names has at_place in
    c.append.ensures.quiet (subst (λ (v : ShelfView g.row.D.Denot). gate_at v.gates (first_block v.free) ≡ Shut) (sym kept) shut) ∙ ap (λ (v : ShelfView g.row.D.Denot). v.disk) kept

pub returns-clause-in_memory : goal.returns-clause-in_memory
returns-clause-in_memory g c x b found_x has at shut =
    let view = g.D.Disk.view in
    let r = c.requires.stand in
    let e : Entry = c.in-Some.entry in
    let old = c.args.shelf.now in
    let found : entry_of c.args.digest.now c.args.sprig.now.entries ≡ Some e = sym c.find.ensures.value ∙ c.in-Some.is in
    let one : Some x ≡ Some e = sym found_x ∙ found in
    let same : x ≡ e = cc in
    let place : Place = c.place_of_entry-place.result in
    let live = live_at view r.0 c.args.digest.now c.args.block c.args.sprig.now old r.1 r.3 e found place c.place_of_entry-place.ensures in
    let version = version_at view r.0 c.args.digest.now c.args.block c.args.sprig.now old r.1 r.3 e found in
    let shown = shown_here view r.0 c.args.digest.now c.args.block c.args.sprig.now old r.1 r.3 e found in
    let at_place = at ∙ ap (λ (y : Entry). y.block) same ∙ sym (ap (λ (p : Place). p.block) c.place_of_entry-place.ensures) in
    let kept : c.read_for.new.shelf ≡ old = c.read_for.ensures.kept r.0 r.1 shown.version b r.3.shelf_stands.stands live version shown.names has at_place in
    c.append.ensures.quiet (subst (λ (v : ShelfView g.row.D.Denot). gate_at v.gates (first_block v.free) ≡ Shut) (sym kept) shut) ∙ ap (λ (v : ShelfView g.row.D.Denot). v.disk) kept

-- ---- the gates

pub returns-in_default-clause-sure : goal.returns-in_default-clause-sure
returns-in_default-clause-sure g c = sure_none g.D.Disk.view c.args.shelf.now c.args.shelf.now refl

pub returns-then-entry-block-clause-sure : goal.returns-then-entry-block-clause-sure
returns-then-entry-block-clause-sure g c = sure_none g.D.Disk.view c.args.shelf.now c.args.shelf.now refl

pub returns-in_err-version-clause-sure : goal.returns-in_err-version-clause-sure
returns-in_err-version-clause-sure g c = sure_read g.D.Disk.view c.args.shelf.now c.read_for.new.shelf c.read_for.ensures.disk c.read_for.ensures.same

pub returns-in-Ok-clause-sure : goal.returns-in-Ok-clause-sure
returns-in-Ok-clause-sure g c = sure_then g.D.Disk.view c.args.shelf.now c.read_for.new.shelf c.append.new.self
    (sure_read g.D.Disk.view c.args.shelf.now c.read_for.new.shelf c.read_for.ensures.disk c.read_for.ensures.same) c.append.ensures.sure

pub returns-clause-sure : goal.returns-clause-sure
returns-clause-sure g c = sure_then g.D.Disk.view c.args.shelf.now c.read_for.new.shelf c.append.new.self
    (sure_read g.D.Disk.view c.args.shelf.now c.read_for.new.shelf c.read_for.ensures.disk c.read_for.ensures.same) c.append.ensures.sure

-- ---- what is told, and what is left

pub returns-in_err-version-clause-damaged : goal.returns-in_err-version-clause-damaged
returns-in_err-version-clause-damaged g c =
    let view = g.D.Disk.view in
    let r = c.requires.stand in
    let e : Entry = c.in-Some.entry in
    let old = c.args.shelf.now in
    let mid = c.read_for.new.shelf in
    let found : entry_of c.args.digest.now c.args.sprig.now.entries ≡ Some e = sym c.find.ensures.value ∙ c.in-Some.is in
    let refusal : MoveRefusal = c.in_err-version.field-0.0 in
    let got = c.in_err-version.ensures {u = tt} in
    let place : Place = c.place_of_entry-place.result in
    let live = live_at view r.0 c.args.digest.now c.args.block c.args.sprig.now old r.1 r.3 e found place c.place_of_entry-place.ensures in
    let version = version_at view r.0 c.args.digest.now c.args.block c.args.sprig.now old r.1 r.3 e found in
    let shown = shown_here view r.0 c.args.digest.now c.args.block c.args.sprig.now old r.1 r.3 e found in
    let p = err_from_is_err_and c.from_residual.result c.from_residual.ensures.1 in
    let same : c.from_residual.result ≡ Err refusal = p.1 ∙ ap (λ (r : MoveRefusal). Err r) p.2 in
    subst (λ (r : Result Bool MoveRefusal). IfErr r (IsDamageOf (view old.disk).tells view c.args.block (entry_of c.args.digest.now c.args.sprig.now.entries) mid)) (sym same)
    (damage_told view c.args.block e c.if-entry-block.false (entry_of c.args.digest.now c.args.sprig.now.entries) found place c.place_of_entry-place.ensures old mid got.same got.disk refusal
    got.told (λ b has at. got.sound r.0 r.1 shown.version b r.3.shelf_stands.stands live version shown.names has at))

pub returns-in_err-version-clause-left : goal.returns-in_err-version-clause-left
returns-in_err-version-clause-left g c =
    let refusal : MoveRefusal = c.in_err-version.field-0.0 in
    let got = c.in_err-version.ensures {u = tt} in
    let p = err_from_is_err_and c.from_residual.result c.from_residual.ensures.1 in
    let same : c.from_residual.result ≡ Err refusal = p.1 ∙ ap (λ (r : MoveRefusal). Err r) p.2 in
    subst (λ (r : Result Bool MoveRefusal). IfErr r (IsShelfLeft g.D.Disk.view c.args.shelf.now c.read_for.new.shelf)) (sym same) got.left

pub returns-in_err-version-clause-copied : goal.returns-in_err-version-clause-copied
returns-in_err-version-clause-copied g c moved x found_x =
    let refusal : MoveRefusal = c.in_err-version.field-0.0 in
    let p = err_from_is_err_and c.from_residual.result c.from_residual.ensures.1 in
    let same : c.from_residual.result ≡ Err refusal = p.1 ∙ ap (λ (r : MoveRefusal). Err r) p.2 in
    let clash : Err refusal ≡ Ok true = sym same ∙ moved in
    absurd cc

pub returns-in_err-version-clause-bytes : goal.returns-in_err-version-clause-bytes
returns-in_err-version-clause-bytes g c =
    let got = c.in_err-version.ensures {u = tt} in
    torn_only g.D.Disk.view c.args.shelf.now c.read_for.new.shelf got.same got.disk

pub returns-in-Ok-clause-bytes : goal.returns-in-Ok-clause-bytes
returns-in-Ok-clause-bytes g c =
    torn_read g.D.Disk.view c.args.shelf.now c.read_for.new.shelf c.read_for.ensures.same c.read_for.ensures.disk c.append.new.self.disk c.append.ensures.bytes

pub returns-clause-bytes : goal.returns-clause-bytes
returns-clause-bytes g c =
    torn_read g.D.Disk.view c.args.shelf.now c.read_for.new.shelf c.read_for.ensures.same c.read_for.ensures.disk c.append.new.self.disk c.append.ensures.bytes

pub returns-clause-damaged : goal.returns-clause-damaged
returns-clause-damaged g c =
    let view = g.D.Disk.view in
    let found = entry_of c.args.digest.now c.args.sprig.now.entries in
    subst (IsDamageOf (view c.args.shelf.now.disk).tells view c.args.block found c.append.new.self) (sym c.append_refusal.ensures)
    (no_damage_told (view c.args.shelf.now.disk).tells view c.args.block found c.append.new.self c.in-Err.refusal)

pub returns-clause-left : goal.returns-clause-left
returns-clause-left g c =
    let view = g.D.Disk.view in
    let r = c.requires.stand in
    let digest : Digest = c.args.digest.now in
    let e : Entry = c.in-Some.entry in
    let old = c.args.shelf.now in
    let mid = c.read_for.new.shelf in
    let found : entry_of digest c.args.sprig.now.entries ≡ Some e = sym c.find.ensures.value ∙ c.in-Some.is in
    let got = c.in_ok-version.ensures {u = tt} in
    let names = subst (Names e) (sym c.lent.ensures) got.names in
    let disk = g.met.D.Disk.is_disk mid.disk in
    let stands = stand_read view r.0 digest c.args.block c.args.sprig.now old r.1 r.3 e found c.if-entry-block.false mid got.same got.disk disk in
    let told = c.in-Err.ensures.causes r.0 r.1 (setup_read r.0 old mid got.same r.2) stands.shelf_stands.stands in
    subst (IsShelfLeft view old c.append.new.self) (sym c.append_refusal.ensures)
    (left_unappended view r.0 digest c.args.block c.args.sprig.now old r.1 r.3 e found c.if-entry-block.false mid got.same got.disk disk
    (fits_here view r.0 digest c.args.block c.args.sprig.now old r.1 r.3 e found r.2) c.lent.result names (got.asked r.0 r.1 r.2 r.3.shelf_stands.stands)
    c.append.new.self c.append.ensures.later.count c.in-Err.refusal told.0 c.in-Err.ensures.refused)

-- ---- what is copied

pub returns-in-Ok-clause-copied : goal.returns-in-Ok-clause-copied
returns-in-Ok-clause-copied g c moved x found_x =
    let view = g.D.Disk.view in
    let digest : Digest = c.args.digest.now in
    let e : Entry = c.in-Some.entry in
    let old = c.args.shelf.now in
    let found : entry_of digest c.args.sprig.now.entries ≡ Some e = sym c.find.ensures.value ∙ c.in-Some.is in
    let one : Some e ≡ Some x = sym found ∙ found_x in
    let same : e ≡ x = cc in
    let got = c.in_ok-version.ensures {u = tt} in
    let place : Place = c.place_of_entry-place.result in
    let place_is : place ≡ place_of e = c.place_of_entry-place.ensures in
    let named : digest ≡ e.digest = entry_named digest c.args.sprig.now.entries e found in
    let to : Entry = moved_to c.in-Ok.new.block c.in-Ok.new.unit e in
    let replaces = replaced_by c.entry_at.result to c.args.sprig.now c.replace.new.self c.entry_at.ensures c.replace.ensures in
    let copies : CopiesRecord view digest e to old c.append.new.self = record {
      version = c.lent.result;
      from_disk = λ tells none. subst (λ (p : Place). IsRead e (copy_bytes old.geometry p (view old.disk).seen) c.lent.result) place_is
          (subst (IsRead e (copy_bytes old.geometry place (view old.disk).seen)) (sym c.lent.ensures) (got.read tells (subst (λ (p : Place). AllByRecursion (λ b. b.block ≢ p.block) old.buffers) (sym place_is) none)));
      from_memory = λ b v has at record_there names.
          c.lent.ensures ∙ got.copied b v has (at ∙ sym (ap (λ (p : Place). p.block) place_is))
          (subst (λ (p : Place). HasRecord b p.unit e.digest v) (sym place_is) (subst (λ (d : Digest). HasRecord b e.unit d v) named record_there)) names;
      lies = let l = c.in-Ok.ensures.lies in record { buffer = l.buffer; is_there = l.is_there; of_stream = l.of_stream; block = l.block; has = l.has };
    } in
    (to, replaced_found digest e to c.args.sprig.now c.replace.new.self named found replaces, subst (λ (y : Entry). CopiesRecord view digest y to old c.append.new.self) same copies)

-- ---- where nothing is moved

pub returns-in_default-clause-copied : goal.returns-in_default-clause-copied
returns-in_default-clause-copied g c moved x found_x = absurd cc

pub returns-then-entry-block-clause-copied : goal.returns-then-entry-block-clause-copied
returns-then-entry-block-clause-copied g c moved x found_x = absurd cc

pub returns-clause-copied : goal.returns-clause-copied
returns-clause-copied g c moved x found_x = absurd cc

pub returns-in_default-clause-bytes : goal.returns-in_default-clause-bytes
returns-in_default-clause-bytes g c = torn_none g.D.Disk.view c.args.shelf.now

pub returns-then-entry-block-clause-bytes : goal.returns-then-entry-block-clause-bytes
returns-then-entry-block-clause-bytes g c = torn_none g.D.Disk.view c.args.shelf.now

-- ---- what is kept

pub returns-in_default-clause-kept : goal.returns-in_default-clause-kept
returns-in_default-clause-kept g c = keeps_unfound (entry_of c.args.digest.now c.args.sprig.now.entries) c.args.shelf.now (Ok false) (sym c.find.ensures.value ∙ c.in_default.is)

pub returns-then-entry-block-clause-kept : goal.returns-then-entry-block-clause-kept
returns-then-entry-block-clause-kept g c =
    keeps_elsewhere (entry_of c.args.digest.now c.args.sprig.now.entries) c.in-Some.entry c.args.shelf.now (sym c.find.ensures.value ∙ c.in-Some.is)

pub returns-in_err-version-clause-kept : goal.returns-in_err-version-clause-kept
returns-in_err-version-clause-kept g c =
    let refusal : MoveRefusal = c.in_err-version.field-0.0 in
    let p = err_from_is_err_and c.from_residual.result c.from_residual.ensures.1 in
    keeps_unread (entry_of c.args.digest.now c.args.sprig.now.entries) c.in-Some.entry (sym c.find.ensures.value ∙ c.in-Some.is) c.args.shelf.now c.read_for.new.shelf
    (c.in_err-version.ensures {u = tt}).same c.from_residual.result refusal (p.1 ∙ ap (λ (r : MoveRefusal). Err r) p.2)

pub returns-in-Ok-clause-kept : goal.returns-in-Ok-clause-kept
returns-in-Ok-clause-kept g c =
    let got = c.in_ok-version.ensures {u = tt} in
    keeps_moved (entry_of c.args.digest.now c.args.sprig.now.entries) c.in-Some.entry (sym c.find.ensures.value ∙ c.in-Some.is) c.args.shelf.now c.read_for.new.shelf got.same
    c.append.new.self (version_units c.lent.result) (got.names.units ∙ ap version_units (sym c.lent.ensures)) c.in-Ok.ensures.first

pub returns-clause-kept : goal.returns-clause-kept
returns-clause-kept g c =
    let got = c.in_ok-version.ensures {u = tt} in
    keeps_unappended (entry_of c.args.digest.now c.args.sprig.now.entries) c.in-Some.entry (sym c.find.ensures.value ∙ c.in-Some.is) c.args.shelf.now c.read_for.new.shelf got.same
    c.append.new.self c.in-Err.refusal c.append_refusal.result c.in-Err.ensures.refused

-- ---- what is moved has an entry

pub returns-in_default-clause-found : goal.returns-in_default-clause-found
returns-in_default-clause-found g c is = absurd (cc)

pub returns-then-entry-block-clause-found : goal.returns-then-entry-block-clause-found
returns-then-entry-block-clause-found g c is = absurd (cc)

pub returns-in_err-version-clause-found : goal.returns-in_err-version-clause-found
returns-in_err-version-clause-found g c is =
    let refusal : MoveRefusal = c.in_err-version.field-0.0 in
    let p = err_from_is_err_and c.from_residual.result c.from_residual.ensures.1 in
    let not : c.from_residual.result ≡ Err refusal = p.1 ∙ ap (λ (r : MoveRefusal). Err r) p.2 in
    absurd (cc)

pub returns-in-Ok-clause-found : goal.returns-in-Ok-clause-found
returns-in-Ok-clause-found g c is = (c.in-Some.entry, sym c.find.ensures.value ∙ c.in-Some.is)

pub returns-clause-found : goal.returns-clause-found
returns-clause-found g c is = absurd (cc)
