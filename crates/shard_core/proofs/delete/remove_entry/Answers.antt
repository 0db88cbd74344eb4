use Rattle.std.proofs.Common.{◌≡◌, ◌≤◌, true, false, refl, sym, ap, ◌∙◌, subst, arith}
use Rattle.std.specs.Prelude.{Option, Some, Result, Err, option_map, IsSomeAnd, Contains}
use Rattle.std.proofs.lemmas.Result.{err_from_is_err_and}
use Rattle.std.proofs.Math.Nat.{le_refl}
use Rattle.rec_format.specs.declared.entry.Entry.{Entry}
use Rattle.rec_format.specs.declared.version.Digest.{Digest}
use Rattle.rec_format.specs.declared.version.Stamp.{Stamp}
use Rattle.model_device.specs.Book.{Setup, live_of_entry}
use Rattle.model_device.specs.Device.{State, entry_is_covered, part_of}
use Rattle.model_device.specs.Events.{happened}
use Rattle.block_format.specs.declared.geometry.Geometry.{Geometry}
use Rattle.law_trail.proofs.Books.{live_there}
use Rattle.tomb_rules.specs.Covers.{cover_of}
use Rattle.sprig_tree.specs.Entries.{entry_of}
use Rattle.sprig_tree.specs.State.{SprigState}
use Rattle.block_shelf.specs.Lives.{copies_in, copy_at}
use Rattle.law_sprig.proofs.Looking.{cover_is}
use Rattle.block_shelf.specs.Disks.{IsLater}
use Rattle.block_shelf.specs.declared.place.Place.{Place}
use Rattle.block_shelf.specs.View.{ShelfView}
use Rattle.block_shelf.specs.Calls.{IsPriorIn, copy_live}
use Rattle.shard_core.specs.declared.refusals.WriteRefusal.{WriteRefusal}
use Rattle.law_steps.specs.Sprigs.{place_of}
use Rattle.law_steps.specs.Standing.{StandTogether}
use Rattle.law_steps.specs.Events.{StepMakes}
use Rattle.shard_core.specs.Writing.{entombed_answer, written_answer}
use Rattle.law_steps.proofs.Found.{entry_named, live_found, lies_found, prior_stands}
use Rattle.shard_core.proofs.Later.{later_none}
use Rattle.shard_core.proofs.Deletes.{removes_covered, makes_removed}
use Rattle.block_shelf.proofs.Surely.{sure_same}
use Rattle.rec_format.specs.Versions.{units_for}
use Rattle.std.proofs.lemmas.Bool.{false≢true}
use Rattle.shard_core.proofs.Keeping.{keeps_as, keeps_refused}
use Rattle.shard_core.proofs.Failing.{by_err, none_same}
use Rattle.shard_core.proofs.delete.remove_entry.Goals as goal

pub prove-unreachable-requires : goal.prove-unreachable-requires
prove-unreachable-requires g c =
    let stands = c.requires.stand in
    let lies = lies_found stands.0 c.args.digest.now c.args.sprig.now c.args.shelf.now stands.1 stands.3 c.args.entry c.requires.found in
    absurd (omega (arith, lies.lies.block, ap (λ (p : Place). p.block) c.place_of_entry-place.ensures, c.if-prove.true, ap (λ (x : Geometry). x.blocks) c.geometry.ensures.shape))

pub drop_live-requires-clause-block : goal.drop_live-requires-clause-block
drop_live-requires-clause-block g c =
    let stands = c.requires.stand in
    let lies = lies_found stands.0 c.args.digest.now c.args.sprig.now c.args.shelf.now stands.1 stands.3 c.args.entry c.requires.found in
    omega (arith, lies.lies.block, ap (λ (p : Place). p.block) c.place_of_entry-place.ensures)

pub drop_live-requires-clause-live : goal.drop_live-requires-clause-live
drop_live-requires-clause-live g c =
    let stands = c.requires.stand in
    let there = subst (λ (o : Option Entry). IsPriorIn c.args.shelf.now (option_map place_of o)) c.requires.found
    (prior_stands stands.0 c.args.digest.now c.args.sprig.now c.args.shelf.now stands.1 stands.3 g.D.Disk.view c.geometry.ensures.whole) in
    subst (λ (p : Place). IsSomeAnd (copy_at p.unit (copies_in p.block c.args.shelf.now.lives)) (λ x. x.units ≡ p.units)) (sym c.place_of_entry-place.ensures) there.1

-- the state says of the digest whether it is covered as its entry does
covers : (setup : Setup) (digest : Digest) (sprig : SprigState) (s : State) (e : Entry) {D : Type 0} → (shelf : ShelfView D) → StandTogether setup (part_of setup digest) sprig shelf s
    → entry_of digest sprig.entries ≡ Some e
    → entry_is_covered s digest ≡ e.cover
covers setup digest sprig s e shelf stand found = cover_is setup (part_of setup digest) sprig s stand.sprig_stands.fits.entries digest refl ∙ ap cover_of found

pub returns-clause-makes : goal.returns-clause-makes
returns-clause-makes g c setup s call is stand removing =
    let e : Entry = c.args.entry in
    let bare : entry_is_covered s c.args.digest.now ≡ false = covers setup c.args.digest.now c.args.sprig.now s e c.args.shelf.now stand c.requires.found ∙ sym c.delete_writes.ensures
    ∙ c.if-delete_writes.false in
    let same : c.args.digest.now ≡ e.digest = entry_named c.args.digest.now c.args.sprig.now.entries e c.requires.found in
    let lives = live_there c.args.digest.now s.book.live (live_of_entry e) (live_found setup c.args.digest.now c.args.sprig.now c.args.shelf.now s stand e c.requires.found) in
    let there = subst (λ (p : Place). Contains s.book.live (copy_live c.args.digest.now p)) (sym c.place_of_entry-place.ensures)
    (subst (λ (d : Digest). Contains s.book.live (copy_live d (place_of e))) (sym same) lives) in
    let goes = c.drop_live.ensures.dropped setup s c.args.digest.now is.of_shelf stand.shelf_stands.stands there bare in
    let up : (g.D.Disk.view c.args.shelf.now.disk).faults ≤ (g.D.Disk.view c.drop_live.new.self.disk).faults =
    subst (λ d. (g.D.Disk.view c.args.shelf.now.disk).faults ≤ (g.D.Disk.view d).faults) (sym c.drop_live.ensures.disk) (le_refl (g.D.Disk.view c.args.shelf.now.disk).faults) in
    makes_removed setup s c.args.digest.now c.args.now call removing g.D.Disk.view c.args.sprig.now c.remove-gone.new.self c.args.shelf.now c.drop_live.new.self bare up goes stand
    (record { entries = ap (λ (x : SprigState). x.entries) c.remove-gone.ensures.rest; high = ap (λ (x : SprigState). x.hw) c.remove-gone.ensures.rest })

pub returns-then-delete_writes-clause-makes : goal.returns-then-delete_writes-clause-makes
returns-then-delete_writes-clause-makes g c setup s call is stand removing =
    let covered : entry_is_covered s c.args.digest.now ≡ true = covers setup c.args.digest.now c.args.sprig.now s c.args.entry c.args.shelf.now stand c.requires.found
    ∙ sym c.delete_writes.ensures ∙ c.if-delete_writes.true in
    let made = c.entomb.ensures.makes setup s call (λ stamp. happened true) is stand (removes_covered setup s c.args.digest.now c.args.now call removing covered) in
    subst (λ (r : Result Stamp WriteRefusal). StepMakes g.D.Disk.view setup (part_of setup c.args.digest.now) call
    (entombed_answer (λ stamp. happened true) r) c.args.shelf.now s c.entomb.new.sprig c.entomb.new.shelf) c.in_ok-entomb.was made

pub returns-in_err-entomb-clause-makes : goal.returns-in_err-entomb-clause-makes
returns-in_err-entomb-clause-makes g c setup s call is stand removing =
    let covered : entry_is_covered s c.args.digest.now ≡ true = covers setup c.args.digest.now c.args.sprig.now s c.args.entry c.args.shelf.now stand c.requires.found
    ∙ sym c.delete_writes.ensures ∙ c.if-delete_writes.true in
    let made = c.entomb.ensures.makes setup s call (λ stamp. happened true) is stand (removes_covered setup s c.args.digest.now c.args.now call removing covered) in
    let p = err_from_is_err_and c.from_residual.result c.from_residual.ensures.1 in
    let same : c.from_residual.result ≡ Err c.in_err-entomb.field-0.0 = p.1 ∙ ap (λ (r : WriteRefusal). Err r) p.2 in
    subst (λ (r : Result (Unit {0}) WriteRefusal). StepMakes g.D.Disk.view setup (part_of setup c.args.digest.now) call
    (written_answer (happened true) r) c.args.shelf.now s c.entomb.new.sprig c.entomb.new.shelf) (sym same)
    (subst (λ (r : Result Stamp WriteRefusal). StepMakes g.D.Disk.view setup (part_of setup c.args.digest.now) call
    (entombed_answer (λ stamp. happened true) r) c.args.shelf.now s c.entomb.new.sprig c.entomb.new.shelf) c.in_err-entomb.was made)

pub returns-clause-later : goal.returns-clause-later
returns-clause-later g c = subst (λ d. IsLater (g.D.Disk.view c.args.shelf.now.disk) (g.D.Disk.view d)) (sym c.drop_live.ensures.disk)
    (later_none g.D.Disk.view c.args.shelf.now.disk (g.met.D.Disk.is_disk c.args.shelf.now.disk))

pub returns-then-delete_writes-clause-sure : goal.returns-then-delete_writes-clause-sure
returns-then-delete_writes-clause-sure g c = c.entomb.ensures.sure

pub returns-in_err-entomb-clause-sure : goal.returns-in_err-entomb-clause-sure
returns-in_err-entomb-clause-sure g c = c.entomb.ensures.sure

pub returns-clause-sure : goal.returns-clause-sure
returns-clause-sure g c = sure_same g.D.Disk.view c.args.shelf.now c.drop_live.new.self c.drop_live.ensures.disk c.drop_live.ensures.gates

pub returns-clause-kept : goal.returns-clause-kept
returns-clause-kept g c = (
  λ bare. c.drop_live.ensures.kept,
  λ covered. absurd (false≢true (sym (sym c.delete_writes.ensures ∙ c.if-delete_writes.false) ∙ covered)),
)

pub returns-then-delete_writes-clause-kept : goal.returns-then-delete_writes-clause-kept
returns-then-delete_writes-clause-kept g c = (
  λ bare. absurd (false≢true (sym bare ∙ sym c.delete_writes.ensures ∙ c.if-delete_writes.true)),
  λ covered. keeps_as c.args.set.now.commit (units_for 0) c.args.shelf.now c.entomb.new.shelf c.entomb.result (tt {0}) _ c.in_ok-entomb.was c.entomb.ensures.kept,
)

pub returns-in_err-entomb-clause-kept : goal.returns-in_err-entomb-clause-kept
returns-in_err-entomb-clause-kept g c =
    let p = err_from_is_err_and c.from_residual.result c.from_residual.ensures.1 in (
      λ bare. absurd (false≢true (sym bare ∙ sym c.delete_writes.ensures ∙ c.if-delete_writes.true)),
      λ covered. keeps_refused c.args.set.now.commit (units_for 0) c.args.shelf.now c.entomb.new.shelf c.entomb.result c.from_residual.result c.in_err-entomb.field-0.0 c.in_err-entomb.was
          (p.1 ∙ ap (λ (r : WriteRefusal). Err r) p.2) c.entomb.ensures.kept,
    )

-- ---- which gates fail

pub returns-then-delete_writes-clause-fails : goal.returns-then-delete_writes-clause-fails
returns-then-delete_writes-clause-fails g c = (c.in_ok-entomb.ensures {u = tt}).fails

pub returns-in_err-entomb-clause-fails : goal.returns-in_err-entomb-clause-fails
returns-in_err-entomb-clause-fails g c =
    let refusal : WriteRefusal = c.in_err-entomb.field-0.0 in
    let p = err_from_is_err_and c.from_residual.result c.from_residual.ensures.1 in
    let same : c.from_residual.result ≡ Err refusal = p.1 ∙ ap (λ (r : WriteRefusal). Err r) p.2 in
    by_err c.from_residual.result refusal c.args.shelf.now c.entomb.new.shelf same (c.in_err-entomb.ensures {u = tt}).fails

pub returns-clause-fails : goal.returns-clause-fails
returns-clause-fails g c = none_same c.args.shelf.now c.drop_live.new.self c.drop_live.ensures.gates
