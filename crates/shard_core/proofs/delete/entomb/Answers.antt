use Rattle.std.proofs.Common.{◌≡◌, ℕ, refl, sym, ap, ◌∙◌, subst, arith, inr, true}
use Rattle.shard_core.proofs.Later.{later_none}
use Rattle.shard_core.specs.Calls.{IsRefusedStep}
use Rattle.std.specs.Prelude.{Option, Some, None, Result, Ok, Err, IfOk, ◌⊎◌, IfErr}
use Rattle.std.proofs.lemmas.Result.{err_from_is_err_and}
use Rattle.rec_format.specs.declared.entry.Entry.{Entry}
use Rattle.rec_format.specs.declared.version.Stamp.{Stamp}
use Rattle.rec_format.specs.declared.version.Version.{Version}
use Rattle.rec_format.specs.Versions.{IsVersion, new_stamp, units_for, version_units}
use Rattle.model_device.specs.Device.{part_of}
use Rattle.model_device.specs.Events.{refused, spent}
use Rattle.sprig_tree.specs.Entries.{entry_of}
use Rattle.law_sprig.specs.Tests.{stamp_found}
use Rattle.shard_core.specs.declared.refusals.WriteRefusal.{WriteRefusal}
use Rattle.shard_core.specs.declared.refusals.WriteRefusal.TheVariants as write
use Rattle.law_steps.specs.Events.{StepMakes}
use Rattle.shard_core.specs.Writing.{IsWriteOf, written_answer, entombed_answer}
use Rattle.block_shelf.specs.declared.place.Class.TheVariants as class
use Rattle.cold_scan.proofs.Room.{size_bounds}
use Rattle.shard_core.proofs.Making.{own_of}
use Rattle.shard_core.proofs.Puts.{stamp_fine, spent_entombs, entombing_writes, makes_nothing}
use Rattle.block_shelf.proofs.Surely.{sure_none}
use Rattle.shard_core.specs.Keeping.{KeepsBy}
use Rattle.shard_core.proofs.Keeping.{keeps_all}
use Rattle.shard_core.proofs.Failing.{by_none, none_still}
use Rattle.shard_core.proofs.delete.entomb.Goals as goal

pub returns-in_err-stamp-clause-makes : goal.returns-in_err-stamp-clause-makes
returns-in_err-stamp-clause-makes g c setup s call ok is stand entombs =
    let e = c.in_err-stamp.ensures {u = tt} in
    let p = err_from_is_err_and c.from_residual.result c.from_residual.ensures.1 in
    let same : c.from_residual.result ≡ Err write.Spent = p.1 ∙ ap (λ (r : WriteRefusal). Err r) (p.2 ∙ e.0) in
    let given : new_stamp (stamp_found (entry_of c.args.digest.now c.args.sprig.now.entries)) c.args.sprig.now.hw c.args.now ≡ None =
    ap (λ (o : Option Entry). new_stamp (stamp_found o) c.args.sprig.now.hw c.args.now) (sym c.requires.found)
    ∙ ap (λ (n : ℕ). new_stamp (stamp_found c.args.found) n c.args.now) (sym c.hw.ensures) ∙ e.1 in
    subst (λ (r : Result Stamp WriteRefusal). StepMakes g.D.Disk.view setup (part_of setup c.args.digest.now) call
    (entombed_answer ok r) c.args.shelf.now s c.args.sprig.now c.args.shelf.now) (sym same)
    (makes_nothing g.D.Disk.view setup c.args.digest.now c.args.sprig.now c.args.shelf.now s call (refused spent) (g.met.D.Disk.is_disk c.args.shelf.now.disk) stand
    (λ told event is answer none. spent_entombs setup c.args.digest.now c.args.sprig.now s stand.sprig_stands c.args.now call ok entombs event told is answer none given))

pub write_step-requires-clause-version : goal.write_step-requires-clause-version
write_step-requires-clause-version g c =
    let stands = c.requires.stand in
    let given : new_stamp (stamp_found (entry_of c.args.digest.now c.args.sprig.now.entries)) c.args.sprig.now.hw c.args.now ≡ Some c.in_ok-stamp.stamp =
    ap (λ (o : Option Entry). new_stamp (stamp_found o) c.args.sprig.now.hw c.args.now) (sym c.requires.found)
    ∙ ap (λ (n : ℕ). new_stamp (stamp_found c.args.found) n c.args.now) (sym c.hw.ensures) ∙ c.in_ok-stamp.ensures {u = tt} in
    let f = stamp_fine stands.0 c.args.digest.now c.args.sprig.now stands.1 stands.3.sprig_stands c.args.now c.in_ok-stamp.stamp given in
    subst IsVersion (sym c.tombstone-tombstone.ensures) (record { tombstone = λ tomb. refl; time = f.time; generation = f.generation; void = omega arith })

pub returns-clause-makes : goal.returns-clause-makes
returns-clause-makes g c setup s call ok is stand entombs =
    let stamp : Stamp = c.in_ok-stamp.stamp in
    let given : new_stamp (stamp_found (entry_of c.args.digest.now c.args.sprig.now.entries)) c.args.sprig.now.hw c.args.now ≡ Some stamp =
    ap (λ (o : Option Entry). new_stamp (stamp_found o) c.args.sprig.now.hw c.args.now) (sym c.requires.found)
    ∙ ap (λ (n : ℕ). new_stamp (stamp_found c.args.found) n c.args.now) (sym c.hw.ensures) ∙ c.in_ok-stamp.ensures {u = tt} in
    let size = size_bounds c.args.shelf.now.geometry c.write_step.ensures.whole.geometry in
    let writes = entombing_writes setup c.args.digest.now c.args.sprig.now s stand.sprig_stands c.args.now call ok entombs stamp given (omega (arith, size.0, is.of_shelf.shape.capacity))
    (own_of setup c.args.shelf.now is.of_shelf c.args.digest.now c.requires.named) in
    let made = c.write_step.ensures.makes setup s call (ok stamp) is stand
    (subst (λ (v : Version). IsWriteOf setup s call class.Tomb c.args.digest.now v (ok stamp)) (sym c.tombstone-tombstone.ensures) writes) in
    by c.write_step.result c.write_step.ensures.stamp made
  where
    by : (r : Result Stamp WriteRefusal) → IfOk r (λ stamp. stamp ≡ c.tombstone-tombstone.result.stamp)
        → StepMakes g.D.Disk.view setup (part_of setup c.args.digest.now) call
        (written_answer (ok c.in_ok-stamp.stamp) r) c.args.shelf.now s c.write_step.new.sprig c.write_step.new.shelf
        → StepMakes g.D.Disk.view setup (part_of setup c.args.digest.now) call
        (entombed_answer ok r) c.args.shelf.now s c.write_step.new.sprig c.write_step.new.shelf
    by (Ok x) same made =
        subst (λ (y : Stamp). StepMakes g.D.Disk.view setup (part_of setup c.args.digest.now) call (ok y) c.args.shelf.now s c.write_step.new.sprig c.write_step.new.shelf)
        (sym (same ∙ ap (λ (v : Version). v.stamp) c.tombstone-tombstone.ensures)) made
    by (Err refusal) same made = made

pub returns-in_err-stamp-clause-later : goal.returns-in_err-stamp-clause-later
returns-in_err-stamp-clause-later g c = later_none g.D.Disk.view c.args.shelf.now.disk (g.met.D.Disk.is_disk c.args.shelf.now.disk)

pub returns-in_err-stamp-clause-honest : goal.returns-in_err-stamp-clause-honest
returns-in_err-stamp-clause-honest g c = λ honest. honest

pub returns-in_err-stamp-clause-shape : goal.returns-in_err-stamp-clause-shape
returns-in_err-stamp-clause-shape g c = record { geometry = refl; limits = refl; raid = refl }

pub returns-in_err-stamp-clause-refused : goal.returns-in_err-stamp-clause-refused
returns-in_err-stamp-clause-refused g c =
    let p = err_from_is_err_and c.from_residual.result c.from_residual.ensures.1 in
    let same : c.from_residual.result ≡ Err write.Spent = p.1 ∙ ap (λ (r : WriteRefusal). Err r) (p.2 ∙ (c.in_err-stamp.ensures {u = tt}).0) in
    subst (λ (r : Result Stamp WriteRefusal). IfErr r (λ e. ((e ≡ write.Fault) × (c.args.set.now.commit ≡ true))
    ⊎ IsRefusedStep c.args.sprig.now c.args.sprig.now c.args.shelf.now c.args.shelf.now e)) (sym same)
    (inr (record { sprig = record { entries = refl; high = refl }; shelf = refl }))

pub returns-clause-refused : goal.returns-clause-refused
returns-clause-refused g c = c.write_step.ensures.refused

pub returns-clause-later : goal.returns-clause-later
returns-clause-later g c = c.write_step.ensures.later

pub returns-clause-honest : goal.returns-clause-honest
returns-clause-honest g c = c.write_step.ensures.honest

pub returns-clause-shape : goal.returns-clause-shape
returns-clause-shape g c = c.write_step.ensures.shape

pub returns-in_err-stamp-clause-sure : goal.returns-in_err-stamp-clause-sure
returns-in_err-stamp-clause-sure g c = sure_none g.D.Disk.view c.args.shelf.now c.args.shelf.now refl

pub returns-clause-sure : goal.returns-clause-sure
returns-clause-sure g c = c.write_step.ensures.sure

pub returns-in_err-stamp-clause-kept : goal.returns-in_err-stamp-clause-kept
returns-in_err-stamp-clause-kept g c =
    let p = err_from_is_err_and c.from_residual.result c.from_residual.ensures.1 in
    keeps_all c.args.set.now.commit (units_for 0) c.args.shelf.now c.from_residual.result c.in_err-stamp.field-0.0 (p.1 ∙ ap (λ (r : WriteRefusal). Err r) p.2)

pub returns-clause-kept : goal.returns-clause-kept
returns-clause-kept g c =
    subst (λ (n : ℕ). KeepsBy c.args.set.now.commit n c.args.shelf.now c.write_step.new.shelf c.write_step.result) (ap version_units c.tombstone-tombstone.ensures) c.write_step.ensures.kept

-- ---- which gates fail

pub returns-in_err-stamp-clause-fails : goal.returns-in_err-stamp-clause-fails
returns-in_err-stamp-clause-fails g c = by_none c.from_residual.result c.args.shelf.now c.args.shelf.now (none_still c.args.shelf.now c.args.shelf.now refl)

pub returns-clause-fails : goal.returns-clause-fails
returns-clause-fails g c = c.write_step.ensures.fails
