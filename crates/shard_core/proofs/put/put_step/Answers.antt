use Rattle.std.proofs.Common.{◌≡◌, ℕ, Bool, length, refl, sym, ap, ◌∙◌, subst, arith, inr, true}
use Rattle.std.specs.Prelude.{Option, Some, None, Result, Ok, Err, IfOk, ◌⊎◌, IfErr}
use Rattle.std.proofs.lemmas.Bool.{false≢true}
use Rattle.std.proofs.lemmas.Result.{err_from_is_err_and}
use Rattle.rec_format.specs.declared.entry.Entry.{Entry}
use Rattle.rec_format.specs.declared.version.Stamp.{Stamp}
use Rattle.rec_format.specs.declared.version.Version.{Version}
use Rattle.rec_format.specs.Versions.{IsVersion, a_put, new_stamp, void_time, block_capacity, units_for, version_units}
use Rattle.model_device.specs.Device.{part_of}
use Rattle.model_device.specs.Events.{put_call, stamp_given, refused}
use Rattle.block_format.specs.declared.geometry.Geometry.{Geometry}
use Rattle.tomb_rules.specs.Covers.{cover_of}
use Rattle.sprig_tree.specs.Entries.{entry_of}
use Rattle.law_sprig.specs.Tests.{stamp_found, generation_seen}
use Rattle.block_shelf.specs.declared.place.Class.TheVariants as class
use Rattle.shard_core.specs.declared.refusals.WriteRefusal.{WriteRefusal}
use Rattle.shard_core.specs.declared.refusals.WriteRefusal.TheVariants as write
use Rattle.shard_core.specs.Calls.{cause_of_write, write_answer, IsRefusedStep}
use Rattle.law_steps.specs.Events.{StepMakes}
use Rattle.shard_core.specs.Writing.{IsWriteOf, IsFit, IsUnfit, written_answer}
use Rattle.shard_core.specs.Keeping.{KeepsBy}
use Rattle.shard_core.proofs.Keeping.{keeps_all}
use Rattle.shard_core.proofs.Later.{later_none}
use Rattle.shard_core.proofs.Making.{own_of}
use Rattle.shard_core.proofs.Puts.{stamp_fine, unfit_refusal, spent_refusal, put_writes, stands_against, makes_nothing, unfit_left}
use Rattle.block_shelf.proofs.Surely.{sure_none}
use Rattle.shard_core.proofs.Failing.{by_none, none_still}
use Rattle.shard_core.proofs.put.put_step.Goals as goal

pub returns-in_err-check_put-clause-makes : goal.returns-in_err-check_put-clause-makes
returns-in_err-check_put-clause-makes g c setup s is stand =
    let capacity : c.capacity.result ≡ setup.capacity = c.capacity.ensures ∙ ap (λ (x : Geometry). block_capacity x.block_size) c.geometry-block_size.ensures.shape
    ∙ sym is.of_shelf.shape.capacity in
    let seen : generation_seen c.args.now (entry_of c.args.digest.now c.args.sprig.now.entries) ≡ c.generation_of.result = ap (generation_seen c.args.now) (sym c.find-found.ensures.value)
    ∙ sym c.generation_of.ensures in
    let refusal : WriteRefusal = c.in_err-check_put.field-0.0 in
    let unfit = subst (λ (n : ℕ). IsUnfit (length c.args.payload.now) c.capacity.result c.args.expect n refusal) (sym seen) (c.in_err-check_put.ensures {u = tt}) in
    let p = err_from_is_err_and c.from_residual.result c.from_residual.ensures.1 in
    let same : c.from_residual.result ≡ Err refusal = p.1 ∙ ap (λ (r : WriteRefusal). Err r) p.2 in
    let cause = unfit_refusal setup c.args.digest.now c.args.sprig.now s stand.sprig_stands c.args.now c.args.ttl c.args.expect c.args.payload.now c.capacity.result capacity refusal unfit in
    subst (λ (r : Result Stamp WriteRefusal). StepMakes g.D.Disk.view setup (part_of setup c.args.digest.now)
    (put_call c.args.digest.now c.args.ttl c.args.expect c.args.payload.now c.args.now) (write_answer r) c.args.shelf.now s c.args.sprig.now c.args.shelf.now) (sym same)
    (makes_nothing g.D.Disk.view setup c.args.digest.now c.args.sprig.now c.args.shelf.now s (put_call c.args.digest.now c.args.ttl c.args.expect c.args.payload.now c.args.now)
    (refused (cause_of_write refusal)) (g.met.D.Disk.is_disk c.args.shelf.now.disk) stand
    (λ told event is answer steps. stands_against setup s told c.args.digest.now c.args.ttl c.args.expect c.args.payload.now c.args.now event (cause_of_write refusal) answer steps cause))

pub returns-in_err-stamp-clause-makes : goal.returns-in_err-stamp-clause-makes
returns-in_err-stamp-clause-makes g c setup s is stand =
    let capacity : c.capacity.result ≡ setup.capacity = c.capacity.ensures ∙ ap (λ (x : Geometry). block_capacity x.block_size) c.geometry-block_size.ensures.shape
    ∙ sym is.of_shelf.shape.capacity in
    let seen : generation_seen c.args.now (entry_of c.args.digest.now c.args.sprig.now.entries) ≡ c.generation_of.result = ap (generation_seen c.args.now) (sym c.find-found.ensures.value)
    ∙ sym c.generation_of.ensures in
    let fit : IsFit (length c.args.payload.now) c.capacity.result c.args.expect (generation_seen c.args.now (entry_of c.args.digest.now c.args.sprig.now.entries)) =
    subst (IsFit (length c.args.payload.now) c.capacity.result c.args.expect) (sym seen) (c.in_ok-check_put.ensures {u = tt}) in
    let e = c.in_err-stamp.ensures {u = tt} in
    let given : new_stamp (stamp_found (entry_of c.args.digest.now c.args.sprig.now.entries)) c.args.sprig.now.hw c.args.now ≡ None =
    ap (λ (o : Option Entry). new_stamp (stamp_found o) c.args.sprig.now.hw c.args.now) (sym c.find-found.ensures.value)
    ∙ ap (λ (n : ℕ). new_stamp (stamp_found c.find-found.result) n c.args.now) (sym c.hw.ensures) ∙ e.1 in
    let p = err_from_is_err_and c.from_residual-in_err-stamp.result c.from_residual-in_err-stamp.ensures.1 in
    let same : c.from_residual-in_err-stamp.result ≡ Err write.Spent = p.1 ∙ ap (λ (r : WriteRefusal). Err r) (p.2 ∙ e.0) in
    let cause = spent_refusal setup c.args.digest.now c.args.sprig.now s stand.sprig_stands c.args.now c.args.ttl c.args.expect c.args.payload.now c.capacity.result capacity fit given in
    subst (λ (r : Result Stamp WriteRefusal). StepMakes g.D.Disk.view setup (part_of setup c.args.digest.now)
    (put_call c.args.digest.now c.args.ttl c.args.expect c.args.payload.now c.args.now) (write_answer r) c.args.shelf.now s c.args.sprig.now c.args.shelf.now) (sym same)
    (makes_nothing g.D.Disk.view setup c.args.digest.now c.args.sprig.now c.args.shelf.now s (put_call c.args.digest.now c.args.ttl c.args.expect c.args.payload.now c.args.now)
    (refused (cause_of_write write.Spent)) (g.met.D.Disk.is_disk c.args.shelf.now.disk) stand
    (λ told event is answer steps. stands_against setup s told c.args.digest.now c.args.ttl c.args.expect c.args.payload.now c.args.now event (cause_of_write write.Spent) answer steps cause))

pub write_step-requires-clause-version : goal.write_step-requires-clause-version
write_step-requires-clause-version g c =
    let stands = c.requires.stand in
    let given : new_stamp (stamp_found (entry_of c.args.digest.now c.args.sprig.now.entries)) c.args.sprig.now.hw c.args.now ≡ Some c.in_ok-stamp.stamp =
    ap (λ (o : Option Entry). new_stamp (stamp_found o) c.args.sprig.now.hw c.args.now) (sym c.find-found.ensures.value)
    ∙ ap (λ (n : ℕ). new_stamp (stamp_found c.find-found.result) n c.args.now) (sym c.hw.ensures) ∙ c.in_ok-stamp.ensures {u = tt} in
    let f = stamp_fine stands.0 c.args.digest.now c.args.sprig.now stands.1 stands.3.sprig_stands c.args.now c.in_ok-stamp.stamp given in
    subst IsVersion (sym (c.new_put-version.ensures)) (record { tombstone = λ tomb. absurd (false≢true tomb); time = f.time; generation = f.generation; void = omega arith })

pub returns-clause-makes : goal.returns-clause-makes
returns-clause-makes g c setup s is stand =
    let stamp : Stamp = c.in_ok-stamp.stamp in
    let given : new_stamp (stamp_found (entry_of c.args.digest.now c.args.sprig.now.entries)) c.args.sprig.now.hw c.args.now ≡ Some stamp =
    ap (λ (o : Option Entry). new_stamp (stamp_found o) c.args.sprig.now.hw c.args.now) (sym c.find-found.ensures.value)
    ∙ ap (λ (n : ℕ). new_stamp (stamp_found c.find-found.result) n c.args.now) (sym c.hw.ensures) ∙ c.in_ok-stamp.ensures {u = tt} in
    let capacity : c.capacity.result ≡ setup.capacity = c.capacity.ensures ∙ ap (λ (x : Geometry). block_capacity x.block_size) c.geometry-block_size.ensures.shape
    ∙ sym is.of_shelf.shape.capacity in
    let seen : generation_seen c.args.now (entry_of c.args.digest.now c.args.sprig.now.entries) ≡ c.generation_of.result = ap (generation_seen c.args.now) (sym c.find-found.ensures.value)
    ∙ sym c.generation_of.ensures in
    let fit : IsFit (length c.args.payload.now) c.capacity.result c.args.expect (generation_seen c.args.now (entry_of c.args.digest.now c.args.sprig.now.entries)) =
    subst (IsFit (length c.args.payload.now) c.capacity.result c.args.expect) (sym seen) (c.in_ok-check_put.ensures {u = tt}) in
    let cover : c.cover_after.result ≡ cover_of (entry_of c.args.digest.now c.args.sprig.now.entries) = c.cover_after.ensures ∙ ap cover_of (c.as_ref.ensures.value ∙ c.find-found.ensures.value) in
    let version : c.new_put-version.result ≡ a_put stamp (void_time c.args.ttl c.args.now) (cover_of (entry_of c.args.digest.now c.args.sprig.now.entries)) c.args.payload.now =
    c.new_put-version.ensures ∙ ap (λ (n : ℕ). a_put stamp n c.cover_after.result c.args.payload.now) c.void_of.ensures
    ∙ ap (λ (b : Bool). a_put stamp (void_time c.args.ttl c.args.now) b c.args.payload.now) cover in
    let writes = put_writes setup c.args.digest.now c.args.sprig.now s stand.sprig_stands c.args.now c.args.ttl c.args.expect c.args.payload.now c.capacity.result capacity fit stamp
    given (own_of setup c.args.shelf.now is.of_shelf c.args.digest.now c.requires.named) in
    let made = c.write_step.ensures.makes setup s (put_call c.args.digest.now c.args.ttl c.args.expect c.args.payload.now c.args.now) (stamp_given stamp) is stand
    (subst (λ (v : Version). IsWriteOf setup s (put_call c.args.digest.now c.args.ttl c.args.expect c.args.payload.now c.args.now) class.Put c.args.digest.now v (stamp_given stamp))
    (sym version) writes) in
    by c.write_step.result c.write_step.ensures.stamp made (ap (λ (v : Version). v.stamp) version)
  where
    by : (r : Result Stamp WriteRefusal) → IfOk r (λ stamp. stamp ≡ c.new_put-version.result.stamp)
        → StepMakes g.D.Disk.view setup (part_of setup c.args.digest.now)
        (put_call c.args.digest.now c.args.ttl c.args.expect c.args.payload.now c.args.now)
        (written_answer (stamp_given c.in_ok-stamp.stamp) r) c.args.shelf.now s c.write_step.new.sprig c.write_step.new.shelf
        → c.new_put-version.result.stamp ≡ c.in_ok-stamp.stamp
        → StepMakes g.D.Disk.view setup (part_of setup c.args.digest.now)
        (put_call c.args.digest.now c.args.ttl c.args.expect c.args.payload.now c.args.now) (write_answer r) c.args.shelf.now s c.write_step.new.sprig c.write_step.new.shelf
    by (Ok x) same made stamped =
        subst (λ (y : Stamp). StepMakes g.D.Disk.view setup (part_of setup c.args.digest.now)
        (put_call c.args.digest.now c.args.ttl c.args.expect c.args.payload.now c.args.now) (stamp_given y) c.args.shelf.now s c.write_step.new.sprig c.write_step.new.shelf)
        (sym (same ∙ stamped)) made
    by (Err refusal) same made stamped = made

-- ---- what stays

pub returns-in_err-check_put-clause-in_room : goal.returns-in_err-check_put-clause-in_room
returns-in_err-check_put-clause-in_room g c waits room = refl

pub returns-in_err-check_put-clause-quiet : goal.returns-in_err-check_put-clause-quiet
returns-in_err-check_put-clause-quiet g c waits shut = refl

pub returns-in_err-check_put-clause-later : goal.returns-in_err-check_put-clause-later
returns-in_err-check_put-clause-later g c = later_none g.D.Disk.view c.args.shelf.now.disk (g.met.D.Disk.is_disk c.args.shelf.now.disk)

pub returns-in_err-check_put-clause-honest : goal.returns-in_err-check_put-clause-honest
returns-in_err-check_put-clause-honest g c honest = honest

pub returns-in_err-check_put-clause-shape : goal.returns-in_err-check_put-clause-shape
returns-in_err-check_put-clause-shape g c = record { geometry = refl; limits = refl; raid = refl }

pub returns-in_err-stamp-clause-in_room : goal.returns-in_err-stamp-clause-in_room
returns-in_err-stamp-clause-in_room g c waits room = refl

pub returns-in_err-stamp-clause-quiet : goal.returns-in_err-stamp-clause-quiet
returns-in_err-stamp-clause-quiet g c waits shut = refl

pub returns-in_err-stamp-clause-later : goal.returns-in_err-stamp-clause-later
returns-in_err-stamp-clause-later g c = later_none g.D.Disk.view c.args.shelf.now.disk (g.met.D.Disk.is_disk c.args.shelf.now.disk)

pub returns-in_err-stamp-clause-honest : goal.returns-in_err-stamp-clause-honest
returns-in_err-stamp-clause-honest g c honest = honest

pub returns-in_err-stamp-clause-shape : goal.returns-in_err-stamp-clause-shape
returns-in_err-stamp-clause-shape g c = record { geometry = refl; limits = refl; raid = refl }

pub returns-clause-later : goal.returns-clause-later
returns-clause-later g c = c.write_step.ensures.later

pub returns-clause-honest : goal.returns-clause-honest
returns-clause-honest g c = c.write_step.ensures.honest

pub returns-clause-shape : goal.returns-clause-shape
returns-clause-shape g c = c.write_step.ensures.shape

pub returns-clause-quiet : goal.returns-clause-quiet
returns-clause-quiet g c = c.write_step.ensures.quiet

pub returns-clause-refused : goal.returns-clause-refused
returns-clause-refused g c = c.write_step.ensures.refused

pub write_step-requires-clause-named : goal.write_step-requires-clause-named
write_step-requires-clause-named g c = c.requires.named

pub write_step-requires-clause-settings : goal.write_step-requires-clause-settings
write_step-requires-clause-settings g c = c.requires.settings

pub write_step-requires-clause-stand : goal.write_step-requires-clause-stand
write_step-requires-clause-stand g c = c.requires.stand

pub write_step-requires-clause-client : goal.write_step-requires-clause-client
write_step-requires-clause-client g c = refl

pub write_step-requires-clause-found : goal.write_step-requires-clause-found
write_step-requires-clause-found g c = c.find-found.ensures.value

pub returns-in_err-check_put-clause-refused : goal.returns-in_err-check_put-clause-refused
returns-in_err-check_put-clause-refused g c =
    let refusal : WriteRefusal = c.in_err-check_put.field-0.0 in
    let p = err_from_is_err_and c.from_residual.result c.from_residual.ensures.1 in
    let same : c.from_residual.result ≡ Err refusal = p.1 ∙ ap (λ (r : WriteRefusal). Err r) p.2 in
    subst (λ (r : Result Stamp WriteRefusal). IfErr r (λ e. ((e ≡ write.Fault) × (c.args.set.now.commit ≡ true))
    ⊎ IsRefusedStep c.args.sprig.now c.args.sprig.now c.args.shelf.now c.args.shelf.now e)) (sym same)
    (inr (unfit_left c.args.sprig.now c.args.shelf.now (length c.args.payload.now) c.capacity.result c.args.expect c.generation_of.result refusal (c.in_err-check_put.ensures {u = tt})))

pub returns-in_err-stamp-clause-refused : goal.returns-in_err-stamp-clause-refused
returns-in_err-stamp-clause-refused g c =
    let p = err_from_is_err_and c.from_residual-in_err-stamp.result c.from_residual-in_err-stamp.ensures.1 in
    let same : c.from_residual-in_err-stamp.result ≡ Err write.Spent = p.1 ∙ ap (λ (r : WriteRefusal). Err r) (p.2 ∙ (c.in_err-stamp.ensures {u = tt}).0) in
    subst (λ (r : Result Stamp WriteRefusal). IfErr r (λ e. ((e ≡ write.Fault) × (c.args.set.now.commit ≡ true))
    ⊎ IsRefusedStep c.args.sprig.now c.args.sprig.now c.args.shelf.now c.args.shelf.now e)) (sym same) (inr (record { sprig = record { entries = refl; high = refl }; shelf = refl }))

pub returns-in_err-check_put-clause-sure : goal.returns-in_err-check_put-clause-sure
returns-in_err-check_put-clause-sure g c = sure_none g.D.Disk.view c.args.shelf.now c.args.shelf.now refl

pub returns-in_err-stamp-clause-sure : goal.returns-in_err-stamp-clause-sure
returns-in_err-stamp-clause-sure g c = sure_none g.D.Disk.view c.args.shelf.now c.args.shelf.now refl

pub returns-clause-sure : goal.returns-clause-sure
returns-clause-sure g c = c.write_step.ensures.sure

-- ---- what is kept

pub returns-in_err-check_put-clause-kept : goal.returns-in_err-check_put-clause-kept
returns-in_err-check_put-clause-kept g c =
    let p = err_from_is_err_and c.from_residual.result c.from_residual.ensures.1 in
    keeps_all c.args.set.now.commit (units_for (length c.args.payload.now)) c.args.shelf.now c.from_residual.result c.in_err-check_put.field-0.0 (p.1 ∙ ap (λ (r : WriteRefusal). Err r) p.2)

pub returns-in_err-stamp-clause-kept : goal.returns-in_err-stamp-clause-kept
returns-in_err-stamp-clause-kept g c =
    let p = err_from_is_err_and c.from_residual-in_err-stamp.result c.from_residual-in_err-stamp.ensures.1 in
    keeps_all c.args.set.now.commit (units_for (length c.args.payload.now)) c.args.shelf.now c.from_residual-in_err-stamp.result c.in_err-stamp.field-0.0 (p.1 ∙ ap (λ (r : WriteRefusal). Err r) p.2)

pub returns-clause-kept : goal.returns-clause-kept
returns-clause-kept g c =
    subst (λ (n : ℕ). KeepsBy c.args.set.now.commit n c.args.shelf.now c.write_step.new.shelf c.write_step.result) (ap version_units (c.new_put-version.ensures)) c.write_step.ensures.kept

-- ---- which gates fail

pub returns-in_err-check_put-clause-fails : goal.returns-in_err-check_put-clause-fails
returns-in_err-check_put-clause-fails g c = by_none c.from_residual.result c.args.shelf.now c.args.shelf.now (none_still c.args.shelf.now c.args.shelf.now refl)

pub returns-in_err-stamp-clause-fails : goal.returns-in_err-stamp-clause-fails
returns-in_err-stamp-clause-fails g c = by_none c.from_residual-in_err-stamp.result c.args.shelf.now c.args.shelf.now (none_still c.args.shelf.now c.args.shelf.now refl)

pub returns-clause-fails : goal.returns-clause-fails
returns-clause-fails g c = c.write_step.ensures.fails
