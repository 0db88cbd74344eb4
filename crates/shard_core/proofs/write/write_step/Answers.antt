use Rattle.std.proofs.Common.{◌≡◌, List, ◌∷◌, sym, ap, ◌∙◌, subst, inl, inr, true, refl}
use Rattle.shard_core.specs.Calls.{IsRefusedStep}
use Rattle.std.proofs.Math.Nat.{le_trans}
use Rattle.std.specs.Prelude.{Result, Ok, Err, ◌⊎◌, IfErr}
use Rattle.std.proofs.lemmas.Bool.{false≢true}
use Rattle.std.proofs.lemmas.Result.{err_from_is_err_and}
use Rattle.model_faults.specs.Counts.{Rose}
use Rattle.rec_format.specs.declared.version.Stamp.{Stamp}
use Rattle.model_device.specs.Book.{Setup, client}
use Rattle.model_device.specs.Device.{State, part_of}
use Rattle.model_device.specs.Steps.{Step, wrote, sealed_stream, after_step}
use Rattle.model_device.specs.Legal.{flush_between}
use Rattle.block_shelf.specs.View.{IsSetupOf}
use Rattle.block_shelf.specs.Calls.{Goes}
use Rattle.shard_core.specs.declared.refusals.WriteRefusal.{WriteRefusal}
use Rattle.shard_core.specs.declared.refusals.WriteRefusal.TheVariants as write
use Rattle.rec_format.specs.Versions.{version_units}
use Rattle.law_steps.specs.Events.{StepMakes}
use Rattle.shard_core.specs.Writing.{Wrote, Commits, written_answer}
use Rattle.shard_core.proofs.FlushLoop.{rose_since, setup_stays}
use Rattle.shard_core.specs.Keeping.{KeepsBy}
use Rattle.shard_core.proofs.Keeping.{keeps_flush, written_off, written_on, left_keeps}
use Rattle.shard_core.proofs.Later.{later_then, shape_then}
use Rattle.shard_core.proofs.Writes.{makes_unwritten, makes_waiting, ends_done, ends_faulted}
use Rattle.block_shelf.proofs.Surely.{sure_then}
use Rattle.shard_core.proofs.Failing.{by_err, by_then, none_then}
use Rattle.shard_core.proofs.write.write_step.Goals as goal

pub returns-in_err-block-clause-makes : goal.returns-in_err-block-clause-makes
returns-in_err-block-clause-makes g c setup s call ok is stand may =
    let refusal : WriteRefusal = c.in_err-block.field-0.0 in
    let e = c.in_err-block.ensures {u = tt} in
    let p = err_from_is_err_and c.from_residual.result c.from_residual.ensures.1 in
    let same : c.from_residual.result ≡ Err refusal = p.1 ∙ ap (λ (r : WriteRefusal). Err r) p.2 in
    subst (λ (r : Result Stamp WriteRefusal). StepMakes g.D.Disk.view setup (part_of setup c.args.digest.now) call
    (written_answer ok r) c.args.shelf.now s c.append_entry.new.sprig c.append_entry.new.shelf) (sym same)
    (makes_unwritten g.D.Disk.view setup s call c.args.class c.args.digest.now c.args.version.now ok c.args.shelf.now c.append_entry.new.sprig may c.append_entry.new.shelf
    c.append_entry.ensures.later.count
    stand.shelf_stands.queue refusal (e.wrote setup s is.of_shelf stand) (λ fault. e.cause (ap (λ (r : WriteRefusal). Err r) fault)))

pub returns-then-not-set-clause-makes : goal.returns-then-not-set-clause-makes
returns-then-not-set-clause-makes g c setup s call ok is stand may =
    makes_waiting g.D.Disk.view setup s call c.args.class c.args.digest.now c.args.version.now ok c.args.shelf.now c.append_entry.new.sprig may c.in_ok-block.block c.append_entry.new.shelf
    ((c.in_ok-block.ensures {u = tt}).wrote setup s is.of_shelf stand) c.append_entry.ensures.honest (is.commit ∙ c.if-not-set.true) c.append_entry.ensures.later.count

pub returns-in_err-commit-clause-later : goal.returns-in_err-commit-clause-later
returns-in_err-commit-clause-later g c = later_then g.D.Disk.view c.args.shelf.now.disk c.append_entry.new.shelf.disk c.commit.new.shelf.disk c.append_entry.ensures.later c.commit.ensures.later

pub returns-clause-later : goal.returns-clause-later
returns-clause-later g c = later_then g.D.Disk.view c.args.shelf.now.disk c.append_entry.new.shelf.disk c.commit.new.shelf.disk c.append_entry.ensures.later c.commit.ensures.later

pub returns-in_err-commit-clause-makes : goal.returns-in_err-commit-clause-makes
returns-in_err-commit-clause-makes g c setup s call ok is stand may =
    let it : Wrote g.D.Disk.view setup s c.args.class c.args.digest.now c.args.version.now c.in_ok-block.block c.args.shelf.now c.append_entry.new.sprig c.append_entry.new.shelf =
    (c.in_ok-block.ensures {u = tt}).wrote setup s is.of_shelf stand in
    let t : State = after_step setup (wrote c.args.digest.now c.args.version.now) s in
    let went = subst (λ (r : Result (Unit {0}) WriteRefusal). (steps : List Step) × Commits r (flush_between 0 it.buffer.number (after_step setup (sealed_stream client) t).book) steps
    × Goes g.D.Disk.view setup (sealed_stream client ∷ steps) c.append_entry.new.shelf t c.commit.new.shelf) c.in_err-commit.was
    (c.commit.ensures.committed setup t it.buffer (setup_stays setup c.args.shelf.now c.append_entry.new.shelf c.append_entry.ensures.shape is.of_shelf) it.stands.shelf_stands.stands it.filling
    it.there) in
    let up = le_trans c.append_entry.ensures.later.count c.commit.ensures.later.count in
    let p = err_from_is_err_and c.from_residual-in_err-commit.result c.from_residual-in_err-commit.ensures.1 in
    let same : c.from_residual-in_err-commit.result ≡ Err write.Fault = p.1 ∙ ap (λ (r : WriteRefusal). Err r) (p.2 ∙ went.1.0) in
    let rose : Rose (g.D.Disk.view c.args.shelf.now.disk).faults (g.D.Disk.view c.commit.new.shelf.disk).faults =
    rose_since (g.D.Disk.view c.args.shelf.now.disk).faults (g.D.Disk.view c.append_entry.new.shelf.disk).faults
    (g.D.Disk.view c.commit.new.shelf.disk).faults c.append_entry.ensures.later.count (c.in_err-commit.ensures {u = tt}).cause in
    subst (λ (r : Result Stamp WriteRefusal). StepMakes g.D.Disk.view setup (part_of setup c.args.digest.now) call
    (written_answer ok r) c.args.shelf.now s c.append_entry.new.sprig c.commit.new.shelf) (sym same)
    (ends_faulted g.D.Disk.view setup s call c.args.class c.args.digest.now c.args.version.now ok c.args.shelf.now c.append_entry.new.sprig may c.in_ok-block.block c.append_entry.new.shelf
    it c.append_entry.ensures.honest
    (is.commit ∙ c.if-not-set.false) c.commit.new.shelf up (Err c.in_err-commit.field-0.0) went.0 went.1 went.2 went.1.1 rose)

pub returns-clause-makes : goal.returns-clause-makes
returns-clause-makes g c setup s call ok is stand may =
    let it : Wrote g.D.Disk.view setup s c.args.class c.args.digest.now c.args.version.now c.in_ok-block.block c.args.shelf.now c.append_entry.new.sprig c.append_entry.new.shelf =
    (c.in_ok-block.ensures {u = tt}).wrote setup s is.of_shelf stand in
    let t : State = after_step setup (wrote c.args.digest.now c.args.version.now) s in
    let went = subst (λ (r : Result (Unit {0}) WriteRefusal). (steps : List Step) × Commits r (flush_between 0 it.buffer.number (after_step setup (sealed_stream client) t).book) steps
    × Goes g.D.Disk.view setup (sealed_stream client ∷ steps) c.append_entry.new.shelf t c.commit.new.shelf) c.in_ok-commit.was
    (c.commit.ensures.committed setup t it.buffer (setup_stays setup c.args.shelf.now c.append_entry.new.shelf c.append_entry.ensures.shape is.of_shelf) it.stands.shelf_stands.stands it.filling
    it.there) in
    let up = le_trans c.append_entry.ensures.later.count c.commit.ensures.later.count in
    ends_done g.D.Disk.view setup s call c.args.class c.args.digest.now c.args.version.now ok c.args.shelf.now c.append_entry.new.sprig may c.in_ok-block.block c.append_entry.new.shelf it
    c.append_entry.ensures.honest
    (is.commit ∙ c.if-not-set.false) c.commit.new.shelf up (Ok c.in_ok-commit.field-0) went.0 went.1 went.2 went.1

-- ---- what stays

pub returns-in_err-block-clause-in_room : goal.returns-in_err-block-clause-in_room
returns-in_err-block-clause-in_room g c waits = c.append_entry.ensures.in_room

pub returns-in_err-block-clause-quiet : goal.returns-in_err-block-clause-quiet
returns-in_err-block-clause-quiet g c waits = c.append_entry.ensures.quiet

pub returns-in_err-block-clause-later : goal.returns-in_err-block-clause-later
returns-in_err-block-clause-later g c = c.append_entry.ensures.later

pub returns-in_err-block-clause-honest : goal.returns-in_err-block-clause-honest
returns-in_err-block-clause-honest g c = c.append_entry.ensures.honest

pub returns-in_err-block-clause-shape : goal.returns-in_err-block-clause-shape
returns-in_err-block-clause-shape g c = c.append_entry.ensures.shape

pub returns-in_err-block-clause-whole : goal.returns-in_err-block-clause-whole
returns-in_err-block-clause-whole g c = c.append_entry.ensures.whole

pub returns-then-not-set-clause-in_room : goal.returns-then-not-set-clause-in_room
returns-then-not-set-clause-in_room g c waits = c.append_entry.ensures.in_room

pub returns-then-not-set-clause-quiet : goal.returns-then-not-set-clause-quiet
returns-then-not-set-clause-quiet g c waits = c.append_entry.ensures.quiet

pub returns-then-not-set-clause-refused : goal.returns-then-not-set-clause-refused
returns-then-not-set-clause-refused g c = tt

pub returns-then-not-set-clause-later : goal.returns-then-not-set-clause-later
returns-then-not-set-clause-later g c = c.append_entry.ensures.later

pub returns-then-not-set-clause-honest : goal.returns-then-not-set-clause-honest
returns-then-not-set-clause-honest g c = c.append_entry.ensures.honest

pub returns-then-not-set-clause-shape : goal.returns-then-not-set-clause-shape
returns-then-not-set-clause-shape g c = c.append_entry.ensures.shape

pub returns-then-not-set-clause-whole : goal.returns-then-not-set-clause-whole
returns-then-not-set-clause-whole g c = c.append_entry.ensures.whole

pub returns-in_err-commit-clause-in_room : goal.returns-in_err-commit-clause-in_room
returns-in_err-commit-clause-in_room g c waits room = absurd (false≢true (sym waits ∙ c.if-not-set.false))

pub returns-in_err-commit-clause-quiet : goal.returns-in_err-commit-clause-quiet
returns-in_err-commit-clause-quiet g c waits shut = absurd (false≢true (sym waits ∙ c.if-not-set.false))

pub returns-in_err-commit-clause-honest : goal.returns-in_err-commit-clause-honest
returns-in_err-commit-clause-honest g c honest = c.commit.ensures.honest (c.append_entry.ensures.honest honest)

pub returns-in_err-commit-clause-shape : goal.returns-in_err-commit-clause-shape
returns-in_err-commit-clause-shape g c = shape_then c.args.shelf.now c.append_entry.new.shelf c.commit.new.shelf c.append_entry.ensures.shape c.commit.ensures.shape

pub returns-in_err-commit-clause-whole : goal.returns-in_err-commit-clause-whole
returns-in_err-commit-clause-whole g c = c.append_entry.ensures.whole

pub returns-clause-in_room : goal.returns-clause-in_room
returns-clause-in_room g c waits room = absurd (false≢true (sym waits ∙ c.if-not-set.false))

pub returns-clause-quiet : goal.returns-clause-quiet
returns-clause-quiet g c waits shut = absurd (false≢true (sym waits ∙ c.if-not-set.false))

pub returns-clause-honest : goal.returns-clause-honest
returns-clause-honest g c honest = c.commit.ensures.honest (c.append_entry.ensures.honest honest)

pub returns-clause-shape : goal.returns-clause-shape
returns-clause-shape g c = shape_then c.args.shelf.now c.append_entry.new.shelf c.commit.new.shelf c.append_entry.ensures.shape c.commit.ensures.shape

pub returns-clause-whole : goal.returns-clause-whole
returns-clause-whole g c = c.append_entry.ensures.whole

pub returns-clause-refused : goal.returns-clause-refused
returns-clause-refused g c = tt

pub returns-in_err-block-clause-refused : goal.returns-in_err-block-clause-refused
returns-in_err-block-clause-refused g c =
    let p = err_from_is_err_and c.from_residual.result c.from_residual.ensures.1 in
    let same : c.from_residual.result ≡ Err c.in_err-block.field-0.0 = p.1 ∙ ap (λ (r : WriteRefusal). Err r) p.2 in
    subst (λ (r : Result Stamp WriteRefusal). IfErr r (λ e. ((e ≡ write.Fault) × (c.args.set.now.commit ≡ true))
    ⊎ IsRefusedStep c.args.sprig.now c.append_entry.new.sprig c.args.shelf.now c.append_entry.new.shelf e)) (sym same) (inr (c.in_err-block.ensures {u = tt}).refused)

pub returns-in_err-commit-clause-refused : goal.returns-in_err-commit-clause-refused
returns-in_err-commit-clause-refused g c =
    let p = err_from_is_err_and c.from_residual-in_err-commit.result c.from_residual-in_err-commit.ensures.1 in
    let same : c.from_residual-in_err-commit.result ≡ Err write.Fault = p.1 ∙ ap (λ (r : WriteRefusal). Err r) (p.2 ∙ (c.in_err-commit.ensures {u = tt}).fault) in
    subst (λ (r : Result Stamp WriteRefusal). IfErr r (λ e. ((e ≡ write.Fault) × (c.args.set.now.commit ≡ true))
    ⊎ IsRefusedStep c.args.sprig.now c.append_entry.new.sprig c.args.shelf.now c.commit.new.shelf e)) (sym same) (inl (refl, c.if-not-set.false))

pub returns-in_err-block-clause-sure : goal.returns-in_err-block-clause-sure
returns-in_err-block-clause-sure g c = c.append_entry.ensures.sure

pub returns-then-not-set-clause-sure : goal.returns-then-not-set-clause-sure
returns-then-not-set-clause-sure g c = c.append_entry.ensures.sure

pub returns-in_err-commit-clause-sure : goal.returns-in_err-commit-clause-sure
returns-in_err-commit-clause-sure g c = sure_then g.D.Disk.view c.args.shelf.now c.append_entry.new.shelf c.commit.new.shelf c.append_entry.ensures.sure c.commit.ensures.sure

pub returns-clause-sure : goal.returns-clause-sure
returns-clause-sure g c = sure_then g.D.Disk.view c.args.shelf.now c.append_entry.new.shelf c.commit.new.shelf c.append_entry.ensures.sure c.commit.ensures.sure

-- ---- what is kept

pub returns-in_err-block-clause-kept : goal.returns-in_err-block-clause-kept
returns-in_err-block-clause-kept g c =
    let refusal : WriteRefusal = c.in_err-block.field-0.0 in
    let p = err_from_is_err_and c.from_residual.result c.from_residual.ensures.1 in
    let same : c.from_residual.result ≡ Err refusal = p.1 ∙ ap (λ (r : WriteRefusal). Err r) p.2 in
    subst (λ (r : Result Stamp WriteRefusal). KeepsBy c.args.set.now.commit (version_units c.args.version.now) c.args.shelf.now c.append_entry.new.shelf r) (sym same)
    (inl (left_keeps c.args.shelf.now c.append_entry.new.shelf refusal (c.in_err-block.ensures {u = tt}).refused.shelf))

pub returns-then-not-set-clause-kept : goal.returns-then-not-set-clause-kept
returns-then-not-set-clause-kept g c =
    written_off c.args.set.now.commit (version_units c.args.version.now) c.args.shelf.now c.append_entry.new.shelf c.if-not-set.true (c.in_ok-block.ensures {u = tt}).kept

pub returns-in_err-commit-clause-kept : goal.returns-in_err-commit-clause-kept
returns-in_err-commit-clause-kept g c =
    let setup : Setup = c.requires.stand.0 in
    let is : IsSetupOf setup c.args.shelf.now = c.requires.stand.2.of_shelf in
    let units = version_units c.args.version.now in
    let s : State = c.requires.stand.1 in
    let it : Wrote g.D.Disk.view setup s c.args.class c.args.digest.now c.args.version.now c.in_ok-block.block c.args.shelf.now c.append_entry.new.sprig c.append_entry.new.shelf =
    (c.in_ok-block.ensures {u = tt}).wrote setup s is c.requires.stand.3 in
    let t : State = after_step setup (wrote c.args.digest.now c.args.version.now) s in
    let kept = c.commit.ensures.kept setup t it.buffer (setup_stays setup c.args.shelf.now c.append_entry.new.shelf c.append_entry.ensures.shape is) it.stands.shelf_stands.stands it.filling
    it.there in
    let p = err_from_is_err_and c.from_residual-in_err-commit.result c.from_residual-in_err-commit.ensures.1 in
    let same : c.from_residual-in_err-commit.result ≡ Err write.Fault = p.1 ∙ ap (λ (r : WriteRefusal). Err r) (p.2 ∙ (c.in_err-commit.ensures {u = tt}).fault) in
    subst (λ (r : Result Stamp WriteRefusal). KeepsBy c.args.set.now.commit units c.args.shelf.now c.commit.new.shelf r) (sym same)
    (inr (
      refl,
      c.if-not-set.false,
      written_on c.args.set.now.commit units c.args.shelf.now c.commit.new.shelf c.if-not-set.false
          (keeps_flush units c.args.shelf.now c.append_entry.new.shelf c.commit.new.shelf (c.in_ok-block.ensures {u = tt}).kept kept),
    ))

pub returns-clause-kept : goal.returns-clause-kept
returns-clause-kept g c =
    let setup : Setup = c.requires.stand.0 in
    let is : IsSetupOf setup c.args.shelf.now = c.requires.stand.2.of_shelf in
    let units = version_units c.args.version.now in
    let s : State = c.requires.stand.1 in
    let it : Wrote g.D.Disk.view setup s c.args.class c.args.digest.now c.args.version.now c.in_ok-block.block c.args.shelf.now c.append_entry.new.sprig c.append_entry.new.shelf =
    (c.in_ok-block.ensures {u = tt}).wrote setup s is c.requires.stand.3 in
    let t : State = after_step setup (wrote c.args.digest.now c.args.version.now) s in
    let kept = c.commit.ensures.kept setup t it.buffer (setup_stays setup c.args.shelf.now c.append_entry.new.shelf c.append_entry.ensures.shape is) it.stands.shelf_stands.stands it.filling
    it.there in
    written_on c.args.set.now.commit units c.args.shelf.now c.commit.new.shelf c.if-not-set.false
    (keeps_flush units c.args.shelf.now c.append_entry.new.shelf c.commit.new.shelf (c.in_ok-block.ensures {u = tt}).kept kept)

-- ---- which gates fail

pub returns-in_err-block-clause-fails : goal.returns-in_err-block-clause-fails
returns-in_err-block-clause-fails g c =
    let refusal : WriteRefusal = c.in_err-block.field-0.0 in
    let p = err_from_is_err_and c.from_residual.result c.from_residual.ensures.1 in
    let same : c.from_residual.result ≡ Err refusal = p.1 ∙ ap (λ (r : WriteRefusal). Err r) p.2 in
    by_err c.from_residual.result refusal c.args.shelf.now c.append_entry.new.shelf same (c.in_err-block.ensures {u = tt}).fails

pub returns-then-not-set-clause-fails : goal.returns-then-not-set-clause-fails
returns-then-not-set-clause-fails g c = (c.in_ok-block.ensures {u = tt}).fails

pub returns-in_err-commit-clause-fails : goal.returns-in_err-commit-clause-fails
returns-in_err-commit-clause-fails g c =
    by_then c.from_residual-in_err-commit.result c.args.shelf.now c.append_entry.new.shelf c.commit.new.shelf (c.in_ok-block.ensures {u = tt}).fails
    (by_err c.from_residual-in_err-commit.result write.Fault c.append_entry.new.shelf c.commit.new.shelf
    (let p = err_from_is_err_and c.from_residual-in_err-commit.result c.from_residual-in_err-commit.ensures.1 in
    p.1 ∙ ap (λ (r : WriteRefusal). Err r) (p.2 ∙ (c.in_err-commit.ensures {u = tt}).fault)) (c.in_err-commit.ensures {u = tt}).fails)

pub returns-clause-fails : goal.returns-clause-fails
returns-clause-fails g c = none_then c.args.shelf.now c.append_entry.new.shelf c.commit.new.shelf (c.in_ok-block.ensures {u = tt}).fails (c.in_ok-commit.ensures {u = tt}).fails
