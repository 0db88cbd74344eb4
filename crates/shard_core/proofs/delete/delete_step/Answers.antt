use Rattle.std.proofs.Common.{◌≡◌, Bool, true, false, sym, ap, ◌∙◌, subst, refl}
use Rattle.std.specs.Prelude.{Some, None, Result, Err}
use Rattle.std.specs.Option.{option_copied}
use Rattle.std.proofs.lemmas.Result.{err_from_is_err_and}
use Rattle.rec_format.specs.declared.entry.Entry.{Entry}
use Rattle.model_device.specs.Device.{part_of}
use Rattle.model_device.specs.Events.{delete_call, happened}
use Rattle.expiry_rule.specs.Seen.{seen_entry}
use Rattle.sprig_tree.specs.Entries.{entry_of}
use Rattle.shard_core.specs.declared.refusals.WriteRefusal.{WriteRefusal}
use Rattle.shard_core.specs.Calls.{delete_answer}
use Rattle.shard_core.specs.Writing.{written_answer}
use Rattle.law_steps.specs.Events.{StepMakes}
use Rattle.shard_core.proofs.Found.{seen_none, seen_some}
use Rattle.shard_core.proofs.Getting.{seen_held}
use Rattle.shard_core.proofs.Puts.{makes_nothing}
use Rattle.shard_core.proofs.Deletes.{deletes_none, deletes}
use Rattle.block_shelf.proofs.Surely.{sure_none}
use Rattle.rec_format.specs.Versions.{units_for}
use Rattle.std.proofs.lemmas.Bool.{false≢true}
use Rattle.tomb_rules.specs.Covers.{cover_of}
use Rattle.shard_core.proofs.Keeping.{keeps_as, keeps_refused}
use Rattle.block_shelf.proofs.KeptAll.{all_same}
use Rattle.shard_core.proofs.Failing.{by_err, none_still}
use Rattle.shard_core.proofs.delete.delete_step.Goals as goal

pub returns-in_default-clause-makes : goal.returns-in_default-clause-makes
returns-in_default-clause-makes g c setup s is_setup stand =
    let none : seen_entry c.args.now (entry_of c.args.digest.now c.args.sprig.now.entries) ≡ None = ap (seen_entry c.args.now) (sym (c.as_ref.ensures.value ∙ c.find-found.ensures.value))
    ∙ sym c.seen.ensures ∙ ap option_copied c.in_default.is in
    makes_nothing g.D.Disk.view setup c.args.digest.now c.args.sprig.now c.args.shelf.now s (delete_call c.args.digest.now c.args.now) (happened false)
    (g.met.D.Disk.is_disk c.args.shelf.now.disk) stand
    (λ told event is answer steps. deletes_none setup s c.args.digest.now c.args.now told event answer steps (seen_none setup s c.args.now c.args.digest.now c.args.sprig.now stand.sprig_stands none))

pub remove_entry-requires-clause-found : goal.remove_entry-requires-clause-found
remove_entry-requires-clause-found g c =
    let e : Entry = c.in-Some.entry.now in
    let seen : seen_entry c.args.now (entry_of c.args.digest.now c.args.sprig.now.entries) ≡ Some e = ap (seen_entry c.args.now) (sym (c.as_ref.ensures.value ∙ c.find-found.ensures.value))
    ∙ sym c.seen.ensures ∙ ap option_copied c.in-Some.is in
    seen_held c.args.now (entry_of c.args.digest.now c.args.sprig.now.entries) e seen

pub returns-clause-makes : goal.returns-clause-makes
returns-clause-makes g c setup s is_setup stand =
    let e : Entry = c.in-Some.entry.now in
    let seen : seen_entry c.args.now (entry_of c.args.digest.now c.args.sprig.now.entries) ≡ Some e = ap (seen_entry c.args.now) (sym (c.as_ref.ensures.value ∙ c.find-found.ensures.value))
    ∙ sym c.seen.ensures ∙ ap option_copied c.in-Some.is in
    let is = seen_some setup s c.args.now c.args.digest.now c.args.sprig.now stand.sprig_stands e seen in
    let made = c.remove_entry.ensures.makes setup s (delete_call c.args.digest.now c.args.now) is_setup stand (deletes setup s c.args.digest.now c.args.now is.version is.seen) in
    subst (λ (r : Result (Unit {0}) WriteRefusal). StepMakes g.D.Disk.view setup (part_of setup c.args.digest.now) (delete_call c.args.digest.now c.args.now)
    (written_answer (happened true) r) c.args.shelf.now s c.remove_entry.new.sprig c.remove_entry.new.shelf) c.in_ok-remove_entry.was made

pub returns-in_err-remove_entry-clause-makes : goal.returns-in_err-remove_entry-clause-makes
returns-in_err-remove_entry-clause-makes g c setup s is_setup stand =
    let e : Entry = c.in-Some.entry.now in
    let seen : seen_entry c.args.now (entry_of c.args.digest.now c.args.sprig.now.entries) ≡ Some e = ap (seen_entry c.args.now) (sym (c.as_ref.ensures.value ∙ c.find-found.ensures.value))
    ∙ sym c.seen.ensures ∙ ap option_copied c.in-Some.is in
    let is = seen_some setup s c.args.now c.args.digest.now c.args.sprig.now stand.sprig_stands e seen in
    let made = c.remove_entry.ensures.makes setup s (delete_call c.args.digest.now c.args.now) is_setup stand (deletes setup s c.args.digest.now c.args.now is.version is.seen) in
    let p = err_from_is_err_and c.from_residual.result c.from_residual.ensures.1 in
    let same : c.from_residual.result ≡ Err c.in_err-remove_entry.field-0.0 = p.1 ∙ ap (λ (r : WriteRefusal). Err r) p.2 in
    subst (λ (r : Result Bool WriteRefusal). StepMakes g.D.Disk.view setup (part_of setup c.args.digest.now) (delete_call c.args.digest.now c.args.now)
    (delete_answer r) c.args.shelf.now s c.remove_entry.new.sprig c.remove_entry.new.shelf) (sym same)
    (subst (λ (r : Result (Unit {0}) WriteRefusal). StepMakes g.D.Disk.view setup (part_of setup c.args.digest.now) (delete_call c.args.digest.now c.args.now)
    (written_answer (happened true) r) c.args.shelf.now s c.remove_entry.new.sprig c.remove_entry.new.shelf) c.in_err-remove_entry.was made)

pub returns-in_default-clause-sure : goal.returns-in_default-clause-sure
returns-in_default-clause-sure g c = sure_none g.D.Disk.view c.args.shelf.now c.args.shelf.now refl

pub returns-in_err-remove_entry-clause-sure : goal.returns-in_err-remove_entry-clause-sure
returns-in_err-remove_entry-clause-sure g c = c.remove_entry.ensures.sure

pub returns-clause-sure : goal.returns-clause-sure
returns-clause-sure g c = c.remove_entry.ensures.sure

pub returns-in_default-clause-kept : goal.returns-in_default-clause-kept
returns-in_default-clause-kept g c =
    let none : seen_entry c.args.now (entry_of c.args.digest.now c.args.sprig.now.entries) ≡ None =
    ap (seen_entry c.args.now) (sym (c.as_ref.ensures.value ∙ c.find-found.ensures.value)) ∙ sym c.seen.ensures ∙ ap option_copied c.in_default.is in
    (λ bare. all_same c.args.shelf.now, λ covered. absurd (false≢true (sym (ap cover_of none) ∙ covered)))

pub returns-clause-kept : goal.returns-clause-kept
returns-clause-kept g c =
    let e : Entry = c.in-Some.entry.now in
    let found : seen_entry c.args.now (entry_of c.args.digest.now c.args.sprig.now.entries) ≡ Some e =
    ap (seen_entry c.args.now) (sym (c.as_ref.ensures.value ∙ c.find-found.ensures.value)) ∙ sym c.seen.ensures ∙ ap option_copied c.in-Some.is in
    let kept = c.remove_entry.ensures.kept in (
      λ bare. kept.0 (sym (ap cover_of found) ∙ bare),
      λ covered. keeps_as c.args.set.now.commit (units_for 0) c.args.shelf.now c.remove_entry.new.shelf c.remove_entry.result true _ c.in_ok-remove_entry.was
          (kept.1 (sym (ap cover_of found) ∙ covered)),
    )

pub returns-in_err-remove_entry-clause-kept : goal.returns-in_err-remove_entry-clause-kept
returns-in_err-remove_entry-clause-kept g c =
    let e : Entry = c.in-Some.entry.now in
    let found : seen_entry c.args.now (entry_of c.args.digest.now c.args.sprig.now.entries) ≡ Some e =
    ap (seen_entry c.args.now) (sym (c.as_ref.ensures.value ∙ c.find-found.ensures.value)) ∙ sym c.seen.ensures ∙ ap option_copied c.in-Some.is in
    let kept = c.remove_entry.ensures.kept in
    let p = err_from_is_err_and c.from_residual.result c.from_residual.ensures.1 in (
      λ bare. kept.0 (sym (ap cover_of found) ∙ bare),
      λ covered. keeps_refused c.args.set.now.commit (units_for 0) c.args.shelf.now c.remove_entry.new.shelf c.remove_entry.result c.from_residual.result c.in_err-remove_entry.field-0.0
          c.in_err-remove_entry.was (p.1 ∙ ap (λ (r : WriteRefusal). Err r) p.2) (kept.1 (sym (ap cover_of found) ∙ covered)),
    )

-- ---- which gates fail

pub returns-in_default-clause-fails : goal.returns-in_default-clause-fails
returns-in_default-clause-fails g c = none_still c.args.shelf.now c.args.shelf.now refl

pub returns-in_err-remove_entry-clause-fails : goal.returns-in_err-remove_entry-clause-fails
returns-in_err-remove_entry-clause-fails g c =
    let refusal : WriteRefusal = c.in_err-remove_entry.field-0.0 in
    let p = err_from_is_err_and c.from_residual.result c.from_residual.ensures.1 in
    let same : c.from_residual.result ≡ Err refusal = p.1 ∙ ap (λ (r : WriteRefusal). Err r) p.2 in
    by_err c.from_residual.result refusal c.args.shelf.now c.remove_entry.new.shelf same (c.in_err-remove_entry.ensures {u = tt}).fails

pub returns-clause-fails : goal.returns-clause-fails
returns-clause-fails g c = (c.in_ok-remove_entry.ensures {u = tt}).fails
