use Rattle.std.proofs.Common.{ℕ, true, false, ◌∷◌, [], sym, subst, refl}
use Rattle.std.specs.Prelude.{Result}
use Rattle.model_device.specs.Steps.{sealed_stream, after_step}
use Rattle.model_device.specs.Book.{client}
use Rattle.model_device.specs.Legal.{flush_between}
use Rattle.disk_model.specs.Disk.{IsHonest}
use Rattle.disk_model.specs.declared.disk.DiskFault.{DiskFault}
use Rattle.block_shelf.proofs.Going.{goes_then}
use Rattle.shard_core.specs.Writing.{Commits}
use Rattle.shard_core.proofs.Committing.{has_buffer, number_is, ends_there}
use Rattle.shard_core.proofs.FlushLoop.{setup_stays}
use Rattle.shard_core.proofs.Writes.{committed, commits_from}
use Rattle.block_shelf.proofs.Surely.{sure_none, sure_same, sure_then}
use Rattle.shard_core.proofs.Keeping.{flushes_nothing, flushes_sealed, seals_keep}
use Rattle.shard_core.proofs.Failing.{none_still, none_same, none_then, may_then}
use Rattle.shard_core.proofs.write.commit.Goals as goal

pub returns-in_default-clause-committed : goal.returns-in_default-clause-committed
returns-in_default-clause-committed g c setup s b is stands found at = absurd (has_buffer g.D.Disk.view setup c.args.shelf.now c.args.shelf.now s b stands found c.args.block at c.in_default.ensures)

pub returns-in-Ok-clause-committed : goal.returns-in-Ok-clause-committed
returns-in-Ok-clause-committed g c setup s b is stands found at =
    let first = c.seal_for.ensures.sealed setup s client b is stands found at in
    let number = number_is g.D.Disk.view setup c.args.shelf.now c.seal_for.new.self s b stands found first.stands c.flush_up_to.ensures.whole c.args.block at c.in-Some.number c.in-Some.ensures in
    let ends = ends_there g.D.Disk.view setup c.args.shelf.now c.seal_for.new.self s b stands found first.stands c.flush_up_to.ensures.whole c.args.block at c.in-Some.number c.in-Some.ensures in
    let then = c.flush_up_to.ensures.flushed setup (after_step setup (sealed_stream client) s)
    (setup_stays setup c.args.shelf.now c.seal_for.new.self c.seal_for.ensures.shape is) first.stands ends in (
      then.0,
      subst (λ (r : Result ℕ DiskFault). Commits (committed r) (flush_between 0 b.number (after_step setup (sealed_stream client) s).book) then.0) c.in-Ok.is
          (subst (λ (n : ℕ). Commits (committed c.flush_up_to.result) (flush_between 0 n (after_step setup (sealed_stream client) s).book) then.0) number
          (commits_from c.flush_up_to.result _ then.0 then.1)),
      goes_then g.D.Disk.view setup (sealed_stream client ∷ []) then.0 c.args.shelf.now c.seal_for.new.self c.flush_up_to.new.shelf s
          (λ honest. subst (λ d. IsHonest (g.D.Disk.view d)) (sym c.seal_for.ensures.disk) honest) first then.2,
    )

pub returns-in-Err-clause-committed : goal.returns-in-Err-clause-committed
returns-in-Err-clause-committed g c setup s b is stands found at =
    let first = c.seal_for.ensures.sealed setup s client b is stands found at in
    let number = number_is g.D.Disk.view setup c.args.shelf.now c.seal_for.new.self s b stands found first.stands c.flush_up_to.ensures.whole c.args.block at c.in-Some.number c.in-Some.ensures in
    let ends = ends_there g.D.Disk.view setup c.args.shelf.now c.seal_for.new.self s b stands found first.stands c.flush_up_to.ensures.whole c.args.block at c.in-Some.number c.in-Some.ensures in
    let then = c.flush_up_to.ensures.flushed setup (after_step setup (sealed_stream client) s)
    (setup_stays setup c.args.shelf.now c.seal_for.new.self c.seal_for.ensures.shape is) first.stands ends in (
      then.0,
      subst (λ (r : Result ℕ DiskFault). Commits (committed r) (flush_between 0 b.number (after_step setup (sealed_stream client) s).book) then.0) c.in-Err.is
          (subst (λ (n : ℕ). Commits (committed c.flush_up_to.result) (flush_between 0 n (after_step setup (sealed_stream client) s).book) then.0) number
          (commits_from c.flush_up_to.result _ then.0 then.1)),
      goes_then g.D.Disk.view setup (sealed_stream client ∷ []) then.0 c.args.shelf.now c.seal_for.new.self c.flush_up_to.new.shelf s
          (λ honest. subst (λ d. IsHonest (g.D.Disk.view d)) (sym c.seal_for.ensures.disk) honest) first then.2,
    )

pub returns-in_default-clause-sure : goal.returns-in_default-clause-sure
returns-in_default-clause-sure g c = sure_none g.D.Disk.view c.args.shelf.now c.args.shelf.now refl

pub returns-in-Ok-clause-sure : goal.returns-in-Ok-clause-sure
returns-in-Ok-clause-sure g c =
    sure_then g.D.Disk.view c.args.shelf.now c.seal_for.new.self c.flush_up_to.new.shelf
    (sure_same g.D.Disk.view c.args.shelf.now c.seal_for.new.self c.seal_for.ensures.disk c.seal_for.ensures.gates) c.flush_up_to.ensures.sure

pub returns-in-Err-clause-sure : goal.returns-in-Err-clause-sure
returns-in-Err-clause-sure g c =
    sure_then g.D.Disk.view c.args.shelf.now c.seal_for.new.self c.flush_up_to.new.shelf
    (sure_same g.D.Disk.view c.args.shelf.now c.seal_for.new.self c.seal_for.ensures.disk c.seal_for.ensures.gates) c.flush_up_to.ensures.sure

pub returns-in_default-clause-kept : goal.returns-in_default-clause-kept
returns-in_default-clause-kept g c setup s b is stands found at = flushes_nothing c.args.shelf.now

pub returns-in-Ok-clause-kept : goal.returns-in-Ok-clause-kept
returns-in-Ok-clause-kept g c setup s b is stands found at =
    let sealed = c.seal_for.ensures.sealed setup s client b is stands found at in
    flushes_sealed c.args.shelf.now c.seal_for.new.self c.flush_up_to.new.shelf
    (seals_keep setup true false s c.args.shelf.now c.seal_for.new.self stands sealed.stands c.seal_for.ensures.cache) c.flush_up_to.ensures.kept

pub returns-in-Err-clause-kept : goal.returns-in-Err-clause-kept
returns-in-Err-clause-kept g c setup s b is stands found at =
    let sealed = c.seal_for.ensures.sealed setup s client b is stands found at in
    flushes_sealed c.args.shelf.now c.seal_for.new.self c.flush_up_to.new.shelf
    (seals_keep setup true false s c.args.shelf.now c.seal_for.new.self stands sealed.stands c.seal_for.ensures.cache) c.flush_up_to.ensures.kept

-- ---- which gates fail

pub returns-in_default-clause-fails : goal.returns-in_default-clause-fails
returns-in_default-clause-fails g c = none_still c.args.shelf.now c.args.shelf.now refl

pub returns-in-Ok-clause-fails : goal.returns-in-Ok-clause-fails
returns-in-Ok-clause-fails g c = none_then c.args.shelf.now c.seal_for.new.self c.flush_up_to.new.shelf (none_same c.args.shelf.now c.seal_for.new.self c.seal_for.ensures.gates) c.in-Ok.ensures.fails

pub returns-in-Err-clause-fails : goal.returns-in-Err-clause-fails
returns-in-Err-clause-fails g c = may_then c.args.shelf.now c.seal_for.new.self c.flush_up_to.new.shelf (none_same c.args.shelf.now c.seal_for.new.self c.seal_for.ensures.gates) c.in-Err.ensures.fails
