use Rattle.std.proofs.Common.{inl, ◌≡◌, ◌≤◌, ◌^◌, true, ℕ, List, [], subst}
use Rattle.std.specs.Prelude.{Result, Ok, Err, OnOk, IfOk}
use Rattle.std.specs.List.{AllByRecursion}
use Rattle.model_device.specs.Steps.{Step}
use Rattle.disk_model.specs.declared.disk.DiskFault.{DiskFault}
use Rattle.block_shelf.specs.View.{is_unsealed}
use Rattle.shard_core.specs.Calls.{FlushesAll}
use Rattle.shard_core.proofs.FlushLoop.{numbers_most, flush_is_all, none_left}
use Rattle.shard_core.proofs.flush.flush_sealed.Goals as goal

pub returns-clause-flushed : goal.returns-clause-flushed
returns-clause-flushed g c setup s is stands =
    let most = numbers_most g.D.Disk.view c.args.shelf.now c.flush_up_to.ensures.whole in
    let then = c.flush_up_to.ensures.flushed setup s is stands (inl most) in
    (then.0, subst (λ (l : List Step). FlushesAll c.flush_up_to.result l then.0) (flush_is_all setup (2 ^ 62) c.args.shelf.now s stands most) then.1, then.2)

pub returns-clause-quiet : goal.returns-clause-quiet
returns-clause-quiet g c quiet = by c.flush_up_to.result c.flush_up_to.ensures.all
  where
    most : AllByRecursion (λ b. b.number ≤ 2 ^ 62) c.args.shelf.now.buffers
    most = numbers_most g.D.Disk.view c.args.shelf.now c.flush_up_to.ensures.whole

    by : (r : Result ℕ DiskFault) → IfOk r (λ n. AllByRecursion (λ b. b.number ≤ 2 ^ 62) c.args.shelf.now.buffers → AllByRecursion (λ b. is_unsealed b.phase ≡ true) c.flush_up_to.new.shelf.buffers)
        → OnOk r (c.flush_up_to.new.shelf.buffers ≡ [])
    by (Ok n) all = none_left c.flush_up_to.new.shelf.buffers (all most) (c.flush_up_to.ensures.quiet quiet)
    by (Err e) all = tt

pub returns-clause-sure : goal.returns-clause-sure
returns-clause-sure g c = c.flush_up_to.ensures.sure

pub returns-clause-kept : goal.returns-clause-kept
returns-clause-kept g c = c.flush_up_to.ensures.kept

-- ---- which gates fail

pub returns-clause-fails : goal.returns-clause-fails
returns-clause-fails g c = c.flush_up_to.ensures.fails
