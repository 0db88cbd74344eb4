use Rattle.std.proofs.Common.{◌≢◌, ◌≤◌, ℕ, [], sym, ◌∙◌, ap, subst}
use Rattle.std.specs.Prelude.{Result, OnErr, IfOk}
use Rattle.model_faults.specs.Counts.{Rose}
use Rattle.model_device.specs.Book.{client, defrag}
use Rattle.model_device.specs.Steps.{after_steps}
use Rattle.model_device.specs.Events.{flush_next_call}
use Rattle.model_device.specs.Legal.{flush_first, is_due, seal_low}
use Rattle.disk_model.specs.declared.disk.DiskFault.{DiskFault}
use Rattle.block_shelf.specs.View.{ShelfView}
use Rattle.block_shelf.proofs.Surely.{sure_same, sure_then}
use Rattle.law_steps.specs.Standing.{ShelfStands}
use Rattle.law_steps.specs.Events.{MakesEvent}
use Rattle.shard_core.specs.Calls.{flush_answer}
use Rattle.shard_core.specs.Flushing.{flushed_count}
use Rattle.shard_core.proofs.FlushLoop.{setup_stays}
use Rattle.shard_core.proofs.Flushing.{makes_flush, counted_all, counted_err, counted_one, one_in_turn, one_left, none_sealed}
use Rattle.shard_core.proofs.Keeping.{flushes_sealed, seals_keep}
use Rattle.shard_core.specs.Failing.{FailsBy}
use Rattle.shard_core.proofs.Failing.{by_then, none_same, stepped}
use Rattle.shard_core.proofs.flush.flush_next.Goals as goal

pub returns-clause-makes : goal.returns-clause-makes
returns-clause-makes g c setup s is stands =
    let view = g.D.Disk.view in
    let old : ShelfView g.row.D.Denot = c.args.shelf.now in
    let mid : ShelfView g.row.D.Denot = c.seal_low.new.self in
    let new : ShelfView g.row.D.Denot = c.flush_step.new.self in
    let seals = c.seal_low.ensures.sealed setup s is stands.stands stands.queue in
    let sealed = after_steps setup (seal_low setup s.book) s in
    let flushes = c.flush_step.ensures.flushed setup sealed (setup_stays setup old mid c.seal_low.ensures.shape is) seals.stands in
    subst (λ (r : Result ℕ DiskFault). MakesEvent view setup flush_next_call (flush_answer r) old s new (ShelfStands setup new)) (sym c.flushed_count.ensures)
    (makes_flush view setup old mid new s stands (seal_low setup s.book) (flush_first sealed.book) seals c.seal_low.ensures.disk (flushed_count c.flush_step.result)
    (flushes.0, counted_all sealed c.flush_step.result flushes.0 flushes.1, flushes.2) c.flush_step.ensures.later.count
    (counted_err (Rose (view mid.disk).faults (view new.disk).faults) c.flush_step.result c.flush_step.ensures.cause) flush_next_call (λ event ends told. ends))

pub returns-clause-one : goal.returns-clause-one
returns-clause-one g c = subst (λ (r : Result ℕ DiskFault). IfOk r (λ n. n ≤ 1)) (sym c.flushed_count.ensures) (counted_one c.flush_step.result)

pub returns-clause-none : goal.returns-clause-none
returns-clause-none g c is = none_sealed c.seal_low.new.self c.flush_step.new.self c.flush_step.result c.flush_step.ensures.first c.flush_step.ensures.none (sym c.flushed_count.ensures ∙ is)

pub returns-clause-left : goal.returns-clause-left
returns-clause-left g c =
    subst (λ (r : Result ℕ DiskFault). OnErr r (c.flush_step.new.self.buffers ≢ [])) (sym c.flushed_count.ensures)
    (one_left c.seal_low.new.self c.flush_step.new.self c.flush_step.result c.flush_step.ensures.left)

pub returns-clause-cause : goal.returns-clause-cause
returns-clause-cause g c =
    let view = g.D.Disk.view in
    subst (λ (r : Result ℕ DiskFault). OnErr r (Rose (view c.args.shelf.now.disk).faults (view c.flush_step.new.self.disk).faults)) (sym c.flushed_count.ensures)
    (counted_err (Rose (view c.args.shelf.now.disk).faults (view c.flush_step.new.self.disk).faults) c.flush_step.result
    (subst (λ (d : g.row.D.Denot). OnErr c.flush_step.result (Rose (view d).faults (view c.flush_step.new.self.disk).faults)) c.seal_low.ensures.disk c.flush_step.ensures.cause))

pub returns-clause-kept : goal.returns-clause-kept
returns-clause-kept g c setup s is stands =
    flushes_sealed c.args.shelf.now c.seal_low.new.self c.flush_step.new.self
    (seals_keep setup (is_due setup s.book client) (is_due setup s.book defrag) s c.args.shelf.now c.seal_low.new.self
    stands.stands (c.seal_low.ensures.sealed setup s is stands.stands stands.queue).stands (ap (λ (v : ShelfView g.row.D.Denot). v.cache) c.seal_low.ensures.rest))
    (one_in_turn c.seal_low.new.self c.flush_step.new.self c.flush_step.result c.flush_step.ensures.first c.flush_step.ensures.left)

pub returns-clause-sure : goal.returns-clause-sure
returns-clause-sure g c =
    sure_then g.D.Disk.view c.args.shelf.now c.seal_low.new.self c.flush_step.new.self
    (sure_same g.D.Disk.view c.args.shelf.now c.seal_low.new.self c.seal_low.ensures.disk (ap (λ (v : ShelfView g.row.D.Denot). v.gates) c.seal_low.ensures.rest)) c.flush_step.ensures.sure

-- ---- which gates fail

pub returns-clause-fails : goal.returns-clause-fails
returns-clause-fails g c =
    subst (λ (r : Result ℕ DiskFault). FailsBy r c.args.shelf.now c.flush_step.new.self) (sym c.flushed_count.ensures)
    (by_then (flushed_count c.flush_step.result) c.args.shelf.now c.seal_low.new.self c.flush_step.new.self (none_same c.args.shelf.now c.seal_low.new.self (ap (λ (v : ShelfView g.row.D.Denot). v.gates) c.seal_low.ensures.rest))
    (stepped c.seal_low.new.self c.flush_step.new.self c.flush_step.result c.flush_step.ensures.first c.flush_step.ensures.left))
