use Rattle.std.proofs.Common.{ap}
use Rattle.model_device.specs.Book.{client, defrag}
use Rattle.model_device.specs.Steps.{after_steps}
use Rattle.model_device.specs.Events.{flush_sealed_call}
use Rattle.model_device.specs.Legal.{flush_all, is_due, seal_low}
use Rattle.block_shelf.specs.View.{ShelfView}
use Rattle.block_shelf.proofs.Surely.{sure_same, sure_then}
use Rattle.shard_core.proofs.FlushLoop.{setup_stays}
use Rattle.shard_core.proofs.Flushing.{makes_flush}
use Rattle.shard_core.proofs.Keeping.{flushes_sealed, seals_keep}
use Rattle.shard_core.proofs.Failing.{by_then, none_same}
use Rattle.shard_core.proofs.flush.flush_low.Goals as goal

pub returns-clause-makes : goal.returns-clause-makes
returns-clause-makes g c setup s is stands =
    let seals = c.seal_low.ensures.sealed setup s is stands.stands stands.queue in
    let sealed = after_steps setup (seal_low setup s.book) s in
    makes_flush g.D.Disk.view setup c.args.shelf.now c.seal_low.new.self c.flush_sealed.new.shelf s stands (seal_low setup s.book) (flush_all sealed.book) seals c.seal_low.ensures.disk
    c.flush_sealed.result (c.flush_sealed.ensures.flushed setup sealed (setup_stays setup c.args.shelf.now c.seal_low.new.self c.seal_low.ensures.shape is) seals.stands)
    c.flush_sealed.ensures.later.count c.flush_sealed.ensures.cause flush_sealed_call (λ event ends told. ends)

pub returns-clause-kept : goal.returns-clause-kept
returns-clause-kept g c setup s is stands =
    flushes_sealed c.args.shelf.now c.seal_low.new.self c.flush_sealed.new.shelf
    (seals_keep setup (is_due setup s.book client) (is_due setup s.book defrag) s c.args.shelf.now c.seal_low.new.self
    stands.stands (c.seal_low.ensures.sealed setup s is stands.stands stands.queue).stands (ap (λ (v : ShelfView g.row.D.Denot). v.cache) c.seal_low.ensures.rest)) c.flush_sealed.ensures.kept

pub returns-clause-sure : goal.returns-clause-sure
returns-clause-sure g c =
    sure_then g.D.Disk.view c.args.shelf.now c.seal_low.new.self c.flush_sealed.new.shelf
    (sure_same g.D.Disk.view c.args.shelf.now c.seal_low.new.self c.seal_low.ensures.disk (ap (λ (v : ShelfView g.row.D.Denot). v.gates) c.seal_low.ensures.rest)) c.flush_sealed.ensures.sure

-- ---- which gates fail

pub returns-clause-fails : goal.returns-clause-fails
returns-clause-fails g c = by_then c.flush_sealed.result c.args.shelf.now c.seal_low.new.self c.flush_sealed.new.shelf (none_same c.args.shelf.now c.seal_low.new.self (ap (λ (v : ShelfView g.row.D.Denot). v.gates) c.seal_low.ensures.rest)) c.flush_sealed.ensures.fails
