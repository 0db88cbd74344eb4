use Rattle.std.specs.Prelude.{is_some}
use Rattle.model_device.specs.Book.{client, defrag, filling_buffer}
use Rattle.model_device.specs.Steps.{after_steps}
use Rattle.model_device.specs.Events.{flush_call}
use Rattle.model_device.specs.Legal.{flush_all, seal_all}
use Rattle.block_shelf.proofs.Surely.{sure_same, sure_then}
use Rattle.shard_core.proofs.FlushLoop.{setup_stays}
use Rattle.shard_core.proofs.Flushing.{makes_flush}
use Rattle.shard_core.proofs.Keeping.{flushes_front, seals_keep}
use Rattle.shard_core.proofs.Failing.{by_then, none_same}
use Rattle.shard_core.proofs.flush.flush_shelf.Goals as goal

pub returns-clause-makes : goal.returns-clause-makes
returns-clause-makes g c setup s is stands =
    let seals = c.seal_streams.ensures.sealed setup s is stands.stands in
    let sealed = after_steps setup (seal_all s.book) s in
    makes_flush g.D.Disk.view setup c.args.shelf.now c.seal_streams.new.self c.flush_sealed.new.shelf s stands (seal_all s.book) (flush_all sealed.book) seals c.seal_streams.ensures.disk
    c.flush_sealed.result (c.flush_sealed.ensures.flushed setup sealed (setup_stays setup c.args.shelf.now c.seal_streams.new.self c.seal_streams.ensures.shape is) seals.stands)
    c.flush_sealed.ensures.later.count c.flush_sealed.ensures.cause flush_call (λ event ends told. ends)

pub returns-clause-kept : goal.returns-clause-kept
returns-clause-kept g c setup s is stands =
    flushes_front c.args.shelf.now c.seal_streams.new.self c.flush_sealed.new.shelf
    (seals_keep setup (is_some (filling_buffer client s.book.buffers)) (is_some (filling_buffer defrag s.book.buffers)) s c.args.shelf.now c.seal_streams.new.self
    stands.stands (c.seal_streams.ensures.sealed setup s is stands.stands).stands c.seal_streams.ensures.cache) c.seal_streams.ensures.none_filling c.flush_sealed.ensures.kept

pub returns-clause-sure : goal.returns-clause-sure
returns-clause-sure g c =
    sure_then g.D.Disk.view c.args.shelf.now c.seal_streams.new.self c.flush_sealed.new.shelf
    (sure_same g.D.Disk.view c.args.shelf.now c.seal_streams.new.self c.seal_streams.ensures.disk c.seal_streams.ensures.gates) c.flush_sealed.ensures.sure

-- ---- which gates fail

pub returns-clause-fails : goal.returns-clause-fails
returns-clause-fails g c = by_then c.flush_sealed.result c.args.shelf.now c.seal_streams.new.self c.flush_sealed.new.shelf (none_same c.args.shelf.now c.seal_streams.new.self c.seal_streams.ensures.gates) c.flush_sealed.ensures.fails
