use Rattle.std.proofs.Common.{false, refl, sym, ◌∙◌}
use Rattle.std.proofs.lemmas.Bool.{false≢true}
use Rattle.model_device.specs.Events.{after_event}
use Rattle.shard_core.specs.View.{setup_of}
use Rattle.shard_core.proofs.Tending.{tends_vacating, tends_resting, tends_well}
use Rattle.block_shelf.proofs.Surely.{sure_then}
use Rattle.shard_core.proofs.Keeping.{through_none}
use Rattle.std.proofs.Common.{inl}
use Rattle.shard_core.proofs.Failing.{by_may, none_still}
use Rattle.shard_core.proofs.shard.Shard.tend.Goals as goal

pub returns-then-can_gain-clause-makes : goal.returns-then-can_gain-clause-makes
returns-then-can_gain-clause-makes g c s agrees =
    let flushed = c.flush_low.ensures.makes s agrees in
    tends_well g.D.Disk.view c.args.self.now c.defrag_one.new.self s c.flush_low.ensures.whole.0 c.flush_low.ensures.whole.1 agrees
    (tends_vacating g.D.Disk.view c.args.self.now c.flush_low.new.self c.defrag_one.new.self c.flush_low.ensures.shape c.flush_low.ensures.honest c.defrag_one.result s flushed
    (sym (c.can_gain.ensures.state (after_event (setup_of c.args.self.now) flushed.1.event s) flushed.1.stands) ∙ c.if-can_gain.true) c.defrag_one.ensures.makes)

pub returns-else-can_gain-clause-makes : goal.returns-else-can_gain-clause-makes
returns-else-can_gain-clause-makes g c s agrees =
    let flushed = c.flush_low.ensures.makes s agrees in
    tends_well g.D.Disk.view c.args.self.now c.flush_low.new.self s c.flush_low.ensures.whole.0 c.flush_low.ensures.whole.1 agrees
    (tends_resting g.D.Disk.view c.args.self.now c.flush_low.new.self c.flush_low.new.self c.flush_low.ensures.shape c.flush_low.ensures.honest s flushed
    (sym (c.can_gain.ensures.state (after_event (setup_of c.args.self.now) flushed.1.event s) flushed.1.stands) ∙ c.if-can_gain.false))

pub returns-then-can_gain-clause-sure : goal.returns-then-can_gain-clause-sure
returns-then-can_gain-clause-sure g c = sure_then g.D.Disk.view c.args.self.now.shelf c.flush_low.new.self.shelf c.defrag_one.new.self.shelf c.flush_low.ensures.sure c.defrag_one.ensures.sure

pub returns-else-can_gain-clause-sure : goal.returns-else-can_gain-clause-sure
returns-else-can_gain-clause-sure g c = c.flush_low.ensures.sure

pub returns-then-can_gain-clause-kept : goal.returns-then-can_gain-clause-kept
returns-then-can_gain-clause-kept g c = record {
  flushed = c.flush_low.new.self.shelf;
  flushes = c.flush_low.ensures.kept;
  moves = c.defrag_one.ensures.kept;
  rests = λ none. absurd (false≢true (sym none ∙ sym c.can_gain.ensures.seen ∙ c.if-can_gain.true));
}

pub returns-else-can_gain-clause-kept : goal.returns-else-can_gain-clause-kept
returns-else-can_gain-clause-kept g c = record {
  flushed = c.flush_low.new.self.shelf;
  flushes = c.flush_low.ensures.kept;
  moves = through_none false c.flush_low.new.self.shelf c.flush_low.new.self.shelf refl;
  rests = λ none. refl;
}

-- ---- which gates fail

pub returns-then-can_gain-clause-fails : goal.returns-then-can_gain-clause-fails
returns-then-can_gain-clause-fails g c = record {
  flushed = c.flush_low.new.self.shelf;
  flushes = c.flush_low.ensures.fails;
  vacates = by_may c.defrag_one.result c.flush_low.new.self.shelf c.defrag_one.new.self.shelf c.defrag_one.ensures.fails;
}

pub returns-else-can_gain-clause-fails : goal.returns-else-can_gain-clause-fails
returns-else-can_gain-clause-fails g c = record {
  flushed = c.flush_low.new.self.shelf;
  flushes = c.flush_low.ensures.fails;
  vacates = inl (none_still c.flush_low.new.self.shelf c.flush_low.new.self.shelf refl);
}
