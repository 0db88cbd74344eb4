use Rattle.std.proofs.Common.{refl, subst}
use Rattle.model_device.specs.Device.{State}
use Rattle.model_device.specs.Events.{flush_call}
use Rattle.block_shelf.specs.Sure.{StaysSure}
use Rattle.shard_core.specs.View.{ShardView, SameSetup, setup_of}
use Rattle.shard_core.specs.Stands.{Agrees}
use Rattle.shard_core.specs.Calls.{Makes, flush_answer}
use Rattle.shard_core.specs.Keeping.{FlushesFront}
use Rattle.shard_core.proofs.Making.{setup_is, shelf_lifted, whole_made, room_stays}
use Rattle.shard_core.proofs.shard.Shard.flush.Given.{Over}
use Rattle.shard_core.specs.Failing.{FailsBy}
use Rattle.shard_core.proofs.shard.Shard.flush.Goals as goal

module _ (g : Over) (c : goal.After-flush_shelf g) where
  abbrev old : ShardView g.row.D.Denot
  old = record { shelf = c.self.inside.shelf; set = c.self.inside.set; sprigs = c.self.inside.sprigs.items }

  abbrev new : ShardView g.row.D.Denot
  new = record { shelf = c.flush_shelf.new.shelf; set = c.self.inside.set; sprigs = c.self.inside.sprigs.items }

  shape : SameSetup old new
  shape = record { geometry = c.flush_shelf.ensures.shape.geometry; set = refl }

  made : (s : State) → Agrees old s → Makes g.D.Disk.view flush_call (flush_answer c.flush_shelf.result) old s new
  made s agrees = shelf_lifted g.D.Disk.view old new shape refl flush_call (flush_answer c.flush_shelf.result) tt refl s agrees
      (c.flush_shelf.ensures.makes (setup_of old) s (setup_is old c.self.invariant.whole) agrees.shelf)

pub returns-clause-makes : goal.returns-clause-makes
returns-clause-makes g c = subst (λ (v : ShardView g.row.D.Denot). (s : State) → Agrees v s
    → Makes g.D.Disk.view flush_call (flush_answer c.flush_shelf.result) v s (new g c)) c.self.view_is (made g c)

pub invariant_of-self : goal.invariant_of-self
invariant_of-self g c =
    let stands = c.self.invariant.whole.stands in
    record {
      whole = whole_made g.D.Disk.view flush_call (flush_answer c.flush_shelf.result) (old g c) (new g c) c.self.invariant.whole (shape g c) c.flush_shelf.ensures.shape.limits stands.0
          (made g c stands.0 stands.1);
      tallied = c.self.invariant.tallied;
      listed = room_stays (old g c) (new g c) (shape g c) _ c.self.invariant.listed;
    }

pub returns-clause-sure : goal.returns-clause-sure
returns-clause-sure g c = subst (λ (v : ShardView g.row.D.Denot). StaysSure g.D.Disk.view v.shelf c.flush_shelf.new.shelf) c.self.view_is c.flush_shelf.ensures.sure

pub returns-clause-kept : goal.returns-clause-kept
returns-clause-kept g c =
    let stands = c.self.invariant.whole.stands in
    subst (λ (v : ShardView g.row.D.Denot). FlushesFront v.shelf c.flush_shelf.new.shelf) c.self.view_is
    (c.flush_shelf.ensures.kept (setup_of (old g c)) stands.0 (setup_is (old g c) c.self.invariant.whole) stands.1.shelf)

-- ---- which gates fail

pub returns-clause-fails : goal.returns-clause-fails
returns-clause-fails g c = subst (λ (v : ShardView g.row.D.Denot). FailsBy c.flush_shelf.result v.shelf c.flush_shelf.new.shelf) c.self.view_is c.flush_shelf.ensures.fails
