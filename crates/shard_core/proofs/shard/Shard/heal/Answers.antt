use Rattle.std.proofs.Common.{◌≡◌, ℕ, false, refl, ap, subst}
use Rattle.std.specs.Prelude.{MatchResult}
use Rattle.model_device.specs.Device.{State}
use Rattle.model_device.specs.Events.{heal_call}
use Rattle.block_shelf.specs.Heals.{HealsBelow, StopsHealing, is_to_heal, to_heal_below}
use Rattle.block_shelf.specs.View.{ShelfView}
use Rattle.shard_core.specs.View.{ShardView, SameSetup, setup_of}
use Rattle.shard_core.specs.Stands.{Agrees}
use Rattle.shard_core.specs.Calls.{Makes, flush_answer}
use Rattle.shard_core.proofs.Making.{setup_is, shelf_lifted, whole_made, room_stays}
use Rattle.shard_core.proofs.shard.Shard.heal.Given.{Over}
use Rattle.shard_core.proofs.shard.Shard.heal.Goals as goal

module _ (g : Over) (c : goal.After-heal_shelf g) where
  abbrev old : ShardView g.row.D.Denot
  old = record { shelf = c.self.inside.shelf; set = c.self.inside.set; sprigs = c.self.inside.sprigs.items }

  abbrev new : ShardView g.row.D.Denot
  new = record { shelf = c.heal_shelf.new.shelf; set = c.self.inside.set; sprigs = c.self.inside.sprigs.items }

  shape : SameSetup old new
  shape = record { geometry = c.heal_shelf.ensures.shape.geometry; set = refl }

  made : (s : State) → Agrees old s → Makes g.D.Disk.view heal_call (flush_answer c.heal_shelf.result) old s new
  made s agrees = shelf_lifted g.D.Disk.view old new shape refl heal_call (flush_answer c.heal_shelf.result) tt refl s agrees
      (c.heal_shelf.ensures.makes (setup_of old) s (setup_is old c.self.invariant.whole) agrees.shelf)

pub returns-clause-makes : goal.returns-clause-makes
returns-clause-makes g c = subst (λ (v : ShardView g.row.D.Denot). (s : State) → Agrees v s
    → Makes g.D.Disk.view heal_call (flush_answer c.heal_shelf.result) v s (new g c)) c.self.view_is (made g c)

pub invariant_of-self : goal.invariant_of-self
invariant_of-self g c =
    let stands = c.self.invariant.whole.stands in
    record {
      whole = whole_made g.D.Disk.view heal_call (flush_answer c.heal_shelf.result) (old g c) (new g c) c.self.invariant.whole (shape g c) c.heal_shelf.ensures.shape.limits stands.0
          (made g c stands.0 stands.1);
      tallied = c.self.invariant.tallied;
      listed = room_stays (old g c) (new g c) (shape g c) _ c.self.invariant.listed;
    }

pub returns-clause-healed : goal.returns-clause-healed
returns-clause-healed g c = subst (λ (v : ShardView g.row.D.Denot). MatchResult c.heal_shelf.result (λ n. (n ≡ to_heal_below v.shelf.geometry.blocks v.shelf) × HealsBelow v.shelf.geometry.blocks v.shelf c.heal_shelf.new.shelf)
    (λ fault. StopsHealing v.shelf c.heal_shelf.new.shelf)) c.self.view_is c.heal_shelf.ensures.healed

pub returns-clause-quiet : goal.returns-clause-quiet
returns-clause-quiet g c = subst (λ (v : ShardView g.row.D.Denot). ((block : ℕ) → is_to_heal v.shelf block ≡ false) → new g c ≡ v) c.self.view_is
    (λ none. ap (λ (shelf : ShelfView g.row.D.Denot). record { shelf = shelf; set = c.self.inside.set; sprigs = c.self.inside.sprigs.items }) (c.heal_shelf.ensures.quiet none))
