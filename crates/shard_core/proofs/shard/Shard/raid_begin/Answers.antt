use Rattle.std.proofs.Common.{◌≡◌, refl, ◌∙◌, ap, subst, Bool, true, false, cond}
use Rattle.std.specs.Prelude.{◌==◌}
use Rattle.rec_format.specs.Versions.{top_number}
use Rattle.model_device.specs.Device.{State}
use Rattle.model_device.specs.Events.{begin_call, raid_numbered}
use Rattle.raid_book.specs.Books.{begun}
use Rattle.block_shelf.specs.View.{ShelfView}
use Rattle.shard_raid.specs.Raids.{number_of}
use Rattle.shard_core.specs.View.{ShardView, SameSetup, setup_of}
use Rattle.shard_core.specs.Stands.{Agrees}
use Rattle.shard_core.specs.Calls.{Makes}
use Rattle.shard_core.proofs.Making.{on_lifted, setup_is, whole_made, room_stays}
use Rattle.shard_core.proofs.shard.Shard.raid_begin.Given.{Over}
use Rattle.shard_core.proofs.shard.Shard.raid_begin.Goals as goal

module _ (g : Over) (c : goal.After-raid_begin g) where
  abbrev old : ShardView g.row.D.Denot
  old = record { shelf = c.self.inside.shelf; set = c.self.inside.set; sprigs = c.self.inside.sprigs.items }

  abbrev new : ShardView g.row.D.Denot
  new = record { shelf = c.raid_begin.new.shelf; set = c.self.inside.set; sprigs = c.self.inside.sprigs.items }

  kept : {A : Type 0} (f : ShelfView g.row.D.Denot → A) → ((b : Bool) → f (cond b old.shelf (record old.shelf { raid = begun old.shelf.raid })) ≡ f old.shelf) → f new.shelf ≡ f old.shelf
  kept f same = ap f c.raid_begin.ensures.book ∙ same (old.shelf.raid.number == top_number)

  shape : SameSetup old new
  shape = record { geometry = kept (λ v. v.geometry) both; set = refl }
    where
      both : (b : Bool) → (cond b old.shelf (record old.shelf { raid = begun old.shelf.raid })).geometry ≡ old.shelf.geometry
      both true = refl
      both false = refl

  limits : new.shelf.limits ≡ old.shelf.limits
  limits = kept (λ v. v.limits) both
    where
      both : (b : Bool) → (cond b old.shelf (record old.shelf { raid = begun old.shelf.raid })).limits ≡ old.shelf.limits
      both true = refl
      both false = refl

  made : (s : State) → Agrees old s → Makes g.D.Disk.view begin_call (raid_numbered (number_of c.raid_begin.result)) old s new
  made s agrees = on_lifted g.D.Disk.view old new shape refl begin_call (raid_numbered (number_of c.raid_begin.result)) tt s agrees
      (c.raid_begin.ensures.makes (setup_of old) s (setup_is old c.self.invariant.whole) agrees.shelf)

pub invariant_of-self : goal.invariant_of-self
invariant_of-self g c =
    let stands = c.self.invariant.whole.stands in
    record {
      whole = whole_made g.D.Disk.view begin_call (raid_numbered (number_of c.raid_begin.result)) (old g c) (new g c) c.self.invariant.whole (shape g c) (limits g c) stands.0
          (made g c stands.0 stands.1);
      tallied = c.self.invariant.tallied;
      listed = room_stays (old g c) (new g c) (shape g c) _ c.self.invariant.listed;
    }

pub returns-clause-makes : goal.returns-clause-makes
returns-clause-makes g c = subst (λ (v : ShardView g.row.D.Denot). (s : State) → Agrees v s
    → Makes g.D.Disk.view begin_call (raid_numbered (number_of c.raid_begin.result)) v s (new g c)) c.self.view_is (made g c)
