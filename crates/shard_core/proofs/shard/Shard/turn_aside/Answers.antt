use Rattle.std.proofs.Common.{◌≡◌, ℕ, refl, ap, subst, Err, Result}
use Rattle.model_device.specs.Device.{State}
use Rattle.model_device.specs.Events.{turn_call}
use Rattle.raid_book.specs.Turns.{turn_of}
use Rattle.block_shelf.specs.Sure.{StaysSure}
use Rattle.block_shelf.specs.View.{ShelfView}
use Rattle.shard_raid.specs.declared.scan.RaidRefusal.{RaidRefusal}
use Rattle.shard_raid.specs.declared.scan.RaidRefusal.TheVariants.{Stale}
use Rattle.shard_raid.specs.declared.turn.RaidDid.{RaidDid}
use Rattle.shard_raid.specs.Raids.{RaidView, IsNext, turns_left}
use Rattle.shard_raid.specs.Turns.{turn_answer}
use Rattle.shard_core.specs.View.{ShardView, SameSetup, setup_of}
use Rattle.shard_core.specs.Stands.{Agrees}
use Rattle.shard_core.specs.Raids.{TakesTurn, TurnMakes}
use Rattle.shard_core.proofs.Making.{room_stays, setup_is, whole_made}
use Rattle.shard_core.proofs.Raiding.{few_aside, runs_next, turn_on_shelf}
use Rattle.shard_core.proofs.shard.Shard.turn_aside.Given.{Over}
use Rattle.std.specs.Prelude.{IfErr}
use Rattle.shard_raid.specs.Turns as turns
use Rattle.shard_core.specs.Refusals.{TurnLeaves}
use Rattle.shard_core.proofs.Raiding.{turn_left_by, with_kept}
use Rattle.shard_core.proofs.shard.Shard.turn_aside.Goals as goal

module _ (g : Over) (c : goal.After-shelf_turn g) where
  abbrev old : ShardView g.row.D.Denot
  old = record { shelf = c.self.inside.shelf; set = c.self.inside.set; sprigs = c.self.inside.sprigs.items }

  abbrev new : ShardView g.row.D.Denot
  new = record { shelf = c.shelf_turn.new.shelf; set = c.self.inside.set; sprigs = c.self.inside.sprigs.items }

  abbrev result : Result RaidDid RaidRefusal
  result = c.shelf_turn.result

  abbrev raid : RaidView
  raid = c.args.raid.now

  shape : SameSetup old new
  shape = record { geometry = c.shelf_turn.ensures.geometry; set = refl }

  made : (s : State) (now : ℕ) → Agrees old s → TurnMakes g.D.Disk.view raid now result old s new
  made s now agrees = turn_on_shelf g.D.Disk.view raid now result old new shape refl s agrees (c.shelf_turn.ensures.makes (setup_of old) s now (setup_is old c.self.invariant.whole) agrees.shelf)

  taken : (now : ℕ) → IsNext raid old.shelf.raid → TakesTurn g.D.Disk.view raid.next now result old new
  taken now is =
      let turn = c.shelf_turn.ensures.taken is in
      record {
        makes = λ s agrees. subst (λ (r : RaidView). TurnMakes g.D.Disk.view r now result old s new) (runs_next raid old.shelf.raid is) (made s now agrees);
        shelf = turn;
        over = λ done. ap (λ (v : ShelfView g.row.D.Denot). record { shelf = v; set = old.set; sprigs = old.sprigs }) (turn.over done);
        few = few_aside raid.next (turns_left old.shelf.raid) (c.requires (subst (λ (v : ShardView g.row.D.Denot). IsNext raid v.shelf.raid) c.self.view_is is)) result turn.did;
        shape = shape;
      }

  same : (IsNext raid old.shelf.raid → ⊥) → (result ≡ Err (Stale old.shelf.raid.number old.shelf.raid.next)) × (new ≡ old)
  same other =
      let stale = c.shelf_turn.ensures.stale other in
      (stale.0, ap (λ (v : ShelfView g.row.D.Denot). record { shelf = v; set = old.set; sprigs = old.sprigs }) stale.1)

pub invariant_of-self : goal.invariant_of-self
invariant_of-self g c =
    let stands = c.self.invariant.whole.stands in
    record {
      whole = whole_made g.D.Disk.view (turn_call c.args.raid.now.number (turn_of c.args.raid.now.next) 0) (turn_answer c.shelf_turn.result) (old g c)
          (new g c) c.self.invariant.whole (shape g c) c.shelf_turn.ensures.limits stands.0 (made g c stands.0 0 stands.1).makes;
      tallied = c.self.invariant.tallied;
      listed = room_stays (old g c) (new g c) (shape g c) _ c.self.invariant.listed;
    }

pub returns-clause-makes : goal.returns-clause-makes
returns-clause-makes g c =
    subst (λ (v : ShardView g.row.D.Denot). (s : State) (now : ℕ) → Agrees v s → TurnMakes g.D.Disk.view c.args.raid.now now c.shelf_turn.result v s (new g c)) c.self.view_is (made g c)

pub returns-clause-taken : goal.returns-clause-taken
returns-clause-taken g c =
    subst (λ (v : ShardView g.row.D.Denot). (now : ℕ) → IsNext c.args.raid.now v.shelf.raid → TakesTurn g.D.Disk.view c.args.raid.now.next now c.shelf_turn.result v (new g c)) c.self.view_is
    (taken g c)

pub returns-clause-stale : goal.returns-clause-stale
returns-clause-stale g c =
    subst (λ (v : ShardView g.row.D.Denot). (IsNext c.args.raid.now v.shelf.raid → ⊥) → (c.shelf_turn.result ≡ Err (Stale v.shelf.raid.number v.shelf.raid.next)) × (new g c ≡ v)) c.self.view_is
    (same g c)

pub returns-clause-sure : goal.returns-clause-sure
returns-clause-sure g c = subst (λ (v : ShardView g.row.D.Denot). StaysSure g.D.Disk.view v.shelf c.shelf_turn.new.shelf) c.self.view_is c.shelf_turn.ensures.sure

pub returns-clause-shape : goal.returns-clause-shape
returns-clause-shape g c = subst (λ (v : ShardView g.row.D.Denot). SameSetup v (new g c)) c.self.view_is (shape g c)

pub returns-clause-left : goal.returns-clause-left
returns-clause-left g c =
    subst (λ (v : ShardView g.row.D.Denot). IfErr c.shelf_turn.result (TurnLeaves v (new g c))) c.self.view_is
    (turn_left_by (old g c) c.shelf_turn.new.shelf (old g c).sprigs c.shelf_turn.result
    (with_kept c.shelf_turn.result (turns.TurnLeaves (old g c).shelf c.shelf_turn.new.shelf) ((old g c).sprigs ≡ (old g c).sprigs) refl c.shelf_turn.ensures.left))
