use Rattle.std.proofs.Common.{◌≡◌, ◌<◌, length, set, refl, sym, ap, ◌∙◌, subst, arith, Some, Ok, Err, Result}
use Rattle.std.specs.Prelude.{IfOk}
use Rattle.law_lists.proofs.Places.{set_unchanged}
use Rattle.disk_model.specs.Disk.{IsHonest}
use Rattle.model_device.specs.Device.{State}
use Rattle.model_device.specs.Steps.{part_total}
use Rattle.model_device.specs.Events.{turn_call}
use Rattle.model_device.specs.Passes.{turn_part}
use Rattle.raid_book.specs.declared.turn.RaidNext.{RaidNext}
use Rattle.raid_book.specs.Turns.{turn_of}
use Rattle.block_shelf.specs.Disks.{IsLater}
use Rattle.block_shelf.specs.Sure.{StaysSure}
use Rattle.sprig_tree.specs.State.{SprigState}
use Rattle.shard_raid.specs.declared.scan.RaidRefusal.{RaidRefusal}
use Rattle.shard_raid.specs.declared.scan.RaidRefusal.TheVariants.{Stale}
use Rattle.shard_raid.specs.declared.turn.RaidDid.{RaidDid}
use Rattle.shard_raid.specs.declared.turn.RaidDid.TheVariants.{Done}
use Rattle.shard_raid.specs.Raids.{RaidView, IsNext, turns_left}
use Rattle.shard_raid.specs.Turns.{IsDidOf, turn_answer}
use Rattle.shard_core.specs.View.{ShardView, SameSetup, setup_of}
use Rattle.shard_core.specs.Stands.{Agrees}
use Rattle.shard_core.specs.Raids.{AreFewEnds, TakesTurn, TurnMakes}
use Rattle.shard_core.proofs.Later.{later_none}
use Rattle.shard_core.proofs.Making.{part_at, part_stands, room_stays, setup_is, whole_made}
use Rattle.shard_core.proofs.Raiding.{done_aside, few_counted, runs_next, turn_at_part}
use Rattle.shard_core.proofs.Tallies.{tally_behind}
use Rattle.shard_core.proofs.shard.Shard.turn_at.Given.{Over}
use Rattle.std.proofs.Common.{List}
use Rattle.std.specs.Prelude.{IfErr}
use Rattle.shard_raid.specs.Turns as turns
use Rattle.shard_core.specs.Refusals.{TurnLeaves}
use Rattle.shard_core.proofs.Raiding.{turn_left_by, with_first}
use Rattle.shard_core.proofs.shard.Shard.turn_at.Goals as goal

module _ (g : Over) (c : goal.After-self-2-1 g) where
  abbrev old : ShardView g.row.D.Denot
  old = record { shelf = c.self.inside.shelf; set = c.self.inside.set; sprigs = c.self.inside.sprigs.items }

  abbrev new : ShardView g.row.D.Denot
  new = record { shelf = c.part_turn-answer.new.shelf; set = c.self.inside.set; sprigs = set c.self.inside.sprigs.items c.args.part c.part_turn-answer.new.sprig }

  abbrev result : Result RaidDid RaidRefusal
  result = c.part_turn-answer.result

  abbrev raid : RaidView
  raid = c.args.raid.now

  shape : SameSetup old new
  shape = record { geometry = c.part_turn-answer.ensures.geometry; set = refl }

  there : c.args.part < length old.sprigs
  there = subst (λ (v : ShardView g.row.D.Denot). c.args.part < length v.sprigs) (sym c.self.view_is) c.requires.there

  made : (s : State) → Agrees old s → TurnMakes g.D.Disk.view raid c.args.now result old s new
  made s agrees =
      turn_at_part g.D.Disk.view raid c.args.now result old new shape c.args.part c.args.part c.index_mut.result.now c.part_turn-answer.new.sprig refl there c.index_mut.ensures.value refl
      c.requires.part s agrees (λ stand. c.part_turn-answer.ensures.makes (setup_of old) s c.args.part c.requires.part (setup_is old c.self.invariant.whole) refl stand)

  module _ (is : IsNext raid old.shelf.raid) where
    few : IfOk result (AreFewEnds (turns_left old.shelf.raid))
    few =
        let stands = c.self.invariant.whole.stands in
        few_counted g.D.Disk.view old stands.0 c.geometry-shape.ensures.whole c.self.invariant.whole stands.1 c.args.part c.parts-parts.result c.index_mut.result.now
        (part_at g.D.Disk.view c.args.part old new c.args.part c.index_mut.result.now c.part_turn-answer.new.sprig shape refl there c.index_mut.ensures.value refl)
        (subst (λ (n : RaidNext). turn_part (turn_of n) ≡ Some c.args.part) is.next c.requires.part)
        (c.parts-parts.ensures.total ∙ ap (λ (v : ShardView g.row.D.Denot). part_total (setup_of v)) (sym c.self.view_is)) c.parts-parts.ensures.few result
        (subst (λ (n : RaidNext). IfOk result (IsDidOf n)) is.next (c.part_turn-answer.ensures.taken is).did) c.part_turn-answer.ensures.counts

    over : result ≡ Ok Done → new ≡ old
    over done = absurd (done_aside raid.next c.args.part (subst (λ (r : Result RaidDid RaidRefusal). IfOk r (IsDidOf raid.next)) done (c.part_turn-answer.ensures.taken is).did) c.requires.part)

    taken : TakesTurn g.D.Disk.view raid.next c.args.now result old new
    taken = record {
      makes = λ s agrees. subst (λ (r : RaidView). TurnMakes g.D.Disk.view r c.args.now result old s new) (runs_next raid old.shelf.raid is) (made s agrees);
      shelf = c.part_turn-answer.ensures.taken is;
      over = over;
      few = few;
      shape = shape;
    }

  same : (IsNext raid old.shelf.raid → ⊥) → (result ≡ Err (Stale old.shelf.raid.number old.shelf.raid.next)) × (new ≡ old)
  same other =
      let stale = c.part_turn-answer.ensures.stale other in
      let sprigs : set old.sprigs c.args.part c.part_turn-answer.new.sprig ≡ old.sprigs = ap (λ (x : SprigState). set old.sprigs c.args.part x) stale.1
      ∙ set_unchanged old.sprigs c.args.part c.index_mut.result.now c.index_mut.ensures.value in
      (stale.0, λ i. record { shelf = stale.2 i; set = c.self.inside.set; sprigs = sprigs i })

pub invariant_of-self : goal.invariant_of-self
invariant_of-self g c =
    let stands = c.self.invariant.whole.stands in
    record {
      whole = whole_made g.D.Disk.view (turn_call c.args.raid.now.number (turn_of c.args.raid.now.next) c.args.now) (turn_answer c.part_turn-answer.result) (old g c)
          (new g c) c.self.invariant.whole (shape g c) c.part_turn-answer.ensures.limits stands.0 (made g c stands.0 stands.1).makes;
      tallied =
          tally_behind (old g c).sprigs c.args.part c.index.result.now c.part_turn-answer.new.sprig (there g c) c.index.ensures c.index-2.result.now c.index-2.ensures
          c.self.inside.tally c.tally-before.result c.tally.result c.minus.result c.plus-self-inside.result
          c.self.invariant.tallied c.tally-before.ensures c.tally.ensures c.minus.ensures c.plus-self-inside.ensures (omega arith) (omega arith) (omega arith);
      listed = room_stays (old g c) (new g c) (shape g c) _ c.self.invariant.listed;
    }

pub returns-clause-makes : goal.returns-clause-makes
returns-clause-makes g c =
    subst (λ (v : ShardView g.row.D.Denot). (s : State) → Agrees v s → TurnMakes g.D.Disk.view c.args.raid.now c.args.now c.part_turn-answer.result v s (new g c)) c.self.view_is (made g c)

pub returns-clause-taken : goal.returns-clause-taken
returns-clause-taken g c =
    subst (λ (v : ShardView g.row.D.Denot). IsNext c.args.raid.now v.shelf.raid → TakesTurn g.D.Disk.view c.args.raid.now.next c.args.now c.part_turn-answer.result v (new g c)) c.self.view_is
    (taken g c)

pub returns-clause-stale : goal.returns-clause-stale
returns-clause-stale g c =
    subst (λ (v : ShardView g.row.D.Denot). (IsNext c.args.raid.now v.shelf.raid → ⊥) → (c.part_turn-answer.result ≡ Err (Stale v.shelf.raid.number v.shelf.raid.next)) × (new g c ≡ v)) c.self.view_is
    (same g c)

pub returns-clause-sure : goal.returns-clause-sure
returns-clause-sure g c = subst (λ (v : ShardView g.row.D.Denot). StaysSure g.D.Disk.view v.shelf c.part_turn-answer.new.shelf) c.self.view_is c.part_turn-answer.ensures.sure

pub returns-clause-later : goal.returns-clause-later
returns-clause-later g c =
    let view = g.D.Disk.view in
    subst (λ (v : ShardView g.row.D.Denot). IsLater (view v.shelf.disk) (view c.part_turn-answer.new.shelf.disk)) c.self.view_is
    (subst (λ (d : g.row.D.Denot). IsLater (view c.self.inside.shelf.disk) (view d)) (sym c.part_turn-answer.ensures.disk)
    (later_none view c.self.inside.shelf.disk (g.met.D.Disk.is_disk c.self.inside.shelf.disk)))

pub returns-clause-honest : goal.returns-clause-honest
returns-clause-honest g c =
    let view = g.D.Disk.view in
    subst (λ (v : ShardView g.row.D.Denot). IsHonest (view v.shelf.disk) → IsHonest (view c.part_turn-answer.new.shelf.disk)) c.self.view_is
    (subst (λ (d : g.row.D.Denot). IsHonest (view c.self.inside.shelf.disk) → IsHonest (view d)) (sym c.part_turn-answer.ensures.disk) (λ honest. honest))

pub returns-clause-shape : goal.returns-clause-shape
returns-clause-shape g c = subst (λ (v : ShardView g.row.D.Denot). SameSetup v (new g c)) c.self.view_is (shape g c)

pub part_turn-answer-requires : goal.part_turn-answer-requires
part_turn-answer-requires g c =
    let was : ShardView g.row.D.Denot = record { shelf = c.self.inside.shelf; set = c.self.inside.set; sprigs = c.self.inside.sprigs.items } in
    let stands = c.self.invariant.whole.stands in
    let within : c.args.part < length was.sprigs = subst (λ (v : ShardView g.row.D.Denot). c.args.part < length v.sprigs) (sym c.self.view_is) c.requires.there in
    record {
      stand = (
        setup_of was,
        stands.0,
        c.args.part,
        c.requires.part,
        setup_is was c.self.invariant.whole,
        part_stands g.D.Disk.view c.args.part was was c.args.part c.index_mut.result.now c.index_mut.result.now (record { geometry = refl; set = refl }) refl within c.index_mut.ensures.value
            (sym (set_unchanged was.sprigs c.args.part c.index_mut.result.now c.index_mut.ensures.value)) stands.0 stands.1,
      );
    }

pub returns-clause-left : goal.returns-clause-left
returns-clause-left g c =
    let sprig = c.part_turn-answer.new.sprig in
    let sprigs : List SprigState = set (old g c).sprigs c.args.part sprig in
    subst (λ (v : ShardView g.row.D.Denot). IfErr c.part_turn-answer.result (TurnLeaves v (new g c))) c.self.view_is
    (turn_left_by (old g c) c.part_turn-answer.new.shelf sprigs c.part_turn-answer.result
    (with_first c.part_turn-answer.result (sprig ≡ c.index_mut.result.now) (sprigs ≡ (old g c).sprigs) (turns.TurnLeaves (old g c).shelf c.part_turn-answer.new.shelf)
    (λ same. ap (λ (x : SprigState). set (old g c).sprigs c.args.part x) same ∙ set_unchanged (old g c).sprigs c.args.part c.index_mut.result.now c.index_mut.ensures.value)
    c.part_turn-answer.ensures.left))
