use Rattle.std.proofs.Common.{arith, false, ◌≡◌, ◌<◌, length, set, refl, sym, ap, ◌∙◌, subst}
use Rattle.law_lists.proofs.Places.{set_unchanged}
use Rattle.rec_format.specs.Places.{device_number}
use Rattle.model_device.specs.Device.{State, part_of}
use Rattle.model_device.specs.Events.{Answer, move_call}
use Rattle.shard_core.specs.View.{ShardView, SameSetup, setup_of}
use Rattle.shard_core.specs.Stands.{Agrees}
use Rattle.shard_core.specs.Calls.{Makes}
use Rattle.shard_core.specs.Vacating.{IsDamageIn, IsMoved}
use Rattle.std.specs.Prelude.{IfErr}
use Rattle.model_device.specs.Book.{Setup}
use Rattle.shard_core.proofs.Telling.{held_set, moved_damage}
use Rattle.defrag_pass.specs.Moves.{Answers}
use Rattle.shard_core.proofs.Causes.{moved_so}
use Rattle.shard_core.proofs.Making.{setup_is, setup_same, whole_made, step_stands, lifted, room_stays}
use Rattle.shard_core.proofs.Tallies.{tally_behind}
use Rattle.shard_core.proofs.shard.Shard.move_record.Given.{Over}
use Rattle.block_shelf.specs.Sure.{StaysSure}
use Rattle.sprig_tree.specs.Entries.{entry_of}
use Rattle.shard_core.specs.Keeping.{KeepsThrough}
use Rattle.shard_core.proofs.Keeping.{through_found}
use Rattle.shard_core.specs.Failing.{FailsBy}
use Rattle.shard_core.proofs.Failing.{by_move, moved}
use Rattle.shard_core.proofs.shard.Shard.move_record.Goals as goal

pub move_one-answer-requires-clause-stand : goal.move_one-answer-requires-clause-stand
move_one-answer-requires-clause-stand g c =
    let old : ShardView g.row.D.Denot = record { shelf = c.self.inside.shelf; set = c.self.inside.set; sprigs = c.self.inside.sprigs.items } in
    let stands = c.self.invariant.whole.stands in
    let place : c.part_of-part.result ≡ part_of (setup_of old) c.args.digest.now = c.part_of-part.ensures.part
    ∙ ap (λ (v : ShardView g.row.D.Denot). part_of (setup_of v) c.args.digest.now) (sym c.self.view_is) in
    let there : c.part_of-part.result < length old.sprigs = subst (λ (v : ShardView g.row.D.Denot). c.part_of-part.result < length v.sprigs) (sym c.self.view_is) c.part_of-part.ensures.there in (
      setup_of old,
      stands.0,
      setup_is old c.self.invariant.whole,
      step_stands g.D.Disk.view c.args.digest.now old old c.part_of-part.result c.index_mut.result.now c.index_mut.result.now
          (record { geometry = refl; set = refl }) place there c.index_mut.ensures.value
          (sym (set_unchanged old.sprigs c.part_of-part.result c.index_mut.result.now c.index_mut.ensures.value)) stands.0 stands.1,
    )

made : (g : Over) (c : goal.After-move_answer g) (s : State)
    → let old : ShardView g.row.D.Denot = record { shelf = c.self.inside.shelf; set = c.self.inside.set; sprigs = c.self.inside.sprigs.items } in
    let new : ShardView g.row.D.Denot = record {
      shelf = c.move_one-answer.new.shelf;
      set = c.self.inside.set;
      sprigs =
          set c.self.inside.sprigs.items c.part_of-part.result c.move_one-answer.new.sprig;
    } in
    Agrees old s → (answer : Answer) × Answers c.move_one-answer.result answer × Makes g.D.Disk.view (move_call c.args.digest.now c.args.block) answer old s new
made g c s agrees =
    let old : ShardView g.row.D.Denot = record { shelf = c.self.inside.shelf; set = c.self.inside.set; sprigs = c.self.inside.sprigs.items } in
    let new : ShardView g.row.D.Denot = record {
      shelf = c.move_one-answer.new.shelf;
      set = c.self.inside.set;
      sprigs =
          set c.self.inside.sprigs.items c.part_of-part.result c.move_one-answer.new.sprig;
    } in
    let place : c.part_of-part.result ≡ part_of (setup_of old) c.args.digest.now = c.part_of-part.ensures.part
    ∙ ap (λ (v : ShardView g.row.D.Denot). part_of (setup_of v) c.args.digest.now) (sym c.self.view_is) in
    let there : c.part_of-part.result < length old.sprigs = subst (λ (v : ShardView g.row.D.Denot). c.part_of-part.result < length v.sprigs) (sym c.self.view_is) c.part_of-part.ensures.there in
    let shape : SameSetup old new = record { geometry = c.move_one-answer.ensures.shape.geometry; set = refl } in
    let step = c.move_one-answer.ensures.makes (setup_of old) s (setup_is old c.self.invariant.whole)
    (step_stands g.D.Disk.view c.args.digest.now old new c.part_of-part.result c.index_mut.result.now c.move_one-answer.new.sprig shape place there
    c.index_mut.ensures.value refl s agrees) in (
      step.0,
      step.1,
      lifted g.D.Disk.view c.args.digest.now old new c.part_of-part.result c.index_mut.result.now c.move_one-answer.new.sprig shape place there c.index_mut.ensures.value refl
          (move_call c.args.digest.now c.args.block) step.0 (subst (λ (v : ShardView g.row.D.Denot). device_number v.shelf.geometry.devices c.args.digest.now ≡ v.shelf.geometry.device)
          (sym c.self.view_is) c.requires.named) refl s agrees step.2,
    )

pub returns-clause-makes : goal.returns-clause-makes
returns-clause-makes g c =
    let new : ShardView g.row.D.Denot = record {
      shelf = c.move_one-answer.new.shelf;
      set = c.self.inside.set;
      sprigs =
          set c.self.inside.sprigs.items c.part_of-part.result c.move_one-answer.new.sprig;
    } in
    subst (λ (v : ShardView g.row.D.Denot). (s : State) → Agrees v s → (answer : Answer) × IsMoved c.move_answer.result answer
    × Makes g.D.Disk.view (move_call c.args.digest.now c.args.block) answer v s new) c.self.view_is
    (λ s agrees. let all = made g c s agrees in (all.0, moved_so c.move_one-answer.result c.move_answer.result all.0 c.move_answer.ensures all.1, all.2))

pub invariant_of-self : goal.invariant_of-self
invariant_of-self g c =
    let old : ShardView g.row.D.Denot = record { shelf = c.self.inside.shelf; set = c.self.inside.set; sprigs = c.self.inside.sprigs.items } in
    let new : ShardView g.row.D.Denot = record {
      shelf = c.move_one-answer.new.shelf;
      set = c.self.inside.set;
      sprigs =
          set c.self.inside.sprigs.items c.part_of-part.result c.move_one-answer.new.sprig;
    } in
    let shape : SameSetup old new = record { geometry = c.move_one-answer.ensures.shape.geometry; set = refl } in
    let there : c.part_of-part.result < length old.sprigs = subst (λ (v : ShardView g.row.D.Denot). c.part_of-part.result < length v.sprigs) (sym c.self.view_is) c.part_of-part.ensures.there in
    let stands = c.self.invariant.whole.stands in
    let all = made g c stands.0 stands.1 in
    record {
      whole = whole_made g.D.Disk.view (move_call c.args.digest.now c.args.block) all.0 old new c.self.invariant.whole shape c.move_one-answer.ensures.shape.limits stands.0 all.2;
      tallied =
          tally_behind old.sprigs c.part_of-part.result c.index.result.now c.move_one-answer.new.sprig there c.index.ensures c.index-2.result.now c.index-2.ensures
          c.self.inside.tally c.tally-before.result c.tally.result c.minus.result c.plus-self-inside.result
          c.self.invariant.tallied c.tally-before.ensures c.tally.ensures c.minus.ensures c.plus-self-inside.ensures (omega arith) (omega arith) (omega arith);
      listed = room_stays old new shape _ c.self.invariant.listed;
    }

pub returns-clause-sure : goal.returns-clause-sure
returns-clause-sure g c =
    subst (λ (v : ShardView g.row.D.Denot). StaysSure g.D.Disk.view v.shelf c.move_one-answer.new.shelf) c.self.view_is c.move_one-answer.ensures.sure

-- ---- damage, and the disk

pub returns-clause-damaged : goal.returns-clause-damaged
returns-clause-damaged g c =
    let view = g.D.Disk.view in
    let old : ShardView g.row.D.Denot = record { shelf = c.self.inside.shelf; set = c.self.inside.set; sprigs = c.self.inside.sprigs.items } in
    let new : ShardView g.row.D.Denot = record {
      shelf = c.move_one-answer.new.shelf;
      set = c.self.inside.set;
      sprigs =
          set c.self.inside.sprigs.items c.part_of-part.result c.move_one-answer.new.sprig;
    } in
    let shape : SameSetup old new = record { geometry = c.move_one-answer.ensures.shape.geometry; set = refl } in
    let place : c.part_of-part.result ≡ part_of (setup_of new) c.args.digest.now = c.part_of-part.ensures.part
    ∙ ap (λ (v : ShardView g.row.D.Denot). part_of (setup_of v) c.args.digest.now) (sym c.self.view_is) ∙ ap (λ (x : Setup). part_of x c.args.digest.now) (setup_same old new shape) in
    let there : c.part_of-part.result < length old.sprigs = subst (λ (v : ShardView g.row.D.Denot). c.part_of-part.result < length v.sprigs) (sym c.self.view_is) c.part_of-part.ensures.there in
    subst (λ (v : ShardView g.row.D.Denot). IfErr c.move_answer.result (IsDamageIn (view v.shelf.disk).tells view c.args.block new)) c.self.view_is
    (moved_damage (view old.shelf.disk).tells view c.args.block new c.args.digest.now c.index_mut.result.now c.move_one-answer.new.sprig
    (held_set (setup_of new) c.args.digest.now old.sprigs c.part_of-part.result c.move_one-answer.new.sprig place there)
    c.move_one-answer.result c.move_answer.result c.move_answer.ensures c.move_one-answer.ensures.refused c.move_one-answer.ensures.damaged)

pub returns-clause-tells : goal.returns-clause-tells
returns-clause-tells g c =
    subst (λ (v : ShardView g.row.D.Denot). (g.D.Disk.view v.shelf.disk).tells → (g.D.Disk.view c.move_one-answer.new.shelf.disk).tells) c.self.view_is
    (λ tells. (c.move_one-answer.ensures.bytes tells).0)

pub returns-clause-kept : goal.returns-clause-kept
returns-clause-kept g c =
    subst (λ (v : ShardView g.row.D.Denot). KeepsThrough false v.shelf c.move_one-answer.new.shelf) c.self.view_is
    (through_found (entry_of c.args.digest.now c.index_mut.result.now.entries) c.self.inside.shelf c.move_one-answer.new.shelf c.move_one-answer.result c.move_one-answer.ensures.kept)

-- ---- which gates fail

pub returns-clause-fails : goal.returns-clause-fails
returns-clause-fails g c =
    subst (λ (v : ShardView g.row.D.Denot). FailsBy c.move_answer.result v.shelf c.move_one-answer.new.shelf) c.self.view_is
    (by_move c.move_one-answer.result c.move_answer.result c.self.inside.shelf c.move_one-answer.new.shelf c.move_answer.ensures
    (moved g.D.Disk.view (entry_of c.args.digest.now c.index_mut.result.now.entries) c.self.inside.shelf c.move_one-answer.new.shelf c.move_one-answer.result
    (λ not. (c.move_one-answer.ensures.elsewhere not).1) c.move_one-answer.ensures.found c.move_one-answer.ensures.left c.move_one-answer.ensures.kept))
