use Rattle.std.proofs.Common.{arith, ◌≡◌, ◌<◌, false, length, set, refl, sym, ap, ◌∙◌, subst}
use Rattle.std.specs.Prelude.{Option, IsOk}
use Rattle.law_lists.proofs.Places.{set_unchanged}
use Rattle.rec_format.specs.declared.entry.Entry.{Entry}
use Rattle.rec_format.specs.Places.{device_number}
use Rattle.model_device.specs.Device.{State, part_of}
use Rattle.model_device.specs.Events.{expire_call}
use Rattle.expiry_rule.specs.Seen.{expired_entry}
use Rattle.tomb_rules.specs.Covers.{cover_of}
use Rattle.shard_core.specs.Sprigs.{held}
use Rattle.shard_core.specs.View.{ShardView, SameSetup, setup_of}
use Rattle.shard_core.specs.Stands.{Agrees}
use Rattle.shard_core.specs.Calls.{Makes, delete_answer}
use Rattle.shard_core.proofs.Making.{whole_made, step_stands, lifted, held_at, room_stays, setup_by}
use Rattle.shard_core.proofs.Tallies.{tally_behind}
use Rattle.shard_core.proofs.shard.Shard.expire.Given.{Over}
use Rattle.block_shelf.specs.Sure.{StaysSure}
use Rattle.rec_format.specs.Versions.{units_for}
use Rattle.sprig_tree.specs.Entries.{entry_of}
use Rattle.block_shelf.specs.Keeping.{KeepsAll}
use Rattle.shard_core.specs.Keeping.{KeepsThrough}
use Rattle.shard_core.proofs.Keeping.{through_removal}
use Rattle.shard_core.specs.Failing.{FailsBy}
use Rattle.shard_core.proofs.shard.Shard.expire.Goals as goal

pub expire_step-answer-requires-clause-stand : goal.expire_step-answer-requires-clause-stand
expire_step-answer-requires-clause-stand g c =
    let old : ShardView g.row.D.Denot = record { shelf = c.self.inside.shelf; set = c.self.inside.set; sprigs = c.self.inside.sprigs.items } in
    let stands = c.self.invariant.whole.stands in
    let place : c.part_of-part.result ≡ part_of (setup_of old) c.args.digest.now = c.part_of-part.ensures.part
    ∙ ap (λ (v : ShardView g.row.D.Denot). part_of (setup_of v) c.args.digest.now) (sym c.self.view_is) in
    let there : c.part_of-part.result < length old.sprigs = subst (λ (v : ShardView g.row.D.Denot). c.part_of-part.result < length v.sprigs) (sym c.self.view_is) c.part_of-part.ensures.there in (
      setup_of old,
      stands.0,
      setup_by old.shelf old.set c.self.invariant.whole.limits,
      step_stands g.D.Disk.view c.args.digest.now old old c.part_of-part.result c.index_mut.result.now c.index_mut.result.now
          (record { geometry = refl; set = refl }) place there c.index_mut.ensures.value
          (sym (set_unchanged old.sprigs c.part_of-part.result c.index_mut.result.now c.index_mut.ensures.value)) stands.0 stands.1,
    )

made : (g : Over) (c : goal.After-self-2-1 g) (s : State)
    → let old : ShardView g.row.D.Denot = record { shelf = c.self.inside.shelf; set = c.self.inside.set; sprigs = c.self.inside.sprigs.items } in
    let new : ShardView g.row.D.Denot = record {
      shelf = c.expire_step-answer.new.shelf;
      set = c.self.inside.set;
      sprigs =
          set c.self.inside.sprigs.items c.part_of-part.result c.expire_step-answer.new.sprig;
    } in
    Agrees old s → Makes g.D.Disk.view (expire_call c.args.digest.now c.args.now) (delete_answer c.expire_step-answer.result) old s new
made g c s agrees =
    let old : ShardView g.row.D.Denot = record { shelf = c.self.inside.shelf; set = c.self.inside.set; sprigs = c.self.inside.sprigs.items } in
    let new : ShardView g.row.D.Denot = record {
      shelf = c.expire_step-answer.new.shelf;
      set = c.self.inside.set;
      sprigs =
          set c.self.inside.sprigs.items c.part_of-part.result c.expire_step-answer.new.sprig;
    } in
    let place : c.part_of-part.result ≡ part_of (setup_of old) c.args.digest.now = c.part_of-part.ensures.part
    ∙ ap (λ (v : ShardView g.row.D.Denot). part_of (setup_of v) c.args.digest.now) (sym c.self.view_is) in
    let there : c.part_of-part.result < length old.sprigs = subst (λ (v : ShardView g.row.D.Denot). c.part_of-part.result < length v.sprigs) (sym c.self.view_is) c.part_of-part.ensures.there in
    let shape : SameSetup old new = record { geometry = c.expire_step-answer.ensures.shape.geometry; set = refl } in
    lifted g.D.Disk.view c.args.digest.now old new c.part_of-part.result c.index_mut.result.now c.expire_step-answer.new.sprig shape place there c.index_mut.ensures.value refl
    (expire_call c.args.digest.now c.args.now) (delete_answer c.expire_step-answer.result)
    (subst (λ (v : ShardView g.row.D.Denot). device_number v.shelf.geometry.devices c.args.digest.now ≡ v.shelf.geometry.device) (sym c.self.view_is) c.requires.named) refl s agrees
    (c.expire_step-answer.ensures.makes (setup_of old) s (setup_by old.shelf old.set c.self.invariant.whole.limits)
    (step_stands g.D.Disk.view c.args.digest.now old new c.part_of-part.result c.index_mut.result.now c.expire_step-answer.new.sprig shape place there
    c.index_mut.ensures.value refl s agrees))

pub returns-clause-makes : goal.returns-clause-makes
returns-clause-makes g c =
    let new : ShardView g.row.D.Denot = record {
      shelf = c.expire_step-answer.new.shelf;
      set = c.self.inside.set;
      sprigs =
          set c.self.inside.sprigs.items c.part_of-part.result c.expire_step-answer.new.sprig;
    } in
    subst (λ (v : ShardView g.row.D.Denot). (s : State) → Agrees v s
    → Makes g.D.Disk.view (expire_call c.args.digest.now c.args.now) (delete_answer c.expire_step-answer.result) v s new) c.self.view_is (made g c)

pub invariant_of-self : goal.invariant_of-self
invariant_of-self g c =
    let old : ShardView g.row.D.Denot = record { shelf = c.self.inside.shelf; set = c.self.inside.set; sprigs = c.self.inside.sprigs.items } in
    let new : ShardView g.row.D.Denot = record {
      shelf = c.expire_step-answer.new.shelf;
      set = c.self.inside.set;
      sprigs =
          set c.self.inside.sprigs.items c.part_of-part.result c.expire_step-answer.new.sprig;
    } in
    let shape : SameSetup old new = record { geometry = c.expire_step-answer.ensures.shape.geometry; set = refl } in
    let there : c.part_of-part.result < length old.sprigs = subst (λ (v : ShardView g.row.D.Denot). c.part_of-part.result < length v.sprigs) (sym c.self.view_is) c.part_of-part.ensures.there in
    let stands = c.self.invariant.whole.stands in
    record {
      whole = whole_made g.D.Disk.view (expire_call c.args.digest.now c.args.now)
          (delete_answer c.expire_step-answer.result) old new c.self.invariant.whole shape c.expire_step-answer.ensures.shape.limits stands.0 (made g c stands.0 stands.1);
      tallied =
          tally_behind old.sprigs c.part_of-part.result c.index.result.now c.expire_step-answer.new.sprig there c.index.ensures c.index-2.result.now c.index-2.ensures
          c.self.inside.tally c.tally-before.result c.tally.result c.minus.result c.plus-self-inside.result
          c.self.invariant.tallied c.tally-before.ensures c.tally.ensures c.minus.ensures c.plus-self-inside.ensures (omega arith) (omega arith) (omega arith);
      listed = room_stays old new shape _ c.self.invariant.listed;
    }

pub returns-clause-bare : goal.returns-clause-bare
returns-clause-bare g c =
    let old : ShardView g.row.D.Denot = record { shelf = c.self.inside.shelf; set = c.self.inside.set; sprigs = c.self.inside.sprigs.items } in
    let new : ShardView g.row.D.Denot = record {
      shelf = c.expire_step-answer.new.shelf;
      set = c.self.inside.set;
      sprigs =
          set c.self.inside.sprigs.items c.part_of-part.result c.expire_step-answer.new.sprig;
    } in
    let place : c.part_of-part.result ≡ part_of (setup_of old) c.args.digest.now = c.part_of-part.ensures.part
    ∙ ap (λ (v : ShardView g.row.D.Denot). part_of (setup_of v) c.args.digest.now) (sym c.self.view_is) in
    let there : c.part_of-part.result < length old.sprigs = subst (λ (v : ShardView g.row.D.Denot). c.part_of-part.result < length v.sprigs) (sym c.self.view_is) c.part_of-part.ensures.there in
    let shape : SameSetup old new = record { geometry = c.expire_step-answer.ensures.shape.geometry; set = refl } in
    let same = ap (λ (o : Option Entry). cover_of (expired_entry c.args.now o))
    (sym (held_at g.D.Disk.view c.args.digest.now old new c.part_of-part.result c.index_mut.result.now c.expire_step-answer.new.sprig shape place there c.index_mut.ensures.value refl)) in
    subst (λ (v : ShardView g.row.D.Denot). cover_of (expired_entry c.args.now (held (setup_of v) c.args.digest.now v.sprigs)) ≡ false → IsOk c.expire_step-answer.result
    × (new.shelf.disk ≡ v.shelf.disk) × KeepsAll v.shelf new.shelf) c.self.view_is
    (λ bare. let both = c.expire_step-answer.ensures.bare (same ∙ bare) in (both.0, both.1, c.expire_step-answer.ensures.kept.0 (same ∙ bare)))

pub returns-clause-sure : goal.returns-clause-sure
returns-clause-sure g c =
    subst (λ (v : ShardView g.row.D.Denot). StaysSure g.D.Disk.view v.shelf c.expire_step-answer.new.shelf) c.self.view_is c.expire_step-answer.ensures.sure

pub returns-clause-kept : goal.returns-clause-kept
returns-clause-kept g c =
    let covered = cover_of (expired_entry c.args.now (entry_of c.args.digest.now c.index_mut.result.now.entries)) in
    subst (λ (v : ShardView g.row.D.Denot). KeepsThrough v.set.commit v.shelf c.expire_step-answer.new.shelf) c.self.view_is
    (through_removal covered c.self.inside.set.commit (units_for 0) c.self.inside.shelf c.expire_step-answer.new.shelf c.expire_step-answer.result c.expire_step-answer.ensures.kept)

-- ---- which gates fail

pub returns-clause-fails : goal.returns-clause-fails
returns-clause-fails g c =
    subst (λ (v : ShardView g.row.D.Denot). FailsBy c.expire_step-answer.result v.shelf c.expire_step-answer.new.shelf) c.self.view_is c.expire_step-answer.ensures.fails
