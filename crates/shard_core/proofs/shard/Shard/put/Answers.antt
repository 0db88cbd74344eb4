use Rattle.std.proofs.Common.{arith, ◌≡◌, inl, inr, ◌<◌, true, false, length, set, refl, sym, ap, ◌∙◌, subst}
use Rattle.std.specs.Prelude.{◌⊎◌, Result, Ok, Err, IfErr}
use Rattle.law_lists.proofs.Places.{set_unchanged}
use Rattle.rec_format.specs.declared.version.Stamp.{Stamp}
use Rattle.rec_format.specs.Places.{device_number}
use Rattle.rec_format.specs.Versions.{units_for}
use Rattle.disk_model.specs.Disk.{IsHonest}
use Rattle.model_device.specs.Book.{first_block}
use Rattle.block_format.specs.declared.geometry.Gate.TheVariants.{Shut}
use Rattle.write_buffer.specs.declared.stream.Stream.TheVariants.{Client}
use Rattle.block_shelf.specs.View.{gate_at}
use Rattle.block_shelf.specs.Changes.{HasRoom}
use Rattle.block_shelf.specs.Disks.{IsLater}
use Rattle.model_device.specs.Device.{State, part_of}
use Rattle.model_device.specs.Events.{put_call}
use Rattle.shard_core.specs.declared.refusals.WriteRefusal.{WriteRefusal}
use Rattle.shard_core.specs.declared.refusals.WriteRefusal.TheVariants as write
use Rattle.shard_core.specs.View.{ShardView, SameSetup, setup_of}
use Rattle.shard_core.specs.Stands.{Agrees}
use Rattle.shard_core.specs.Calls.{Makes, IsRefusedStep, IsRefusedWrite, write_answer}
use Rattle.shard_core.proofs.Making.{whole_made, step_stands, lifted, sprigs_same, room_stays, setup_by}
use Rattle.shard_core.proofs.Tallies.{tally_behind}
use Rattle.shard_core.proofs.shard.Shard.put.Given.{Over}
use Rattle.block_shelf.specs.Sure.{StaysSure}
use Rattle.shard_core.specs.Keeping.{KeepsBy}
use Rattle.shard_core.specs.Failing.{FailsBy}
use Rattle.shard_core.proofs.shard.Shard.put.Goals as goal

pub put_step-answer-requires-clause-stand : goal.put_step-answer-requires-clause-stand
put_step-answer-requires-clause-stand g c =
    let old : ShardView g.row.D.Denot = record { shelf = c.self.inside.shelf; set = c.self.inside.set; sprigs = c.self.inside.sprigs.items } in
    let stands = c.self.invariant.whole.stands in
    let place : c.part_of-part.result ≡ part_of (setup_of old) c.args.digest.now = c.part_of-part.ensures.part
    ∙ ap (λ (v : ShardView g.row.D.Denot). part_of (setup_of v) c.args.digest.now) (sym c.self.view_is) in
    let there : c.part_of-part.result < length old.sprigs = subst (λ (v : ShardView g.row.D.Denot). c.part_of-part.result < length v.sprigs) (sym c.self.view_is) c.part_of-part.ensures.there in (
      setup_of old,
      stands.0,
      setup_by old.shelf old.set c.self.invariant.whole.limits,
      step_stands g.D.Disk.view c.args.digest.now old old c.part_of-part.result c.index_mut.result.now c.index_mut.result.now
          (record { geometry = refl; set = refl }) place there c.index_mut.ensures.value
          (sym (set_unchanged old.sprigs c.part_of-part.result c.index_mut.result.now c.index_mut.ensures.value)) stands.0 stands.1,
    )

made : (g : Over) (c : goal.After-self-2-1 g) (s : State)
    → let old : ShardView g.row.D.Denot = record { shelf = c.self.inside.shelf; set = c.self.inside.set; sprigs = c.self.inside.sprigs.items } in
    let new : ShardView g.row.D.Denot = record {
      shelf = c.put_step-answer.new.shelf;
      set = c.self.inside.set;
      sprigs =
          set c.self.inside.sprigs.items c.part_of-part.result c.put_step-answer.new.sprig;
    } in
    Agrees old s → Makes g.D.Disk.view (put_call c.args.digest.now c.args.ttl c.args.expect c.args.payload.now c.args.now) (write_answer c.put_step-answer.result) old s new
made g c s agrees =
    let old : ShardView g.row.D.Denot = record { shelf = c.self.inside.shelf; set = c.self.inside.set; sprigs = c.self.inside.sprigs.items } in
    let new : ShardView g.row.D.Denot = record {
      shelf = c.put_step-answer.new.shelf;
      set = c.self.inside.set;
      sprigs =
          set c.self.inside.sprigs.items c.part_of-part.result c.put_step-answer.new.sprig;
    } in
    let place : c.part_of-part.result ≡ part_of (setup_of old) c.args.digest.now = c.part_of-part.ensures.part
    ∙ ap (λ (v : ShardView g.row.D.Denot). part_of (setup_of v) c.args.digest.now) (sym c.self.view_is) in
    let there : c.part_of-part.result < length old.sprigs = subst (λ (v : ShardView g.row.D.Denot). c.part_of-part.result < length v.sprigs) (sym c.self.view_is) c.part_of-part.ensures.there in
    let shape : SameSetup old new = record { geometry = c.put_step-answer.ensures.shape.geometry; set = refl } in
    lifted g.D.Disk.view c.args.digest.now old new c.part_of-part.result c.index_mut.result.now c.put_step-answer.new.sprig shape place there c.index_mut.ensures.value refl
    (put_call c.args.digest.now c.args.ttl c.args.expect c.args.payload.now c.args.now) (write_answer c.put_step-answer.result)
    (subst (λ (v : ShardView g.row.D.Denot). device_number v.shelf.geometry.devices c.args.digest.now ≡ v.shelf.geometry.device) (sym c.self.view_is) c.requires.named) refl s agrees
    (c.put_step-answer.ensures.makes (setup_of old) s (setup_by old.shelf old.set c.self.invariant.whole.limits)
    (step_stands g.D.Disk.view c.args.digest.now old new c.part_of-part.result c.index_mut.result.now c.put_step-answer.new.sprig shape place there
    c.index_mut.ensures.value refl s agrees))

pub returns-clause-makes : goal.returns-clause-makes
returns-clause-makes g c =
    let new : ShardView g.row.D.Denot = record {
      shelf = c.put_step-answer.new.shelf;
      set = c.self.inside.set;
      sprigs =
          set c.self.inside.sprigs.items c.part_of-part.result c.put_step-answer.new.sprig;
    } in
    subst (λ (v : ShardView g.row.D.Denot). (s : State) → Agrees v s
    → Makes g.D.Disk.view (put_call c.args.digest.now c.args.ttl c.args.expect c.args.payload.now c.args.now) (write_answer c.put_step-answer.result) v s new) c.self.view_is (made g c)

pub invariant_of-self : goal.invariant_of-self
invariant_of-self g c =
    let old : ShardView g.row.D.Denot = record { shelf = c.self.inside.shelf; set = c.self.inside.set; sprigs = c.self.inside.sprigs.items } in
    let new : ShardView g.row.D.Denot = record {
      shelf = c.put_step-answer.new.shelf;
      set = c.self.inside.set;
      sprigs =
          set c.self.inside.sprigs.items c.part_of-part.result c.put_step-answer.new.sprig;
    } in
    let shape : SameSetup old new = record { geometry = c.put_step-answer.ensures.shape.geometry; set = refl } in
    let there : c.part_of-part.result < length old.sprigs = subst (λ (v : ShardView g.row.D.Denot). c.part_of-part.result < length v.sprigs) (sym c.self.view_is) c.part_of-part.ensures.there in
    let stands = c.self.invariant.whole.stands in
    record {
      whole = whole_made g.D.Disk.view (put_call c.args.digest.now c.args.ttl c.args.expect c.args.payload.now c.args.now)
          (write_answer c.put_step-answer.result) old new c.self.invariant.whole shape c.put_step-answer.ensures.shape.limits stands.0 (made g c stands.0 stands.1);
      tallied =
          tally_behind old.sprigs c.part_of-part.result c.index.result.now c.put_step-answer.new.sprig there c.index.ensures c.index-2.result.now c.index-2.ensures
          c.self.inside.tally c.tally-before.result c.tally.result c.minus.result c.plus-self-inside.result
          c.self.invariant.tallied c.tally-before.ensures c.tally.ensures c.minus.ensures c.plus-self-inside.ensures (omega arith) (omega arith) (omega arith);
      listed = room_stays old new shape _ c.self.invariant.listed;
    }

pub returns-clause-in_room : goal.returns-clause-in_room
returns-clause-in_room g c =
    subst (λ (v : ShardView g.row.D.Denot). v.set.commit ≡ false → HasRoom Client (units_for (length c.args.payload.now)) v.shelf.buffers
    → c.put_step-answer.new.shelf.disk ≡ v.shelf.disk) c.self.view_is c.put_step-answer.ensures.in_room

pub returns-clause-quiet : goal.returns-clause-quiet
returns-clause-quiet g c =
    subst (λ (v : ShardView g.row.D.Denot). v.set.commit ≡ false → gate_at v.shelf.gates (first_block v.shelf.free) ≡ Shut
    → c.put_step-answer.new.shelf.disk ≡ v.shelf.disk) c.self.view_is c.put_step-answer.ensures.quiet

pub returns-clause-later : goal.returns-clause-later
returns-clause-later g c =
    subst (λ (v : ShardView g.row.D.Denot). IsLater (g.D.Disk.view v.shelf.disk) (g.D.Disk.view c.put_step-answer.new.shelf.disk)) c.self.view_is c.put_step-answer.ensures.later

pub returns-clause-honest : goal.returns-clause-honest
returns-clause-honest g c =
    subst (λ (v : ShardView g.row.D.Denot). IsHonest (g.D.Disk.view v.shelf.disk) → IsHonest (g.D.Disk.view c.put_step-answer.new.shelf.disk)) c.self.view_is c.put_step-answer.ensures.honest

pub returns-clause-shape : goal.returns-clause-shape
returns-clause-shape g c =
    let new : ShardView g.row.D.Denot = record {
      shelf = c.put_step-answer.new.shelf;
      set = c.self.inside.set;
      sprigs =
          set c.self.inside.sprigs.items c.part_of-part.result c.put_step-answer.new.sprig;
    } in
    subst (λ (v : ShardView g.row.D.Denot). SameSetup v new) c.self.view_is (record { geometry = c.put_step-answer.ensures.shape.geometry; set = refl })

pub put_step-answer-requires-clause-named : goal.put_step-answer-requires-clause-named
put_step-answer-requires-clause-named g c =
    subst (λ (v : ShardView g.row.D.Denot). device_number v.shelf.geometry.devices c.args.digest.now ≡ v.shelf.geometry.device) (sym c.self.view_is) c.requires.named

pub returns-clause-refused : goal.returns-clause-refused
returns-clause-refused g c =
    let old : ShardView g.row.D.Denot = record { shelf = c.self.inside.shelf; set = c.self.inside.set; sprigs = c.self.inside.sprigs.items } in
    let new : ShardView g.row.D.Denot = record {
      shelf = c.put_step-answer.new.shelf;
      set = c.self.inside.set;
      sprigs =
          set c.self.inside.sprigs.items c.part_of-part.result c.put_step-answer.new.sprig;
    } in
    let place : c.part_of-part.result ≡ part_of (setup_of old) c.args.digest.now = c.part_of-part.ensures.part
    ∙ ap (λ (v : ShardView g.row.D.Denot). part_of (setup_of v) c.args.digest.now) (sym c.self.view_is) in
    let there : c.part_of-part.result < length old.sprigs = subst (λ (v : ShardView g.row.D.Denot). c.part_of-part.result < length v.sprigs) (sym c.self.view_is) c.part_of-part.ensures.there in
    let shape : SameSetup old new = record { geometry = c.put_step-answer.ensures.shape.geometry; set = refl } in
    subst (λ (v : ShardView g.row.D.Denot). IfErr c.put_step-answer.result (λ refusal. ((refusal ≡ write.Fault) × (v.set.commit ≡ true)) ⊎ IsRefusedWrite v new refusal)) c.self.view_is
    (by c.put_step-answer.result c.put_step-answer.ensures.refused)
  where
    by : (r : Result Stamp WriteRefusal) → IfErr r (λ refusal. ((refusal ≡ write.Fault) × (c.self.inside.set.commit ≡ true))
        ⊎ IsRefusedStep c.index_mut.result.now c.put_step-answer.new.sprig c.self.inside.shelf c.put_step-answer.new.shelf refusal)
        → let old : ShardView g.row.D.Denot = record { shelf = c.self.inside.shelf; set = c.self.inside.set; sprigs = c.self.inside.sprigs.items } in
        let new : ShardView g.row.D.Denot = record {
          shelf = c.put_step-answer.new.shelf;
          set = c.self.inside.set;
          sprigs =
              set c.self.inside.sprigs.items c.part_of-part.result c.put_step-answer.new.sprig;
        } in
        IfErr r (λ refusal. ((refusal ≡ write.Fault) × (old.set.commit ≡ true)) ⊎ IsRefusedWrite old new refusal)
    by (Ok x) tt = tt
    by (Err refusal) (inl fault) = inl fault
    by (Err refusal) (inr left) =
        let old : ShardView g.row.D.Denot = record { shelf = c.self.inside.shelf; set = c.self.inside.set; sprigs = c.self.inside.sprigs.items } in
        let new : ShardView g.row.D.Denot = record {
          shelf = c.put_step-answer.new.shelf;
          set = c.self.inside.set;
          sprigs =
              set c.self.inside.sprigs.items c.part_of-part.result c.put_step-answer.new.sprig;
        } in
        let place : c.part_of-part.result ≡ part_of (setup_of old) c.args.digest.now = c.part_of-part.ensures.part
        ∙ ap (λ (v : ShardView g.row.D.Denot). part_of (setup_of v) c.args.digest.now) (sym c.self.view_is) in
        let there : c.part_of-part.result < length old.sprigs = subst (λ (v : ShardView g.row.D.Denot). c.part_of-part.result < length v.sprigs) (sym c.self.view_is) c.part_of-part.ensures.there in
        let shape : SameSetup old new = record { geometry = c.put_step-answer.ensures.shape.geometry; set = refl } in
        inr (record {
          sprigs = sprigs_same g.D.Disk.view c.args.digest.now old new c.part_of-part.result c.index_mut.result.now c.put_step-answer.new.sprig shape place there
              c.index_mut.ensures.value refl left.sprig;
          shelf = left.shelf;
        })

pub returns-clause-sure : goal.returns-clause-sure
returns-clause-sure g c =
    subst (λ (v : ShardView g.row.D.Denot). StaysSure g.D.Disk.view v.shelf c.put_step-answer.new.shelf) c.self.view_is c.put_step-answer.ensures.sure

pub returns-clause-kept : goal.returns-clause-kept
returns-clause-kept g c =
    subst (λ (v : ShardView g.row.D.Denot). KeepsBy v.set.commit (units_for (length c.args.payload.now)) v.shelf c.put_step-answer.new.shelf c.put_step-answer.result) c.self.view_is
    c.put_step-answer.ensures.kept

-- ---- which gates fail

pub returns-clause-fails : goal.returns-clause-fails
returns-clause-fails g c =
    subst (λ (v : ShardView g.row.D.Denot). FailsBy c.put_step-answer.result v.shelf c.put_step-answer.new.shelf) c.self.view_is c.put_step-answer.ensures.fails
