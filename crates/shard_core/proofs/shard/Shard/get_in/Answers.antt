use Rattle.std.proofs.Common.{◌≡◌, List, ◌<◌, length, set, refl, sym, ap, ◌∙◌, subst}
use Rattle.std.specs.Prelude.{Some, IfErr, Contains}
use Rattle.law_lists.proofs.Places.{set_unchanged}
use Rattle.rec_format.specs.declared.entry.Entry.{Entry}
use Rattle.rec_format.specs.Places.{device_number}
use Rattle.model_device.specs.Device.{State, part_of}
use Rattle.model_device.specs.Events.{get_call}
use Rattle.disk_model.specs.Disk.{IsHonest}
use Rattle.expiry_rule.specs.Seen.{seen_entry}
use Rattle.write_buffer.specs.Buffers.{BufferState}
use Rattle.sprig_tree.specs.State.{SprigState}
use Rattle.block_shelf.specs.View.{ShelfView, in_memory}
use Rattle.block_shelf.specs.Standing.{IsPlaced}
use Rattle.block_shelf.specs.Reads.{IsUndamaged}
use Rattle.block_shelf.specs.declared.refusals.ReadRefusal.TheVariants as read
use Rattle.shard_core.specs.Sprigs.{held}
use Rattle.shard_core.specs.View.{ShardView, SameSetup, setup_of}
use Rattle.shard_core.specs.Stands.{Agrees}
use Rattle.shard_core.specs.Calls.{Makes, GetsStored, read_answer}
use Rattle.shard_core.proofs.Making.{keeps_few, whole_made, step_stands, lifted, held_at, room_stays, setup_by}
use Rattle.shard_core.proofs.Tallies.{tally_same}
use Rattle.shard_core.proofs.shard.Shard.get_in.Given.{Over}
use Rattle.block_shelf.specs.Sure.{StaysSure}
use Rattle.block_shelf.proofs.Surely.{sure_read}
use Rattle.block_shelf.specs.Keeping.{KeepsAll}
use Rattle.block_shelf.proofs.KeptAll.{all_beside}
use Rattle.shard_core.proofs.shard.Shard.get_in.Goals as goal

pub get_step_in-requires-clause-stand : goal.get_step_in-requires-clause-stand
get_step_in-requires-clause-stand g c =
    let old : ShardView g.row.D.Denot = record { shelf = c.self.inside.shelf; set = c.self.inside.set; sprigs = c.self.inside.sprigs.items } in
    let stands = c.self.invariant.whole.stands in
    let place : c.part_of-part.result ≡ part_of (setup_of old) c.args.digest.now = c.part_of-part.ensures.part
    ∙ ap (λ (v : ShardView g.row.D.Denot). part_of (setup_of v) c.args.digest.now) (sym c.self.view_is) in
    let there : c.part_of-part.result < length old.sprigs = subst (λ (v : ShardView g.row.D.Denot). c.part_of-part.result < length v.sprigs) (sym c.self.view_is) c.part_of-part.ensures.there in (
      setup_of old,
      stands.0,
      setup_by old.shelf old.set c.self.invariant.whole.limits,
      step_stands g.D.Disk.view c.args.digest.now old old c.part_of-part.result c.index_mut.result.now c.index_mut.result.now
          (record { geometry = refl; set = refl }) place there c.index_mut.ensures.value
          (sym (set_unchanged old.sprigs c.part_of-part.result c.index_mut.result.now c.index_mut.ensures.value)) stands.0 stands.1,
    )

made : (g : Over) (c : goal.After-self-1 g) (s : State)
    → let old : ShardView g.row.D.Denot = record { shelf = c.self.inside.shelf; set = c.self.inside.set; sprigs = c.self.inside.sprigs.items } in
    let new : ShardView g.row.D.Denot = record { shelf = c.get_step_in.new.shelf; set = c.self.inside.set; sprigs = set c.self.inside.sprigs.items c.part_of-part.result c.get_step_in.new.sprig } in
    Agrees old s → Makes g.D.Disk.view (get_call c.args.digest.now c.args.now) (read_answer c.get_step_in.result) old s new
made g c s agrees =
    let old : ShardView g.row.D.Denot = record { shelf = c.self.inside.shelf; set = c.self.inside.set; sprigs = c.self.inside.sprigs.items } in
    let new : ShardView g.row.D.Denot = record { shelf = c.get_step_in.new.shelf; set = c.self.inside.set; sprigs = set c.self.inside.sprigs.items c.part_of-part.result c.get_step_in.new.sprig } in
    let place : c.part_of-part.result ≡ part_of (setup_of old) c.args.digest.now = c.part_of-part.ensures.part
    ∙ ap (λ (v : ShardView g.row.D.Denot). part_of (setup_of v) c.args.digest.now) (sym c.self.view_is) in
    let there : c.part_of-part.result < length old.sprigs = subst (λ (v : ShardView g.row.D.Denot). c.part_of-part.result < length v.sprigs) (sym c.self.view_is) c.part_of-part.ensures.there in
    let shape : SameSetup old new = record { geometry = ap (λ (x : ShelfView g.row.D.Denot). x.geometry) c.get_step_in.ensures.shelf; set = refl } in
    lifted g.D.Disk.view c.args.digest.now old new c.part_of-part.result c.index_mut.result.now c.get_step_in.new.sprig shape place there c.index_mut.ensures.value refl
    (get_call c.args.digest.now c.args.now) (read_answer c.get_step_in.result)
    (subst (λ (v : ShardView g.row.D.Denot). device_number v.shelf.geometry.devices c.args.digest.now ≡ v.shelf.geometry.device) (sym c.self.view_is) c.requires.named) refl s agrees
    (c.get_step_in.ensures.makes (setup_of old) s (setup_by old.shelf old.set c.self.invariant.whole.limits)
    (step_stands g.D.Disk.view c.args.digest.now old new c.part_of-part.result c.index_mut.result.now c.get_step_in.new.sprig shape place there
    c.index_mut.ensures.value refl s agrees))

pub returns-clause-makes : goal.returns-clause-makes
returns-clause-makes g c =
    let new : ShardView g.row.D.Denot = record { shelf = c.get_step_in.new.shelf; set = c.self.inside.set; sprigs = set c.self.inside.sprigs.items c.part_of-part.result c.get_step_in.new.sprig } in
    subst (λ (v : ShardView g.row.D.Denot). (s : State) → Agrees v s → Makes g.D.Disk.view (get_call c.args.digest.now c.args.now) (read_answer c.get_step_in.result) v s new) c.self.view_is (made g c)

pub invariant_of-self : goal.invariant_of-self
invariant_of-self g c =
    let old : ShardView g.row.D.Denot = record { shelf = c.self.inside.shelf; set = c.self.inside.set; sprigs = c.self.inside.sprigs.items } in
    let new : ShardView g.row.D.Denot = record { shelf = c.get_step_in.new.shelf; set = c.self.inside.set; sprigs = set c.self.inside.sprigs.items c.part_of-part.result c.get_step_in.new.sprig } in
    let shape : SameSetup old new = record { geometry = ap (λ (x : ShelfView g.row.D.Denot). x.geometry) c.get_step_in.ensures.shelf; set = refl } in
    let stands = c.self.invariant.whole.stands in
    record {
      whole = whole_made g.D.Disk.view (get_call c.args.digest.now c.args.now) (read_answer c.get_step_in.result) old new c.self.invariant.whole shape
          (ap (λ (x : ShelfView g.row.D.Denot). x.limits) c.get_step_in.ensures.shelf) stands.0 (made g c stands.0 stands.1);
      tallied = c.self.invariant.tallied
          ∙ sym (tally_same old.sprigs c.part_of-part.result c.index_mut.result.now c.get_step_in.new.sprig c.index_mut.ensures.value
          (ap (λ (x : SprigState). x.entries) c.get_step_in.ensures.sprig));
      listed = room_stays old new shape _ c.self.invariant.listed;
    }

pub returns-clause-in_memory : goal.returns-clause-in_memory
returns-clause-in_memory g c =
    let old : ShardView g.row.D.Denot = record { shelf = c.self.inside.shelf; set = c.self.inside.set; sprigs = c.self.inside.sprigs.items } in
    let new : ShardView g.row.D.Denot = record { shelf = c.get_step_in.new.shelf; set = c.self.inside.set; sprigs = set c.self.inside.sprigs.items c.part_of-part.result c.get_step_in.new.sprig } in
    let place : c.part_of-part.result ≡ part_of (setup_of old) c.args.digest.now = c.part_of-part.ensures.part
    ∙ ap (λ (v : ShardView g.row.D.Denot). part_of (setup_of v) c.args.digest.now) (sym c.self.view_is) in
    let there : c.part_of-part.result < length old.sprigs = subst (λ (v : ShardView g.row.D.Denot). c.part_of-part.result < length v.sprigs) (sym c.self.view_is) c.part_of-part.ensures.there in
    let shape : SameSetup old new = record { geometry = ap (λ (x : ShelfView g.row.D.Denot). x.geometry) c.get_step_in.ensures.shelf; set = refl } in
    subst (λ (v : ShardView g.row.D.Denot). (e : Entry) (b : BufferState) → held (setup_of v) c.args.digest.now v.sprigs ≡ Some e → Contains (in_memory v.shelf) b → b.block ≡ e.block
    → (new ≡ v) × IfErr c.get_step_in.result (λ refusal. refusal ≡ read.Memory)) c.self.view_is
    (λ e b is there_b at.
    let got = c.get_step_in.ensures.in_memory e b
    (sym (held_at g.D.Disk.view c.args.digest.now old new c.part_of-part.result c.index_mut.result.now c.get_step_in.new.sprig shape place there c.index_mut.ensures.value refl)
    ∙ is) there_b at in
    let kept : set old.sprigs c.part_of-part.result c.get_step_in.new.sprig ≡ old.sprigs = ap (set old.sprigs c.part_of-part.result) c.get_step_in.ensures.sprig
    ∙ set_unchanged old.sprigs c.part_of-part.result c.index_mut.result.now c.index_mut.ensures.value in (
      ap (λ (x : ShelfView g.row.D.Denot). let y : ShardView g.row.D.Denot = record { shelf = x; set = old.set; sprigs = new.sprigs } in y) got.0
          ∙ ap (λ (l : List SprigState). let y : ShardView g.row.D.Denot = record { shelf = old.shelf; set = old.set; sprigs = l } in y) kept,
      got.1,
    ))

pub returns-clause-stored : goal.returns-clause-stored
returns-clause-stored g c =
    let old : ShardView g.row.D.Denot = record { shelf = c.self.inside.shelf; set = c.self.inside.set; sprigs = c.self.inside.sprigs.items } in
    let new : ShardView g.row.D.Denot = record { shelf = c.get_step_in.new.shelf; set = c.self.inside.set; sprigs = set c.self.inside.sprigs.items c.part_of-part.result c.get_step_in.new.sprig } in
    let place : c.part_of-part.result ≡ part_of (setup_of old) c.args.digest.now = c.part_of-part.ensures.part
    ∙ ap (λ (v : ShardView g.row.D.Denot). part_of (setup_of v) c.args.digest.now) (sym c.self.view_is) in
    let there : c.part_of-part.result < length old.sprigs = subst (λ (v : ShardView g.row.D.Denot). c.part_of-part.result < length v.sprigs) (sym c.self.view_is) c.part_of-part.ensures.there in
    let shape : SameSetup old new = record { geometry = ap (λ (x : ShelfView g.row.D.Denot). x.geometry) c.get_step_in.ensures.shelf; set = refl } in
    let stored = c.get_step_in.ensures.stored (setup_of old) (setup_by old.shelf old.set c.self.invariant.whole.limits) in
    let held_is = held_at g.D.Disk.view c.args.digest.now old new c.part_of-part.result c.index_mut.result.now c.get_step_in.new.sprig shape place there c.index_mut.ensures.value refl in
    subst (λ (v : ShardView g.row.D.Denot). GetsStored g.D.Disk.view v c.args.digest.now c.args.now c.get_step_in.result) c.self.view_is (record {
      remembered = λ s agrees e b is there_b at. stored.remembered s
          (step_stands g.D.Disk.view c.args.digest.now old new c.part_of-part.result c.index_mut.result.now c.get_step_in.new.sprig shape place there c.index_mut.ensures.value refl s agrees) e
          b (sym held_is ∙ is) there_b at;
      copied = λ s agrees v sees e b is there_b at. stored.copied s
          (step_stands g.D.Disk.view c.args.digest.now old new c.part_of-part.result c.index_mut.result.now c.get_step_in.new.sprig shape place there c.index_mut.ensures.value refl s agrees)
          v sees e b (sym held_is ∙ is) there_b at;
      placed = λ told e is none. stored.placed told e (ap (seen_entry c.args.now) (sym held_is) ∙ is) none;
    })

pub returns-clause-undamaged : goal.returns-clause-undamaged
returns-clause-undamaged g c =
    let old : ShardView g.row.D.Denot = record { shelf = c.self.inside.shelf; set = c.self.inside.set; sprigs = c.self.inside.sprigs.items } in
    let new : ShardView g.row.D.Denot = record { shelf = c.get_step_in.new.shelf; set = c.self.inside.set; sprigs = set c.self.inside.sprigs.items c.part_of-part.result c.get_step_in.new.sprig } in
    let place : c.part_of-part.result ≡ part_of (setup_of old) c.args.digest.now = c.part_of-part.ensures.part
    ∙ ap (λ (v : ShardView g.row.D.Denot). part_of (setup_of v) c.args.digest.now) (sym c.self.view_is) in
    let there : c.part_of-part.result < length old.sprigs = subst (λ (v : ShardView g.row.D.Denot). c.part_of-part.result < length v.sprigs) (sym c.self.view_is) c.part_of-part.ensures.there in
    let shape : SameSetup old new = record { geometry = ap (λ (x : ShelfView g.row.D.Denot). x.geometry) c.get_step_in.ensures.shelf; set = refl } in
    subst (λ (v : ShardView g.row.D.Denot). IsHonest (g.D.Disk.view v.shelf.disk) → (s : State) → Agrees v s → IsPlaced g.D.Disk.view v.shelf s → IfErr c.get_step_in.result IsUndamaged) c.self.view_is
    (λ honest s agrees placed. c.get_step_in.ensures.undamaged honest (setup_of old) s (setup_by old.shelf old.set c.self.invariant.whole.limits)
    (step_stands g.D.Disk.view c.args.digest.now old new c.part_of-part.result c.index_mut.result.now c.get_step_in.new.sprig shape place there c.index_mut.ensures.value refl s agrees)
    placed)

pub returns-clause-shape : goal.returns-clause-shape
returns-clause-shape g c =
    let old : ShardView g.row.D.Denot = record { shelf = c.self.inside.shelf; set = c.self.inside.set; sprigs = c.self.inside.sprigs.items } in
    let new : ShardView g.row.D.Denot = record { shelf = c.get_step_in.new.shelf; set = c.self.inside.set; sprigs = set c.self.inside.sprigs.items c.part_of-part.result c.get_step_in.new.sprig } in
    subst (λ (v : ShardView g.row.D.Denot). SameSetup v new) c.self.view_is (record { geometry = ap (λ (x : ShelfView g.row.D.Denot). x.geometry) c.get_step_in.ensures.shelf; set = refl })

pub returns-clause-sure : goal.returns-clause-sure
returns-clause-sure g c =
    subst (λ (v : ShardView g.row.D.Denot). StaysSure g.D.Disk.view v.shelf c.get_step_in.new.shelf) c.self.view_is
    (sure_read g.D.Disk.view c.self.inside.shelf c.get_step_in.new.shelf c.get_step_in.ensures.disk c.get_step_in.ensures.shelf)

pub returns-clause-kept : goal.returns-clause-kept
returns-clause-kept g c =
    subst (λ (v : ShardView g.row.D.Denot). KeepsAll v.shelf c.get_step_in.new.shelf) c.self.view_is
    (all_beside c.self.inside.shelf c.get_step_in.new.shelf c.get_step_in.new.shelf.disk c.self.inside.shelf.gates c.self.inside.shelf.raid c.get_step_in.ensures.shelf)

pub returns-clause-few : goal.returns-clause-few
returns-clause-few g c = keeps_few g.D.Disk.view c.args.self.now c.part_of-part.ensures.whole c.part_of-part.ensures.shelf

-- ---- which gates fail

pub returns-clause-same : goal.returns-clause-same
returns-clause-same g c =
    let old : ShardView g.row.D.Denot = record { shelf = c.self.inside.shelf; set = c.self.inside.set; sprigs = c.self.inside.sprigs.items } in
    let new : ShardView g.row.D.Denot = record { shelf = c.get_step_in.new.shelf; set = c.self.inside.set; sprigs = set c.self.inside.sprigs.items c.part_of-part.result c.get_step_in.new.sprig } in
    let kept : set old.sprigs c.part_of-part.result c.get_step_in.new.sprig ≡ old.sprigs = ap (set old.sprigs c.part_of-part.result) c.get_step_in.ensures.sprig
    ∙ set_unchanged old.sprigs c.part_of-part.result c.index_mut.result.now c.index_mut.ensures.value in
    subst (λ (v : ShardView g.row.D.Denot). new ≡ record v { shelf = record v.shelf { disk = new.shelf.disk } }) c.self.view_is
    (ap (λ (x : ShelfView g.row.D.Denot). let y : ShardView g.row.D.Denot = record { shelf = x; set = old.set; sprigs = new.sprigs } in y) c.get_step_in.ensures.shelf
    ∙ ap (λ (l : List SprigState). let y : ShardView g.row.D.Denot = record { shelf = record old.shelf { disk = new.shelf.disk }; set = old.set; sprigs = l } in y) kept)
