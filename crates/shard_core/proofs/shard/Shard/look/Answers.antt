use Rattle.std.proofs.Common.{◌≡◌, ◌≢◌, ◌<◌, Ok, length, refl, sym, ap, ◌∙◌, subst}
use Rattle.std.specs.Prelude.{None, Some, IfSome, Contains}
use Rattle.std.proofs.lemmas.Option.{IfSome_then}
use Rattle.law_lists.proofs.Places.{set_unchanged}
use Rattle.rec_format.specs.Places.{device_number}
use Rattle.rec_format.specs.declared.entry.Entry.{Entry}
use Rattle.write_buffer.specs.Buffers.{BufferState}
use Rattle.block_shelf.specs.View.{in_memory}
use Rattle.shard_core.specs.Sprigs.{held}
use Rattle.expiry_rule.specs.Seen.{seen_entry}
use Rattle.model_device.specs.Device.{State, part_of}
use Rattle.model_device.specs.Events.{get_call}
use Rattle.shard_core.specs.View.{ShardView, SameSetup, setup_of}
use Rattle.shard_core.specs.Stands.{Agrees}
use Rattle.shard_core.specs.Calls.{Makes, GetsStored, read_answer}
use Rattle.shard_core.proofs.Making.{held_at, lifted, step_stands}
use Rattle.shard_core.proofs.shard.Shard.look.Goals as goal

pub look_step-requires : goal.look_step-requires
look_step-requires g c =
    let old : ShardView g.row.D.Denot = record { shelf = c.self.inside.shelf; set = c.self.inside.set; sprigs = c.self.inside.sprigs.items } in
    let stands = c.self.invariant.whole.stands in
    let place : c.part_of-part.result ≡ part_of (setup_of old) c.args.digest.now = c.part_of-part.ensures.part
    ∙ ap (λ (v : ShardView g.row.D.Denot). part_of (setup_of v) c.args.digest.now) (sym c.self.view_is) in
    let there : c.part_of-part.result < length old.sprigs = subst (λ (v : ShardView g.row.D.Denot). c.part_of-part.result < length v.sprigs) (sym c.self.view_is) c.part_of-part.ensures.there in
    record {
      stand = (
        setup_of old,
        stands.0,
        step_stands g.D.Disk.view c.args.digest.now old old c.part_of-part.result c.index.result.now c.index.result.now (record { geometry = refl; set = refl }) place there c.index.ensures
            (sym (set_unchanged old.sprigs c.part_of-part.result c.index.result.now c.index.ensures)) stands.0 stands.1,
      );
    }

pub returns-clause-makes : goal.returns-clause-makes
returns-clause-makes g c =
    let old : ShardView g.row.D.Denot = record { shelf = c.self.inside.shelf; set = c.self.inside.set; sprigs = c.self.inside.sprigs.items } in
    let place : c.part_of-part.result ≡ part_of (setup_of old) c.args.digest.now = c.part_of-part.ensures.part
    ∙ ap (λ (v : ShardView g.row.D.Denot). part_of (setup_of v) c.args.digest.now) (sym c.self.view_is) in
    let there : c.part_of-part.result < length old.sprigs = subst (λ (v : ShardView g.row.D.Denot). c.part_of-part.result < length v.sprigs) (sym c.self.view_is) c.part_of-part.ensures.there in
    let shape : SameSetup old old = record { geometry = refl; set = refl } in
    let becomes = sym (set_unchanged old.sprigs c.part_of-part.result c.index.result.now c.index.ensures) in
    subst (λ (x : ShardView g.row.D.Denot). (s : State) → Agrees x s → IfSome c.look_step.result (λ v. Makes g.D.Disk.view (get_call c.args.digest.now c.args.now) (read_answer (Ok (Some v))) x s x)) c.self.view_is
    (λ s agrees. IfSome_then c.look_step.result
    (c.look_step.ensures.makes (setup_of old) s
    (step_stands g.D.Disk.view c.args.digest.now old old c.part_of-part.result c.index.result.now c.index.result.now shape place there c.index.ensures becomes s agrees))
    (λ v made. lifted g.D.Disk.view c.args.digest.now old old c.part_of-part.result c.index.result.now c.index.result.now shape place there c.index.ensures becomes
    (get_call c.args.digest.now c.args.now) (read_answer (Ok (Some v)))
    (subst (λ (x : ShardView g.row.D.Denot). device_number x.shelf.geometry.devices c.args.digest.now ≡ x.shelf.geometry.device) (sym c.self.view_is) c.requires.named) refl s agrees made))

pub returns-clause-stored : goal.returns-clause-stored
returns-clause-stored g c =
    let old : ShardView g.row.D.Denot = record { shelf = c.self.inside.shelf; set = c.self.inside.set; sprigs = c.self.inside.sprigs.items } in
    let place : c.part_of-part.result ≡ part_of (setup_of old) c.args.digest.now = c.part_of-part.ensures.part
    ∙ ap (λ (v : ShardView g.row.D.Denot). part_of (setup_of v) c.args.digest.now) (sym c.self.view_is) in
    let there : c.part_of-part.result < length old.sprigs = subst (λ (v : ShardView g.row.D.Denot). c.part_of-part.result < length v.sprigs) (sym c.self.view_is) c.part_of-part.ensures.there in
    let shape : SameSetup old old = record { geometry = refl; set = refl } in
    let becomes = sym (set_unchanged old.sprigs c.part_of-part.result c.index.result.now c.index.ensures) in
    let held_is = held_at g.D.Disk.view c.args.digest.now old old c.part_of-part.result c.index.result.now c.index.result.now shape place there c.index.ensures becomes in
    let stands = step_stands g.D.Disk.view c.args.digest.now old old c.part_of-part.result c.index.result.now c.index.result.now shape place there c.index.ensures becomes in
    subst (λ (x : ShardView g.row.D.Denot). IfSome c.look_step.result (λ v. GetsStored g.D.Disk.view x c.args.digest.now c.args.now (Ok (Some v)))) c.self.view_is
    (IfSome_then c.look_step.result (c.look_step.ensures.stored (setup_of old)) (λ v stored. record {
      remembered = λ s agrees e b is there_b at. stored.remembered s (stands s agrees) e b (sym held_is ∙ is) there_b at;
      copied = λ s agrees w sees e b is there_b at. stored.copied s (stands s agrees) w sees e b (sym held_is ∙ is) there_b at;
      placed = λ told e is none. stored.placed told e (ap (seen_entry c.args.now) (sym held_is) ∙ is) none;
    }))

pub returns-clause-missed : goal.returns-clause-missed
returns-clause-missed g c =
    let old : ShardView g.row.D.Denot = record { shelf = c.self.inside.shelf; set = c.self.inside.set; sprigs = c.self.inside.sprigs.items } in
    let place : c.part_of-part.result ≡ part_of (setup_of old) c.args.digest.now = c.part_of-part.ensures.part
    ∙ ap (λ (v : ShardView g.row.D.Denot). part_of (setup_of v) c.args.digest.now) (sym c.self.view_is) in
    let there : c.part_of-part.result < length old.sprigs = subst (λ (v : ShardView g.row.D.Denot). c.part_of-part.result < length v.sprigs) (sym c.self.view_is) c.part_of-part.ensures.there in
    let shape : SameSetup old old = record { geometry = refl; set = refl } in
    let becomes = sym (set_unchanged old.sprigs c.part_of-part.result c.index.result.now c.index.ensures) in
    let held_is = held_at g.D.Disk.view c.args.digest.now old old c.part_of-part.result c.index.result.now c.index.result.now shape place there c.index.ensures becomes in
    let stands = step_stands g.D.Disk.view c.args.digest.now old old c.part_of-part.result c.index.result.now c.index.result.now shape place there c.index.ensures becomes in
    subst (λ (x : ShardView g.row.D.Denot). (s : State) (e : Entry) (b : BufferState) → Agrees x s → seen_entry c.args.now (held (setup_of x) c.args.digest.now x.sprigs) ≡ Some e
    → Contains (in_memory x.shelf) b → b.block ≡ e.block → c.look_step.result ≢ None) c.self.view_is
    (λ s e b agrees sees has at. c.look_step.ensures.missed (setup_of old) s e b (stands s agrees) (ap (seen_entry c.args.now) (sym held_is) ∙ sees) has at)
