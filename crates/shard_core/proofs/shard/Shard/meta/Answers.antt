use Rattle.std.proofs.Common.{◌≡◌, ◌<◌, length, refl, sym, ap, ◌∙◌, subst}
use Rattle.law_lists.proofs.Places.{set_unchanged}
use Rattle.model_device.specs.Device.{State, seen, part_of}
use Rattle.shard_core.specs.View.{ShardView, setup_of}
use Rattle.shard_core.specs.Stands.{Agrees}
use Rattle.shard_core.specs.Calls.{meta_of}
use Rattle.shard_core.proofs.Making.{step_stands}
use Rattle.shard_core.proofs.shard.Shard.meta.Goals as goal

pub returns : goal.returns
returns g c =
    let old : ShardView g.row.D.Denot = record { shelf = c.self.inside.shelf; set = c.self.inside.set; sprigs = c.self.inside.sprigs.items } in
    let place : c.part_of.result ≡ part_of (setup_of old) c.args.digest.now = c.part_of.ensures.part
    ∙ ap (λ (v : ShardView g.row.D.Denot). part_of (setup_of v) c.args.digest.now) (sym c.self.view_is) in
    let there : c.part_of.result < length old.sprigs = subst (λ (v : ShardView g.row.D.Denot). c.part_of.result < length v.sprigs) (sym c.self.view_is) c.part_of.ensures.there in
    subst (λ (v : ShardView g.row.D.Denot). (s : State) → Agrees v s → c.meta_step.result ≡ meta_of (seen s c.args.now c.args.digest.now)) c.self.view_is
    (λ s agrees. c.meta_step.ensures (setup_of old) s
    (step_stands g.D.Disk.view c.args.digest.now old old c.part_of.result c.index.result.now c.index.result.now (record { geometry = refl; set = refl }) place there c.index.ensures
    (sym (set_unchanged old.sprigs c.part_of.result c.index.result.now c.index.ensures)) s agrees).sprig_stands)
