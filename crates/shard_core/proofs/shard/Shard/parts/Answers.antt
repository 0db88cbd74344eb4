use Rattle.std.proofs.Common.{◌≡◌, ◌<◌, ℕ, sym, ◌∙◌, ap, subst, arith}
use Rattle.rec_format.specs.declared.version.Digest.{Digest}
use Rattle.rec_format.specs.Places.{device_number, part_count}
use Rattle.block_format.specs.declared.geometry.Geometry.{Geometry}
use Rattle.model_device.specs.Device.{part_of}
use Rattle.model_device.specs.Steps.{part_total}
use Rattle.law_sprig.proofs.Counting.{part_exists}
use Rattle.shard_core.specs.View.{ShardView, setup_of}
use Rattle.shard_core.proofs.shard.Shard.parts.Goals as goal

pub returns-clause-all : goal.returns-clause-all
returns-clause-all g c =
    let shard : ShardView g.row.D.Denot = record { shelf = c.self.inside.shelf; set = c.self.inside.set; sprigs = c.self.inside.sprigs.items } in
    let total : c.parts_of.result ≡ part_total (setup_of shard) = c.parts_of.ensures.value
    ∙ ap (λ (shape : Geometry). part_count shape.device shape.devices c.self.inside.set.sprigs) c.geometry-shape.ensures.shape in
    let device = c.geometry-shape.ensures.whole.geometry.device in
    let sprigs = c.self.invariant.whole.settings.sprigs in
    subst (λ (s : ShardView g.row.D.Denot). (digest : Digest) → device_number s.shelf.geometry.devices digest ≡ s.shelf.geometry.device
    → part_of (setup_of s) digest < c.parts_of.result) c.self.view_is
    (λ digest own. subst (λ (n : ℕ). part_of (setup_of shard) digest < n) (sym total) (part_exists (setup_of shard) digest (omega (arith, device)) (omega (arith, sprigs)) own))
