use Rattle.std.proofs.Common.{◌≡◌, ◌∙◌, ap, subst}
use Rattle.model_device.specs.Device.{State}
use Rattle.model_device.specs.Vacating.{can_gain}
use Rattle.block_shelf.specs.Low.{gains}
use Rattle.shard_core.specs.View.{ShardView, setup_of}
use Rattle.shard_core.specs.Stands.{Agrees}
use Rattle.shard_core.proofs.shard.Shard.can_gain.Goals as goal

pub returns-clause-seen : goal.returns-clause-seen
returns-clause-seen g c = c.can_gain.ensures.seen ∙ ap (λ (v : ShardView g.row.D.Denot). gains v.shelf) c.self.view_is

pub returns-clause-state : goal.returns-clause-state
returns-clause-state g c =
    let shard : ShardView g.row.D.Denot = record { shelf = c.self.inside.shelf; set = c.self.inside.set; sprigs = c.self.inside.sprigs.items } in
    subst (λ (v : ShardView g.row.D.Denot). (s : State) → Agrees v s → c.can_gain.result ≡ can_gain s.book) c.self.view_is
    (λ s agrees. c.can_gain.ensures.state (setup_of shard) s agrees.shelf.stands agrees.shelf.queue)
