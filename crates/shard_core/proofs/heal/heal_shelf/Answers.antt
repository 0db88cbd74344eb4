use Rattle.shard_core.proofs.Healing.{makes_heal, few_gates, shape_kept}
use Rattle.shard_core.proofs.heal.heal_shelf.Goals as goal

pub returns-clause-makes : goal.returns-clause-makes
returns-clause-makes g c setup s is stands =
    let e = c.heal.ensures in
    makes_heal g.D.Disk.view setup c.args.shelf.now c.heal.new.self s stands c.heal.result (e.goes setup s stands.stands) e.later.count e.cause

pub returns-clause-few : goal.returns-clause-few
returns-clause-few g c = few_gates c.heal.result c.args.shelf.now.geometry.blocks c.heal.ensures.whole.geometry.blocks.1 c.heal.ensures.few

pub returns-clause-shape : goal.returns-clause-shape
returns-clause-shape g c = shape_kept c.args.shelf.now c.heal.new.self c.heal.ensures.rest
