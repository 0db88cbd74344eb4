use Rattle.block_shelf.proofs.Healing.{goes_covered}
use Rattle.block_shelf.proofs.shelf.Shelf.heal.Goals as goal

pub returns-in-Err-clause-goes : goal.returns-in-Err-clause-goes
returns-in-Err-clause-goes g c setup s stands =
    goes_covered g.D.Disk.view g.met.D.Disk.is_disk c.args.self.now c.heal_each.new.self c.cover_each.new.self c.heal_each.ensures.rest c.cover_each.ensures setup s
    c.heal_each.ensures.honest (c.heal_each.ensures.goes setup s stands)
