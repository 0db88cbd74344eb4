use Rattle.block_shelf.proofs.OverDead.{goes_low, low_sealed, high_stays}
use Rattle.block_shelf.proofs.shelf.Shelf.seal_low.Goals as goal

pub returns-clause-sealed : goal.returns-clause-sealed
returns-clause-sealed g c setup s is stands books =
    let d = g.D.Disk in
    let law = g.met.D.Disk in
    let old = c.args.self.now in
    let mid = c.seal_where_low.new.self in
    goes_low d.view old mid c.seal_where_low-2.new.self c.seal_where_low.ensures.whole c.seal_where_low-2.ensures.whole setup s is stands books (law.is_disk old.disk) (law.is_disk mid.disk)
    c.seal_where_low.ensures.sealed c.seal_where_low-2.ensures.sealed

pub returns-clause-low : goal.returns-clause-low
returns-clause-low g c b there low =
    low_sealed c.args.self.now c.seal_where_low.new.self c.seal_where_low-2.new.self c.seal_where_low.ensures.sealed c.seal_where_low-2.ensures.sealed b there low

pub returns-clause-enough : goal.returns-clause-enough
returns-clause-enough g c b there high =
    high_stays c.args.self.now c.seal_where_low.new.self c.seal_where_low-2.new.self c.seal_where_low.ensures.sealed c.seal_where_low-2.ensures.sealed b there high
