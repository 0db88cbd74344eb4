use Rattle.defrag_pass.proofs.Choosing.{chosen_few, makes_choice}
use Rattle.defrag_pass.proofs.choose.choose_step.Goals as goal

pub returns-clause-makes : goal.returns-clause-makes
returns-clause-makes g c setup s is stands =
    makes_choice g.D.Disk.view setup c.args.shelf.now c.vacate_next.new.self s stands c.vacate_next.result c.vacate_next.ensures.rest c.vacate_next.ensures.disk
    (g.met.D.Disk.is_disk c.vacate_next.new.self.disk) c.vacate_next.ensures.first (λ none. (c.vacate_next.ensures.idle none).0) c.vacate_next.ensures.told c.vacate_next.ensures.cause
    (λ honest safe. c.vacate_next.ensures.sound setup s honest stands.stands stands.queue safe)

pub returns-clause-low : goal.returns-clause-low
returns-clause-low g c setup s is stands =
    chosen_few g.D.Disk.view setup c.args.shelf.now s is stands c.geometry-shape.ensures.whole c.vacate_next.result c.vacate_next.ensures.first c.vacate_next.ensures.below

pub returns-clause-all : goal.returns-clause-all
returns-clause-all g c setup s honest stands holds = c.vacate_next.ensures.all setup s honest stands.stands stands.queue holds
