use Rattle.std.proofs.Common.{rules, arith}
use Rattle.block_flusher.proofs.Steps.{no_other}
use Rattle.block_flusher.proofs.place.write_unsynced.Goals as goal

pub returns-clause-images : goal.returns-clause-images
returns-clause-images g c = search rules

pub returns-clause-others : goal.returns-clause-others
returns-clause-others g c = λ honest.
    no_other c.args.geometry.now c.args.block _ _ _ _ (omega arith) (omega (arith, c.requires.within)) (returns-clause-images g c honest)
