use Rattle.std.proofs.Common.{arith, refl}
use Rattle.block_flusher.proofs.Steps.{size_bounds, images_at, stays_shut, shut_kept}
use Rattle.block_flusher.proofs.body.write_body.Goals as goal

pub write_part-requires-clause-within : goal.write_part-requires-clause-within
write_part-requires-clause-within g c = omega (arith, (size_bounds c.args.geometry.now c.requires.geometry).0, c.requires.size)

pub returns-clause-shut : goal.returns-clause-shut
returns-clause-shut g c = λ honest.
    stays_shut c.args.geometry.now c.args.block _ _ (c.requires.shut honest)
    (images_at _ _ _ _ _ _ refl c.requires.size (c.write_part.ensures.images honest))

pub returns-clause-kept : goal.returns-clause-kept
returns-clause-kept g c = λ honest. shut_kept c.args.geometry.now c.args.block _ (returns-clause-shut g c honest)
