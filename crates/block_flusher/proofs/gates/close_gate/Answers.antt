use Rattle.std.proofs.Common.{arith, add-zero}
use Rattle.block_flusher.proofs.Steps.{size_bounds, images_at, stands, alone_shut}
use Rattle.block_flusher.proofs.gates.close_gate.Goals as goal

pub write_part-requires-clause-within : goal.write_part-requires-clause-within
write_part-requires-clause-within g c = omega (arith, (size_bounds c.args.geometry.now c.requires.geometry).0, c.write_closed.array_long)

pub returns-clause-gate : goal.returns-clause-gate
returns-clause-gate g c = λ told. stands c.write_part.result _ _ _ _ _ _ _ (add-zero _) c.write_closed.array_long c.write_closed.ensures (c.write_part.ensures.written told)

pub returns-clause-shut : goal.returns-clause-shut
returns-clause-shut g c = λ told. alone_shut c.args.geometry.now c.args.block c.write_part.result _ _ (returns-clause-gate g c told) (c.write_part.ensures.durable told)

pub returns-clause-images : goal.returns-clause-images
returns-clause-images g c = λ honest. images_at _ _ _ _ _ _ (add-zero _) c.write_closed.array_long (c.write_part.ensures.images honest)
