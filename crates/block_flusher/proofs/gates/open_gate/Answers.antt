use Rattle.std.proofs.Common.{arith, add-zero}
use Rattle.block_flusher.proofs.Steps.{size_bounds, images_at, stands, alone_opened}
use Rattle.block_flusher.proofs.gates.open_gate.Goals as goal

pub write_part-requires-clause-within : goal.write_part-requires-clause-within
write_part-requires-clause-within g c = omega (arith, (size_bounds c.args.geometry.now c.requires.geometry).0, c.write_open.array_long)

pub returns-clause-gate : goal.returns-clause-gate
returns-clause-gate g c = λ told. stands c.write_part.result _ _ _ _ _ _ _ (add-zero _) c.write_open.array_long c.write_open.ensures (c.write_part.ensures.written told)

pub returns-clause-opened : goal.returns-clause-opened
returns-clause-opened g c = λ told. alone_opened c.args.geometry.now c.args.block c.write_part.result _ _ (returns-clause-gate g c told) (c.write_part.ensures.durable told)

pub returns-clause-images : goal.returns-clause-images
returns-clause-images g c = λ honest. images_at _ _ _ _ _ _ (add-zero _) c.write_open.array_long (c.write_part.ensures.images honest)
