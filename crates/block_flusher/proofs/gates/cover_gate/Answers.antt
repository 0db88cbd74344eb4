use Rattle.std.proofs.Common.{arith, refl}
use Rattle.block_flusher.proofs.Steps.{size_bounds, images_at, stands}
use Rattle.block_flusher.proofs.gates.cover_gate.Goals as goal

pub write_unsynced-requires-clause-within : goal.write_unsynced-requires-clause-within
write_unsynced-requires-clause-within g c = omega (arith, (size_bounds c.args.geometry.now c.requires.geometry).0, c.write_closed.array_long)

pub returns-clause-gate : goal.returns-clause-gate
returns-clause-gate g c = λ told. stands c.write_unsynced.result _ _ _ _ _ _ _ refl c.write_closed.array_long c.write_closed.ensures (c.write_unsynced.ensures.written told)

pub returns-clause-images : goal.returns-clause-images
returns-clause-images g c = λ honest. images_at _ _ _ _ _ _ refl c.write_closed.array_long (c.write_unsynced.ensures.images honest)
