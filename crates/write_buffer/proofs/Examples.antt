-- Worked values: a phase doesn't fall.
use Rattle.std.proofs.Common.{◌≡◌, [], ◌∷◌, refl}
use Rattle.write_buffer.specs.declared.phase.Phase.TheVariants.{Filling, Sealed, BodyDone, GateBegun}
use Rattle.write_buffer.specs.Phases.{later_phase}

phases : later_phase Filling Sealed ∷ later_phase Sealed GateBegun ∷ later_phase GateBegun BodyDone ∷ later_phase BodyDone Sealed ∷ [] ≡ Sealed ∷ GateBegun ∷ GateBegun ∷ BodyDone ∷ []
phases = refl
