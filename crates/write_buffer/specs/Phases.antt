-- The phases of a write buffer, in the order in which it passes through them.
use Rattle.std.specs.Prelude.{ℕ, nat_lt, if◌then◌else◌}
use Rattle.write_buffer.specs.declared.phase.Phase.{Phase}
use Rattle.write_buffer.specs.declared.phase.Phase.TheVariants.{Filling, Sealed, BodyDone, GateBegun}

abbrev pub phase_rank : Phase → ℕ
phase_rank Filling = 0
phase_rank Sealed = 1
phase_rank BodyDone = 2
phase_rank GateBegun = 3

abbrev pub later_phase : Phase → Phase → Phase
later_phase a b = if nat_lt (phase_rank a) (phase_rank b) then b else a
