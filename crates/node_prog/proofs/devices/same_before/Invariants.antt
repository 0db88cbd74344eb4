use Rattle.std.proofs.Common.{◌≡◌, ℕ, List, slice_get, Some}
use Rattle.node_prog.specs.Undone.{StandsApart}
use Rattle.node_prog.proofs.devices.same_before.Given as goal

abbrev pub invariant-loop-other : goal.invariant-loop-other
invariant-loop-other g l = (name : List ℕ) → slice_get l.names l.at ≡ Some name → StandsApart (g.D.Devices.known l.devices) l.names name l.other
