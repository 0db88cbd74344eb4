use Rattle.std.proofs.Common.{◌≡◌, ◌*◌, ◌-◌, ◌≤◌, ◌<◌, ◌++◌, take, drop, length}
use Rattle.hex.specs.Hex.{encode_lower}
use Rattle.hex_lanes.proofs.encode_into.Given as goal

abbrev pub invariant-chunks : goal.invariant-chunks
invariant-chunks l =
    (l.at ≤ length l.bytes) × (0 < l.step) × (l.step ≤ 16)
    × (length l.text ≡ 2 * length l.bytes)
    × (take (2 * l.at) l.text ++ encode_lower (drop l.at l.bytes) ≡ encode_lower l.bytes)

abbrev pub decreases-chunks : goal.decreases-chunks
decreases-chunks l = length l.bytes - l.at
