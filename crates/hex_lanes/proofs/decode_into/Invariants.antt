use Rattle.std.proofs.Common.{◌≡◌, ◌*◌, ◌-◌, ◌≤◌, ◌<◌, take, drop, length}
use Rattle.hex.specs.Hex.{decode_pairs}
use Rattle.hex.proofs.Pairs.{prepend}
use Rattle.hex_lanes.proofs.decode_into.Given as goal

abbrev pub invariant-chunks : goal.invariant-chunks
invariant-chunks l =
    (l.at ≤ length l.bytes) × (0 < l.step) × (l.step ≤ 16)
    × (length l.text ≡ 2 * length l.bytes)
    × (decode_pairs 0 l.text ≡ prepend (take l.at l.bytes) (decode_pairs (2 * l.at) (drop (2 * l.at) l.text)))

abbrev pub decreases-chunks : goal.decreases-chunks
decreases-chunks l = length l.bytes - l.at
