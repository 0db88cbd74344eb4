use Rattle.std.proofs.Common.{◌≡◌, ◌≤◌, length, max}
use Rattle.arena_sprig.proofs.growth.lengthen_sizes.Given as goal

abbrev pub invariant-loop-slot : goal.invariant-loop-slot
invariant-loop-slot l = record { reached : (length l.sizes.items ≡ l.slot); room : l.slots ≤ max l.slot l.sizes.capacity }
