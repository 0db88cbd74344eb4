use Rattle.std.proofs.Common.{◌≡◌, ◌≤◌, length, max}
use Rattle.arena_sprig.specs.Growth.{IsLonger}
use Rattle.arena_sprig.proofs.growth.lengthen.Given as goal

abbrev pub invariant-loop-slot : goal.invariant-loop-slot
invariant-loop-slot l = record {
  reached : (length l.links.items ≡ l.slot);
  room : l.slots ≤ max l.slot l.links.capacity;
  kept : IsLonger l.initial.links.items l.links.items;
  few : l.slot ≤ max (length l.fn.links.items) l.slots;
}
