use Rattle.std.proofs.Common.{◌≡◌, ◌+◌, ◌-◌, ◌≤◌, ◌++◌, length, take}
use Rattle.std.specs.Prelude.{slice_get}
use Rattle.shard_core.specs.Finding.{live_places}
use Rattle.shard_core.proofs.sprigs.push_copies.Given as goal

abbrev pub invariant-loop-next : goal.invariant-loop-next
invariant-loop-next l = record {
  grown : length l.fn.live.items ≤ length l.live.items;
  pushed : l.live.items ≡ l.fn.live.items ++ live_places (take (length l.live.items - length l.fn.live.items) l.sprig.entries);
  next : l.next ≡ slice_get l.sprig.entries (length l.live.items - length l.fn.live.items);
}

abbrev pub decreases-loop-next : goal.decreases-loop-next
decreases-loop-next l = length l.fn.live.items + length l.sprig.entries - length l.live.items
