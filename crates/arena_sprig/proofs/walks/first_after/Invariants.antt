use Rattle.arena_sprig.specs.Tree.{entries_from}
use Rattle.arena_sprig.proofs.After.{IsOnTheWayAfter}
use Rattle.arena_sprig.proofs.walks.first_after.Given as goal

abbrev pub invariant-loop-step : goal.invariant-loop-step
invariant-loop-step l = IsOnTheWayAfter l.arena.slots l.links (entries_from l.count l.arena.slots l.links l.root) l.digest l.next l.at l.step l.count
