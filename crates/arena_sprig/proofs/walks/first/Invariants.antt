use Rattle.arena_sprig.specs.Tree.{entries_from}
use Rattle.arena_sprig.proofs.After.{IsOnTheWayFirst}
use Rattle.arena_sprig.proofs.walks.first.Given as goal

abbrev pub invariant-loop-step : goal.invariant-loop-step
invariant-loop-step l = IsOnTheWayFirst l.arena.slots l.links (entries_from l.count l.arena.slots l.links l.root) l.next l.at l.step l.count
