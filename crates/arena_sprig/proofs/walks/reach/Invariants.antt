use Rattle.arena_sprig.specs.Tree.{entries_from, IsWayDown}
use Rattle.arena_sprig.proofs.walks.reach.Given as goal

abbrev pub invariant-loop-step : goal.invariant-loop-step
invariant-loop-step l = IsWayDown l.arena.slots l.links.items l.root (entries_from l.count l.arena.slots l.links.items l.root) l.digest l.gap l.at l.step l.count
