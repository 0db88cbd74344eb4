use Rattle.arena_sprig.proofs.Trees.{IsHanging}
use Rattle.arena_sprig.proofs.walks.steps_to.Given as goal

abbrev pub invariant-loop-step : goal.invariant-loop-step
invariant-loop-step l = IsHanging l.arena.slots l.links.items l.at
