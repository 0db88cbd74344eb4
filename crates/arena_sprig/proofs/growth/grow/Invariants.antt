use Rattle.std.proofs.Common.{◌≤◌}
use Rattle.arena_sprig.specs.Growth.{IsGrown}
use Rattle.arena_sprig.proofs.growth.grow.Given as goal

abbrev pub invariant-loop-step : goal.invariant-loop-step
invariant-loop-step l = record { enough : l.step ≤ l.arena.spare; grown : IsGrown l.fn.arena l.fn.links.items l.arena l.links.items }
