use Rattle.std.proofs.Common.{◌≡◌, ◌+◌, ◌≤◌, max}
use Rattle.entry_arena.specs.State.{Grows}
use Rattle.entry_arena.proofs.arena.Arena.reserve.Given as goal

abbrev pub invariant-loop-puts : goal.invariant-loop-puts
invariant-loop-puts l = (l.puts ≤ l.self.spare) × Grows l.fn.self l.self × (l.self.spare ≤ max l.fn.self.spare (l.fn.n + 4095)) × (l.fn.n ≤ l.fn.self.spare → l.self ≡ l.fn.self)
