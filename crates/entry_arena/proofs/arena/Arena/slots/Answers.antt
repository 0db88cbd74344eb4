use Rattle.std.proofs.Common.{ap, length, ◌∙◌}
use Rattle.entry_arena.specs.State.{ArenaState}
use Rattle.entry_arena.proofs.arena.Arena.slots.Goals as goal

pub returns : goal.returns
returns c = c.len.ensures ∙ ap (λ (s : ArenaState). length s.slots) c.self.view_is
