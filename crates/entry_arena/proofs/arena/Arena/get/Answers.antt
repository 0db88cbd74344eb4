use Rattle.std.proofs.Common.{◌≡◌, true, None, get_or, sym, ap, subst, ◌∙◌}
use Rattle.std.specs.Prelude.{is_some}
use Rattle.entry_arena.specs.State.{ArenaState}
use Rattle.entry_arena.proofs.arena.Arena.get.Goals as goal

pub get-requires : goal.get-requires
get-requires c = subst (λ (s : ArenaState). is_some (get_or s.slots c.args.slot None) ≡ true) (sym c.self.view_is) c.requires

pub returns : goal.returns
returns c = ap (λ (s : ArenaState). get_or s.slots c.args.slot None) (sym c.self.view_is) ∙ c.get.ensures
