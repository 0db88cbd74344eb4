use Rattle.std.proofs.Common.{List, ℕ, Bor, Option, option_map, sym, ◌∙◌, ap, subst, refl, Some}
use Rattle.line_proto.specs.Stream.{as_end}
use Rattle.line_proto.specs.declared.command.Command.TheVariants.{Quit}
use Rattle.node_session.specs.Turns.{IsCommand}
use Rattle.node_session.proofs.turn.answer.Goals as goal

pub returns-in-Quit : goal.returns-in-Quit
returns-in-Quit g c =
    let is_line = (c.in-Ok-Some.ensures.exact Quit).0 (c.in-Ok-Some.field-0-is ∙ ap Some c.in-Quit.is) in (
      record {
        is_quit = subst (λ (line : Option (Bor (List ℕ))). IsCommand (as_end (option_map (λ bytes. bytes.now) line)) Quit) (sym c.in-Some.is) is_line;
        farewell = refl;
        same_store = refl;
        now = c.now_ms.result;
        ticks = c.now_ms.ensures;
      },
      refl,
    )
