-- A line at which a session may stop, and what is told there.
use Rattle.std.proofs.Common.{◌≡◌, ℕ, List, Option, Some, None}
use Rattle.line_proto.specs.declared.command.Command.{Command}
use Rattle.line_proto.specs.declared.reply.Reply.{Reply}
use Rattle.line_proto.specs.declared.reply.Reply.TheVariants.{Bye}
use Rattle.line_proto.specs.declared.line_end.LineEnd.{LineEnd}
use Rattle.node_session.specs.declared.stop.Stop.{Stop}
use Rattle.node_session.specs.declared.stop.Stop.TheVariants.{Quit as QuitStop, Memory as MemoryStop, Halted as HaltStop}
use Rattle.node_session.specs.HandedOn.{text_if}
use Rattle.node_session.specs.Turns.{Times, StopsAtLine}

module _ {T : Type 0} (acts : T → Command → ℕ → Reply → T → Type 0) (tends : T → T → Type 0) where
  -- what is told at a stop is the text of a reply, or nothing
  pub told_one : (line : LineEnd) (old : T) (times : Times) (last : List ℕ) (new : T) (later : Times) (stop : Stop)
      → StopsAtLine acts tends line old times last new later stop → (reply : Option Reply) × (last ≡ text_if reply)
  told_one line old times last new later QuitStop stops = (Some Bye, stops.1)
  told_one line old times last new later MemoryStop stops = (None, stops.2)
  told_one line old times last new later HaltStop stops = (None, stops.1)
