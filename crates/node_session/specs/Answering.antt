-- Crate node_session. How a line is answered, and which replies wait then.
use Rattle.std.specs.Prelude.{◌≡◌, ◌≢◌, ℕ, List, ◌++◌}
use Rattle.line_proto.specs.declared.command.Command.{Command}
use Rattle.line_proto.specs.declared.reply.Reply.{Reply}
use Rattle.line_proto.specs.declared.reply.Reply.TheVariants.{Bye, Halted}
use Rattle.line_proto.specs.declared.line_end.LineEnd.{LineEnd}
use Rattle.line_proto.specs.Lines.{reply_text}
use Rattle.node_session.specs.declared.turn.Answered.{Answered}
use Rattle.node_session.specs.declared.turn.Answered.TheVariants.{Printed, Unprinted, Quit}
use Rattle.node_session.specs.Turns.{Times, Answers, Quits}

-- Of this answer the reply waits behind the others, or none was added to them yet.
abbrev pub IsAnswered : {T : Type 0} → (T → Command → ℕ → Reply → T → Type 0) → LineEnd → T → Times → List ℕ → Answered → T → Times → List ℕ → Type 0
IsAnswered acts line old times waiting Printed new later waiting' =
    (reply : Reply) × Answers acts line old times reply new later × (reply ≢ Halted) × (waiting' ≡ waiting ++ reply_text reply)
IsAnswered acts line old times waiting (Unprinted reply) new later waiting' = Answers acts line old times reply new later × (waiting' ≡ waiting)
IsAnswered acts line old times waiting Quit new later waiting' = Quits line old times Bye new later × (waiting' ≡ waiting)
