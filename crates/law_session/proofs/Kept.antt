-- What each call of a store keeps, a session over it keeps: a relation that holds of a store with itself, and over one step and the next.
use Rattle.std.proofs.Common.{◌≡◌, ℕ, List, [], ◌∷◌, inl, inr, subst, sym}
use Rattle.std.specs.Prelude.{Option}
use Rattle.line_proto.specs.declared.command.Command.{Command}
use Rattle.line_proto.specs.declared.reply.Reply.{Reply}
use Rattle.line_proto.specs.declared.line_end.LineEnd.{LineEnd}
use Rattle.node_session.specs.declared.stop.Stop.{Stop}
use Rattle.node_session.specs.declared.stop.Stop.TheVariants.{Quit as QuitStop, Memory as MemoryStop, Halted as HaltStop}
use Rattle.node_session.specs.declared.ended.Ended.{Ended}
use Rattle.node_session.specs.declared.ended.Ended.TheVariants.{Finish, Quit, SourceFault, SinkFault, Memory, Halted, Long}
use Rattle.node_session.specs.Turns.{Times, Answers, WholeTurn, Turns, TurnAny, StopsAtLine}
use Rattle.node_session.specs.Session.{HasSomeTurns, StopsAfter, EndsSo, Ran}

module _ {T : Type 0} (acts : T → Command → ℕ → Reply → T → Type 0) (tends : T → T → Type 0)
    (Kept : T → T → Type 0) (none : (store : T) → Kept store store) (then : (old mid new : T) → Kept old mid → Kept mid new → Kept old new)
    (act_keeps : (old : T) (c : Command) (now : ℕ) (r : Reply) (new : T) → acts old c now r new → Kept old new)
    (tend_keeps : (old new : T) → tends old new → Kept old new) where
  same_kept : (old new : T) → new ≡ old → Kept old new
  same_kept old new same = subst (Kept old) (sym same) (none old)

  answer_kept : (line : LineEnd) (old : T) (times : Times) (r : Reply) (new : T) (later : Times) → Answers acts line old times r new later → Kept old new
  answer_kept line old times r new later (inl carries) = act_keeps old carries.command _ r new carries.acted
  answer_kept line old times r new later (inr declines) = same_kept old new declines.same_store

  turn_kept : (line : LineEnd) (old : T) (times : Times) (r : Reply) (new : T) (later : Times) → WholeTurn acts tends line old times r new later → Kept old new
  turn_kept line old times r new later turn = then old turn.answered new (answer_kept line old times r turn.answered later turn.answer) (tend_keeps turn.answered new turn.tended)

  any_kept : (line : LineEnd) (old : T) (times : Times) (r : Reply) (new : T) (later : Times) → TurnAny acts tends line old times r new later → Kept old new
  any_kept line old times r new later (inl turn) = turn_kept line old times r new later turn
  any_kept line old times r new later (inr quits) = same_kept old new quits.same_store

  turns_kept : (lines : List LineEnd) (rs : List Reply) (old : T) (times : Times) (new : T) (later : Times) → Turns acts tends lines old times rs new later → Kept old new
  turns_kept [] [] old times new later turns = same_kept old new turns.0
  turns_kept (line ∷ lines) (r ∷ rs) old times new later turns = then old turns.0 new (turn_kept line old times r turns.0 turns.1 turns.2) (turns_kept lines rs turns.0 turns.1 new later turns.3)
  turns_kept [] (r ∷ rs) old times new later turns = absurd turns
  turns_kept (line ∷ lines) [] old times new later turns = absurd turns

  stops_kept : (line : LineEnd) (old : T) (times : Times) (last : List ℕ) (new : T) (later : Times) (stop : Stop) → StopsAtLine acts tends line old times last new later stop → Kept old new
  stops_kept line old times last new later QuitStop stops = same_kept old new stops.0.same_store
  stops_kept line old times last new later MemoryStop stops = any_kept line old times stops.0 new later stops.1
  stops_kept line old times last new later HaltStop stops = answer_kept line old times _ new later stops.0

  after_kept : (bytes : List ℕ) (left : Option (List ℕ)) (n : ℕ) (old : T) (times : Times) (output : List ℕ) (new : T) (later : Times) (stop : Stop)
      → StopsAfter acts tends bytes left n old times output new later stop → Kept old new
  after_kept bytes left n old times output new later stop s =
      then old s.mid new (turns_kept _ s.serves.replies old times s.mid s.then s.serves.turns) (stops_kept s.line s.mid s.then s.last new later stop s.stops)

  some_kept : (bytes : List ℕ) (left : Option (List ℕ)) (old : T) (times : Times) (output : List ℕ) (new : T) (later : Times)
      → HasSomeTurns acts tends bytes left old times output new later → Kept old new
  some_kept bytes left old times output new later (inl s) = turns_kept _ s.serves.replies old times new later s.serves.turns
  some_kept bytes left old times output new later (inr (inl s)) = turns_kept _ s.1.serves.replies old times new later s.1.serves.turns
  some_kept bytes left old times output new later (inr (inr s)) = after_kept bytes left s.0 old times output new later s.1 s.2

  ends_kept : (limit : ℕ) (bytes : List ℕ) (left : Option (List ℕ)) (old : T) (times : Times) (output : List ℕ) (new : T) (later : Times) (result : Ended)
      → EndsSo acts tends limit bytes left old times output new later result → Kept old new
  ends_kept limit bytes left old times output new later (Finish n) (short, s) = turns_kept _ s.serves.replies old times new later s.serves.turns
  ends_kept limit bytes left old times output new later (Quit n) (m, is, s) = after_kept bytes left m old times output new later QuitStop s
  ends_kept limit bytes left old times output new later SourceFault (short, s) = turns_kept _ s.serves.replies old times new later s.serves.turns
  ends_kept limit bytes left old times output new later SinkFault (text, short, s) = some_kept bytes left old times text new later s
  ends_kept limit bytes left old times output new later Memory (inl s) = turns_kept _ s.serves.replies old times new later s.serves.turns
  ends_kept limit bytes left old times output new later Memory (inr s) = after_kept bytes left s.0 old times output new later MemoryStop s.1
  ends_kept limit bytes left old times output new later Halted (m, s) = after_kept bytes left m old times output new later HaltStop s
  ends_kept limit bytes left old times output new later (Long n) (is, count, s) = turns_kept _ s.serves.replies old times new later s.serves.turns

  pub ran_keeps : (limit : ℕ) (taken taken' : List ℕ) (left left' : Option (List ℕ)) (written written' : Option (List ℕ)) (old new : T) (times later : Times) (result : Ended)
      → Ran acts tends limit taken taken' left left' written written' old new times later result → Kept old new
  ran_keeps limit taken taken' left left' written written' old new times later result ran = ends_kept limit ran.bytes left' old times ran.output new later result ran.ends
