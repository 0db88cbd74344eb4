-- A session over a store is one over each pair of weaker relations. So a store may say several things of its calls at once.
use Rattle.std.proofs.Common.{ℕ, List, [], ◌∷◌, inl, inr}
use Rattle.std.specs.Prelude.{Option}
use Rattle.line_proto.specs.declared.command.Command.{Command}
use Rattle.line_proto.specs.declared.reply.Reply.{Reply}
use Rattle.line_proto.specs.declared.line_end.LineEnd.{LineEnd}
use Rattle.node_session.specs.declared.stop.Stop.{Stop}
use Rattle.node_session.specs.declared.stop.Stop.TheVariants.{Quit as QuitStop, Memory as MemoryStop, Halted as HaltStop}
use Rattle.node_session.specs.declared.ended.Ended.{Ended}
use Rattle.node_session.specs.declared.ended.Ended.TheVariants.{Finish, Quit, SourceFault, SinkFault, Memory, Halted, Long}
use Rattle.node_session.specs.Turns.{Times, Answers, WholeTurn, Turns, TurnAny, HasTurns, StopsAtLine}
use Rattle.node_session.specs.Session.{HasWholeTurns, HasAllTurns, HasFirstTurns, HasSomeTurns, StopsAfter, EndsSo, Ran}

module _ {T : Type 0} (acts weak : T → Command → ℕ → Reply → T → Type 0) (tends weakly : T → T → Type 0)
    (act_more : (old : T) (c : Command) (now : ℕ) (r : Reply) (new : T) → acts old c now r new → weak old c now r new)
    (tend_more : (old new : T) → tends old new → weakly old new) where
  answers_more : (line : LineEnd) (old : T) (times : Times) (r : Reply) (new : T) (later : Times) → Answers acts line old times r new later → Answers weak line old times r new later
  answers_more line old times r new later (inl carries) = inl (record {
    command = carries.command;
    now = carries.now;
    is_command = carries.is_command;
    goes_on = carries.goes_on;
    ticks = carries.ticks;
    acted = act_more _ _ _ _ _ carries.acted;
  })
  answers_more line old times r new later (inr declines) = inr declines

  turn_more : (line : LineEnd) (old : T) (times : Times) (r : Reply) (new : T) (later : Times) → WholeTurn acts tends line old times r new later → WholeTurn weak weakly line old times r new later
  turn_more line old times r new later turn = record {
    answered = turn.answered;
    answer = answers_more line old times r turn.answered later turn.answer;
    no_halt = turn.no_halt;
    tended = tend_more _ _ turn.tended;
  }

  any_more : (line : LineEnd) (old : T) (times : Times) (r : Reply) (new : T) (later : Times) → TurnAny acts tends line old times r new later → TurnAny weak weakly line old times r new later
  any_more line old times r new later (inl turn) = inl (turn_more line old times r new later turn)
  any_more line old times r new later (inr quits) = inr quits

  turns_more : (lines : List LineEnd) (rs : List Reply) (old : T) (times : Times) (new : T) (later : Times) → Turns acts tends lines old times rs new later
      → Turns weak weakly lines old times rs new later
  turns_more [] [] old times new later turns = turns
  turns_more (line ∷ lines) (r ∷ rs) old times new later turns = (turns.0, turns.1, turn_more line old times r turns.0 turns.1 turns.2, turns_more lines rs turns.0 turns.1 new later turns.3)
  turns_more [] (r ∷ rs) old times new later turns = absurd turns
  turns_more (line ∷ lines) [] old times new later turns = absurd turns

  serves_more : (lines : List LineEnd) (old : T) (times : Times) (output : List ℕ) (new : T) (later : Times) → HasTurns acts tends lines old times output new later
      → HasTurns weak weakly lines old times output new later
  serves_more lines old times output new later serves = record { replies = serves.replies; turns = turns_more lines serves.replies old times new later serves.turns; told = serves.told }

  stops_more : (line : LineEnd) (old : T) (times : Times) (last : List ℕ) (new : T) (later : Times) (stop : Stop) → StopsAtLine acts tends line old times last new later stop
      → StopsAtLine weak weakly line old times last new later stop
  stops_more line old times last new later QuitStop stops = stops
  stops_more line old times last new later MemoryStop stops = (stops.0, any_more line old times stops.0 new later stops.1, stops.2)
  stops_more line old times last new later HaltStop stops = (answers_more line old times _ new later stops.0, stops.1)

  after_more : (bytes : List ℕ) (left : Option (List ℕ)) (n : ℕ) (old : T) (times : Times) (output : List ℕ) (new : T) (later : Times) (stop : Stop)
      → StopsAfter acts tends bytes left n old times output new later stop → StopsAfter weak weakly bytes left n old times output new later stop
  after_more bytes left n old times output new later stop s = record {
    lines = s.lines;
    rest = s.rest;
    whole = s.whole;
    each = s.each;
    counted = s.counted;
    told = s.told;
    mid = s.mid;
    then = s.then;
    serves = serves_more _ old times s.told s.mid s.then s.serves;
    line = s.line;
    takes_up = s.takes_up;
    last = s.last;
    stops = stops_more s.line s.mid s.then s.last new later stop s.stops;
    all = s.all;
  }

  whole_more : (bytes : List ℕ) (old : T) (times : Times) (output : List ℕ) (new : T) (later : Times) → HasWholeTurns acts tends bytes old times output new later
      → HasWholeTurns weak weakly bytes old times output new later
  whole_more bytes old times output new later s = record { lines = s.lines; rest = s.rest; falls = s.falls; serves = serves_more _ old times output new later s.serves }

  all_more : (bytes : List ℕ) (left : Option (List ℕ)) (n : ℕ) (old : T) (times : Times) (output : List ℕ) (new : T) (later : Times)
      → HasAllTurns acts tends bytes left n old times output new later → HasAllTurns weak weakly bytes left n old times output new later
  all_more bytes left n old times output new later s = record
      { lines = s.lines; rest = s.rest; falls = s.falls; at_end = s.at_end; counted = s.counted; serves = serves_more _ old times output new later s.serves }

  first_more : (bytes : List ℕ) (old : T) (times : Times) (output : List ℕ) (new : T) (later : Times) → HasFirstTurns acts tends bytes old times output new later
      → HasFirstTurns weak weakly bytes old times output new later
  first_more bytes old times output new later s = record { lines = s.lines; rest = s.rest; whole = s.whole; each = s.each; serves = serves_more _ old times output new later s.serves }

  some_more : (bytes : List ℕ) (left : Option (List ℕ)) (old : T) (times : Times) (output : List ℕ) (new : T) (later : Times)
      → HasSomeTurns acts tends bytes left old times output new later → HasSomeTurns weak weakly bytes left old times output new later
  some_more bytes left old times output new later (inl s) = inl (first_more bytes old times output new later s)
  some_more bytes left old times output new later (inr (inl s)) = inr (inl (s.0, all_more bytes left s.0 old times output new later s.1))
  some_more bytes left old times output new later (inr (inr s)) = inr (inr (s.0, s.1, after_more bytes left s.0 old times output new later s.1 s.2))

  pub ends_more : (limit : ℕ) (bytes : List ℕ) (left : Option (List ℕ)) (old : T) (times : Times) (output : List ℕ) (new : T) (later : Times) (result : Ended)
      → EndsSo acts tends limit bytes left old times output new later result → EndsSo weak weakly limit bytes left old times output new later result
  ends_more limit bytes left old times output new later (Finish n) (short, s) = (short, all_more bytes left n old times output new later s)
  ends_more limit bytes left old times output new later (Quit n) (m, is, s) = (m, is, after_more bytes left m old times output new later QuitStop s)
  ends_more limit bytes left old times output new later SourceFault (short, s) = (short, whole_more bytes old times output new later s)
  ends_more limit bytes left old times output new later SinkFault (text, short, s) = (text, short, some_more bytes left old times text new later s)
  ends_more limit bytes left old times output new later Memory (inl s) = inl (first_more bytes old times output new later s)
  ends_more limit bytes left old times output new later Memory (inr s) = inr (s.0, after_more bytes left s.0 old times output new later MemoryStop s.1)
  ends_more limit bytes left old times output new later Halted (m, s) = (m, after_more bytes left m old times output new later HaltStop s)
  ends_more limit bytes left old times output new later (Long n) (is, count, s) = (is, count, whole_more bytes old times output new later s)

  -- of the same bytes and the same output
  abbrev pub ran_more : (limit : ℕ) (taken taken' : List ℕ) (left left' : Option (List ℕ)) (written written' : Option (List ℕ)) (old new : T) (times later : Times) (result : Ended)
      → Ran acts tends limit taken taken' left left' written written' old new times later result → Ran weak weakly limit taken taken' left left' written written' old new times later result
  ran_more limit taken taken' left left' written written' old new times later result ran = record {
    bytes = ran.bytes;
    output = ran.output;
    takes = ran.takes;
    shortens = ran.shortens;
    extends = ran.extends;
    within = ran.within;
    ends = ends_more limit ran.bytes left' old times ran.output new later result ran.ends;
  }
