-- Crate node_session. How a session ends, over the bytes that it took.
use Rattle.std.specs.Prelude.{◌≡◌, ◌⊎◌, ℕ, ◌+◌, ◌<◌, ◌≤◌, List, [], ◌∷◌, ◌++◌, length, map, Option}
use Rattle.std.specs.List.{AllByRecursion, flat_map}
use Rattle.io_traits.specs.Source.{IsAtEnd, Shortens}
use Rattle.io_traits.specs.Sink.{Extends}
use Rattle.line_proto.specs.declared.command.Command.{Command}
use Rattle.line_proto.specs.declared.reply.Reply.{Reply}
use Rattle.line_proto.specs.declared.line_end.LineEnd.{LineEnd}
use Rattle.line_proto.specs.declared.line_end.LineEnd.TheVariants.{TooLong}
use Rattle.line_proto.specs.Stream.{IsOneLine, ended, line_end, FallInto}
use Rattle.node_session.specs.declared.stop.Stop.{Stop}
use Rattle.node_session.specs.declared.stop.Stop.TheVariants.{Quit as QuitStop, Memory as MemoryStop, Halted as HaltStop}
use Rattle.node_session.specs.declared.ended.Ended.{Ended}
use Rattle.node_session.specs.declared.ended.Ended.TheVariants.{Finish, Quit, SourceFault, SinkFault, Memory, Halted, Long}
use Rattle.line_proto.specs.Lines.{reply_text}
use Rattle.node_session.specs.HandedOn.{FallsShort}
use Rattle.node_session.specs.Turns.{Times, WholeTurn, HasTurns, StopsAtLine}

-- What a rest without LF counts as at the end of the input: nothing where it is empty, else a line that is no command.
abbrev pub unended : List ℕ → List LineEnd
unended [] = []
unended (byte ∷ rest) = TooLong ∷ []

-- The first of these bytes are taken up as one line: a whole one, or at the end of the input a rest without LF.
pub record TakesUp (left : Option (List ℕ)) (bytes : List ℕ) (line : LineEnd) : Type 0 where
  pub how : ((text : List ℕ) × (after : List ℕ) × (bytes ≡ ended text ++ after) × IsOneLine text × (line ≡ line_end text))
      ⊎ (IsOneLine bytes × (0 < length bytes) × IsAtEnd left × (line ≡ TooLong))

-- All whole lines of the bytes have had their turns.
pub record HasWholeTurns {T : Type 0} (acts : T → Command → ℕ → Reply → T → Type 0) (tends : T → T → Type 0) (bytes : List ℕ) (old : T) (times : Times) (output : List ℕ) (new : T) (later : Times) : Type 0 where
  pub lines : List (List ℕ)
  pub rest : List ℕ
  pub falls : FallInto bytes lines rest
  pub serves : HasTurns acts tends (map line_end lines) old times output new later

-- All of the bytes have had their turns, up to the end of the input, n of them.
pub record HasAllTurns {T : Type 0} (acts : T → Command → ℕ → Reply → T → Type 0) (tends : T → T → Type 0) (bytes : List ℕ) (left : Option (List ℕ)) (n : ℕ) (old : T) (times : Times) (output : List ℕ) (new : T) (later : Times) : Type 0 where
  pub lines : List (List ℕ)
  pub rest : List ℕ
  pub falls : FallInto bytes lines rest
  pub at_end : IsAtEnd left
  pub counted : n ≡ length lines + length (unended rest)
  pub serves : HasTurns acts tends (map line_end lines ++ unended rest) old times output new later

-- The first lines of the bytes have had their turns, and no more was begun.
pub record HasFirstTurns {T : Type 0} (acts : T → Command → ℕ → Reply → T → Type 0) (tends : T → T → Type 0) (bytes : List ℕ) (old : T) (times : Times) (output : List ℕ) (new : T) (later : Times) : Type 0 where
  pub lines : List (List ℕ)
  pub rest : List ℕ
  pub whole : bytes ≡ flat_map ended lines ++ rest
  pub each : AllByRecursion IsOneLine lines
  pub serves : HasTurns acts tends (map line_end lines) old times output new later

-- The first lines of the bytes have had their turns, n of them, and at the next the session stops.
pub record StopsAfter {T : Type 0} (acts : T → Command → ℕ → Reply → T → Type 0) (tends : T → T → Type 0) (bytes : List ℕ) (left : Option (List ℕ)) (n : ℕ) (old : T) (times : Times) (output : List ℕ) (new : T) (later : Times) (stop : Stop) : Type 0 where
  pub lines : List (List ℕ)
  pub rest : List ℕ
  pub whole : bytes ≡ flat_map ended lines ++ rest
  pub each : AllByRecursion IsOneLine lines
  pub counted : n ≡ length lines
  pub told : List ℕ
  pub mid : T
  pub then : Times
  pub serves : HasTurns acts tends (map line_end lines) old times told mid then
  pub line : LineEnd
  pub takes_up : TakesUp left rest line
  pub last : List ℕ
  pub stops : StopsAtLine acts tends line mid then last new later stop
  pub all : output ≡ told ++ last

-- Some lines of the bytes have had their turns, from the first on: whole ones, or all up to the end of the input, or up to one at
-- which the session stops.
abbrev pub HasSomeTurns : {T : Type 0} → (T → Command → ℕ → Reply → T → Type 0) → (T → T → Type 0) → List ℕ → Option (List ℕ) → T → Times → List ℕ → T → Times → Type 0
HasSomeTurns acts tends bytes left old times output new later =
    HasFirstTurns acts tends bytes old times output new later
    ⊎ ((n : ℕ) × HasAllTurns acts tends bytes left n old times output new later)
    ⊎ ((n : ℕ) × (stop : Stop) × StopsAfter acts tends bytes left n old times output new later stop)

-- What each end means. At a fault of the sink the output is the front of the replies, else it is all of them.
abbrev pub EndsSo : {T : Type 0} → (T → Command → ℕ → Reply → T → Type 0) → (T → T → Type 0) → ℕ → List ℕ → Option (List ℕ) → T → Times → List ℕ → T → Times → Ended → Type 0
EndsSo acts tends limit bytes left old times output new later (Finish n) = (length bytes < limit) × HasAllTurns acts tends bytes left n old times output new later
EndsSo acts tends limit bytes left old times output new later (Quit n) = (m : ℕ) × (n ≡ m + 1) × StopsAfter acts tends bytes left m old times output new later QuitStop
EndsSo acts tends limit bytes left old times output new later SourceFault = (length bytes < limit) × HasWholeTurns acts tends bytes old times output new later
EndsSo acts tends limit bytes left old times output new later SinkFault = (text : List ℕ) × FallsShort text output × HasSomeTurns acts tends bytes left old times text new later
EndsSo acts tends limit bytes left old times output new later Memory = HasFirstTurns acts tends bytes old times output new later ⊎ ((m : ℕ) × StopsAfter acts tends bytes left m old times output new later MemoryStop)
EndsSo acts tends limit bytes left old times output new later Halted = (m : ℕ) × StopsAfter acts tends bytes left m old times output new later HaltStop
EndsSo acts tends limit bytes left old times output new later (Long n) = (n ≡ limit) × (length bytes ≡ limit) × HasWholeTurns acts tends bytes old times output new later

-- A session takes bytes from the source and gives output to the sink, and the one follows from the other through the store and the clock.
pub record Ran {T : Type 0} (acts : T → Command → ℕ → Reply → T → Type 0) (tends : T → T → Type 0) (limit : ℕ) (taken taken' : List ℕ) (left left' : Option (List ℕ)) (written written' : Option (List ℕ)) (old new : T) (times later : Times) (result : Ended) : Type 0 where
  pub bytes : List ℕ
  pub output : List ℕ
  pub takes : taken' ≡ taken ++ bytes
  pub shortens : Shortens left left' bytes
  pub extends : Extends written written' output
  pub within : length bytes ≤ limit
  pub ends : EndsSo acts tends limit bytes left' old times output new later result

-- the end of a session that stops at a line, after so many whole turns
abbrev pub ended_of : Stop → ℕ → Ended
ended_of QuitStop answered = Quit (answered + 1)
ended_of MemoryStop answered = Memory
ended_of HaltStop answered = Halted

-- A rest without LF has its turn, as the line after so many others, and the session would end so.
abbrev pub EndsAtRest : {T : Type 0} → (T → Command → ℕ → Reply → T → Type 0) → (T → T → Type 0) → (answered : ℕ) → T → Times → List ℕ → T → Times → Ended → Type 0
EndsAtRest acts tends answered old times text new later ended =
    ((reply : Reply) × WholeTurn acts tends TooLong old times reply new later × (text ≡ reply_text reply) × (ended ≡ Finish (answered + 1)))
    ⊎ ((stop : Stop) × StopsAtLine acts tends TooLong old times text new later stop × (ended ≡ ended_of stop answered))
