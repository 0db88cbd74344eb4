-- Crate node_session. What a session does: each line taken gets its reply, in order, from the store as the lines before it left it.
use Rattle.std.specs.Prelude.{◌≡◌, ◌≢◌, ◌⊎◌, ℕ, ◌^◌, min, List, [], ◌∷◌, ◌++◌, length, Option}
use Rattle.std.specs.List.{flat_map}
use Rattle.io_traits.specs.Clock.{Ticks}
use Rattle.line_proto.specs.declared.command.Command.{Command}
use Rattle.line_proto.specs.declared.command.Command.TheVariants.{Quit}
use Rattle.line_proto.specs.declared.reply.Reply.{Reply}
use Rattle.line_proto.specs.declared.reply.Reply.TheVariants.{Bye, Fail, Halted}
use Rattle.line_proto.specs.declared.reply.LineFault.TheVariants.{Line, Memory}
use Rattle.line_proto.specs.declared.line_end.LineEnd.{LineEnd}
use Rattle.line_proto.specs.declared.line_end.LineEnd.TheVariants.{Whole, TooLong}
use Rattle.line_proto.specs.Lines.{IsCommandLine, IsNoCommand, IsPutToData, reply_text}
use Rattle.node_session.specs.declared.stop.Stop.{Stop}
use Rattle.node_session.specs.declared.stop.Stop.TheVariants.{Quit as QuitStop, Memory as MemoryStop, Halted as HaltStop}

-- the times that a clock tells, where it tells them
abbrev pub Times : Type 0
Times = Option (List ℕ)

-- What is taken up in a line's place is no command: a line outside the grammar, one that is too long, or the input's end without an LF.
abbrev pub NamesNoCommand : LineEnd → Type 0
NamesNoCommand TooLong = Unit {0}
NamesNoCommand (Whole line) = IsNoCommand line

-- it is this command
abbrev pub IsCommand : LineEnd → Command → Type 0
IsCommand TooLong command = ⊥
IsCommand (Whole line) command = IsCommandLine line command

-- its reading takes memory, which only the data of a put does
abbrev pub MayLackMemory : LineEnd → Type 0
MayLackMemory TooLong = ⊥
MayLackMemory (Whole line) = IsPutToData line

-- The command, unless it is `quit`, is carried out at the clock's time.
pub record CarriesOut {T : Type 0} (acts : T → Command → ℕ → Reply → T → Type 0) (line : LineEnd) (old : T) (times : Times) (reply : Reply) (new : T) (later : Times) : Type 0 where
  pub command : Command
  pub now : ℕ
  pub is_command : IsCommand line command
  pub goes_on : command ≢ Quit
  pub ticks : Ticks times now later
  pub acted : acts old command (min now (2 ^ 61)) reply new

-- With no call to the store and the clock, a line that is no command gets `err line`, and a put for whose data there is no memory gets `err memory`.
pub record Declines {T : Type 0} (line : LineEnd) (old : T) (times : Times) (reply : Reply) (new : T) (later : Times) : Type 0 where
  pub same_store : new ≡ old
  pub same_times : later ≡ times
  pub why : (NamesNoCommand line × (reply ≡ Fail Line)) ⊎ (MayLackMemory line × (reply ≡ Fail Memory))

-- how a line that isn't `quit` is answered
abbrev pub Answers : {T : Type 0} → (T → Command → ℕ → Reply → T → Type 0) → LineEnd → T → Times → Reply → T → Times → Type 0
Answers acts line old times reply new later = CarriesOut acts line old times reply new later ⊎ Declines line old times reply new later

-- how `quit` is answered
pub record Quits {T : Type 0} (line : LineEnd) (old : T) (times : Times) (reply : Reply) (new : T) (later : Times) : Type 0 where
  pub is_quit : IsCommand line Quit
  pub farewell : reply ≡ Bye
  pub same_store : new ≡ old
  pub now : ℕ
  pub ticks : Ticks times now later

-- one whole turn: a line is answered, and the store is tended
pub record WholeTurn {T : Type 0} (acts : T → Command → ℕ → Reply → T → Type 0) (tends : T → T → Type 0) (line : LineEnd) (old : T) (times : Times) (reply : Reply) (new : T) (later : Times) : Type 0 where
  pub answered : T
  pub answer : Answers acts line old times reply answered later
  pub no_halt : reply ≢ Halted
  pub tended : tends answered new

-- The lines are answered one after the other by these replies, the store going from old to new and the clock's times from times to later.
abbrev pub Turns : {T : Type 0} → (T → Command → ℕ → Reply → T → Type 0) → (T → T → Type 0) → List LineEnd → T → Times → List Reply → T → Times → Type 0
Turns acts tends [] old times [] new later = (new ≡ old) × (later ≡ times)
Turns {T} acts tends (line ∷ lines) old times (reply ∷ replies) new later = (mid : T) × (then : Times) × WholeTurn acts tends line old times reply mid then × Turns acts tends lines mid then replies new later
Turns acts tends [] old times (reply ∷ replies) new later = ⊥
Turns acts tends (line ∷ lines) old times [] new later = ⊥

-- The lines have their whole turns, and their replies are the output.
pub record HasTurns {T : Type 0} (acts : T → Command → ℕ → Reply → T → Type 0) (tends : T → T → Type 0) (lines : List LineEnd) (old : T) (times : Times) (output : List ℕ) (new : T) (later : Times) : Type 0 where
  pub replies : List Reply
  pub turns : Turns acts tends lines old times replies new later
  pub told : output ≡ flat_map reply_text replies

-- the whole turn of any line; `quit` isn't followed by tending
abbrev pub TurnAny : {T : Type 0} → (T → Command → ℕ → Reply → T → Type 0) → (T → T → Type 0) → LineEnd → T → Times → Reply → T → Times → Type 0
TurnAny acts tends line old times reply new later = WholeTurn acts tends line old times reply new later ⊎ Quits line old times reply new later

-- The session stops at a line, of whose reply this is the text that is told. Only after a halt is the store not tended, and after `quit`.
abbrev pub StopsAtLine : {T : Type 0} → (T → Command → ℕ → Reply → T → Type 0) → (T → T → Type 0) → LineEnd → T → Times → List ℕ → T → Times → Stop → Type 0
StopsAtLine acts tends line old times last new later QuitStop = Quits line old times Bye new later × (last ≡ reply_text Bye)
StopsAtLine acts tends line old times last new later MemoryStop = (reply : Reply) × TurnAny acts tends line old times reply new later × (last ≡ [])
StopsAtLine acts tends line old times last new later HaltStop = Answers acts line old times Halted new later × (last ≡ [])

-- The lines before one of these have their whole turns, and the session stops at that line. The output is the text of their replies.
pub record StopsAmong {T : Type 0} (acts : T → Command → ℕ → Reply → T → Type 0) (tends : T → T → Type 0) (ready : List LineEnd) (count : ℕ) (old : T) (times : Times) (output : List ℕ) (new : T) (later : Times) (stop : Stop) : Type 0 where
  pub before : List LineEnd
  pub line : LineEnd
  pub after : List LineEnd
  pub parts : ready ≡ before ++ line ∷ after
  pub counted : count ≡ length before
  pub told : List ℕ
  pub mid : T
  pub then : Times
  pub serves : HasTurns acts tends before old times told mid then
  pub last : List ℕ
  pub stops : StopsAtLine acts tends line mid then last new later stop
  pub all : output ≡ told ++ last

-- The first of these lines have their whole turns.
pub record GoesThrough {T : Type 0} (acts : T → Command → ℕ → Reply → T → Type 0) (tends : T → T → Type 0) (ready : List LineEnd) (old : T) (times : Times) (output : List ℕ) (new : T) (later : Times) : Type 0 where
  pub before : List LineEnd
  pub after : List LineEnd
  pub parts : ready ≡ before ++ after
  pub serves : HasTurns acts tends before old times output new later

-- Some of these lines have their turns, from the first on: whole ones, or up to one at which the session stops.
abbrev pub ServesSome : {T : Type 0} → (T → Command → ℕ → Reply → T → Type 0) → (T → T → Type 0) → List LineEnd → T → Times → List ℕ → T → Times → Type 0
ServesSome acts tends ready old times output new later =
    GoesThrough acts tends ready old times output new later
    ⊎ ((count : ℕ) × (stop : Stop) × StopsAmong acts tends ready count old times output new later stop)
