-- What is seen of a file in memory, and how its calls take their turns.
use Rattle.std.specs.Prelude.{◌≡◌, ℕ, ◌-◌, ◌^◌, min, List, [], ◌∷◌, Result, Ok, Err}
use Rattle.std.specs.IoError.{error_kind}
use Rattle.std.specs.declared.io.Error.{Error}
use Rattle.std.specs.declared.io.ErrorKind.TheVariants as kind
use Rattle.disk_file.specs.declared.memory_file.Turn.{Turn}
use Rattle.disk_file.specs.declared.memory_file.Turn.TheVariants.{Most, Interrupted, Failed}
use Rattle.disk_file.specs.Calls.{Call}
use Rattle.disk_file.specs.Known.{Standing}

-- the bytes that it holds, the turns of the calls to come, how it stands, and the calls that were made
pub record MemoryState : Type 0 where
  pub held : List ℕ
  pub turns : List Turn
  pub stands : Standing
  pub past : List Call

-- the turn of the next call, and those of the calls behind it; behind the last each call does what it can
abbrev pub next_turn : List Turn → Turn
next_turn [] = Most (2 ^ 64 - 1)
next_turn (turn ∷ turns) = turn

abbrev pub later_turns : List Turn → List Turn
later_turns [] = []
later_turns (turn ∷ turns) = turns

-- what a call comes to that could move so many bytes
abbrev pub Moves : Turn → ℕ → Result ℕ Error → Type 0
Moves (Most most) there (Ok n) = n ≡ min most there
Moves (Most most) there (Err error) = ⊥
Moves Interrupted there (Ok n) = ⊥
Moves Interrupted there (Err error) = error_kind error ≡ kind.Interrupted
Moves Failed there (Ok n) = ⊥
Moves Failed there (Err error) = error_kind error ≡ kind.Other

-- what a sync comes to
abbrev pub Ends : Turn → Result (Unit {0}) Error → Type 0
Ends (Most most) (Ok done) = Unit {0}
Ends (Most most) (Err error) = ⊥
Ends Interrupted (Ok done) = ⊥
Ends Interrupted (Err error) = error_kind error ≡ kind.Interrupted
Ends Failed (Ok done) = ⊥
Ends Failed (Err error) = error_kind error ≡ kind.Other
