-- The turns of a worker, and what it is told behind each.
use Rattle.std.specs.Prelude.{◌≡◌, ℕ, ◌+◌, ◌-◌, ◌^◌, min, length, Bool, true, false, List, [], ◌∷◌, Option}
use Rattle.io_traits.specs.Clock.{Ticks}
use Rattle.node_workers.specs.declared.chore.Did.{Did}
use Rattle.node_workers.specs.declared.chore.Did.TheVariants.{Worked, Idle, Refused, Memory}

-- the times that a clock tells, where it tells them
abbrev pub Times : Type 0
Times = Option (List ℕ)

-- whether a worker is idle behind a turn: all but one in which something was done
abbrev pub is_idle : Did → Bool
is_idle Worked = false
is_idle Idle = true
is_idle Refused = true
is_idle Memory = true

-- One turn, at the time that the clock gives, which counts as 2^61 where it is later.
pub record TakesTurn {T : Type 0} (turns : T → ℕ → Did → T → Type 0) (old : T) (times : Times) (did : Did) (new : T) (later : Times) : Type 0 where
  pub now : ℕ
  pub ticks : Ticks times now later
  pub turned : turns old (min now (2 ^ 61)) did new

-- Turns one after the other, of which these came, take the chore from old to new and the clock's times from times to later. Behind each the worker was told to go on.
abbrev pub GoesOn : {T : Type 0} → (T → ℕ → Did → T → Type 0) → (Bool → Bool → Type 0) → List Did → T → Times → T → Times → Type 0
GoesOn turns tells [] old times new later = (new ≡ old) × (later ≡ times)
GoesOn {T} turns tells (did ∷ dids) old times new later = (mid : T) × (then : Times) × TakesTurn turns old times did mid then × tells (is_idle did) true × GoesOn turns tells dids mid then new later

-- A worker took turns until it was told to end, so many up to the last value of a counter: some behind which it was told to go on, and one more, behind which it was told to end.
pub record Works {T : Type 0} (turns : T → ℕ → Did → T → Type 0) (tells : Bool → Bool → Type 0) (count : ℕ) (old : T) (times : Times) (new : T) (later : Times) : Type 0 where
  pub dids : List Did
  pub counted : count ≡ min (length dids + 1) (2 ^ 64 - 1)
  pub mid : T
  pub then : Times
  pub went_on : GoesOn turns tells dids old times mid then
  pub last : Did
  pub turned : TakesTurn turns mid then last new later
  pub ended : tells (is_idle last) false
