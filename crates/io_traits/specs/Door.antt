-- What a door answers.
use Rattle.std.specs.Prelude.{ℕ, Bool, true, false, Option, Some, None, Result, Ok, Err}

-- whether the answer is that no further link comes
abbrev pub gave_none : {L E : Type 0} → Result (Option L) E → Bool
gave_none (Ok None) = true
gave_none (Ok (Some link)) = false
gave_none (Err fault) = false

-- how many links the answer gives
abbrev pub links_given : {L E : Type 0} → Result (Option L) E → ℕ
links_given (Ok None) = 0
links_given (Ok (Some link)) = 1
links_given (Err fault) = 0
