-- Crate shard_core. How the flush of one buffer is answered.
use Rattle.std.specs.Prelude.{ℕ, Option, Some, None, Result, Ok, Err}

-- how many buffers were flushed, where one of some number was or none
abbrev pub flushed_count : {E : Type 0} → Result (Option ℕ) E → Result ℕ E
flushed_count (Ok (Some number)) = Ok 1
flushed_count (Ok None) = Ok 0
flushed_count (Err fault) = Err fault
