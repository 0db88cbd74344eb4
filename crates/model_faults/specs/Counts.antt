-- Crate model_faults. Counts of faults, and when an object may answer that it failed.
use Rattle.std.specs.Prelude.{ℕ, ◌+◌, ◌-◌, ◌<◌, ◌≤◌, ◌^◌, min, max, Result, OnErr}

-- A count went up, or stands where a counter of 64 bits ends.
abbrev pub Rose : ℕ → ℕ → Type 0
Rose before now = now + 1 < 2 ^ 64 → before < now

-- a count that a call raises
pub record Counted (before now : ℕ) : Type 0 where
  pub later : before ≤ now
  pub rose : Rose before now

-- The count of faults never goes down, and an error comes only where it rose.
pub record IsCaused {T E : Type 0} (before now : ℕ) (result : Result T E) : Type 0 where
  pub later : before ≤ now
  pub rose : OnErr result (Rose before now)

-- a counter of 64 bits after one more; at its last value it stands still
abbrev pub one_more : ℕ → ℕ
one_more count = max count (min (count + 1) (2 ^ 64 - 1))
