-- The blocks that a list pairs with a buffer.
use Rattle.std.specs.Prelude.{ℕ, ◌<◌, ◌≤◌, List, Contains}

-- none from this number on
abbrev pub HasNoneFrom : (buffer from : ℕ) → List (ℕ × ℕ) → Type 0
HasNoneFrom buffer from pairs = (block : ℕ) → from ≤ block → Contains pairs (buffer, block) → ⊥

-- this one, and none before it from that number on
pub record IsFirstFrom (buffer from : ℕ) (pairs : List (ℕ × ℕ)) (block : ℕ) : Type 0 where
  pub above : from ≤ block
  pub there : Contains pairs (buffer, block)
  pub first : (other : ℕ) → from ≤ other → other < block → Contains pairs (buffer, other) → ⊥
