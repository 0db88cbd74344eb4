-- How many units are live in each block of a device.
use Rattle.std.specs.Prelude.{ℕ, List, slice_index_or, slice_set}

-- none in a block that isn't there
abbrev pub use_at : (block : ℕ) → List ℕ → ℕ
use_at block uses = slice_index_or uses block 0

-- one block has another use, and all others are as before
abbrev pub with_use : (block used : ℕ) → List ℕ → List ℕ
with_use block used uses = slice_set uses block used
