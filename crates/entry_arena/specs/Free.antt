-- The slots of an arena that aren't in use.
use Rattle.std.specs.Prelude.{◌≡◌, ◌≢◌, ℕ, ◌+◌, ◌^◌, ◌<◌, ◌≤◌, List, length, Option, None, is_some, count_by, slice_index_or}
use Rattle.rec_format.specs.declared.entry.Entry.{Entry}

-- the list has each slot without an entry once, and room for all slots, whose numbers have 32 bits
pub record IsFree (slots : List (Option Entry)) (free : List ℕ) (capacity : ℕ) : Type 0 where
  pub within : (k d : ℕ) → k < length free → slice_index_or free k d < length slots
  pub vacant : (k d : ℕ) → k < length free → slice_index_or slots (slice_index_or free k d) None ≡ None
  pub differ : (i j d : ℕ) → i < j → j < length free → slice_index_or free i d ≢ slice_index_or free j d
  pub counted : length free + count_by is_some slots ≡ length slots
  pub room : length slots ≤ capacity
  pub numbered : length slots < 2 ^ 32
