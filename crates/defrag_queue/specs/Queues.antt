-- Which blocks wait to be vacated, and in which order.
use Rattle.std.specs.Prelude.{◌≡◌, ℕ, ◌*◌, slice_index_or, Bool, true, false, not, ◌&&◌, ◌==◌, nat_lt, List, [], ◌∷◌, ◌++◌, filter, if◌then◌else◌}
use Rattle.std.specs.List.{IsDistinct}
use Rattle.model_device.specs.Book.{is_in}

-- The queued blocks in the order in which they entered, the number of blocks of the device, the units of a block, and
-- the low-water mark in percent of them.
pub record QueueState : Type 0 where
  pub queue : List ℕ
  pub blocks : ℕ
  pub capacity : ℕ
  pub lwm : ℕ

-- flushed, something live, but less than the low-water mark
abbrev pub is_below_mark : (capacity lwm used : ℕ) (flushed : Bool) → Bool
is_below_mark capacity lwm used flushed = flushed && nat_lt 0 used && nat_lt (used * 100) (lwm * capacity)

-- a block that qualifies keeps its place, or enters at the back; one that doesn't leaves
abbrev pub requeued : (qualifies : Bool) (block : ℕ) → List ℕ → List ℕ
requeued true block queue = if is_in queue block then queue else (queue ++ block ∷ [])
requeued false block queue = filter (λ b. not (b == block)) queue

abbrev pub considered : QueueState → (block used : ℕ) (flushed : Bool) → QueueState
considered state block used flushed =
    record state { queue = requeued (is_below_mark state.capacity state.lwm used flushed) block state.queue }

-- each block is in the queue at most once, and the marks tell which are in it
pub record Marked (queue : List ℕ) (marks : List Bool) : Type 0 where
  pub once : IsDistinct (λ a b. a == b) queue
  pub tells : (block : ℕ) → is_in queue block ≡ slice_index_or marks block false
