-- Crate law_room. What every book has that stands for the blocks of a device.
use Rattle.std.specs.Prelude.{ℕ, ◌<◌, ◌≤◌, ◌≡◌, Bool, ◌&&◌, ◌==◌, count_by}
use Rattle.std.specs.List.{AllByRecursion, IsDistinct}
use Rattle.rec_format.specs.Places.{same_digest}
use Rattle.model_device.specs.Book.{Setup, Book, Buffer, Stream, same_stream, is_filling, is_in, may_be_queued}
use Rattle.law_start.specs.Holding.{HasRisingNumbers}
use Rattle.law_trail.specs.Trail.{IsBooked}
use Rattle.law_trail.specs.Within.{IsWithin}

-- a buffer takes the records of a stream
abbrev pub fills : Stream → Buffer → Bool
fills stream b = same_stream stream b.stream && is_filling b.phase

-- Each free block may be free, no two buffers have one block, and each live copy takes room; the blocks are those of the device; buffers stand in
-- rising number below the next, and of each stream at most one takes records; no block is free twice and no digest has two live copies; and
-- a block is queued exactly where it may be.
pub record IsTidy (setup : Setup) (book : Book) : Type 0 where
  pub booked : IsBooked book
  pub within : IsWithin setup book
  pub numbered : HasRisingNumbers book
  pub alone : (stream : Stream) → count_by (fills stream) book.buffers ≤ 1
  pub once : IsDistinct (λ a b. a == b) book.free
  pub own : IsDistinct (λ l m. same_digest l.digest m.digest) book.live
  pub below : AllByRecursion (λ b. b < setup.blocks) book.queue
  pub queued : (block : ℕ) → block < setup.blocks → is_in book.queue block ≡ may_be_queued setup book block
