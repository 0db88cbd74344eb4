-- Crate model_device. The block book of a device: which copies are live, which buffers are open, and which blocks are
-- held, free or queued. Each change is a function, so the book after it is one.
use Rattle.std.specs.Prelude.{ℕ, ◌+◌, ◌*◌, Bool, true, false, not, ◌&&◌, ◌==◌, nat_lt, nat_le, List, [], ◌∷◌, ◌++◌, map, filter, find, sum_by, Option, Some, None, if◌then◌else◌}
use Rattle.std.specs.List.{list_any, range_with_len}
use Rattle.rec_format.specs.declared.version.Digest.{Digest}
use Rattle.rec_format.specs.declared.entry.Entry.{Entry}
use Rattle.rec_format.specs.Places.{same_digest}
use Rattle.model_device.specs.Histories.{Pending}

-- what stays the same through a run: the device's shape and place, and the settings; of these `cache` is how many flushed buffers are kept
pub record Setup : Type 0 where
  pub capacity : ℕ
  pub blocks : ℕ
  pub device : ℕ
  pub devices : ℕ
  pub sprigs : ℕ
  pub lwm : ℕ
  pub pending_limit : ℕ
  pub cache : ℕ
  pub commit : Bool
  pub raid_age : ℕ

-- puts and tombstones go to the client stream, moved records to the other
pub data Stream : Type 0 where
  client defrag : Stream

abbrev pub same_stream : Stream → Stream → Bool
same_stream client client = true
same_stream client defrag = false
same_stream defrag client = false
same_stream defrag defrag = true

-- a buffer is filled, then sealed, and then the write of its gate begins
pub data Phase : Type 0 where
  filling sealed opening : Phase

abbrev pub is_filling : Phase → Bool
is_filling filling = true
is_filling sealed = false
is_filling opening = false

abbrev pub is_opening : Phase → Bool
is_opening filling = false
is_opening sealed = false
is_opening opening = true

pub record Buffer : Type 0 where
  pub number : ℕ
  pub block : ℕ
  pub stream : Stream
  pub used : ℕ
  pub phase : Phase

-- where the copy of an entry lies
pub record Live : Type 0 where
  pub digest : Digest
  pub block : ℕ
  pub unit : ℕ
  pub units : ℕ

abbrev pub live_of_entry : Entry → Live
live_of_entry e = record { digest = e.digest; block = e.block; unit = e.unit; units = e.units }

-- Buffers stand in rising number. A hold is the number of a buffer and a block. Free blocks are used, and queued ones
-- vacated, from the front.
pub record Book : Type 0 where
  pub live : List Live
  pub buffers : List Buffer
  pub holds : List (ℕ × ℕ)
  pub free : List ℕ
  pub queue : List ℕ
  pub flushed_numbers : List ℕ
  pub next_number : ℕ

-- ---- what the book says of a block

-- the units that are live in it
abbrev pub use_of : Book → ℕ → ℕ
use_of book block = sum_by (λ l. l.units) (filter (λ l. l.block == block) book.live)

abbrev pub has_buffer : Book → ℕ → Bool
has_buffer book block = list_any (λ b. b.block == block) book.buffers

abbrev pub is_held : Book → ℕ → Bool
is_held book block = list_any (λ h. h.1 == block) book.holds

-- free: no buffer, nothing live, no hold
abbrev pub may_be_free : Book → ℕ → Bool
may_be_free book block = not (has_buffer book block) && (use_of book block == 0) && not (is_held book block)

-- queued: no buffer, something live, but less than the low-water mark
abbrev pub may_be_queued : Setup → Book → ℕ → Bool
may_be_queued setup book block =
    not (has_buffer book block) && nat_lt 0 (use_of book block) && nat_lt (use_of book block * 100) (setup.lwm * setup.capacity)

abbrev pub is_in : List ℕ → ℕ → Bool
is_in blocks block = list_any (λ b. b == block) blocks

abbrev pub all_blocks : Setup → List ℕ
all_blocks setup = range_with_len 0 setup.blocks

-- Those that still qualify keep their order. Those that newly do come to the back, in rising number.
abbrev pub updated : (ℕ → Bool) → (old all : List ℕ) → List ℕ
updated qualifies old all = filter qualifies old ++ filter (λ b. qualifies b && not (is_in old b)) all

-- free and queue after a change of the rest
unfoldable pub refreshed : Setup → Book → Book
refreshed setup book = record book {
  free = updated (may_be_free book) book.free (all_blocks setup);
  queue = updated (may_be_queued setup book) book.queue (all_blocks setup);
}

-- ---- live copies

abbrev pub live_of : Digest → List Live → Option Live
live_of digest live = find (λ l. same_digest digest l.digest) live

abbrev pub without_live : Digest → List Live → List Live
without_live digest live = filter (λ l. not (same_digest digest l.digest)) live

-- the copy of a digest is no longer live, and nothing holds its block for that
unfoldable pub dropped_live : Setup → Digest → Book → Book
dropped_live setup digest book = refreshed setup (record book { live = without_live digest book.live })

-- ---- placing

-- the buffer of a stream that takes records now
abbrev pub filling_buffer : Stream → List Buffer → Option Buffer
filling_buffer stream buffers = find (λ b. same_stream stream b.stream && is_filling b.phase) buffers

abbrev pub fits_in : ℕ → ℕ → Option Buffer → Bool
fits_in capacity units None = false
fits_in capacity units (Some buffer) = nat_le (buffer.used + units) capacity

abbrev pub has_room : Setup → Stream → ℕ → Book → Bool
has_room setup stream units book = fits_in setup.capacity units (filling_buffer stream book.buffers)

abbrev pub sealed_if : Bool → Buffer → Buffer
sealed_if chosen buffer = if chosen && is_filling buffer.phase then record buffer { phase = sealed } else buffer

-- the stream's buffer no longer takes records
abbrev pub seal_stream : Stream → List Buffer → List Buffer
seal_stream stream buffers = map (λ b. sealed_if (same_stream stream b.stream) b) buffers

abbrev pub first_block : List ℕ → ℕ
first_block [] = 0
first_block (b ∷ bs) = b

-- a buffer with the next number begins in the first free block, and the stream's old buffer is sealed
abbrev pub with_new_buffer : Stream → Book → Book
with_new_buffer stream book = record book {
  buffers = seal_stream stream book.buffers ++ (record { number = book.next_number; block = first_block book.free; stream = stream; used = 0; phase = filling }) ∷ [];
  next_number = book.next_number + 1;
}

abbrev pub with_room : Setup → Stream → ℕ → Book → Book
with_room setup stream units book = if has_room setup stream units book then book else with_new_buffer stream book

abbrev pub used_more : ℕ → ℕ → Buffer → Buffer
used_more number units buffer = if buffer.number == number then record buffer { used = buffer.used + units } else buffer

-- the block of the copy that is replaced is held by the buffer of the copy that replaces it
abbrev pub with_hold : ℕ → Option Live → List (ℕ × ℕ) → List (ℕ × ℕ)
with_hold number None holds = holds
with_hold number (Some old) holds = (number, old.block) ∷ holds

abbrev pub put_in : Setup → Digest → ℕ → Book → Option Buffer → Book
put_in setup digest units book None = book
put_in setup digest units book (Some buffer) = refreshed setup (record book {
  live = (record { digest = digest; block = buffer.block; unit = buffer.used; units = units }) ∷ without_live digest book.live;
  buffers = map (used_more buffer.number units) book.buffers;
  holds = with_hold buffer.number (live_of digest book.live) book.holds;
})

-- a copy of so many units goes to the stream, in place of the digest's copy before
unfoldable pub placed : Setup → Stream → Digest → ℕ → Book → Book
placed setup stream digest units book =
    let ready = with_room setup stream units book in
    put_in setup digest units ready (filling_buffer stream ready.buffers)

-- the number of the buffer that a placing uses
abbrev pub number_or : ℕ → Option Buffer → ℕ
number_or other None = other
number_or other (Some buffer) = buffer.number

abbrev pub placing_number : Setup → Stream → ℕ → Book → ℕ
placing_number setup stream units book =
    if has_room setup stream units book then number_or book.next_number (filling_buffer stream book.buffers) else book.next_number

-- ---- sealing and flushing

abbrev pub with_seal : Stream → Book → Book
with_seal stream book = record book { buffers = seal_stream stream book.buffers }

abbrev pub opened_if : Bool → Buffer → Buffer
opened_if chosen buffer = if chosen then record buffer { phase = opening } else buffer

-- the write of a buffer's gate begins
abbrev pub with_gate_begun : ℕ → Book → Book
with_gate_begun number book = record book { buffers = map (λ b. opened_if (b.number == number) b) book.buffers }

-- a flushed buffer leaves, and all its holds go
unfoldable pub with_flushed : Setup → ℕ → Book → Book
with_flushed setup number book = refreshed setup (record book {
  buffers = filter (λ b. not (b.number == number)) book.buffers;
  holds = filter (λ h. not (h.0 == number)) book.holds;
  flushed_numbers = book.flushed_numbers ++ number ∷ [];
})

-- the first free block couldn't be closed, and goes to the back
abbrev pub first_to_back : List ℕ → List ℕ
first_to_back [] = []
first_to_back (b ∷ bs) = bs ++ b ∷ []

abbrev pub with_first_passed : Book → Book
with_first_passed book = record book { free = first_to_back book.free }

-- ---- what others read off the book

-- the buffers that aren't flushed, as histories see them
abbrev pub pending_of : Book → Pending
pending_of book = map (λ b. (b.number, is_opening b.phase)) book.buffers

-- each block once
abbrev pub with_block : ℕ → List ℕ → List ℕ
with_block b bs = if is_in bs b then bs else b ∷ bs

abbrev pub held_blocks : List (ℕ × ℕ) → List ℕ
held_blocks [] = []
held_blocks (h ∷ hs) = with_block h.1 (held_blocks hs)

-- a buffer that holds a block in which nothing is live
abbrev pub holds_dead : Book → Option Buffer → Bool
holds_dead book None = false
holds_dead book (Some buffer) = list_any (λ h. h.0 == buffer.number && (use_of book h.1 == 0)) book.holds

-- the book after a start: these copies are live, each block in which none is live is free, those of little use are queued, and there is no
-- buffer and no hold
unfoldable pub cold_book : Setup → List Live → ℕ → Book
cold_book setup live next_number = refreshed setup (record {
  live = live;
  buffers = [];
  holds = [];
  free = [];
  queue = [];
  flushed_numbers = [];
  next_number = next_number;
})
