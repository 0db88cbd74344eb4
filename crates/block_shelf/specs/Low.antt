-- Crate block_shelf. Which buffer is sealed where few blocks are free.
use Rattle.std.specs.Prelude.{ℕ, ◌-◌, ◌*◌, ◌<◌, ◌≤◌, ◌≡◌, ◌⊎◌, ◌||◌, Bool, nat_lt, true, [], length, map, Contains, IsTrue}
use Rattle.std.specs.List.{list_any}
use Rattle.rec_format.specs.Versions.{block_capacity}
use Rattle.write_buffer.specs.declared.stream.Stream.{Stream}
use Rattle.write_buffer.specs.declared.stream.Stream.TheVariants.{Client, Defrag}
use Rattle.write_buffer.specs.Buffers.{BufferState, used_units}
use Rattle.block_shelf.specs.Lives.{copies_in}
use Rattle.hold_book.specs.Holds.{has_hold}
use Rattle.block_shelf.specs.View.{ShelfView, fills}
use Rattle.block_shelf.specs.Changes.{sealed_in}

-- the buffer of this number holds a block in which nothing is live, whether or not a buffer has it
pub record HoldsDead {D : Type 0} (shelf : ShelfView D) (number : ℕ) : Type 0 where
  pub block : ℕ
  pub held : IsTrue (has_hold shelf.holds.holds number block)
  pub dead : copies_in block shelf.lives ≡ []

-- so does the buffer that takes the records of a stream
pub record FillsOverDead {D : Type 0} (stream : Stream) (shelf : ShelfView D) : Type 0 where
  pub buffer : BufferState
  pub there : Contains shelf.buffers buffer
  pub fills : fills stream buffer ≡ true
  pub holds : HoldsDead shelf buffer.number

-- the buffer that takes moved records has less room than the low-water mark's share of a block
pub record IsShort {D : Type 0} (shelf : ShelfView D) : Type 0 where
  pub buffer : BufferState
  pub there : Contains shelf.buffers buffer
  pub fills : fills Defrag buffer ≡ true
  pub short : (block_capacity shelf.geometry.block_size - used_units buffer) * 100 < shelf.limits.lwm * block_capacity shelf.geometry.block_size

-- nothing more can come to the buffer of moved records; one of clients doesn't wait for more
abbrev pub HasGathered : {D : Type 0} → Stream → ShelfView D → Type 0
HasGathered Client shelf = Unit {0}
HasGathered Defrag shelf = (shelf.queue.queue ≡ []) ⊎ ((shelf.free ≡ []) × IsShort shelf)

-- such a buffer is sealed: at most 6 blocks are free, it holds a dead block, and it has gathered what can come
pub record IsLow {D : Type 0} (stream : Stream) (shelf : ShelfView D) : Type 0 where
  pub few : length shelf.free ≤ 6
  pub over : FillsOverDead stream shelf
  pub gathered : HasGathered stream shelf

-- Whether a queued block is to be vacated: a buffer takes moved records, more than 7 blocks are free, or more than one is queued.
abbrev pub gains : {D : Type 0} → ShelfView D → Bool
gains shelf = list_any (fills Defrag) shelf.buffers || (nat_lt 7 (length shelf.free) || nat_lt 1 (length shelf.queue.queue))

-- the buffers of a stream are sealed
abbrev pub with_sealed : {D : Type 0} → Stream → ShelfView D → ShelfView D
with_sealed stream shelf = record shelf { buffers = map (sealed_in stream) shelf.buffers }

-- they are where that is so, and else all stays
abbrev pub SealsLow : {D : Type 0} → Stream → (old new : ShelfView D) → Type 0
SealsLow stream old new = (IsLow stream old × (new ≡ with_sealed stream old)) ⊎ ((IsLow stream old → ⊥) × (new ≡ old))
