-- Crate shard_core. Of which gates it isn't known, behind a call, whether they are set: at most that of a closing or an opening which failed.
use Rattle.std.specs.Prelude.{◌≡◌, ◌≢◌, ◌⊎◌, ℕ, List, [], ◌∷◌, Contains, Result, Ok, Err}
use Rattle.block_format.specs.declared.geometry.Gate.TheVariants.{Unsure}
use Rattle.write_buffer.specs.declared.phase.Phase.TheVariants.{GateBegun}
use Rattle.write_buffer.specs.Buffers.{BufferState}
use Rattle.block_shelf.specs.View.{ShelfView, gate_at}

-- each gate that is unsure was so before
abbrev pub NoneFails : {D : Type 0} → (old new : ShelfView D) → Type 0
NoneFails old new = (block : ℕ) → gate_at new.gates block ≡ Unsure → gate_at old.gates block ≡ Unsure

-- the block at the back of the free ones
abbrev pub last_block : List ℕ → ℕ
last_block [] = 0
last_block (b ∷ []) = b
last_block (b ∷ c ∷ bs) = last_block (c ∷ bs)

-- A pending buffer has the block, and the write of its gate has begun.
pub record IsOpening (buffers : List BufferState) (block : ℕ) : Type 0 where
  pub buffer : BufferState
  pub there : Contains buffers buffer
  pub has : buffer.block ≡ block
  pub begun : buffer.phase ≡ GateBegun

-- The gate of this block failed, and no other: as it was closed, and then the block is at the back of the free ones, or as it was opened for a buffer, which is
-- pending still.
pub record Fails {D : Type 0} (old new : ShelfView D) (block : ℕ) : Type 0 where
  pub is : (block ≡ last_block new.free) ⊎ IsOpening new.buffers block
  pub others : (other : ℕ) → other ≢ block → gate_at new.gates other ≡ Unsure → gate_at old.gates other ≡ Unsure

-- at most one fails
abbrev pub MayFail : {D : Type 0} → (old new : ShelfView D) → Type 0
MayFail old new = NoneFails old new ⊎ ((block : ℕ) × Fails old new block)

-- None fails in a call that isn't refused, and at most one in one that is.
abbrev pub FailsBy : {D T E : Type 0} → Result T E → (old new : ShelfView D) → Type 0
FailsBy (Ok done) old new = NoneFails old new
FailsBy (Err refusal) old new = MayFail old new

-- In the flushes of a tending at most one fails, and at most one in its vacating.
pub record TendsFail {D : Type 0} (old new : ShelfView D) : Type 0 where
  pub flushed : ShelfView D
  pub flushes : MayFail old flushed
  pub vacates : MayFail flushed new
