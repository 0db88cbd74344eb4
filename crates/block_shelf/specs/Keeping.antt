-- Crate block_shelf. Which buffers are pending and which flushed ones are kept, behind a call.
use Rattle.std.specs.Prelude.{◌≡◌, ℕ, ◌+◌, List, [], ◌∷◌, ◌++◌, map}
use Rattle.write_buffer.specs.Buffers.{BufferState}
use Rattle.block_shelf.specs.View.{ShelfView}
use Rattle.block_shelf.specs.Changes.{without_kept}

-- each buffer by its number and its block, in order
abbrev pub names_of : List BufferState → List (ℕ × ℕ)
names_of buffers = map (λ b. (b.number, b.block)) buffers

-- No buffer has begun or left, and all is kept that was.
pub record KeepsAll {D : Type 0} (old new : ShelfView D) : Type 0 where
  pub cache : new.cache ≡ old.cache
  pub names : names_of new.buffers ≡ names_of old.buffers
  pub next : new.next_number ≡ old.next_number

-- A buffer with the next number has begun in this block, and what was kept of the block is gone; all else is kept.
pub record KeepsOthers {D : Type 0} (block : ℕ) (old new : ShelfView D) : Type 0 where
  pub cache : new.cache ≡ without_kept block old.cache
  pub names : names_of new.buffers ≡ names_of old.buffers ++ (old.next_number, block) ∷ []
  pub next : new.next_number ≡ old.next_number + 1
