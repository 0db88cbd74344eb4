-- Crate block_shelf. Which blocks a flushed buffer lets go.
use Rattle.std.specs.Prelude.{◌≡◌, ◌≢◌, ◌⊎◌, ℕ, ◌<◌, ◌≤◌, List, [], IsTrue, Contains}
use Rattle.std.specs.List.{AllByRecursion}
use Rattle.write_buffer.specs.Buffers.{BufferState}
use Rattle.block_shelf.specs.Lives.{LiveCopy, copies_in}
use Rattle.hold_book.specs.Holds.{Holds, has_hold, IsHeld}

-- the block is the buffer's own, or the buffer holds it
abbrev pub IsOf : (number own : ℕ) → Holds → (block : ℕ) → Type 0
IsOf number own holds block = (block ≡ own) ⊎ IsTrue (has_hold holds number block)

-- none from this number on
abbrev pub HasNoneOf : (number own : ℕ) → Holds → (from : ℕ) → Type 0
HasNoneOf number own holds from = (block : ℕ) → from ≤ block → IsOf number own holds block → ⊥

-- this one, and none before it from that number on
pub record IsFirstOf (number own : ℕ) (holds : Holds) (from block : ℕ) : Type 0 where
  pub above : from ≤ block
  pub is_of : IsOf number own holds block
  pub first : (other : ℕ) → from ≤ other → other < block → IsOf number own holds other → ⊥

-- no buffer has the block, and nothing in it is live
pub record IsBare (buffers : List BufferState) (lives : List (List LiveCopy)) (block : ℕ) : Type 0 where
  pub unbuffered : AllByRecursion (λ b. b.block ≢ block) buffers
  pub dead : copies_in block lives ≡ []

-- and no buffer holds it
pub record IsKeptByNone (buffers : List BufferState) (lives : List (List LiveCopy)) (holds : Holds) (block : ℕ) : Type 0 where
  pub bare : IsBare buffers lives block
  pub unheld : IsHeld holds block → ⊥

-- the block is of the buffer, and nothing keeps it after its holds ended
abbrev pub IsLetGo : (number own : ℕ) → (before after : Holds) → List BufferState → List (List LiveCopy) → (block : ℕ) → Type 0
IsLetGo number own before after buffers lives block = IsOf number own before block × IsKeptByNone buffers lives after block

-- the block was among those that were free, or goes to them
abbrev pub IsFreeOrLetGo : (blocks : ℕ) → (free : List ℕ) → (ℕ → Type 0) → (block : ℕ) → Type 0
IsFreeOrLetGo blocks free Goes block = Contains free block ⊎ ((block < blocks) × Goes block)
