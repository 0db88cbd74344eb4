-- A buffer of a shelf takes a copy: one that is there, or one that begins for it.
use Rattle.std.proofs.Common.{◌≡◌, ℕ, ◌+◌, ◌≤◌, false, List, ◌∷◌, ◌++◌}
use Rattle.std.specs.Prelude.{Contains}
use Rattle.disk_model.specs.Disk.{DiskView}
use Rattle.rec_format.specs.declared.version.Digest.{Digest}
use Rattle.rec_format.specs.declared.version.Version.{Version}
use Rattle.rec_format.specs.Versions.{version_units, block_capacity}
use Rattle.model_device.specs.Book.{Setup, Book, Live, first_block}
use Rattle.model_device.specs.Device.{State}
use Rattle.block_format.specs.declared.geometry.Gate.TheVariants.{Shut}
use Rattle.write_buffer.specs.Buffers.{BufferState, used_units, with_record}
use Rattle.post_cache.specs.Bodies.{CacheState}
use Rattle.block_shelf.specs.declared.place.Class.{Class}
use Rattle.block_shelf.specs.View.{ShelfView, IsShelf, gate_at, records_of}
use Rattle.block_shelf.specs.Standing.{HasCopy, KeptHave, IsOfEntry, IsPlaced}
use Rattle.block_shelf.specs.Appends.{stream_of}
use Rattle.block_shelf.proofs.Copied.{AppendsCopy, has_room_for}
use Rattle.block_shelf.proofs.Readied.{IsReadied}

-- the shelf with these buffers and free blocks, what is kept, and this next number
abbrev pub with_buffers : {D : Type 0} → List BufferState → (free : List ℕ) → CacheState BufferState → (next_number : ℕ) → ShelfView D → ShelfView D
with_buffers buffers free cache next_number shelf = record shelf { buffers = buffers; free = free; cache = cache; next_number = next_number }

-- The shelf, with these buffers, is as it was for the state, and its book is ready for the copy: this buffer takes it. Where it has begun
-- the gate of its block is shut.
pub record IsTaker {D : Type 0} (view : D → DiskView) (setup : Setup) (kind : Class) (s : State) (digest : Digest) (v : Version) (shelf : ShelfView D) (ready : Book)
    (free : List ℕ) (cache : CacheState BufferState) (next_number : ℕ) (front : List BufferState) (b : BufferState) (behind : List BufferState) : Type 0 where
  pub is : IsShelf view (with_buffers (front ++ b ∷ behind) free cache next_number shelf)
  pub readied : IsReadied setup s (stream_of kind) (version_units v) ready free next_number front b behind
  pub room : used_units b + version_units v ≤ block_capacity shelf.geometry.block_size
  pub appends : AppendsCopy setup kind digest v s.book (records_of shelf.buffers) (records_of (front ++ with_record digest v b ∷ behind))
  pub entries : (l : Live) → Contains s.book.live l → IsOfEntry shelf.geometry (front ++ b ∷ behind) s l
  pub kept : KeptHave HasCopy cache.kept s
  pub placed : IsPlaced view shelf s → IsPlaced view (with_buffers (front ++ b ∷ behind) free cache next_number shelf) s
  pub shut : has_room_for setup kind v s.book ≡ false → gate_at shelf.gates (first_block s.book.free) ≡ Shut
