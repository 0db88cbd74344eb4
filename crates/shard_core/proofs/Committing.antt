-- A commit seals the buffer that clients fill, and flushes up to that buffer.
use Rattle.std.proofs.Common.{◌≡◌, ◌≢◌, inr, ℕ, Bool, true, false, cond, ◌&&◌, List, [], ◌∷◌, map, refl, sym, ◌∙◌, ap, subst}
use Rattle.std.specs.Prelude.{Some, Contains}
use Rattle.std.specs.List.{AllByRecursion}
use Rattle.law_lists.proofs.Each.{all_at}
use Rattle.law_lists.proofs.Finding.{find_there, found_is}
use Rattle.law_lists.proofs.Members.{map_there, map_from}
use Rattle.model_device.specs.Book.{Setup, Buffer, client, sealed, is_filling, same_stream, filling_buffer, sealed_if, seal_stream}
use Rattle.model_device.specs.Device.{State}
use Rattle.model_device.specs.Steps.{sealed_stream, after_step}
use Rattle.disk_model.specs.Disk.{DiskView}
use Rattle.write_buffer.specs.Buffers.{BufferState}
use Rattle.block_shelf.specs.View.{ShelfView, IsShelf, is_unsealed}
use Rattle.block_shelf.specs.Standing.{StandsFor, book_buffer}
use Rattle.block_shelf.proofs.Blocks.{apart_front, one_buffer}
use Rattle.block_shelf.proofs.Filling.{phase_fills}
use Rattle.shard_core.specs.Writing.{EndsRight}

sealed_number : (c : Bool) (b : Buffer) → (sealed_if c b).number ≡ b.number
sealed_number c b = by (c && is_filling b.phase)
  where
    by : (t : Bool) → (let x : Buffer = cond t (record b { phase = sealed }) b in x.number) ≡ b.number
    by true = refl
    by false = refl

sealed_block : (c : Bool) (b : Buffer) → (sealed_if c b).block ≡ b.block
sealed_block c b = by (c && is_filling b.phase)
  where
    by : (t : Bool) → (let x : Buffer = cond t (record b { phase = sealed }) b in x.block) ≡ b.block
    by true = refl
    by false = refl

-- a buffer of the shelf behind the seal is one before it
record SealedFrom (buffers : List BufferState) (b : Buffer) : Type 0 where
  pub buffer : BufferState
  pub there : Contains buffers buffer
  pub is : book_buffer buffer ≡ sealed_if (same_stream client b.stream) b

module _ {D : Type 0} (view : D → DiskView) (setup : Setup) (old mid : ShelfView D) (s : State) (b : Buffer) (stands : StandsFor setup old s)
    (found : filling_buffer client s.book.buffers ≡ Some b) where
  -- it is one of the shelf's
  pub written_there : (x : BufferState) × Contains old.buffers x × (book_buffer x ≡ b)
  written_there = map_from book_buffer old.buffers b (subst (λ (l : List Buffer). Contains l b) stands.buffers
      (find_there (λ c. same_stream client c.stream && is_filling c.phase) s.book.buffers b found))

  -- so its block has a buffer
  pub has_buffer : (block : ℕ) → b.block ≡ block → AllByRecursion (λ c. c.block ≢ block) old.buffers → ⊥
  has_buffer block at none = all_at (λ c. c.block ≢ block) old.buffers written_there.0 none written_there.1 (ap (λ (c : Buffer). c.block) written_there.2 ∙ at)

  module _ (behind : StandsFor setup mid (after_step setup (sealed_stream client) s)) (kept : IsShelf view mid) (block : ℕ) (at : b.block ≡ block) where
    buffers_behind : seal_stream client s.book.buffers ≡ map book_buffer mid.buffers
    unfolding after_step
    buffers_behind = behind.buffers

    from : (x : Buffer) → Contains s.book.buffers x → SealedFrom mid.buffers x
    from x there =
        let one = map_from book_buffer mid.buffers (sealed_if (same_stream client x.stream) x)
        (subst (λ (l : List Buffer). Contains l (sealed_if (same_stream client x.stream) x)) buffers_behind (map_there (λ c. sealed_if (same_stream client c.stream) c) s.book.buffers x there)) in
        record { buffer = one.0; there = one.1; is = one.2 }

    own : SealedFrom mid.buffers b
    own = from b (find_there (λ c. same_stream client c.stream && is_filling c.phase) s.book.buffers b found)

    own_number : own.buffer.number ≡ b.number
    own_number = ap (λ (c : Buffer). c.number) own.is ∙ sealed_number (same_stream client b.stream) b

    own_block : own.buffer.block ≡ block
    own_block = ap (λ (c : Buffer). c.block) own.is ∙ sealed_block (same_stream client b.stream) b ∙ at

    own_sealed : is_unsealed own.buffer.phase ≡ false
    own_sealed = sym (phase_fills own.buffer.phase) ∙ ap (λ (c : Buffer). is_filling c.phase) own.is ∙ sealed_now
      where
        all_units : (bs : List Buffer) → AllByRecursion (λ c. Unit {0}) bs
        all_units [] = tt
        all_units (c ∷ bs) = (tt, all_units bs)

        fills : (same_stream client b.stream && is_filling b.phase) ≡ true
        fills = (found_is (λ c. Unit {0}) (λ c. same_stream client c.stream && is_filling c.phase) s.book.buffers b (all_units s.book.buffers) found).1

        sealed_now : is_filling (sealed_if (same_stream client b.stream) b).phase ≡ false
        sealed_now = ap (λ (t : Bool). let x : Buffer = cond t (record b { phase = sealed }) b in is_filling x.phase) fills

    -- the number of the block's buffer is its number, and a flush up to it ends right
    module _ (n : ℕ) (asked : (x : BufferState) × Contains old.buffers x × (x.block ≡ block) × (x.number ≡ n)) where
      other : SealedFrom mid.buffers (book_buffer asked.0)
      other = from (book_buffer asked.0) (subst (λ (l : List Buffer). Contains l (book_buffer asked.0)) (sym stands.buffers) (map_there book_buffer old.buffers asked.0 asked.1))

      same : other.buffer ≡ own.buffer
      same =
          one_buffer mid.buffers (apart_front (map (λ c. c.block) mid.buffers) mid.free kept.apart) other.buffer own.buffer other.there own.there
          (ap (λ (c : Buffer). c.block) other.is ∙ sealed_block (same_stream client (book_buffer asked.0).stream) (book_buffer asked.0) ∙ asked.2 ∙ sym own_block)

      pub number_is : n ≡ b.number
      number_is =
          sym asked.3 ∙ sym (ap (λ (c : Buffer). c.number) other.is ∙ sealed_number (same_stream client (book_buffer asked.0).stream) (book_buffer asked.0))
          ∙ ap (λ (c : BufferState). c.number) same ∙ own_number

      pub ends_there : EndsRight n mid.buffers
      ends_there = inr (own.buffer, own.there, own_number ∙ sym number_is, own_sealed)
