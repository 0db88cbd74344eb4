-- What the places of a book's buffers say of its blocks and numbers.
use Rattle.std.proofs.Common.{◌≡◌, ℕ, true, refl, sym, ◌∙◌}
use Rattle.std.proofs.lemmas.Bool.{eq-eqb}
use Rattle.std.specs.Prelude.{◌==◌, Contains}
use Rattle.std.specs.List.{list_any}
use Rattle.law_lists.proofs.Finding.{any_map, any_there}
use Rattle.model_device.specs.Histories.{is_pending}
use Rattle.model_device.specs.Book.{Book, has_buffer, is_held, pending_of}
use Rattle.law_start.proofs.Pending.{shown}
use Rattle.law_trail.specs.Trail.{places_of}

-- ---- places

-- a block has a buffer where a place has it
pub buffer_place : (book : Book) (block : ℕ) → has_buffer book block ≡ list_any (λ p. p.1 == block) (places_of book)
buffer_place book block = sym (any_map (λ (p : ℕ × ℕ). p.1 == block) (λ b. (b.number, b.block)) book.buffers)

pub pending_place : (book : Book) (number : ℕ) → is_pending (pending_of book) number ≡ list_any (λ p. p.0 == number) (places_of book)
pending_place book number = any_map (λ p. p.0 == number) shown book.buffers ∙ sym (any_map (λ (p : ℕ × ℕ). p.0 == number) (λ b. (b.number, b.block)) book.buffers)

-- a number with a place is pending
pub placed_pending : (book : Book) (number block : ℕ) → Contains (places_of book) (number, block) → is_pending (pending_of book) number ≡ true
placed_pending book number block there =
    pending_place book number ∙ any_there (λ (p : ℕ × ℕ). p.0 == number) (places_of book) (number, block) there (eq-eqb number number refl)

-- a block with a hold is held
pub hold_held : (book : Book) (number block : ℕ) → Contains book.holds (number, block) → is_held book block ≡ true
hold_held book number block there = any_there (λ (h : ℕ × ℕ). h.1 == block) book.holds (number, block) there (eq-eqb block block refl)
