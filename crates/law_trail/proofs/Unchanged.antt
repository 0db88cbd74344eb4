-- What a change of a book leaves as it was: whether a block is to be vacated, the buffer of another stream, and what is free behind a flush.
use Rattle.std.proofs.Common.{◌≡◌, ℕ, ◌*◌, Bool, true, false, not, ◌&&◌, List, [], ◌∷◌, ◌++◌, refl, ap, sym, ◌∙◌}
use Rattle.std.specs.Prelude.{◌==◌, filter, nat_lt}
use Rattle.std.specs.List.{list_any}
use Rattle.std.proofs.lemmas.Bool.{and_parts, and_from, false≢true}
use Rattle.law_lists.proofs.Finding.{none_fewer}
use Rattle.model_device.specs.Book.{Setup, Book, Buffer, Live, Phase, filling, sealed, opening, Stream, client, defrag, same_stream, seal_stream, filling_buffer}
use Rattle.model_device.specs.Book.{has_buffer, is_held, use_of, may_be_free, may_be_queued}
use Rattle.law_trail.specs.Trail.{places_of}
use Rattle.law_trail.proofs.Books.{nothing_in}
use Rattle.law_trail.proofs.Places.{buffer_place}

-- ---- whether a block is to be vacated

-- it depends on its buffer and its use alone
pub queued_alike : (setup : Setup) (old new : Book) (block : ℕ) → has_buffer new block ≡ has_buffer old block → use_of new block ≡ use_of old block
    → may_be_queued setup new block ≡ may_be_queued setup old block
queued_alike setup old new block buffer live =
    ap (λ (t : Bool). not t && nat_lt 0 (use_of new block) && nat_lt (use_of new block * 100) (setup.lwm * setup.capacity)) buffer
    ∙ ap (λ (n : ℕ). not (has_buffer old block) && nat_lt 0 n && nat_lt (n * 100) (setup.lwm * setup.capacity)) live

-- where neither places nor live copies change, the same blocks may be queued
pub queued_same : (setup : Setup) (old new : Book) → places_of new ≡ places_of old → new.live ≡ old.live → (block : ℕ) → may_be_queued setup new block ≡ may_be_queued setup old block
queued_same setup old new places live block =
    queued_alike setup old new block (buffer_place new block ∙ ap (list_any (λ (p : ℕ × ℕ). p.1 == block)) places ∙ sym (buffer_place old block))
    (ap (λ (l : List Live). use_of (record old { live = l }) block) live)

-- ---- behind a flush

-- the book without the buffer and its holds
abbrev pub without_buffer : ℕ → Book → Book
without_buffer number book = record book {
  buffers = filter (λ b. not (b.number == number)) book.buffers;
  holds = filter (λ h. not (h.0 == number)) book.holds;
  flushed_numbers = book.flushed_numbers ++ number ∷ [];
}

-- a block without a buffer gets none
pub unbuffered_still : (number : ℕ) (book : Book) (block : ℕ) → has_buffer book block ≡ false → has_buffer (without_buffer number book) block ≡ false
unbuffered_still number book block none = none_fewer (λ (b : Buffer). b.block == block) (λ b. not (b.number == number)) book.buffers none

-- a free block stays free
pub free_still : (number : ℕ) (book : Book) (block : ℕ) → may_be_free book block ≡ true → may_be_free (without_buffer number book) block ≡ true
free_still number book block may =
    let left : Book = without_buffer number book in
    let nothing = nothing_in book block may in
    let two = and_parts (not (has_buffer book block) && (use_of book block == 0)) (not (is_held book block)) may in
    let one = and_parts (not (has_buffer book block)) (use_of book block == 0) two.0 in
    and_from (not (has_buffer left block) && (use_of left block == 0)) (not (is_held left block))
    (and_from (not (has_buffer left block)) (use_of left block == 0) (ap not (unbuffered_still number book block nothing.buffer)) one.1)
    (ap not (none_fewer (λ (h : ℕ × ℕ). h.1 == block) (λ h. not (h.0 == number)) book.holds nothing.hold))

-- ---- behind a seal

-- the buffer of another stream stays
pub other_found : (stream other : Stream) → same_stream other stream ≡ false → (bs : List Buffer) → filling_buffer stream (seal_stream other bs) ≡ filling_buffer stream bs
other_found client client apart bs = absurd (false≢true (sym apart))
other_found defrag defrag apart bs = absurd (false≢true (sym apart))
other_found client defrag apart [] = refl
other_found defrag client apart [] = refl
other_found client defrag apart (b ∷ bs) = by b.stream b.phase (other_found client defrag apart bs)
  where
    by : (stream : Stream) (phase : Phase) → filling_buffer client (seal_stream defrag bs) ≡ filling_buffer client bs
        → filling_buffer client (seal_stream defrag (record b { stream = stream; phase = phase } ∷ bs)) ≡ filling_buffer client (record b { stream = stream; phase = phase } ∷ bs)
    by client filling rest = refl
    by client sealed rest = rest
    by client opening rest = rest
    by defrag filling rest = rest
    by defrag sealed rest = rest
    by defrag opening rest = rest
other_found defrag client apart (b ∷ bs) = by b.stream b.phase (other_found defrag client apart bs)
  where
    by : (stream : Stream) (phase : Phase) → filling_buffer defrag (seal_stream client bs) ≡ filling_buffer defrag bs
        → filling_buffer defrag (seal_stream client (record b { stream = stream; phase = phase } ∷ bs)) ≡ filling_buffer defrag (record b { stream = stream; phase = phase } ∷ bs)
    by client filling rest = rest
    by client sealed rest = rest
    by client opening rest = rest
    by defrag filling rest = refl
    by defrag sealed rest = rest
    by defrag opening rest = rest
