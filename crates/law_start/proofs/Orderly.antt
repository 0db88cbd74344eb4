-- The number of the buffer that a placing uses.
use Rattle.std.proofs.Common.{◌≡◌, ℕ, ◌<◌, Bool, true, false, ◌&&◌, cond, refl, sym, subst, arith}
use Rattle.std.specs.Prelude.{Option, Some, None}
use Rattle.law_lists.proofs.Finding.{found_is}
use Rattle.rec_format.specs.declared.version.Digest.{Digest}
use Rattle.model_device.specs.Book.{Setup, Buffer, Book, Stream, same_stream, is_filling, filling_buffer, has_room, with_new_buffer, with_room, put_in, placed, number_or, placing_number, refreshed}
use Rattle.law_start.specs.Holding.{HasRisingNumbers}
use Rattle.law_start.proofs.Placing.{some_room}

put_in_next : (setup : Setup) (digest : Digest) (units : ℕ) (book : Book) (o : Option Buffer) → book.next_number ≡ (put_in setup digest units book o).next_number
unfolding refreshed
put_in_next setup digest units book None = refl
put_in_next setup digest units book (Some b) = refl

-- the buffer that a placing uses has a number below the next
pub placing_below : (setup : Setup) (stream : Stream) (digest : Digest) (units : ℕ) (book : Book) → HasRisingNumbers book
    → placing_number setup stream units book < (placed setup stream digest units book).next_number
unfolding placed
placing_below setup stream digest units book counted =
    subst (λ (n : ℕ). placing_number setup stream units book < n)
    (put_in_next setup digest units (with_room setup stream units book) (filling_buffer stream (with_room setup stream units book).buffers))
    (by (has_room setup stream units book) (some_room setup.capacity units (filling_buffer stream book.buffers)))
  where
    by : (c : Bool) → (c ≡ true → (b : Buffer) × (filling_buffer stream book.buffers ≡ Some b))
        → cond c (number_or book.next_number (filling_buffer stream book.buffers)) book.next_number < (cond c book (with_new_buffer stream book)).next_number
    by true some =
        let b = some refl in
        subst (λ (o : Option Buffer). number_or book.next_number o < book.next_number) (sym b.1)
        (found_is (λ x. x.number < book.next_number) (λ x. same_stream stream x.stream && is_filling x.phase) book.buffers b.0 counted.below b.1).0
    by false some = omega arith
