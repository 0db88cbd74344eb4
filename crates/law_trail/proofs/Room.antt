-- Where the rules refuse neither a write nor a move, there is room for it.
use Rattle.std.proofs.Common.{◌≡◌, inl, inr, ℕ, ◌≤◌, Bool, true, false, cond, length, Option, Some, None, refl, arith}
use Rattle.std.proofs.lemmas.Bool.{leb-false}
use Rattle.std.specs.Prelude.{nat_lt, nat_le}
use Rattle.rec_format.specs.declared.version.Stamp.{Stamp}
use Rattle.rec_format.specs.Versions.{top_number}
use Rattle.model_device.specs.Book.{Setup, Book, Stream, client, has_room}
use Rattle.model_device.specs.Device.{State}
use Rattle.model_device.specs.Events.{spent, overload, no_space}
use Rattle.model_device.specs.Legal.{no_new_buffer, no_place, no_write}
use Rattle.law_trail.specs.Trail.{CanPlace}

some_free : (setup : Setup) (kept : ℕ) (book : Book) → no_new_buffer setup kept book ≡ None → 1 ≤ length book.free
some_free setup kept book none = by (nat_lt top_number book.next_number) (nat_le setup.pending_limit (length book.buffers)) (nat_le (length book.free) kept) refl none
  where
    by : (a b c : Bool) → nat_le (length book.free) kept ≡ c
        → cond a (Some spent) (cond b (Some (overload (length book.buffers))) (cond c (Some (no_space (length book.free))) None)) ≡ None → 1 ≤ length book.free
    by true b c is e = absurd (cc)
    by false true c is e = absurd (cc)
    by false false true is e = absurd (cc)
    by false false false is e = let more = leb-false (length book.free) kept is in omega arith

-- a place that isn't refused is there
pub place_there : (setup : Setup) (stream : Stream) (kept units : ℕ) (book : Book) → no_place setup stream kept units book ≡ None → CanPlace setup stream units book
place_there setup stream kept units book none = by (has_room setup stream units book) refl none
  where
    by : (b : Bool) → has_room setup stream units book ≡ b → cond b None (no_new_buffer setup kept book) ≡ None → CanPlace setup stream units book
    by true is e = inl is
    by false is e = inr (some_free setup kept book e)

pub write_there : (setup : Setup) (kept units : ℕ) (stamp : Option Stamp) (s : State) → no_write setup kept units stamp s ≡ None → CanPlace setup client units s.book
write_there setup kept units None s none = absurd (cc)
write_there setup kept units (Some stamp) s none = place_there setup client kept units s.book none
