-- Why a move is refused before its record is read.
use Rattle.std.proofs.Common.{◌≡◌, ◌≢◌, ℕ, ◌≤◌, Bool, true, false, cond, refl, sym, ◌∙◌, ap, arith}
use Rattle.std.specs.Prelude.{Option, Some, None, nat_lt, nat_le, length}
use Rattle.std.proofs.lemmas.Bool.{cond-false}
use Rattle.rec_format.specs.Versions.{top_number}
use Rattle.model_device.specs.Book.{Setup, Book, Stream, defrag, has_room}
use Rattle.model_device.specs.Events.{Cause, too_big, spent, overload, no_space}
use Rattle.model_device.specs.Legal.{no_place, move_reserve, first_cause}
use Rattle.block_shelf.specs.declared.place.Class.TheVariants as class
use Rattle.block_shelf.specs.declared.refusals.PutRefusal.{PutRefusal}
use Rattle.block_shelf.specs.declared.refusals.PutRefusal.TheVariants as put
use Rattle.block_shelf.specs.declared.refusals.ReadRefusal.{ReadRefusal}
use Rattle.block_shelf.specs.declared.refusals.ReadRefusal.TheVariants as read
use Rattle.block_shelf.specs.Reads as reads
use Rattle.block_shelf.specs.Appends.{IsAppendRefusal, append_refusal}
use Rattle.defrag_pass.specs.Moves.{IsUnread, IsUndamaged, refusal_to_append, refusal_to_read}

not_below : (a b : ℕ) → b ≤ a → nat_lt a b ≡ false
not_below a b le = grind (arith)

-- What stands against a copy that isn't too big is that there is no place for it.
pub move_refusal : (setup : Setup) (units : ℕ) (book : Book) → units ≤ setup.capacity → append_refusal setup class.Move units book ≡ no_place setup defrag move_reserve units book
move_refusal setup units book fits =
    ap (λ (o : Option Cause). first_cause o (no_place setup defrag move_reserve units book))
    (cond-false (nat_lt setup.capacity units) (Some (too_big units setup.capacity)) None (not_below setup.capacity units fits))

-- that a copy is too big isn't among that
place_is_not_big : (setup : Setup) (stream : Stream) (kept units size capacity : ℕ) (book : Book) → no_place setup stream kept units book ≢ Some (too_big size capacity)
place_is_not_big setup stream kept units size capacity book =
    by (has_room setup stream units book) (nat_lt top_number book.next_number) (nat_le setup.pending_limit (length book.buffers)) (nat_le (length book.free) kept)
  where
    by : (room late many few : Bool)
        → cond room None (cond late (Some spent) (cond many (Some (overload (length book.buffers))) (cond few (Some (no_space (length book.free))) None))) ≢ Some (too_big size capacity)
    by true late many few is = absurd cc
    by false true many few is = absurd cc
    by false false true few is = absurd cc
    by false false false true is = absurd cc
    by false false false false is = absurd cc

-- The shelf refused an append before it was tried.
pub unread_for : (setup : Setup) (units : ℕ) (book : Book) → units ≤ setup.capacity → (refusal : PutRefusal) → IsAppendRefusal (append_refusal setup class.Move units book) refusal
    → (refusal ≢ put.Memory) × (refusal ≢ put.Fault) → IsUnread (no_place setup defrag move_reserve units book) (refusal_to_append refusal)
unread_for setup units book fits (put.Big size capacity) is asked = absurd (place_is_not_big setup defrag move_reserve units size capacity book (sym (move_refusal setup units book fits) ∙ is))
unread_for setup units book fits put.Spent is asked = sym (move_refusal setup units book fits) ∙ is
unread_for setup units book fits (put.Load pending) is asked = (pending, sym (move_refusal setup units book fits) ∙ is)
unread_for setup units book fits (put.Space free) is asked = (free, sym (move_refusal setup units book fits) ∙ is)
unread_for setup units book fits put.Memory is asked = absurd (asked.0 refl)
unread_for setup units book fits put.Fault is asked = absurd (asked.1 refl)

-- ---- what a read refuses

pub undamaged_for : (refusal : ReadRefusal) → reads.IsUndamaged refusal → IsUndamaged (refusal_to_read refusal)
undamaged_for (read.Damaged kept found) sound = sound
undamaged_for read.Memory sound = tt
undamaged_for read.Fault sound = tt
