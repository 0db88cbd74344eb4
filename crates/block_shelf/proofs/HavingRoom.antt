-- The book has room for a copy just where the shelf has it.
use Rattle.std.proofs.Common.{◌≡◌, ℕ, ◌+◌, ◌≤◌, true, false, length, map, refl, sym, ◌∙◌, ap, subst}
use Rattle.std.proofs.lemmas.Bool.{false_from_ne_true, le-leb, leb-true}
use Rattle.disk_model.specs.Disk.{DiskView}
use Rattle.model_device.specs.Book.{Setup, Buffer, filling_buffer, fits_in, has_room}
use Rattle.model_device.specs.Device.{State}
use Rattle.law_start.proofs.Placing.{some_room}
use Rattle.write_buffer.specs.declared.stream.Stream.{Stream}
use Rattle.write_buffer.specs.Buffers.{used_units}
use Rattle.block_shelf.specs.View.{ShelfView, IsShelf, IsSetupOf, StandInOrder}
use Rattle.block_shelf.specs.Standing.{book_buffer, book_stream, StandsFor}
use Rattle.block_shelf.specs.Changes.{HasRoom, HasRoomAt}
use Rattle.block_shelf.proofs.Filling.{IsFilling, fills_from, fills_found, fills_parts, found_fills}
use Rattle.block_shelf.proofs.OneRecord.{OneBuffer, one_buffer}

module _ {D : Type 0} (view : D → DiskView) (setup : Setup) (stream : Stream) (s : State) (units : ℕ) (shelf : ShelfView D)
    (is : IsShelf view shelf) (stands : StandsFor setup shelf s) (setup_is : IsSetupOf setup shelf) where
  pub room_there : (at : ℕ) → HasRoomAt stream units at shelf.buffers → has_room setup (book_stream stream) units s.book ≡ true
  room_there at room =
      let front = room.stands.front in
      let b = room.stands.buffer in
      let behind = room.stands.behind in
      let order = subst StandInOrder room.stands.parts is.order in
      let filling = ap (filling_buffer (book_stream stream)) (stands.buffers ∙ ap (map book_buffer) room.stands.parts)
      ∙ fills_found stream front b behind order (fills_from stream b room.fills room.of_stream) in
      let one : OneBuffer shelf b = one_buffer view shelf front b behind is room.stands.parts in
      ap (fits_in setup.capacity units) filling
      ∙ le-leb (used_units b + units) setup.capacity (subst (λ (n : ℕ). used_units b + units ≤ n) (one.is.capacity ∙ sym setup_is.shape.capacity) room.room)

  pub room_nowhere : (HasRoom stream units shelf.buffers → ⊥) → has_room setup (book_stream stream) units s.book ≡ false
  room_nowhere none = false_from_ne_true (has_room setup (book_stream stream) units s.book) (λ fits. none (found fits))
    where
      found : has_room setup (book_stream stream) units s.book ≡ true → HasRoom stream units shelf.buffers
      found has =
          let b = some_room setup.capacity units (filling_buffer (book_stream stream) s.book.buffers) has in
          let filled : IsFilling stream shelf.buffers b.0 = found_fills stream shelf.buffers b.0 (sym (ap (filling_buffer (book_stream stream)) stands.buffers) ∙ b.1) in
          let one : OneBuffer shelf filled.buffer = one_buffer view shelf filled.front filled.buffer filled.behind is filled.parts in
          let fits : b.0.used + units ≤ setup.capacity = leb-true (b.0.used + units) setup.capacity (sym (ap (fits_in setup.capacity units) b.1) ∙ has) in
          let takes = fills_parts stream filled.buffer filled.fills in (
            length filled.front,
            record {
              stands = record { front = filled.front; buffer = filled.buffer; behind = filled.behind; parts = filled.parts; before = refl };
              fills = takes.0;
              of_stream = takes.1;
              room = subst (λ (n : ℕ). used_units filled.buffer + units ≤ n) (setup_is.shape.capacity ∙ sym one.is.capacity)
                  (subst (λ (n : ℕ). n + units ≤ setup.capacity) (sym (ap (λ (x : Buffer). x.used) filled.same)) fits);
            },
          )
