-- What every book has for which a shelf stands: what the law of tending asks of it.
use Rattle.std.proofs.Common.{◌≡◌, ◌+◌, ◌<◌, ◌≤◌, ℕ, Bool, true, false, cond, List, [], ◌∷◌, map, refl, sym, ◌∙◌, ap, subst, arith}
use Rattle.std.specs.Prelude.{◌==◌, count_by}
use Rattle.std.specs.List.{AllByRecursion, IsDistinct}
use Rattle.std.proofs.lemmas.List.Sums.{sum_by-cons}
use Rattle.disk_model.specs.Disk.{DiskView}
use Rattle.model_device.specs.Book.{Setup, Buffer, client, defrag}
use Rattle.model_device.specs.Book as book
use Rattle.model_device.specs.Device.{State}
use Rattle.write_buffer.specs.declared.stream.Stream.{Stream}
use Rattle.write_buffer.specs.declared.stream.Stream.TheVariants.{Client, Defrag}
use Rattle.write_buffer.specs.Buffers.{BufferState}
use Rattle.block_shelf.specs.View.{ShelfView, IsShelf, IsSetupOf, StandsBefore, StandInOrder}
use Rattle.block_shelf.specs.View as shelf_view
use Rattle.block_shelf.specs.Standing.{StandsFor, BooksStand, book_buffer, book_stream}
use Rattle.block_shelf.proofs.Blocks.{distinct, apart_back}
use Rattle.block_shelf.proofs.Filling.{fills_booked, one_before}
use Rattle.law_room.specs.Tidy.{IsTidy, fills}

abbrev count : Stream → List BufferState → ℕ
count stream bs = count_by (fills (book_stream stream)) (map book_buffer bs)

counted : (stream : Stream) (b : BufferState) (bs : List BufferState) → count stream (b ∷ bs) ≡ cond (shelf_view.fills stream b) 1 0 + count stream bs
counted stream b bs =
    sum_by-cons (λ (x : Buffer). cond (fills (book_stream stream) x) 1 0) (book_buffer b) (map book_buffer bs) ∙ ap (λ (t : Bool). cond t 1 0 + count stream bs) (fills_booked stream b)

none_fills : (stream : Stream) (bs : List BufferState) → AllByRecursion (λ c. shelf_view.fills stream c ≡ false) bs → count stream bs ≡ 0
none_fills stream [] all = refl
none_fills stream (b ∷ bs) all =
    let same = counted stream b bs ∙ ap (λ (t : Bool). cond t 1 0 + count stream bs) all.0 in
    let rest = none_fills stream bs all.1 in
    omega (arith, same, rest)

-- of each stream at most one buffer takes records
one_fills : (stream : Stream) (bs : List BufferState) → StandInOrder bs → count stream bs ≤ 1
one_fills stream [] order = omega arith
one_fills stream (b ∷ bs) order = by (shelf_view.fills stream b) refl (one_fills stream bs order.1)
  where
    others : shelf_view.fills stream b ≡ true → (cs : List BufferState) → AllByRecursion (StandsBefore b) cs → AllByRecursion (λ c. shelf_view.fills stream c ≡ false) cs
    others is [] all = tt
    others is (c ∷ cs) all = (one_before stream b c all.0 is, others is cs all.1)

    by : (t : Bool) → shelf_view.fills stream b ≡ t → count stream bs ≤ 1 → count stream (b ∷ bs) ≤ 1
    by true is rest =
        let one = counted stream b bs ∙ ap (λ (t : Bool). cond t 1 0 + count stream bs) is in
        let none = none_fills stream bs (others is bs order.0) in
        omega (arith, one, none)
    by false is rest =
        let same = counted stream b bs ∙ ap (λ (t : Bool). cond t 1 0 + count stream bs) is in
        omega (arith, same, rest)

pub tidy_for : {D : Type 0} (view : D → DiskView) (shelf : ShelfView D) → IsShelf view shelf → (setup : Setup) → IsSetupOf setup shelf → (s : State) → StandsFor setup shelf s
    → BooksStand setup shelf s → IsTidy setup s.book
tidy_for {D} view shelf is setup set s stands books = record {
  booked = stands.order.booked;
  within = stands.order.within;
  numbered = stands.order.numbered.counted;
  alone = λ stream. subst (λ (bs : List Buffer). count_by (fills stream) bs ≤ 1) (sym stands.buffers) (alone stream);
  once = subst (IsDistinct (λ a b. a == b)) (sym stands.free) (distinct shelf.free (apart_back (map (λ b. b.block) shelf.buffers) shelf.free is.apart));
  own = stands.listed.own;
  below = subst (AllByRecursion (λ b. b < setup.blocks)) (sym books.same) (subst (λ (n : ℕ). AllByRecursion (λ b. b < n) shelf.queue.queue) (sym set.shape.blocks) is.queue.below);
  queued = books.all;
}
  where
    alone : (stream : book.Stream) → count_by (fills stream) (map book_buffer shelf.buffers) ≤ 1
    alone client = one_fills Client shelf.buffers is.order
    alone defrag = one_fills Defrag shelf.buffers is.order
