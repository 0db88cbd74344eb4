-- The place in the list of a shelf of the buffer that takes the records of a stream, and whether it has room.
use Rattle.std.proofs.Common.{◌≡◌, ℕ, ◌+◌, ◌<◌, ◌≤◌, Bool, true, false, List, [], ◌∷◌, length, map, take, drop, get_or, suc, refl, sym, ◌∙◌, ap, subst, arith}
use Rattle.std.proofs.lemmas.Bool.{both_ways}
use Rattle.std.proofs.lemmas.List.{length-take-le, set-get_or, set_split}
use Rattle.std.proofs.lemmas.List.Elements.{All-from_all_within, recursion_from_All}
use Rattle.std.specs.Prelude.{Option, Some, None, MatchOption}
use Rattle.std.specs.List.{AllByRecursion, AllWithin, HoldsAt}
use Rattle.law_lists.proofs.Each.{all_map, all_parted}
use Rattle.model_device.specs.Book.{Buffer, filling_buffer}
use Rattle.write_buffer.specs.declared.phase.Phase.TheVariants.{Filling}
use Rattle.write_buffer.specs.declared.stream.Stream.{Stream}
use Rattle.write_buffer.specs.Buffers.{BufferState, used_units}
use Rattle.block_shelf.specs.View.{StandInOrder, fills}
use Rattle.block_shelf.specs.Standing.{book_buffer, book_stream}
use Rattle.block_shelf.specs.Changes.{StandsAt, FillsAt, HasRoom, HasRoomAt}
use Rattle.block_shelf.proofs.Filling.{fills_parts, fills_from, fills_found}
use Rattle.block_shelf.proofs.OneRecord.{read_at}

-- each place below the length has a buffer
abbrev stands_at : (bs : List BufferState) (at : ℕ) (b : BufferState) → at < length bs → StandsAt at bs
stands_at bs at b lt = record {
  front = take at bs;
  buffer = get_or bs at b;
  behind = drop (suc at) bs;
  parts = sym (set-get_or bs at b) ∙ set_split bs at (get_or bs at b) lt;
  before = length-take-le at bs (omega (arith, lt));
}

-- ---- which buffer takes the records of a stream

abbrev pub TakesThose : Stream → BufferState → Type 0
TakesThose stream b = (b.phase ≡ Filling) × (b.stream ≡ stream)

unfilled : (stream : Stream) (b : BufferState) → (TakesThose stream b → ⊥) → fills stream b ≡ false
unfilled stream b never = by (fills stream b) refl
  where
    by : (t : Bool) → fills stream b ≡ t → fills stream b ≡ false
    by false is = is
    by true is = absurd (never (fills_parts stream b is))

pub filling_told : (stream : Stream) (bs : List BufferState) (r : Option ℕ)
    → MatchOption r (AllWithin (λ b. TakesThose stream b → ⊥) bs 0 (length bs)) (λ i. (i < length bs) × HoldsAt (TakesThose stream) bs i × AllWithin (λ b. TakesThose stream b → ⊥) bs 0 i)
    → MatchOption r (AllByRecursion (λ b. fills stream b ≡ false) bs) (λ at. FillsAt stream at bs)
filling_told stream bs None none =
    all_map (λ b. TakesThose stream b → ⊥) (λ b. fills stream b ≡ false) bs (unfilled stream)
    (recursion_from_All (λ b. TakesThose stream b → ⊥) bs (All-from_all_within (λ b. TakesThose stream b → ⊥) bs none))
filling_told stream [] (Some at) found = absurd (omega (arith, found.0))
filling_told stream (b ∷ bs) (Some at) found =
    let takes = found.1 b in record { stands = stands_at (b ∷ bs) at b found.0; fills = fills_from stream (get_or (b ∷ bs) at b) takes.0 takes.1 }

-- ---- whether it has room

module _ (stream : Stream) (units : ℕ) (bs : List BufferState) where
  -- none takes them
  pub none_with_room : AllByRecursion (λ b. fills stream b ≡ false) bs → HasRoom stream units bs → ⊥
  none_with_room all has =
      let s = has.1.stands in
      both_ways (fills stream s.buffer) (all_parted (λ b. fills stream b ≡ false) s.front (s.buffer ∷ s.behind) (subst (AllByRecursion (λ b. fills stream b ≡ false)) s.parts all)).1.0
      (fills_from stream s.buffer has.1.fills has.1.of_stream)

  module _ (at : ℕ) (found : FillsAt stream at bs) (b : BufferState) (read : b ≡ get_or bs at b) (room : ℕ) (left : used_units b + room ≡ b.capacity) where
    abbrev s : StandsAt at bs
    s = found.stands

    here : b ≡ s.buffer
    here = read_at s.front s.buffer s.behind bs at s.parts s.before b read

    pub room_is_there : units ≤ room → HasRoomAt stream units at bs
    room_is_there fits =
        let takes = fills_parts stream s.buffer found.fills in
        record { stands = s; fills = takes.0; of_stream = takes.1; room = subst (λ (x : BufferState). used_units x + units ≤ x.capacity) here (omega (arith, fits, left)) }

    same_use : (x y : BufferState) → Some (book_buffer x) ≡ Some (book_buffer y) → used_units x ≡ used_units y
    same_use x y e = let same : book_buffer x ≡ book_buffer y = cc in ap (λ (z : Buffer). z.used) same

    -- it hasn't, and it is the one that takes them
    pub room_is_less : room < units → StandInOrder bs → (capacity : ℕ) → AllByRecursion (λ x. x.capacity ≡ capacity) bs → HasRoom stream units bs → ⊥
    room_is_less less order capacity sized has =
        let o = has.1.stands in
        let found_here = ap (λ (l : List BufferState). filling_buffer (book_stream stream) (map book_buffer l)) s.parts
        ∙ fills_found stream s.front s.buffer s.behind (subst StandInOrder s.parts order) found.fills in
        let found_other = ap (λ (l : List BufferState). filling_buffer (book_stream stream) (map book_buffer l)) o.parts
        ∙ fills_found stream o.front o.buffer o.behind (subst StandInOrder o.parts order) (fills_from stream o.buffer has.1.fills has.1.of_stream) in
        let used = same_use s.buffer o.buffer (sym found_here ∙ found_other) in
        let size_here = (all_parted (λ x. x.capacity ≡ capacity) s.front (s.buffer ∷ s.behind) (subst (AllByRecursion (λ x. x.capacity ≡ capacity)) s.parts sized)).1.0 in
        let size_other = (all_parted (λ x. x.capacity ≡ capacity) o.front (o.buffer ∷ o.behind) (subst (AllByRecursion (λ x. x.capacity ≡ capacity)) o.parts sized)).1.0 in
        let same_left : used_units s.buffer + room ≡ s.buffer.capacity = subst (λ (x : BufferState). used_units x + room ≡ x.capacity) here left in
        let fits = has.1.room in
        omega (arith, less, used, size_here, size_other, same_left, fits)
