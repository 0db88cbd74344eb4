-- The steps of a flush of the sealed buffers up to a number, buffer by buffer.
use Rattle.std.proofs.Common.{◌≡◌, inl, inr, ℕ, ◌+◌, ◌<◌, ◌≤◌, Bool, true, false, ◌&&◌, cond, List, [], ◌∷◌, ◌++◌, map, refl, sym, ◌∙◌, ap, subst, arith, append_assoc}
use Rattle.std.specs.Prelude.{◌⊎◌, nat_le, filter, flat_map, Contains}
use Rattle.std.specs.List.{AllByRecursion}
use Rattle.std.proofs.lemmas.Bool.{false≢true, cond-true, cond-false, and_from, and_right, le-leb, lt-leb}
use Rattle.std.proofs.lemmas.List.Elements.{Contains-append_cases}
use Rattle.std.proofs.lemmas.List.Sums.{sum_by-append}
use Rattle.law_lists.proofs.Between.{all_own, all_without, other_there}
use Rattle.law_lists.proofs.Each.{all_map, all_at, all_joined, all_parted}
use Rattle.model_device.specs.Book.{Buffer, Phase, Stream, filling, sealed, opening, is_filling}
use Rattle.model_device.specs.Device.{State}
use Rattle.model_device.specs.Steps.{Step, flushed_buffer}
use Rattle.model_device.specs.Legal.{flush_of, first_sealed, flush_first, is_flush, flush_count, StopsIn}
use Rattle.write_buffer.specs.declared.phase.Phase as write_phase
use Rattle.write_buffer.specs.declared.phase.Phase.TheVariants.{Filling, Sealed, BodyDone, GateBegun}
use Rattle.write_buffer.specs.Buffers.{BufferState}
use Rattle.block_shelf.specs.View.{StandInOrder, is_unsealed}
use Rattle.block_shelf.specs.Standing.{book_buffer, book_phase}
use Rattle.block_shelf.specs.Flushes.{FirstSealed}
use Rattle.block_shelf.proofs.Filling.{phase_fills}
use Rattle.shard_core.specs.Writing.{EndsRight}

-- ---- one buffer

-- one that takes records isn't flushed
no_flush : (b : BufferState) → is_unsealed b.phase ≡ true → flush_of (book_buffer b) ≡ []
no_flush b fills = by b.phase fills
  where
    by : (q : write_phase.Phase) → is_unsealed q ≡ true → flush_of (record (book_buffer b) { phase = book_phase q }) ≡ []
    by Filling is = refl
    by Sealed is = absurd (false≢true is)
    by BodyDone is = absurd (false≢true is)
    by GateBegun is = absurd (false≢true is)

-- the steps of those up to a number
abbrev pub up_to : (last : ℕ) → List Buffer → List Step
up_to last bs = flat_map flush_of (filter (λ b. nat_le 0 b.number && nat_le b.number last) bs)

chosen : (last n : ℕ) → n ≤ last → (nat_le 0 n && nat_le n last) ≡ true
chosen last n le = and_from (nat_le 0 n) (nat_le n last) (le-leb 0 n (omega arith)) (le-leb n last le)

-- where none has a greater number these are the steps of all
pub all_up_to : (last : ℕ) (bs : List Buffer) → AllByRecursion (λ b. b.number ≤ last) bs → up_to last bs ≡ flat_map flush_of bs
all_up_to last [] all = refl
all_up_to last (b ∷ bs) all = rw (chosen last b.number all.0) (ap (λ (l : List Step). flush_of b ++ l) (all_up_to last bs all.1))

module _ (last : ℕ) where
  abbrev pub flushes : List BufferState → List Step
  flushes bs = up_to last (map book_buffer bs)

  skipped : (b : BufferState) (bs : List BufferState) → is_unsealed b.phase ≡ true → flushes (b ∷ bs) ≡ flushes bs
  skipped b bs fills = by (nat_le 0 b.number && nat_le b.number last)
    where
      rest : List Buffer
      rest = filter (λ b. nat_le 0 b.number && nat_le b.number last) (map book_buffer bs)

      by : (c : Bool) → flat_map flush_of (cond c (book_buffer b ∷ rest) rest) ≡ flat_map flush_of rest
      by true = ap (λ (l : List Step). l ++ flat_map flush_of rest) (no_flush b fills)
      by false = refl

  front_skipped : (front bs : List BufferState) → AllByRecursion (λ b. is_unsealed b.phase ≡ true) front → flushes (front ++ bs) ≡ flushes bs
  front_skipped [] bs all = refl
  front_skipped (b ∷ front) bs all = skipped b (front ++ bs) all.0 ∙ front_skipped front bs all.1

  taken : (b : BufferState) (bs : List BufferState) → b.number ≤ last → flushes (b ∷ bs) ≡ flush_of (book_buffer b) ++ flushes bs
  taken b bs le = rw (chosen last b.number le) refl

  none_above : (bs : List BufferState) → AllByRecursion (λ b. last < b.number) bs → flushes bs ≡ []
  none_above [] all = refl
  none_above (b ∷ bs) all = rw (and_right (nat_le 0 b.number) (nat_le b.number last) (lt-leb b.number last all.0)) (none_above bs all.1)

  -- where all take records there is nothing to flush
  pub none_up_to : (bs : List BufferState) → AllByRecursion (λ b. is_unsealed b.phase ≡ true) bs → flushes bs ≡ []
  none_up_to [] all = refl
  none_up_to (b ∷ bs) all = skipped b bs all.0 ∙ none_up_to bs all.1

-- ---- the first sealed one

front_passed : (front : List BufferState) (bs : List BufferState) → AllByRecursion (λ b. is_unsealed b.phase ≡ true) front
    → first_sealed (map book_buffer (front ++ bs)) ≡ first_sealed (map book_buffer bs)
front_passed [] bs all = refl
front_passed (b ∷ front) bs all =
    cond-true (is_filling (book_phase b.phase)) (first_sealed (map book_buffer (front ++ bs))) (flush_of (book_buffer b)) (phase_fills b.phase ∙ all.0) ∙ front_passed front bs all.1

-- those behind it have greater numbers
behind_above : (front : List BufferState) (b : BufferState) (behind : List BufferState) → StandInOrder (front ++ b ∷ behind) → AllByRecursion (λ c. b.number < c.number) behind
behind_above [] b behind order = all_map _ (λ c. b.number < c.number) behind (λ c before. before.below) order.0
behind_above (x ∷ front) b behind order = behind_above front b behind order.1

module _ (buffers : List BufferState) (order : StandInOrder buffers) (first : FirstSealed buffers) where
  abbrev rest : List BufferState
  rest = first.front ++ first.behind

  above : AllByRecursion (λ c. first.buffer.number < c.number) first.behind
  above = behind_above first.front first.buffer first.behind (subst StandInOrder first.parts order)

  first_is : first_sealed (map book_buffer buffers) ≡ flush_of (book_buffer first.buffer)
  first_is =
      ap (λ (l : List BufferState). first_sealed (map book_buffer l)) first.parts ∙ front_passed first.front (first.buffer ∷ first.behind) first.filling
      ∙ cond-false (is_filling (book_phase first.buffer.phase)) (first_sealed (map book_buffer first.behind)) (flush_of (book_buffer first.buffer)) (phase_fills first.buffer.phase ∙ first.sealed)

  -- it is flushed, and then the others
  pub first_then : (last : ℕ) → first.buffer.number ≤ last → flushes last buffers ≡ first_sealed (map book_buffer buffers) ++ flushes last rest
  first_then last le =
      ap (flushes last) first.parts ∙ front_skipped last first.front (first.buffer ∷ first.behind) first.filling ∙ taken last first.buffer first.behind le
      ∙ ap (λ (l : List Step). l ++ flushes last first.behind) (sym first_is)
      ∙ ap (λ (l : List Step). first_sealed (map book_buffer buffers) ++ l) (sym (front_skipped last first.front first.behind first.filling))

  -- behind the last one nothing is left to flush
  pub last_then : (last : ℕ) → last ≤ first.buffer.number → flushes last rest ≡ []
  last_then last le =
      front_skipped last first.front first.behind first.filling
      ∙ none_above last first.behind (all_map (λ c. first.buffer.number < c.number) (λ c. last < c.number) first.behind (λ c lt. omega (arith, le, lt)) above)

  -- and where none has a greater number only those that take records are left
  pub last_left : (last : ℕ) → last ≤ first.buffer.number → AllByRecursion (λ b. b.number ≤ last) buffers → AllByRecursion (λ b. is_unsealed b.phase ≡ true) rest
  last_left last le most = all_joined (λ b. is_unsealed b.phase ≡ true) first.front first.behind first.filling
      (none first.behind above (all_parted (λ b. b.number ≤ last) first.front (first.buffer ∷ first.behind) (subst (AllByRecursion (λ b. b.number ≤ last)) first.parts most)).1.1)
    where
      none : (bs : List BufferState) → AllByRecursion (λ c. first.buffer.number < c.number) bs → AllByRecursion (λ b. b.number ≤ last) bs → AllByRecursion (λ b. is_unsealed b.phase ≡ true) bs
      none [] all_above all = tt
      none (b ∷ bs) all_above all = absurd (omega (arith, le, all_above.0, all.0))

  -- no sealed one has a lower number
  lowest : (x : BufferState) → Contains buffers x → is_unsealed x.phase ≡ false → first.buffer.number ≤ x.number
  lowest x there shut = in_parts (other_there first.front first.buffer first.behind x (subst (λ (l : List BufferState). Contains l x) first.parts there))
    where
      in_parts : (first.buffer ≡ x) ⊎ Contains (first.front ++ first.behind) x → first.buffer.number ≤ x.number
      in_parts (inl same) = let numbers = ap (λ (b : BufferState). b.number) same in omega (arith, numbers)
      in_parts (inr other) = among (Contains-append_cases first.front first.behind x other)
        where
          among : Contains first.front x ⊎ Contains first.behind x → first.buffer.number ≤ x.number
          among (inl before) = absurd (false≢true (sym shut ∙ all_at (λ b. is_unsealed b.phase ≡ true) first.front x first.filling before))
          among (inr after) = let lt = all_at (λ c. first.buffer.number < c.number) first.behind x above after in omega (arith, lt)

  -- a flush that ends right comes to it, and ends right behind it if it isn't the last
  pub comes_to : (last : ℕ) → EndsRight last buffers → first.buffer.number ≤ last
  comes_to last (inl most) = all_own (λ b. b.number ≤ last) first.front first.buffer first.behind (subst (AllByRecursion (λ b. b.number ≤ last)) first.parts most)
  comes_to last (inr (x, there, number, shut)) = let le = lowest x there shut in omega (arith, le, number)

  pub still_most : (last : ℕ) → AllByRecursion (λ b. b.number ≤ last) buffers → AllByRecursion (λ b. b.number ≤ last) rest
  still_most last most = all_without (λ b. b.number ≤ last) first.front first.buffer first.behind (subst (AllByRecursion (λ b. b.number ≤ last)) first.parts most)

  pub still_ends : (last : ℕ) → first.buffer.number < last → EndsRight last buffers → EndsRight last rest
  still_ends last lt (inl most) = inl (still_most last most)
  still_ends last lt (inr (x, there, number, shut)) = by (other_there first.front first.buffer first.behind x (subst (λ (l : List BufferState). Contains l x) first.parts there))
    where
      by : (first.buffer ≡ x) ⊎ Contains (first.front ++ first.behind) x → EndsRight last (first.front ++ first.behind)
      by (inl same) = let numbers = ap (λ (b : BufferState). b.number) same in absurd (omega (arith, numbers, lt, number))
      by (inr other) = inr (x, other, number, shut)

-- ---- how many

abbrev IsOne : List Step → Type 0
IsOne steps = (front : List Step) (number : ℕ) → steps ≡ front ++ flushed_buffer number ∷ [] → flush_count steps ≡ 1

one_of : (number block : ℕ) (stream : Stream) (used : ℕ) (phase : Phase) (bs : List Buffer)
    → let b : Buffer = record { number = number; block = block; stream = stream; used = used; phase = phase } in IsOne (first_sealed bs) → IsOne (first_sealed (b ∷ bs))
one_of number block stream used filling bs one = one
one_of number block stream used sealed bs one = λ front n is. refl
one_of number block stream used opening bs one = λ front n is. refl

first_is_one : (bs : List Buffer) → IsOne (first_sealed bs)
first_is_one [] = nothing
  where
    nothing : IsOne []
    nothing [] n is = absurd (cc)
    nothing (x ∷ xs) n is = absurd (cc)
first_is_one (b ∷ bs) = one_of b.number b.block b.stream b.used b.phase bs (first_is_one bs)

pub flush_is_one : (s : State) (front : List Step) (number : ℕ) → flush_first s.book ≡ front ++ flushed_buffer number ∷ [] → flush_count (flush_first s.book) ≡ 1
flush_is_one s = first_is_one s.book.buffers

pub count_both : (first then : List Step) → flush_count (first ++ then) ≡ flush_count first + flush_count then
count_both first then = sum_by-append (λ step. cond (is_flush step) 1 0) first then

-- ---- where it stops

pub stops_in_front : (whole steps more : List Step) → StopsIn whole steps → StopsIn (whole ++ more) steps
stops_in_front whole steps more stops = (stops.0, stops.1 ++ more, ap (λ (l : List Step). l ++ more) stops.2 ∙ append_assoc steps (stops.0 ∷ stops.1) more)

pub stops_behind : (first whole steps : List Step) → StopsIn whole steps → StopsIn (first ++ whole) (first ++ steps)
stops_behind first whole steps stops = (stops.0, stops.1, ap (λ (l : List Step). first ++ l) stops.2 ∙ sym (append_assoc first steps (stops.0 ∷ stops.1)))
