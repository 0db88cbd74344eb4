-- A flush of the sealed buffers up to a number, one after another: what each step adds, and how it ends.
use Rattle.std.proofs.Common.{inl, inr, ◌≡◌, ◌≢◌, ℕ, ◌+◌, ◌<◌, ◌≤◌, ◌^◌, true, false, List, [], ◌∷◌, ◌++◌, map, length, refl, sym, ◌∙◌, ap, subst, arith, append_assoc}
use Rattle.std.specs.Prelude.{◌⊎◌, Option, Some, None, Result, Ok, Err, IfOk, MatchOption}
use Rattle.std.specs.List.{AllByRecursion}
use Rattle.std.proofs.lemmas.Bool.{false≢true}
use Rattle.std.proofs.lemmas.List.{append-nil, length-append}
use Rattle.std.specs.Result.{IsErr}
use Rattle.law_lists.proofs.Between.{all_without, all_instead}
use Rattle.law_lists.proofs.Each.{all_map}
use Rattle.model_faults.specs.Counts.{Rose}
use Rattle.model_device.specs.Book.{Setup, Buffer}
use Rattle.model_device.specs.Device.{State}
use Rattle.model_device.specs.Steps.{Step, after_steps}
use Rattle.model_device.specs.Legal.{first_sealed, flush_all, flush_between, flush_first, flush_count, StopsIn}
use Rattle.model_device.proofs.InRow.{after_joined}
use Rattle.disk_model.specs.Disk.{DiskView, IsHonest}
use Rattle.law_start.specs.Sound.{IsShapeOf}
use Rattle.block_format.specs.declared.geometry.Gate.TheVariants.{Unsure}
use Rattle.write_buffer.specs.declared.phase.Phase.TheVariants.{GateBegun}
use Rattle.write_buffer.specs.Buffers.{BufferState, with_phase}
use Rattle.block_shelf.specs.declared.place.ShelfLimits.{ShelfLimits}
use Rattle.block_shelf.specs.View.{ShelfView, IsShelf, IsBufferOf, IsSetupOf, SameShape, is_unsealed, is_written}
use Rattle.block_shelf.specs.Standing.{StandsFor, book_buffer}
use Rattle.block_shelf.specs.Flushes.{FirstSealed, FirstLeaves, FirstStays, FlushMakes, with_disk, with_opening}
use Rattle.block_shelf.specs.Calls.{Goes}
use Rattle.block_shelf.proofs.Blocks.{at_most}
use Rattle.block_shelf.proofs.Going.{goes_then}
use Rattle.shard_core.specs.Calls.{FlushesAll}
use Rattle.shard_core.specs.Writing.{EndsRight}
use Rattle.shard_core.proofs.FlushSteps.{up_to, flushes, all_up_to, none_up_to, first_then, last_then, last_left, comes_to, still_most, still_ends}
use Rattle.shard_core.proofs.FlushSteps.{flush_is_one, count_both, stops_in_front, stops_behind}

-- ---- how many there are

-- as many buffers as blocks at most
pub few_buffers : {D : Type 0} (view : D → DiskView) (shelf : ShelfView D) → IsShelf view shelf → length shelf.buffers ≤ 65536
few_buffers view shelf kept =
    let fit : length shelf.buffers ≤ shelf.geometry.blocks = at_most shelf.geometry.blocks shelf.buffers shelf.free kept.apart
    (all_map (IsBufferOf shelf.geometry shelf.next_number) (λ b. b.block < shelf.geometry.blocks) shelf.buffers (λ b h. h.block) kept.buffers) in
    omega (arith, fit, kept.geometry.blocks)

-- with those that were flushed before they are as many as blocks at most, also before the first
pub fits_before : {D : Type 0} (view : D → DiskView) (count : ℕ) (shelf : ShelfView D) → IsShelf view shelf
    → (count ≡ 0) ⊎ (count + length shelf.buffers ≤ 65536) → count + length shelf.buffers ≤ 65536
fits_before view count shelf kept (inl none) = omega (arith, none, few_buffers view shelf kept)
fits_before view count shelf kept (inr few) = few

-- ---- the loop

pub setup_stays : {D : Type 0} (setup : Setup) (old new : ShelfView D) → SameShape old new → IsSetupOf setup old → IsSetupOf setup new
setup_stays setup old new same is = record {
  shape = subst (IsShapeOf setup) (sym same.geometry) is.shape;
  pending = is.pending ∙ ap (λ (l : ShelfLimits). l.pending) (sym same.limits);
  lwm = is.lwm ∙ ap (λ (l : ShelfLimits). l.lwm) (sym same.limits);
  cache = is.cache ∙ ap (λ (l : ShelfLimits). l.cache) (sym same.limits);
  sprigs = is.sprigs ∙ ap (λ (l : ShelfLimits). l.sprigs) (sym same.limits);
}

module _ {D : Type 0} (view : D → DiskView) where
  abbrev Going : Setup → List Step → ShelfView D → State → ShelfView D → Type 0
  Going setup steps old s new = Goes view setup steps old s new

  -- so many buffers were flushed, and the rest of those up to a number is still to be
  pub record Went (setup : Setup) (last count : ℕ) (old : ShelfView D) (s : State) (new : ShelfView D) : Type 0 where
    pub steps : List Step
    pub left : flush_between 0 last s.book ≡ steps ++ flush_between 0 last (after_steps setup steps s).book
    pub counted : count ≡ flush_count steps
    pub goes : Going setup steps old s new

  -- a flush of the first sealed buffer
  abbrev pub Stepped : {E : Type 0} → Result (Option ℕ) E → (old new : ShelfView D) → Type 0
  Stepped result old new = (setup : Setup) (s : State) → IsSetupOf setup old → StandsFor setup old s → (steps : List Step) × FlushMakes result (flush_first s.book) steps × Going setup steps old s new

  module _ (setup : Setup) (last count : ℕ) (old mid new : ShelfView D) (s : State) (is : IsSetupOf setup mid) (went : Went setup last count old s mid) (kept : IsShelf view mid)
      (honest : IsHonest (view old.disk) → IsHonest (view mid.disk)) where
    abbrev t : State
    t = after_steps setup went.steps s

    -- the state's steps are those of the shelf's buffers
    of_shelf : (shelf : ShelfView D) (u : State) → StandsFor setup shelf u → flush_between 0 last u.book ≡ flushes last shelf.buffers
    of_shelf shelf u stands = ap (up_to last) stands.buffers

    first_of : (first : FirstSealed mid.buffers) → first.buffer.number ≤ last → flush_between 0 last t.book ≡ flush_first t.book ++ flushes last (first.front ++ first.behind)
    first_of first le =
        of_shelf mid t went.goes.stands ∙ first_then mid.buffers kept.order first last le
        ∙ ap (λ (l : List Buffer). first_sealed l ++ flushes last (first.front ++ first.behind)) (sym went.goes.stands.buffers)

    module _ (E : Type 0) (n : ℕ) (stepped : Stepped {E = E} (Ok (Some n)) mid new) (leaves : FirstLeaves n mid new) (ends : EndsRight last mid.buffers) where
      pub went_on : Went setup last (count + 1) old s new
      went_on =
          let one = stepped setup t is went.goes.stands in
          let behind : flushes last (leaves.first.front ++ leaves.first.behind) ≡ flush_between 0 last (after_steps setup one.0 t).book =
          ap (flushes last) (sym leaves.left) ∙ sym (of_shelf new (after_steps setup one.0 t) one.2.stands) in
          let law : flush_between 0 last t.book ≡ one.0 ++ flush_between 0 last (after_steps setup one.0 t).book =
          first_of leaves.first (comes_to mid.buffers kept.order leaves.first last ends) ∙ ap (λ (x : List Step). x ++ flushes last (leaves.first.front ++ leaves.first.behind)) (sym one.1.0)
          ∙ ap (λ (x : List Step). one.0 ++ x) behind in
          let single : flush_count one.0 ≡ 1 = ap flush_count one.1.0 ∙ flush_is_one t one.1.1 n one.1.2 in
          record {
            steps = went.steps ++ one.0;
            left = went.left ∙ ap (λ (x : List Step). went.steps ++ x) law ∙ sym (append_assoc went.steps one.0 (flush_between 0 last (after_steps setup one.0 t).book))
                ∙ ap (λ (x : State). (went.steps ++ one.0) ++ flush_between 0 last x.book) (sym (after_joined setup went.steps one.0 s));
            counted = let both : flush_count (went.steps ++ one.0) ≡ flush_count went.steps + flush_count one.0 = count_both went.steps one.0 in omega (arith, both, single, went.counted);
            goes = goes_then view setup went.steps one.0 old mid new s honest went.goes one.2;
          }

    abbrev Ends : {E : Type 0} → Result ℕ E → Type 0
    Ends result = (steps : List Step) × FlushesAll result (flush_between 0 last s.book) steps × Going setup steps old s new

    -- where no buffer is sealed it ends
    pub went_all : (E : Type 0) → Stepped {E = E} (Ok None) mid new → AllByRecursion (λ b. is_unsealed b.phase ≡ true) mid.buffers → Ends {E = E} (Ok count)
    went_all E stepped none =
        let one = stepped setup t is went.goes.stands in
        let same : went.steps ≡ flush_between 0 last s.book =
        sym (append-nil went.steps) ∙ ap (λ (x : List Step). went.steps ++ x) (sym (of_shelf mid t went.goes.stands ∙ none_up_to last mid.buffers none)) ∙ sym went.left in
        let whole : went.steps ++ one.0 ≡ flush_between 0 last s.book = ap (λ (x : List Step). went.steps ++ x) one.1.1 ∙ append-nil went.steps ∙ same in
        (went.steps ++ one.0, (whole, went.counted ∙ ap flush_count same), goes_then view setup went.steps one.0 old mid new s honest went.goes one.2)

    pub went_stopped : {E : Type 0} (e : E) → Stepped (Err e) mid new → FirstStays mid new → EndsRight last mid.buffers → Ends (Err e)
    went_stopped e stepped stays ends =
        let one = stepped setup t is went.goes.stands in
        let rest : List Step = flushes last (stays.first.front ++ stays.first.behind) in
        let here : StopsIn (flush_between 0 last t.book) one.0 =
        subst (λ (x : List Step). StopsIn x one.0) (sym (first_of stays.first (comes_to mid.buffers kept.order stays.first last ends))) (stops_in_front (flush_first t.book) one.0 rest one.1) in (
          went.steps ++ one.0,
          subst (λ (x : List Step). StopsIn x (went.steps ++ one.0)) (sym went.left)
              (stops_behind went.steps (flush_between 0 last t.book) one.0 here),
          goes_then view setup went.steps one.0 old mid new s honest went.goes one.2,
        )

  -- behind the buffer of the last number it ends
  pub went_through : (setup : Setup) (last count n : ℕ) (E : Type 0) (old mid new : ShelfView D) (s : State) → IsShelf view mid → FirstLeaves n mid new → last ≤ n → Went setup last count old s new
      → (steps : List Step) × FlushesAll {E = E} (Ok count) (flush_between 0 last s.book) steps × Going setup steps old s new
  went_through setup last count n E old mid new s kept leaves le went =
      let none : flush_between 0 last (after_steps setup went.steps s).book ≡ [] =
      ap (up_to last) went.goes.stands.buffers ∙ ap (flushes last) leaves.left ∙ last_then mid.buffers kept.order leaves.first last (subst (λ (k : ℕ). last ≤ k) (sym leaves.own) le) in
      let same : went.steps ≡ flush_between 0 last s.book = sym (append-nil went.steps) ∙ ap (λ (x : List Step). went.steps ++ x) (sym none) ∙ sym went.left in
      (went.steps, (same, went.counted ∙ ap flush_count same), went.goes)

-- ---- all of them

-- no buffer has a greater number than these
pub numbers_most : {D : Type 0} (view : D → DiskView) (shelf : ShelfView D) → IsShelf view shelf → AllByRecursion (λ b. b.number ≤ 2 ^ 62) shelf.buffers
numbers_most view shelf kept = all_map (IsBufferOf shelf.geometry shelf.next_number) (λ b. b.number ≤ 2 ^ 62) shelf.buffers (λ b of. below b.number of.number) kept.buffers
  where
    below : (n : ℕ) → n < shelf.next_number → n ≤ 2 ^ 62
    below n lt = omega (arith, lt, kept.number.1)

pub flush_is_all : {D : Type 0} (setup : Setup) (last : ℕ) (shelf : ShelfView D) (s : State) → StandsFor setup shelf s → AllByRecursion (λ b. b.number ≤ last) shelf.buffers
    → flush_between 0 last s.book ≡ flush_all s.book
flush_is_all setup last shelf s stands most = all_up_to last s.book.buffers (subst (AllByRecursion (λ b. b.number ≤ last)) (sym stands.buffers) (mapped shelf.buffers most))
  where
    mapped : (bs : List BufferState) → AllByRecursion (λ b. b.number ≤ last) bs → AllByRecursion (λ b. b.number ≤ last) (map book_buffer bs)
    mapped [] all = tt
    mapped (b ∷ bs) all = (all.0, mapped bs all.1)

-- ---- which buffers are left

some_between : {X : Type 0} (front : List X) (x : X) (behind : List X) → front ++ x ∷ behind ≡ [] → ⊥
some_between [] x behind is = absurd (cc)
some_between (y ∷ front) x behind is = absurd (cc)

pub record FillsNone {D : Type 0} (shelf : ShelfView D) : Type 0 where
  pub none_filling : AllByRecursion (λ b. is_unsealed b.phase ≡ false) shelf.buffers

pub quiet_on : {D : Type 0} (number : ℕ) (old new : ShelfView D) → FillsNone old → FirstLeaves number old new → FillsNone new
quiet_on number old new quiet leaves =
    let first = leaves.first in
    let all = all_without (λ b. is_unsealed b.phase ≡ false) first.front first.buffer first.behind (subst (AllByRecursion (λ b. is_unsealed b.phase ≡ false)) first.parts quiet.none_filling) in
    record { none_filling = subst (AllByRecursion (λ b. is_unsealed b.phase ≡ false)) (sym leaves.left) all }

pub one_fewer : {D : Type 0} {number : ℕ} {old new : ShelfView D} → FirstLeaves number old new → length old.buffers ≡ length new.buffers + 1
one_fewer {new} leaves =
    let first = leaves.first in
    let before = ap length first.parts ∙ length-append first.front (first.buffer ∷ first.behind) in
    let after = ap length leaves.left ∙ length-append first.front first.behind in
    omega (arith, before, after)

-- none has a greater number
pub record AreUpTo {D : Type 0} (last : ℕ) (shelf : ShelfView D) : Type 0 where
  pub most : AllByRecursion (λ b. b.number ≤ last) shelf.buffers

-- a flush up to a number ends right
pub record EndsWith {D : Type 0} (last : ℕ) (shelf : ShelfView D) : Type 0 where
  pub right : EndsRight last shelf.buffers

module _ {D : Type 0} (view : D → DiskView) (last n : ℕ) (old new : ShelfView D) (kept : IsShelf view old) (leaves : FirstLeaves n old new) where
  pub most_on : AreUpTo last old → AreUpTo last new
  most_on up = record { most = subst (AllByRecursion (λ b. b.number ≤ last)) (sym leaves.left) (still_most old.buffers kept.order leaves.first last up.most) }

  pub ends_on : n < last → EndsWith last old → EndsWith last new
  ends_on lt ends = record { right = subst (EndsRight last) (sym leaves.left) (still_ends old.buffers kept.order leaves.first last (subst (λ (k : ℕ). k < last) (sym leaves.own) lt) ends.right) }

  pub all_gone : last ≤ n → AreUpTo last old → AllByRecursion (λ b. is_unsealed b.phase ≡ true) new.buffers
  all_gone le up = subst (AllByRecursion (λ b. is_unsealed b.phase ≡ true)) (sym leaves.left)
      (last_left old.buffers kept.order leaves.first last (subst (λ (k : ℕ). last ≤ k) (sym leaves.own) le) up.most)

-- after a fault the buffer is left, and none takes records that didn't
pub stays_some : {D : Type 0} (old new : ShelfView D) → FirstStays old new → new.buffers ≢ []
stays_some {D} old new stays none = by stays.stage
  where
    by : ((is_written stays.first.buffer.phase ≡ false) × (new ≡ with_disk new.disk old)) ⊎ (new ≡ with_opening new.disk Unsure old stays.first) → ⊥
    by (inl same) = some_between stays.first.front stays.first.buffer stays.first.behind (sym stays.first.parts ∙ sym (ap (λ (x : ShelfView D). x.buffers) same.1) ∙ none)
    by (inr opened) = some_between stays.first.front (with_phase GateBegun stays.first.buffer) stays.first.behind (sym (ap (λ (x : ShelfView D). x.buffers) opened) ∙ none)

pub stays_quiet : {D : Type 0} (old new : ShelfView D) → FirstStays old new → FillsNone old → FillsNone new
stays_quiet {D} old new stays quiet = by stays.stage
  where
    by : ((is_written stays.first.buffer.phase ≡ false) × (new ≡ with_disk new.disk old)) ⊎ (new ≡ with_opening new.disk Unsure old stays.first) → FillsNone new
    by (inl same) = record { none_filling = subst (AllByRecursion (λ b. is_unsealed b.phase ≡ false)) (sym (ap (λ (x : ShelfView D). x.buffers) same.1)) quiet.none_filling }
    by (inr opened) =
        let first = stays.first in
        let all = all_instead (λ b. is_unsealed b.phase ≡ false) first.front first.buffer (with_phase GateBegun first.buffer) first.behind
        (subst (AllByRecursion (λ b. is_unsealed b.phase ≡ false)) first.parts quiet.none_filling) refl in
        record { none_filling = subst (AllByRecursion (λ b. is_unsealed b.phase ≡ false)) (sym (ap (λ (x : ShelfView D). x.buffers) opened)) all }

-- a shelf from which nothing was flushed yet is the first one
pub whole_still : {D : Type 0} (view : D → DiskView) (old mid : ShelfView D) → (mid ≡ old) ⊎ IsShelf view old → IsShelf view mid → IsShelf view old
whole_still view old mid (inl same) kept = subst (IsShelf view) same kept
whole_still view old mid (inr kept) now = kept

-- where every buffer takes records and none does, there is none
pub none_left : (bs : List BufferState) → AllByRecursion (λ b. is_unsealed b.phase ≡ true) bs → AllByRecursion (λ b. is_unsealed b.phase ≡ false) bs → bs ≡ []
none_left [] all none = refl
none_left (b ∷ bs) all none = absurd (false≢true (sym none.0 ∙ all.0))

-- each buffer that is flushed leaves
abbrev pub Fewer : {D E : Type 0} → Result (Option ℕ) E → (old new : ShelfView D) → Type 0
Fewer result old new = IfOk result (λ number. MatchOption number (new ≡ old) (λ n. FirstLeaves n old new))

pub where_err : {E : Type 0} (result : Result ℕ E) (whole steps : List Step) → IsErr result → StopsIn whole steps → FlushesAll result whole steps
where_err (Ok n) whole steps is stops = absurd (false≢true is)
where_err (Err e) whole steps is stops = stops

pub rose_since : (a b c : ℕ) → a ≤ b → Rose b c → Rose a c
rose_since a b c le rose room = omega (arith, le, rose room)
