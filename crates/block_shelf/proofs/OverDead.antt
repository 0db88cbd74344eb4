-- Where few blocks are free, a buffer that takes records is sealed if it holds a block in which nothing is live.
use Rattle.std.proofs.Common.{◌≡◌, ◌≢◌, inl, inr, ⊎_elim, ℕ, ◌+◌, ◌<◌, ◌≤◌, Bool, true, false, ◌&&◌, List, [], ◌∷◌, ◌++◌, map, length, sum_by, refl, sym, ◌∙◌, ap, subst, arith, ◌-◌, ◌*◌, ◌||◌}
use Rattle.std.specs.Prelude.{nat_lt, is_some, Option, Some, None, filter, Contains, ◌==◌, nat_le, IsTrue, MatchBool}
use Rattle.std.specs.List.{AllByRecursion}
use Rattle.std.proofs.lemmas.Bool.{false≢true, eq-eqb, eqb-true, ne_eqb, leb-true, le-leb, ltb-true, lt-ltb, le-ltb, and_parts, or_cases, or_left, or_right, and_from, cases_eq}
use Rattle.std.proofs.lemmas.List.Sums.{sum_by-cons}
use Rattle.law_lists.proofs.Counts.{part_of_sum}
use Rattle.law_lists.proofs.Each.{all_at, all_from}
use Rattle.law_lists.proofs.Filters.{filter_none}
use Rattle.law_lists.proofs.Finding.{any_there, some_at}
use Rattle.law_lists.proofs.Members.{filter_there, first_there, rest_there, map_there, map_from}
use Rattle.disk_model.specs.Disk.{DiskView, IsDisk, IsHonest}
use Rattle.rec_format.specs.Versions.{block_capacity}
use Rattle.model_device.proofs.Blocks.{empty_is}
use Rattle.model_device.specs.Book.{Setup, Buffer, Live, client, defrag, filling_buffer, holds_dead, use_of}
use Rattle.model_device.specs.Device.{State}
use Rattle.model_device.specs.Steps.{after_step, after_steps}
use Rattle.model_device.specs.Vacating.{can_gain}
use Rattle.model_device.specs.Legal.{seal_if, is_short, is_empty, has_gathered, is_due, seal_low}
use Rattle.write_buffer.specs.declared.stream.Stream.{Stream}
use Rattle.write_buffer.specs.declared.stream.Stream.TheVariants.{Client, Defrag}
use Rattle.write_buffer.specs.Buffers.{BufferState, used_units}
use Rattle.block_shelf.specs.Lives.{LiveCopy, copies_in, live_in_block}
use Rattle.hold_book.specs.Holds.{has_hold}
use Rattle.block_shelf.specs.View.{ShelfView, IsShelf, IsSetupOf, IsBufferOf, StandInOrder, fills, is_stream}
use Rattle.block_shelf.specs.Standing.{StandsFor, BooksStand, book_stream}
use Rattle.block_shelf.specs.Calls.{Goes}
use Rattle.block_shelf.specs.Changes.{sealed_buffer, sealed_in}
use Rattle.block_shelf.specs.Low.{HoldsDead, FillsOverDead, IsShort, HasGathered, IsLow, SealsLow, with_sealed}
use Rattle.block_shelf.proofs.Filling.{IsFilling, fills_parts, found_fills, found_there, none_found, stream_self}
use Rattle.block_shelf.proofs.Going.{goes_none, goes_then}
use Rattle.block_shelf.proofs.Sealing.{seals_in}
use Rattle.block_shelf.proofs.SealSteps.{goes_sealed, other_after, still_told}
use Rattle.block_shelf.proofs.Streams.{in_own, in_other}

-- ---- blocks in which nothing is live

pub none_used : (cs : List LiveCopy) → AllByRecursion (λ c. 1 ≤ c.units) cs → sum_by (λ c. c.units) cs ≡ 0 → cs ≡ []
none_used [] takes none = refl
none_used (c ∷ cs) takes none = let first = takes.0 in absurd (omega (arith, sum_by-cons (λ (d : LiveCopy). d.units) c cs, first, none))

-- a loop over the blocks passes one more
pub one_passed : (held : ℕ → Bool) (used : ℕ → ℕ) (copies : ℕ → List LiveCopy) → ((b : ℕ) → used b ≡ sum_by (λ c. c.units) (copies b)) → (k : ℕ) → ((used k ≡ 0) → held k ≡ false)
    → ((b : ℕ) → b < k → held b ≡ true → copies b ≡ [] → ⊥) → (b : ℕ) → b < k + 1 → held b ≡ true → copies b ≡ [] → ⊥
one_passed held used copies is k passed before b lt own none =
    ⊎_elim (λ (e : b ≡ k). false≢true (sym (passed (is k ∙ ap (sum_by (λ (c : LiveCopy). c.units)) (ap copies (sym e) ∙ none))) ∙ ap held (sym e) ∙ own))
    (λ (other : b ≢ k). before b (omega (arith, other, lt)) own none) (cases_eq b k)

-- ---- the buffer that takes the records of a stream

pub stands_there : (front : List BufferState) (b : BufferState) (behind : List BufferState) → Contains (front ++ b ∷ behind) b
stands_there [] b behind = first_there b behind
stands_there (x ∷ front) b behind = rest_there x (front ++ b ∷ behind) b (stands_there front b behind)

same_found : {x y : Buffer} → Some x ≡ Some y → x ≡ y
same_found e = cc

-- two that do have one number
same_filling : (stream : Stream) (bs : List BufferState) (b c : BufferState) → StandInOrder bs → Contains bs b → Contains bs c → fills stream b ≡ true → fills stream c ≡ true → b.number ≡ c.number
same_filling stream bs b c order in_b in_c fills_b fills_c = ap (λ (x : Buffer). x.number) (same_found (sym (found_there stream bs b order in_b fills_b) ∙ found_there stream bs c order in_c fills_c))

-- what is true of it decides
pub over_filling : {D : Type 0} (stream : Stream) (shelf : ShelfView D) (b : BufferState) → StandInOrder shelf.buffers → Contains shelf.buffers b → fills stream b ≡ true → (n : ℕ) → n ≡ b.number
    → (r : Bool) → MatchBool r (HoldsDead shelf n) (HoldsDead shelf n → ⊥) → MatchBool r (FillsOverDead stream shelf) (FillsOverDead stream shelf → ⊥)
over_filling stream shelf b order there is n number true told = record { buffer = b; there = there; fills = is; holds = subst (HoldsDead shelf) number told }
over_filling stream shelf b order there is n number false told = λ over.
    told (subst (HoldsDead shelf) (sym (number ∙ same_filling stream shelf.buffers b over.buffer order there over.there is over.fills)) over.holds)

-- ---- the book

module _ {D : Type 0} (view : D → DiskView) (shelf : ShelfView D) (is : IsShelf view shelf) (setup : Setup) (s : State) (set : IsSetupOf setup shelf) (stands : StandsFor setup shelf s)
    (books : BooksStand setup shelf s) where
  -- nothing is live in a block where its use is none
  use_none : (block : ℕ) → use_of s.book block ≡ 0 → copies_in block shelf.lives ≡ []
  use_none block none = over (copies_in block shelf.lives) (λ c there. there) (is.each block).takes
    where
      over : (cs : List LiveCopy) → ((c : LiveCopy) → Contains cs c → Contains (copies_in block shelf.lives) c) → AllByRecursion (λ c. 1 ≤ c.units) cs → cs ≡ []
      over [] within takes = refl
      over (c ∷ cs) within takes =
          let live = stands.lives.there block c (within c (first_there c cs)) in
          let part = part_of_sum (λ (l : Live). l.units) (filter (λ (l : Live). l.block == block) s.book.live) (live_in_block block c)
          (filter_there (λ (l : Live). l.block == block) s.book.live (live_in_block block c) (eq-eqb block block refl) live) in
          let one = takes.0 in absurd (omega (arith, none, part, one))

  none_use : (block : ℕ) → copies_in block shelf.lives ≡ [] → use_of s.book block ≡ 0
  none_use block dead = ap (sum_by (λ (l : Live). l.units)) (filter_none (λ (l : Live). l.block == block) s.book.live
      (all_from (λ l. (l.block == block) ≡ false) s.book.live (λ l there. ne_eqb l.block block (λ at.
      let c : LiveCopy = record { digest = l.digest; unit = l.unit; units = l.units } in
      let known = stands.lives.known l.block c there in
      let gone = subst (λ (cs : List LiveCopy). Contains cs c) dead (subst (λ (b : ℕ). Contains (copies_in b shelf.lives) c) at known) in omega (arith, gone.1)))))

  module _ (stream : Stream) where
    abbrev found : Option Buffer
    found = filling_buffer (book_stream stream) s.book.buffers

    -- the filling buffer of the book, if there is one, holds a dead block just where that of the shelf does
    dead_is : FillsOverDead stream shelf → holds_dead s.book found ≡ true
    dead_is over =
        let hold : ℕ × ℕ = (over.buffer.number, over.holds.block) in
        ap (holds_dead s.book) (ap (filling_buffer (book_stream stream)) stands.buffers ∙ found_there stream shelf.buffers over.buffer is.order over.there over.fills)
        ∙ any_there (λ (h : ℕ × ℕ). (h.0 == over.buffer.number) && (use_of s.book h.1 == 0)) s.book.holds hold (stands.holds.there over.buffer.number over.holds.block over.holds.held)
        (ap (λ (x : Bool). x && (use_of s.book over.holds.block == 0)) (eq-eqb over.buffer.number over.buffer.number refl)
        ∙ eq-eqb (use_of s.book over.holds.block) 0 (none_use over.holds.block over.holds.dead))

    is_dead : holds_dead s.book found ≡ true → FillsOverDead stream shelf
    is_dead told = by found refl told
      where
        by : (o : Option Buffer) → found ≡ o → holds_dead s.book o ≡ true → FillsOverDead stream shelf
        by None is_found told = absurd (false≢true told)
        by (Some b) is_found told =
            let one : IsFilling stream shelf.buffers b = found_fills stream shelf.buffers b (ap (filling_buffer (book_stream stream)) (sym stands.buffers) ∙ is_found) in
            let some = some_at (λ (h : ℕ × ℕ). (h.0 == b.number) && (use_of s.book h.1 == 0)) s.book.holds told in
            let two = and_parts (some.0.0 == b.number) (use_of s.book some.0.1 == 0) some.2 in
            let number : some.0.0 ≡ one.buffer.number = eqb-true some.0.0 b.number two.0 ∙ sym (ap (λ (x : Buffer). x.number) one.same) in
            record {
              buffer = one.buffer;
              there = subst (λ (bs : List BufferState). Contains bs one.buffer) (sym one.parts) (stands_there one.front one.buffer one.behind);
              fills = one.fills;
              holds = record {
                block = some.0.1;
                held = subst (λ (n : ℕ). IsTrue (has_hold shelf.holds.holds n some.0.1)) number (stands.holds.known some.0.0 some.0.1 some.1);
                dead = use_none some.0.1 (eqb-true (use_of s.book some.0.1) 0 two.1);
              };
            }

    -- the share of the book is that of the shelf
    same_share : (used : ℕ) → nat_lt ((setup.capacity - used) * 100) (setup.lwm * setup.capacity)
        ≡ nat_lt ((block_capacity shelf.geometry.block_size - used) * 100) (shelf.limits.lwm * block_capacity shelf.geometry.block_size)
    same_share used =
        ap (λ (n : ℕ). nat_lt ((n - used) * 100) (setup.lwm * n)) set.shape.capacity
        ∙ ap (λ (n : ℕ). nat_lt ((block_capacity shelf.geometry.block_size - used) * 100) (n * block_capacity shelf.geometry.block_size)) set.lwm

    -- the book's buffer is short where the shelf's is
    short_is : IsShort shelf → is_short setup (filling_buffer defrag s.book.buffers) ≡ true
    short_is short =
        ap (is_short setup) (ap (filling_buffer defrag) stands.buffers ∙ found_there Defrag shelf.buffers short.buffer is.order short.there short.fills)
        ∙ same_share (used_units short.buffer) ∙ lt-ltb ((block_capacity shelf.geometry.block_size - used_units short.buffer) * 100)
        (shelf.limits.lwm * block_capacity shelf.geometry.block_size) short.short

    is_short_too : is_short setup (filling_buffer defrag s.book.buffers) ≡ true → IsShort shelf
    is_short_too told = by (filling_buffer defrag s.book.buffers) refl told
      where
        by : (o : Option Buffer) → filling_buffer defrag s.book.buffers ≡ o → is_short setup o ≡ true → IsShort shelf
        by None is_found told = absurd (false≢true told)
        by (Some b) is_found told =
            let one : IsFilling Defrag shelf.buffers b = found_fills Defrag shelf.buffers b (ap (filling_buffer defrag) (sym stands.buffers) ∙ is_found) in
            record {
              buffer = one.buffer;
              there = subst (λ (bs : List BufferState). Contains bs one.buffer) (sym one.parts) (stands_there one.front one.buffer one.behind);
              fills = one.fills;
              short = ltb-true ((block_capacity shelf.geometry.block_size - used_units one.buffer) * 100) (shelf.limits.lwm * block_capacity shelf.geometry.block_size)
                  (sym (same_share (used_units one.buffer)) ∙ ap (λ (x : Buffer). nat_lt ((setup.capacity - x.used) * 100) (setup.lwm * setup.capacity)) one.same ∙ told);
            }

    gathered_is : (st : Stream) → HasGathered st shelf → has_gathered setup s.book (book_stream st) ≡ true
    gathered_is Client has = refl
    gathered_is Defrag (inl none) = ap (λ (l : List ℕ). is_empty l || (is_empty s.book.free && is_short setup (filling_buffer defrag s.book.buffers))) (books.same ∙ none)
    gathered_is Defrag (inr (none, short)) =
        or_right (is_empty s.book.queue) (is_empty s.book.free && is_short setup (filling_buffer defrag s.book.buffers))
        (and_from (is_empty s.book.free) (is_short setup (filling_buffer defrag s.book.buffers)) (ap is_empty (stands.free ∙ none)) (short_is short))

    has_gathered_too : (st : Stream) → has_gathered setup s.book (book_stream st) ≡ true → HasGathered st shelf
    has_gathered_too Client told = tt
    has_gathered_too Defrag told =
        ⊎_elim (λ (none : is_empty s.book.queue ≡ true). inl (sym books.same ∙ empty_is s.book.queue none))
        (λ (rest : (is_empty s.book.free && is_short setup (filling_buffer defrag s.book.buffers)) ≡ true).
        let two = and_parts (is_empty s.book.free) (is_short setup (filling_buffer defrag s.book.buffers)) rest in
        inr (sym stands.free ∙ empty_is s.book.free two.0, is_short_too two.1))
        (or_cases (is_empty s.book.queue) (is_empty s.book.free && is_short setup (filling_buffer defrag s.book.buffers)) told)

    abbrev low : Bool
    low = is_due setup s.book (book_stream stream)

    low_is : IsLow stream shelf → low ≡ true
    low_is is_low =
        ap (λ (x : Bool). x && holds_dead s.book found && has_gathered setup s.book (book_stream stream)) (ap (λ (l : List ℕ). nat_le (length l) 6) stands.free
        ∙ le-leb (length shelf.free) 6 is_low.few)
        ∙ ap (λ (x : Bool). x && has_gathered setup s.book (book_stream stream)) (dead_is is_low.over) ∙ gathered_is stream is_low.gathered

    high_is : (IsLow stream shelf → ⊥) → low ≡ false
    high_is high = by (nat_le (length s.book.free) 6) (holds_dead s.book found) (has_gathered setup s.book (book_stream stream)) refl refl refl
      where
        by : (few dead gathered : Bool) → nat_le (length s.book.free) 6 ≡ few → holds_dead s.book found ≡ dead → has_gathered setup s.book (book_stream stream) ≡ gathered
            → (few && dead && gathered) ≡ false
        by false dead gathered is_few told all = refl
        by true false gathered is_few told all = refl
        by true true false is_few told all = refl
        by true true true is_few told all = absurd (high (record {
          few = leb-true (length shelf.free) 6 (sym (ap (λ (l : List ℕ). nat_le (length l) 6) stands.free) ∙ is_few);
          over = is_dead told;
          gathered = has_gathered_too stream all;
        }))

    -- one seal of the stream, or none
    pub goes_where_low : IsDisk (view shelf.disk) → (new : ShelfView D) → SealsLow stream shelf new → Goes view setup (seal_if low (book_stream stream)) shelf s new
    goes_where_low is_disk new (inl (is_low, is_new)) =
        subst (Goes view setup (seal_if low (book_stream stream)) shelf s) (sym is_new)
        (subst (λ (c : Bool). Goes view setup (seal_if c (book_stream stream)) shelf s (with_sealed stream shelf)) (sym (low_is is_low)) (goes_sealed setup stream shelf s view is_disk stands))
    goes_where_low is_disk new (inr (high, is_new)) =
        subst (Goes view setup (seal_if low (book_stream stream)) shelf s) (sym is_new)
        (subst (λ (c : Bool). Goes view setup (seal_if c (book_stream stream)) shelf s shelf) (sym (high_is high)) (goes_none view setup shelf s is_disk stands))

-- ---- what is short, and what can gain room, as the calls find it

-- the buffer that takes moved records, and its room
pub short_at : {D : Type 0} (shelf : ShelfView D) (next : ℕ) → AllByRecursion (IsBufferOf shelf.geometry next) shelf.buffers → StandInOrder shelf.buffers → (b : BufferState)
    → Contains shelf.buffers b → fills Defrag b ≡ true
    → (room capacity : ℕ) → used_units b + room ≡ b.capacity → capacity ≡ block_capacity shelf.geometry.block_size → (r : Bool) → r ≡ nat_lt (room * 100) (shelf.limits.lwm * capacity)
    → MatchBool r (IsShort shelf) (IsShort shelf → ⊥)
short_at shelf next each order b there is room capacity room_is capacity_is r told = by r told
  where
    left : room ≡ block_capacity shelf.geometry.block_size - used_units b
    left = let own = (all_at (IsBufferOf shelf.geometry next) shelf.buffers b each there).capacity in omega (arith, own, room_is)

    same : nat_lt (room * 100) (shelf.limits.lwm * capacity) ≡ nat_lt ((block_capacity shelf.geometry.block_size - used_units b) * 100) (shelf.limits.lwm * block_capacity shelf.geometry.block_size)
    same = ap (λ (n : ℕ). nat_lt (n * 100) (shelf.limits.lwm * capacity)) left
        ∙ ap (λ (n : ℕ). nat_lt ((block_capacity shelf.geometry.block_size - used_units b) * 100) (shelf.limits.lwm * n)) capacity_is

    by : (t : Bool) → t ≡ nat_lt (room * 100) (shelf.limits.lwm * capacity) → MatchBool t (IsShort shelf) (IsShort shelf → ⊥)
    by true is_so = record { buffer = b; there = there; fills = is; short = ltb-true _ _ (sym (is_so ∙ same)) }
    by false is_so = λ short.
        false≢true (is_so ∙ same ∙ ap (λ (x : Buffer). nat_lt ((block_capacity shelf.geometry.block_size - x.used) * 100) (shelf.limits.lwm * block_capacity shelf.geometry.block_size))
        (same_found (sym (found_there Defrag shelf.buffers b order there is) ∙ found_there Defrag shelf.buffers short.buffer order short.there short.fills)) ∙ lt-ltb _ _ short.short)

-- a filling buffer of moved records
pub gains_filling : {D : Type 0} (setup : Setup) (shelf : ShelfView D) (s : State) → StandsFor setup shelf s → StandInOrder shelf.buffers → (b : BufferState) → Contains shelf.buffers b
    → fills Defrag b ≡ true → can_gain s.book ≡ true
gains_filling setup shelf s stands order b there is =
    or_left (nat_lt 7 (length s.book.free) || is_some (filling_buffer defrag s.book.buffers)) (nat_lt 1 (length s.book.queue))
    (or_right (nat_lt 7 (length s.book.free)) (is_some (filling_buffer defrag s.book.buffers))
    (ap is_some (ap (filling_buffer defrag) stands.buffers ∙ found_there Defrag shelf.buffers b order there is)))

-- none, and at most 7 blocks are free
pub gains_several : {D : Type 0} (setup : Setup) (shelf : ShelfView D) (s : State) → StandsFor setup shelf s → BooksStand setup shelf s → AllByRecursion (λ b. fills Defrag b ≡ false) shelf.buffers
    → (free queued : ℕ) → free ≡ length shelf.free → free ≤ 7 → queued ≡ length shelf.queue.queue → nat_lt 1 queued ≡ can_gain s.book
gains_several setup shelf s stands books none free queued free_is few queued_is =
    ap (nat_lt 1) (queued_is ∙ sym (ap length books.same))
    ∙ ap (λ (o : Option Buffer). is_some o || nat_lt 1 (length s.book.queue)) (sym (ap (filling_buffer defrag) stands.buffers ∙ none_found Defrag shelf.buffers none))
    ∙ ap (λ (x : Bool). (x || is_some (filling_buffer defrag s.book.buffers)) || nat_lt 1 (length s.book.queue))
    (sym (le-ltb 7 (length s.book.free) (subst (λ (n : ℕ). n ≤ 7) (free_is ∙ sym (ap length stands.free)) few)))

-- ---- both streams, one after the other

-- what decides of the second stream is as it was
still_due : (setup : Setup) (c : Bool) (s : State) → is_due setup (after_steps setup (seal_if c client) s).book defrag ≡ is_due setup s.book defrag
unfolding after_step
still_due setup true s =
    ap (λ (o : Option Buffer). nat_le (length s.book.free) 6 && holds_dead s.book o && (is_empty s.book.queue || (is_empty s.book.free && is_short setup o))) (other_after setup true s)
still_due setup false s = refl

pub goes_low : {D : Type 0} (view : D → DiskView) (old mid new : ShelfView D) → IsShelf view old → IsShelf view mid → (setup : Setup) (s : State) → IsSetupOf setup old
    → StandsFor setup old s → BooksStand setup old s
    → IsDisk (view old.disk) → IsDisk (view mid.disk) → SealsLow Client old mid → SealsLow Defrag mid new → Goes view setup (seal_low setup s.book) old s new
goes_low {D} view old mid new is_old is_mid setup s set stands books disk_old disk_mid first then =
    let due : Bool = is_due setup s.book client in
    let after : State = after_steps setup (seal_if due client) s in
    let one = goes_where_low view old is_old setup s set stands books Client disk_old mid first in
    let two = goes_where_low view mid is_mid setup after (same_set first) one.stands (one.queued books) Defrag disk_mid new then in
    goes_then view setup (seal_if due client) (seal_if (is_due setup s.book defrag) defrag) old mid new s
    (λ honest. subst (λ (disk : D). IsHonest (view disk)) (sym (same_disk first)) honest) one
    (subst (λ (c : Bool). Goes view setup (seal_if c defrag) mid after new) (still_due setup due s) two)
  where
    same_disk : SealsLow Client old mid → mid.disk ≡ old.disk
    same_disk (inl (is_low, is)) = ap (λ (v : ShelfView D). v.disk) is
    same_disk (inr (high, is)) = ap (λ (v : ShelfView D). v.disk) is

    same_set : SealsLow Client old mid → IsSetupOf setup mid
    same_set (inl (is_low, is)) = subst (IsSetupOf setup) (sym is) (record { shape = set.shape; pending = set.pending; lwm = set.lwm; cache = set.cache; sprigs = set.sprigs })
    same_set (inr (high, is)) = subst (IsSetupOf setup) (sym is) set

-- ---- which buffers are sealed

module _ {D : Type 0} where
  -- a buffer of the other stream stays
  other_stays : (stream : Stream) (old new : ShelfView D) (b : BufferState) → Contains old.buffers b → is_stream stream b.stream ≡ false → SealsLow stream old new → Contains new.buffers b
  other_stays stream old new b there other (inl (is_low, is)) =
      subst (λ (v : ShelfView D). Contains v.buffers b) (sym is) (subst (Contains (map (sealed_in stream) old.buffers)) (in_other stream b other) (map_there (sealed_in stream) old.buffers b there))
  other_stays stream old new b there other (inr (high, is)) = subst (λ (v : ShelfView D). Contains v.buffers b) (sym is) there

  own_sealed : (stream : Stream) (old new : ShelfView D) (b : BufferState) → Contains old.buffers b → b.stream ≡ stream → IsLow stream old → SealsLow stream old new
      → Contains new.buffers (sealed_buffer b)
  own_sealed stream old new b there own is_low (inl (told, is)) =
      subst (λ (v : ShelfView D). Contains v.buffers (sealed_buffer b)) (sym is)
      (subst (Contains (map (sealed_in stream) old.buffers)) (in_own stream b (ap (is_stream stream) own ∙ stream_self stream)) (map_there (sealed_in stream) old.buffers b there))
  own_sealed stream old new b there own is_low (inr (high, is)) = absurd (high is_low)

  own_stays : (stream : Stream) (old new : ShelfView D) (b : BufferState) → Contains old.buffers b → (IsLow stream old → ⊥) → SealsLow stream old new → Contains new.buffers b
  own_stays stream old new b there high (inl (is_low, is)) = absurd (high is_low)
  own_stays stream old new b there high (inr (is_high, is)) = subst (λ (v : ShelfView D). Contains v.buffers b) (sym is) there

  -- what a seal of the clients' stream leaves of the other
  filling_still : (old : ShelfView D) (b : BufferState) → Contains old.buffers b → fills Defrag b ≡ true → Contains (with_sealed Client old).buffers b
  filling_still old b there is =
      subst (Contains (map (sealed_in Client) old.buffers)) (in_other Client b (ap (is_stream Client) (fills_parts Defrag b is).1)) (map_there (sealed_in Client) old.buffers b there)

  filling_before : (old : ShelfView D) (b : BufferState) → Contains (with_sealed Client old).buffers b → fills Defrag b ≡ true → Contains old.buffers b
  filling_before old b there is =
      let from = map_from (sealed_in Client) old.buffers b there in
      let stream = sym (still_told (λ (c : BufferState). c.stream) (λ c. refl) (sealed_in Client) (seals_in Client) from.0) ∙ ap (λ (c : BufferState). c.stream) from.2 ∙ (fills_parts Defrag b is).1 in
      subst (Contains old.buffers) (sym (in_other Client from.0 (ap (is_stream Client) stream)) ∙ from.2) from.1

  gathered_still : (old : ShelfView D) → HasGathered Defrag old → HasGathered Defrag (with_sealed Client old)
  gathered_still old (inl none) = inl none
  gathered_still old (inr (none, short)) =
      inr (none, record { buffer = short.buffer; there = filling_still old short.buffer short.there short.fills; fills = short.fills; short = short.short })

  gathered_before : (old : ShelfView D) → HasGathered Defrag (with_sealed Client old) → HasGathered Defrag old
  gathered_before old (inl none) = inl none
  gathered_before old (inr (none, short)) =
      inr (none, record { buffer = short.buffer; there = filling_before old short.buffer short.there short.fills; fills = short.fills; short = short.short })

  module _ (old mid : ShelfView D) where
    low_still : SealsLow Client old mid → IsLow Defrag old → IsLow Defrag mid
    low_still (inr (high, is)) low = subst (IsLow Defrag) (sym is) low
    low_still (inl (was, is)) low =
        let b = low.over.buffer in
        let holds = low.over.holds in
        subst (IsLow Defrag) (sym is) (record {
          few = low.few;
          over = record {
            buffer = b;
            there = filling_still old b low.over.there low.over.fills;
            fills = low.over.fills;
            holds = record { block = holds.block; held = holds.held; dead = holds.dead };
          };
          gathered = gathered_still old low.gathered;
        })

    low_before : SealsLow Client old mid → IsLow Defrag mid → IsLow Defrag old
    low_before (inr (high, is)) low = subst (IsLow Defrag) is low
    low_before (inl (was, is)) low = before (subst (IsLow Defrag) is low)
      where
        before : IsLow Defrag (with_sealed Client old) → IsLow Defrag old
        before low =
            let b = low.over.buffer in
            let holds = low.over.holds in
            record {
              few = low.few;
              over = record {
                buffer = b;
                there = filling_before old b low.over.there low.over.fills;
                fills = low.over.fills;
                holds = record { block = holds.block; held = holds.held; dead = holds.dead };
              };
              gathered = gathered_before old low.gathered;
            }

  module _ (old mid new : ShelfView D) (first : SealsLow Client old mid) (then : SealsLow Defrag mid new) (b : BufferState) (there : Contains old.buffers b) where
    pub low_sealed : IsLow b.stream old → Contains new.buffers (sealed_buffer b)
    low_sealed = by b.stream refl
      where
        by : (stream : Stream) → b.stream ≡ stream → IsLow stream old → Contains new.buffers (sealed_buffer b)
        by Client own low = other_stays Defrag mid new (sealed_buffer b) (own_sealed Client old mid b there own low first) (ap (is_stream Defrag) own) then
        by Defrag own low = own_sealed Defrag mid new b (other_stays Client old mid b there (ap (is_stream Client) own) first) own (low_still old mid first low) then

    pub high_stays : (IsLow b.stream old → ⊥) → Contains new.buffers b
    high_stays = by b.stream refl
      where
        by : (stream : Stream) → b.stream ≡ stream → (IsLow stream old → ⊥) → Contains new.buffers b
        by Client own high = other_stays Defrag mid new b (own_stays Client old mid b there high first) (ap (is_stream Defrag) own) then
        by Defrag own high = own_stays Defrag mid new b (other_stays Client old mid b there (ap (is_stream Client) own) first) (λ low. high (low_before old mid first low)) then
