-- What placing a copy makes of a book: its buffers keep their places, and the copy's is in a block that wasn't used before or had a buffer.
use Rattle.std.proofs.Common.{◌≡◌, ◌≢◌, ◌⊎◌, inl, inr, ⊎_elim, ℕ, ◌+◌, ◌≤◌, Bool, true, false, cond, ◌&&◌, ◌||◌, List, [], ◌∷◌, ◌++◌, length, map, refl, sym, ◌∙◌, ap, subst, arith}
use Rattle.std.proofs.lemmas.Bool.{false≢true, or_from, ne_eqb, eq-eqb, both_ways}
use Rattle.std.proofs.lemmas.List.{map-append}
use Rattle.std.proofs.lemmas.List.Folds.{list_any-append}
use Rattle.std.proofs.lemmas.List.Elements.{Contains-append_left, Contains-append_cases}
use Rattle.std.specs.Prelude.{Option, Some, ◌==◌, Contains}
use Rattle.std.specs.List.{AllByRecursion, list_any}
use Rattle.law_lists.proofs.Each.{all_at}
use Rattle.law_lists.proofs.Filters.{map_shows}
use Rattle.law_lists.proofs.Finding.{none_at, find_there}
use Rattle.law_lists.proofs.Members.{cons_cases, first_there, map_there}
use Rattle.rec_format.specs.declared.version.Digest.{Digest}
use Rattle.model_device.specs.Book.{Setup, Buffer, Book, Live, Stream, Phase, filling, sealed, opening, is_filling, same_stream, sealed_if, seal_stream}
use Rattle.model_device.specs.Book.{first_block, filling_buffer, has_buffer, has_room, with_new_buffer, with_room, used_more, opened_if, with_hold, put_in}
use Rattle.model_device.specs.Book.{placed, placing_number, refreshed, live_of, without_live}
use Rattle.law_start.proofs.Placing.{room_of}
use Rattle.law_trail.specs.Trail.{places_of, HaveOwnBlocks, IsBooked, NotFree, CanPlace}
use Rattle.law_trail.proofs.Places.{buffer_place}
use Rattle.law_trail.proofs.Books.{free_has_nothing, refreshed_booked, fewer_live}

-- ---- changes of a buffer that keep its place

abbrev pub place : Buffer → ℕ × ℕ
place b = (b.number, b.block)

pub sealed_place : (chosen : Bool) (b : Buffer) → place (sealed_if chosen b) ≡ place b
sealed_place chosen b = by chosen b.phase
  where
    by : (chosen : Bool) (phase : Phase) → place (sealed_if chosen (record b { phase = phase })) ≡ place b
    by true filling = refl
    by true sealed = refl
    by true opening = refl
    by false phase = refl

pub seal_places : (stream : Stream) (buffers : List Buffer) → map place (seal_stream stream buffers) ≡ map place buffers
seal_places stream buffers = map_shows place (λ b. sealed_if (same_stream stream b.stream) b) (λ b. sealed_place (same_stream stream b.stream) b) buffers

pub used_place : (number units : ℕ) (b : Buffer) → place (used_more number units b) ≡ place b
used_place number units b = by (b.number == number)
  where
    by : (chosen : Bool) → place (cond chosen (record b { used = b.used + units }) b) ≡ place b
    by true = refl
    by false = refl

pub use_places : (number units : ℕ) (buffers : List Buffer) → map place (map (used_more number units) buffers) ≡ map place buffers
use_places number units buffers = map_shows place (used_more number units) (used_place number units) buffers

pub opened_place : (chosen : Bool) (b : Buffer) → place (opened_if chosen b) ≡ place b
opened_place true b = refl
opened_place false b = refl

-- ---- the buffer that takes the copy

-- a book with the same live copies and holds, whose buffers have the places of before, and perhaps a free block
record IsReady (book ready : Book) : Type 0 where
  live : ready.live ≡ book.live
  holds : ready.holds ≡ book.holds
  places : (p : ℕ × ℕ) → Contains (places_of book) p → Contains (places_of ready) p
  unbuffered : (block : ℕ) → has_buffer book block ≡ false → NotFree book block → has_buffer ready block ≡ false
  apart : HaveOwnBlocks (places_of ready)

apart_joined : (ps : List (ℕ × ℕ)) (number block : ℕ) → HaveOwnBlocks ps → list_any (λ p. p.1 == block) ps ≡ false → HaveOwnBlocks (ps ++ (number, block) ∷ [])
apart_joined [] number block apart none = (tt, tt)
apart_joined (p ∷ ps) number block apart none = (
  all_behind ps apart.0,
  apart_joined ps number block apart.1 (none_behind ps none),
)
  where
    none_behind : (ps : List (ℕ × ℕ)) → ((p.1 == block) || list_any (λ q. q.1 == block) ps) ≡ false → list_any (λ q. q.1 == block) ps ≡ false
    none_behind ps none = by (p.1 == block) none
      where
        by : (b : Bool) → (b || list_any (λ q. q.1 == block) ps) ≡ false → list_any (λ q. q.1 == block) ps ≡ false
        by true e = absurd (false≢true (sym e))
        by false e = e

    other : block ≢ p.1
    other same = both_ways (p.1 == block) (none_at (λ (q : ℕ × ℕ). q.1 == block) (p ∷ ps) p none (first_there p ps)) (eq-eqb p.1 block (sym same))

    all_behind : (qs : List (ℕ × ℕ)) → AllByRecursion (λ q. q.1 ≢ p.1) qs → AllByRecursion (λ q. q.1 ≢ p.1) (qs ++ (number, block) ∷ [])
    all_behind [] all = (other, tt)
    all_behind (q ∷ qs) all = (all.0, all_behind qs all.1)

pub first_free : (blocks : List ℕ) → 1 ≤ length blocks → Contains blocks (first_block blocks)
first_free [] some = absurd (omega arith)
first_free (b ∷ blocks) some = first_there b blocks

pub new_places : (stream : Stream) (book : Book) → places_of (with_new_buffer stream book) ≡ places_of book ++ (book.next_number, first_block book.free) ∷ []
new_places stream book =
    map-append place (seal_stream stream book.buffers) ((record { number = book.next_number; block = first_block book.free; stream = stream; used = 0; phase = filling }) ∷ [])
    ∙ ap (λ l. l ++ (book.next_number, first_block book.free) ∷ []) (seal_places stream book.buffers)

new_ready : (stream : Stream) (book : Book) → IsBooked book → 1 ≤ length book.free → IsReady book (with_new_buffer stream book)
new_ready stream book booked some = record {
  live = refl;
  holds = refl;
  places = λ p there. subst (λ (l : List (ℕ × ℕ)). Contains l p) (sym joined) (Contains-append_left (places_of book) ((book.next_number, block) ∷ []) p there);
  unbuffered = λ b none other.
      buffer_place (with_new_buffer stream book) b ∙ ap (list_any (λ p. p.1 == b)) joined ∙ list_any-append (λ p. p.1 == b) (places_of book) ((book.next_number, block) ∷ [])
      ∙ or_from (list_any (λ p. p.1 == b) (places_of book)) ((block == b) || false) (sym (buffer_place book b) ∙ none)
      (or_from (block == b) false (ne_eqb block b (all_at (λ k. k ≢ b) book.free block other is_free)) refl);
  apart = subst HaveOwnBlocks (sym joined) (apart_joined (places_of book) book.next_number block booked.apart (sym (buffer_place book block) ∙ (free_has_nothing book block booked is_free).buffer));
}
  where
    block : ℕ
    block = first_block book.free

    is_free : Contains book.free block
    is_free = first_free book.free some

    joined : places_of (with_new_buffer stream book) ≡ places_of book ++ (book.next_number, block) ∷ []
    joined = new_places stream book

ready_is : (setup : Setup) (stream : Stream) (units : ℕ) (book : Book) → IsBooked book → CanPlace setup stream units book → IsReady book (with_room setup stream units book)
ready_is setup stream units book booked can = by (has_room setup stream units book) can
  where
    by : (c : Bool) → (c ≡ true) ⊎ (1 ≤ length book.free) → IsReady book (cond c book (with_new_buffer stream book))
    by true can = record { live = refl; holds = refl; places = λ p there. there; unbuffered = λ b none other. none; apart = booked.apart }
    by false (inl is) = absurd (false≢true is)
    by false (inr some) = new_ready stream book booked some

-- ---- the copy is placed

-- The copy is live in the block of the buffer of this number, which holds the block of the copy before. Places and holds of before stay,
-- and no block has a buffer that had none and wasn't free.
pub record PlacesCopy (digest : Digest) (number : ℕ) (book new : Book) : Type 0 where
  pub copy : Live
  pub own : copy.digest ≡ digest
  pub live : new.live ≡ copy ∷ without_live digest book.live
  pub placed_in : Contains (places_of new) (number, copy.block)
  pub holds : new.holds ≡ with_hold number (live_of digest book.live) book.holds
  pub places : (p : ℕ × ℕ) → Contains (places_of book) p → Contains (places_of new) p
  pub unbuffered : (block : ℕ) → has_buffer book block ≡ false → NotFree book block → has_buffer new block ≡ false
  pub booked : IsBooked new

module _ (setup : Setup) (stream : Stream) (digest : Digest) (units : ℕ) (book : Book) (some : 1 ≤ units) (booked : IsBooked book) (can : CanPlace setup stream units book) where
  abbrev ready : Book
  ready = with_room setup stream units book

  abbrev number : ℕ
  number = placing_number setup stream units book

  put_places : (b : Buffer) → places_of (put_in setup digest units ready (Some b)) ≡ places_of ready
  unfolding refreshed
  put_places b = use_places b.number units ready.buffers

  put_placed : (b : Buffer) → filling_buffer stream ready.buffers ≡ Some b → b.number ≡ number → PlacesCopy digest number book (put_in setup digest units ready (Some b))
  unfolding refreshed
  put_placed b found same =
      let is = ready_is setup stream units book booked can in
      let copy : Live = record { digest = digest; block = b.block; unit = b.used; units = units } in
      record {
        copy = copy;
        own = refl;
        live = ap (λ (l : List Live). copy ∷ without_live digest l) is.live;
        placed_in = subst (λ (l : List (ℕ × ℕ)). Contains l (number, b.block)) (sym (put_places b))
            (subst (λ (n : ℕ). Contains (places_of ready) (n, b.block)) same
            (map_there place ready.buffers b (find_there (λ c. same_stream stream c.stream && is_filling c.phase) ready.buffers b found)));
        holds = ap (λ (n : ℕ). with_hold n (live_of digest ready.live) ready.holds) same
            ∙ ap (λ (l : List Live). with_hold number (live_of digest l) ready.holds) is.live ∙ ap (with_hold number (live_of digest book.live)) is.holds;
        places = λ p there. subst (λ (l : List (ℕ × ℕ)). Contains l p) (sym (put_places b)) (is.places p there);
        unbuffered = λ block none other.
            buffer_place (put_in setup digest units ready (Some b)) block ∙ ap (list_any (λ p. p.1 == block)) (put_places b) ∙ sym (buffer_place ready block) ∙ is.unbuffered block none other;
        booked = refreshed_booked setup (record ready {
          live = copy ∷ without_live digest ready.live;
          buffers = map (used_more b.number units) ready.buffers;
          holds = with_hold b.number (live_of digest ready.live) ready.holds;
        }) (subst HaveOwnBlocks (sym (use_places b.number units ready.buffers)) is.apart)
            (some, subst (λ (l : List Live). AllByRecursion (λ m. 1 ≤ m.units) (without_live digest l)) (sym is.live) (fewer_live _ book.live booked.units));
      }

  pub placed_is : PlacesCopy digest number book (placed setup stream digest units book)
  unfolding placed
  placed_is =
      let room = room_of setup stream units book in
      subst (λ (o : Option Buffer). PlacesCopy digest number book (put_in setup digest units ready o)) (sym room.found) (put_placed room.buffer room.found room.same)

-- the places of before, and where there is no room that of a buffer with the next number in the first free block
pub placed_places : (setup : Setup) (stream : Stream) (digest : Digest) (units : ℕ) (book : Book) (p : ℕ × ℕ) → Contains (places_of (placed setup stream digest units book)) p
    → Contains (places_of book) p ⊎ ((has_room setup stream units book ≡ false) × (p ≡ (book.next_number, first_block book.free)))
unfolding placed refreshed
placed_places setup stream digest units book p there = by (has_room setup stream units book) (subst (λ (l : List (ℕ × ℕ)). Contains l p) same there)
  where
    ready : Book
    ready = with_room setup stream units book

    same : places_of (put_in setup digest units ready (filling_buffer stream ready.buffers)) ≡ places_of ready
    same =
        let room = room_of setup stream units book in
        ap (λ (o : Option Buffer). places_of (put_in setup digest units ready o)) room.found ∙ use_places room.buffer.number units ready.buffers

    by : (b : Bool) → Contains (places_of (cond b book (with_new_buffer stream book))) p → Contains (places_of book) p ⊎ ((b ≡ false) × (p ≡ (book.next_number, first_block book.free)))
    by true there = inl there
    by false there =
        ⊎_elim (λ (old : Contains (places_of book) p). inl old) (λ (new : Contains ((book.next_number, first_block book.free) ∷ []) p).
        ⊎_elim (λ (e : (book.next_number, first_block book.free) ≡ p). inr (refl, sym e)) (λ (none : Contains [] p). absurd (omega (arith, none.1)))
        (cons_cases (book.next_number, first_block book.free) [] p new))
        (Contains-append_cases (places_of book) ((book.next_number, first_block book.free) ∷ []) p (subst (λ (l : List (ℕ × ℕ)). Contains l p) (new_places stream book) there))
