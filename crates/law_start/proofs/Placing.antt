-- A placed copy waits in its buffer: the buffer is pending and hasn't begun, and of the others the same is pending and begun.
use Rattle.std.proofs.Common.{◌≡◌, ◌≢◌, ℕ, ◌<◌, Bool, true, false, cond, ◌&&◌, ◌||◌, List, [], ◌∷◌, ◌++◌, refl, sym, ◌∙◌, ap, subst, arith}
use Rattle.std.proofs.lemmas.List.{map-append}
use Rattle.std.proofs.lemmas.List.Folds.{list_any-append}
use Rattle.std.proofs.lemmas.Bool.{and_parts, and_left, and_right, or_left, or_right, or_from, eq-eqb, ne_eqb, false≢true}
use Rattle.std.specs.Prelude.{Option, Some, None, ◌==◌}
use Rattle.std.specs.List.{list_any}
use Rattle.law_lists.proofs.Each.{all_map}
use Rattle.law_lists.proofs.Finding.{any_map, found_is, any_none}
use Rattle.rec_format.specs.declared.version.Digest.{Digest}
use Rattle.model_device.specs.Histories.{Pending, is_pending, is_begun}
use Rattle.model_device.specs.Book.{Setup, Buffer, Book, Phase, Stream, client, defrag, filling, sealed, opening, is_filling, is_opening, same_stream}
use Rattle.model_device.specs.Book.{seal_stream, first_block, filling_buffer, fits_in, has_room, with_new_buffer, with_room, put_in, placed, number_or}
use Rattle.model_device.specs.Book.{placing_number, refreshed, pending_of}
use Rattle.law_start.specs.Holding.{AreRising, HasRisingNumbers}
use Rattle.law_start.specs.Awaited.{IsAwaited}
use Rattle.law_start.proofs.Pending.{shown, seal_shown, use_shown}

filling_unopened : (phase : Phase) → is_filling phase ≡ true → is_opening phase ≡ false
filling_unopened filling is = refl
filling_unopened sealed is = refl
filling_unopened opening is = absurd (false≢true is)

-- ---- the buffer that takes records

-- a buffer has this number, and none with it has begun
record IsAlone (number : ℕ) (buffers : List Buffer) : Type 0 where
  waits : list_any (λ b. b.number == number) buffers ≡ true
  unbegun : list_any (λ b. b.number == number && is_opening b.phase) buffers ≡ false

pub less_apart : (m n : ℕ) → m < n → m ≢ n
less_apart m n lt same = absurd (omega arith)

filling_alone : (stream : Stream) (buffers : List Buffer) (b : Buffer) → AreRising buffers → filling_buffer stream buffers ≡ Some b → IsAlone b.number buffers
filling_alone stream [] b rising found = absurd (cc)
filling_alone stream (x ∷ buffers) b rising found = by (same_stream stream x.stream && is_filling x.phase) refl found (filling_alone stream buffers b rising.1)
  where
    first : is_filling x.phase ≡ true → IsAlone x.number (x ∷ buffers)
    first fills = record {
      waits = or_left (x.number == x.number) (list_any (λ b. b.number == x.number) buffers) (eq-eqb x.number x.number refl);
      unbegun = or_from (x.number == x.number && is_opening x.phase) (list_any (λ b. b.number == x.number && is_opening b.phase) buffers)
          (and_right (x.number == x.number) (is_opening x.phase) (filling_unopened x.phase fills))
          (any_none (λ b. b.number == x.number && is_opening b.phase) buffers
          (all_map (λ c. x.number < c.number) (λ c. (c.number == x.number && is_opening c.phase) ≡ false) buffers
          (λ c lt. and_left (c.number == x.number) (is_opening c.phase) (ne_eqb c.number x.number (λ e. less_apart x.number c.number lt (sym e)))) rising.0));
    }

    behind : filling_buffer stream buffers ≡ Some b → IsAlone b.number buffers → IsAlone b.number (x ∷ buffers)
    behind found rest =
        let lt = (found_is (λ c. x.number < c.number) (λ c. same_stream stream c.stream && is_filling c.phase) buffers b rising.0 found).0 in
        record {
          waits = or_right (x.number == b.number) (list_any (λ c. c.number == b.number) buffers) rest.waits;
          unbegun = or_from (x.number == b.number && is_opening x.phase) (list_any (λ c. c.number == b.number && is_opening c.phase) buffers)
              (and_left (x.number == b.number) (is_opening x.phase) (ne_eqb x.number b.number (less_apart x.number b.number lt))) rest.unbegun;
        }

    by : (c : Bool) → (same_stream stream x.stream && is_filling x.phase) ≡ c → cond c (Some x) (filling_buffer stream buffers) ≡ Some b
        → (filling_buffer stream buffers ≡ Some b → IsAlone b.number buffers) → IsAlone b.number (x ∷ buffers)
    by true is found rest =
        let same : x ≡ b = cc in
        subst (λ (c : Buffer). IsAlone c.number (x ∷ buffers)) same (first (and_parts (same_stream stream x.stream) (is_filling x.phase) is).1)
    by false is found rest = behind found (rest found)

pub some_room : (capacity units : ℕ) (o : Option Buffer) → fits_in capacity units o ≡ true → (b : Buffer) × (o ≡ Some b)
some_room capacity units None fits = absurd (false≢true fits)
some_room capacity units (Some b) fits = (b, refl)

-- ---- the buffer that a placing finds

-- where a new buffer begins no other of its stream takes records
new_found : (stream : Stream) (buffers : List Buffer) (new : Buffer) → (same_stream stream new.stream && is_filling new.phase) ≡ true
    → filling_buffer stream (seal_stream stream buffers ++ new ∷ []) ≡ Some new
new_found stream [] new is = rw is refl
new_found stream (x ∷ buffers) new is = at_head (same_stream stream x.stream) (is_filling x.phase) refl refl (new_found stream buffers new is)
  where
    at_head : (c p : Bool) → same_stream stream x.stream ≡ c → is_filling x.phase ≡ p
        → filling_buffer stream (seal_stream stream buffers ++ new ∷ []) ≡ Some new → filling_buffer stream (seal_stream stream (x ∷ buffers) ++ new ∷ []) ≡ Some new
    at_head true true mine fills rest = rw (mine, fills, mine) rest
    at_head true false mine fills rest = rw (mine, fills, mine, fills) rest
    at_head false p mine fills rest = rw (mine, mine) rest

takes_own : (stream : Stream) → (same_stream stream stream && true) ≡ true
takes_own client = refl
takes_own defrag = refl

-- a buffer of the stream takes records, and has this number
pub record Room (stream : Stream) (ready : Book) (number : ℕ) : Type 0 where
  pub buffer : Buffer
  pub found : filling_buffer stream ready.buffers ≡ Some buffer
  pub same : buffer.number ≡ number

pub room_of : (setup : Setup) (stream : Stream) (units : ℕ) (book : Book) → Room stream (with_room setup stream units book) (placing_number setup stream units book)
room_of setup stream units book = by (has_room setup stream units book) (some_room setup.capacity units (filling_buffer stream book.buffers))
  where
    new : Buffer
    new = record { number = book.next_number; block = first_block book.free; stream = stream; used = 0; phase = filling }

    by : (c : Bool) → (c ≡ true → (b : Buffer) × (filling_buffer stream book.buffers ≡ Some b))
        → Room stream (cond c book (with_new_buffer stream book)) (cond c (number_or book.next_number (filling_buffer stream book.buffers)) book.next_number)
    by true some = let b = some refl in record { buffer = b.0; found = b.1; same = sym (ap (λ (o : Option Buffer). number_or book.next_number o) b.1) }
    by false some = record {
      buffer = new;
      found = new_found stream book.buffers new (takes_own stream);
      same = refl;
    }

-- ---- a buffer more

module _ (stream : Stream) (book : Book) (counted : HasRisingNumbers book) where
  new_pending : pending_of (with_new_buffer stream book) ≡ pending_of book ++ (book.next_number, false) ∷ []
  new_pending =
      map-append shown (seal_stream stream book.buffers) ((record { number = book.next_number; block = first_block book.free; stream = stream; used = 0; phase = filling }) ∷ [])
      ∙ ap (λ l. l ++ (book.next_number, false) ∷ []) (seal_shown stream book.buffers)

  -- what is said of one element more at the end
  one_more : (p : ℕ × Bool → Bool) → list_any p (pending_of (with_new_buffer stream book)) ≡ (list_any p (pending_of book) || (p (book.next_number, false) || false))
  one_more p = ap (list_any p) new_pending ∙ list_any-append p (pending_of book) ((book.next_number, false) ∷ [])

  new_awaited : IsAwaited book.next_number book.next_number (pending_of book) (pending_of (with_new_buffer stream book))
  new_awaited = record {
    waits = one_more (λ p. p.0 == book.next_number) ∙ or_right (is_pending (pending_of book) book.next_number) ((book.next_number == book.next_number) || false)
        (or_left (book.next_number == book.next_number) false (eq-eqb book.next_number book.next_number refl));
    unbegun = one_more (λ p. p.0 == book.next_number && p.1) ∙ or_from (is_begun (pending_of book) book.next_number) (((book.next_number == book.next_number) && false) || false)
        (any_map (λ p. p.0 == book.next_number && p.1) shown book.buffers
        ∙ any_none (λ b. b.number == book.next_number && is_opening b.phase) book.buffers
        (all_map (λ b. b.number < book.next_number) (λ b. (b.number == book.next_number && is_opening b.phase) ≡ false) book.buffers
        (λ b lt. and_left (b.number == book.next_number) (is_opening b.phase) (ne_eqb b.number book.next_number (less_apart b.number book.next_number lt))) counted.below))
        (unopened (book.next_number == book.next_number));
    pending = λ m lt. one_more (λ p. p.0 == m) ∙ nothing_more (is_pending (pending_of book) m) ((book.next_number == m) || false) (or_from (book.next_number == m) false (other m lt) refl);
    begun = λ m lt. one_more (λ p. p.0 == m && p.1) ∙ nothing_more (is_begun (pending_of book) m) (((book.next_number == m) && false) || false) (unopened (book.next_number == m));
  }
    where
      unopened : (b : Bool) → ((b && false) || false) ≡ false
      unopened true = refl
      unopened false = refl

      nothing_more : (a b : Bool) → b ≡ false → (a || b) ≡ a
      nothing_more true b e = refl
      nothing_more false b e = e

      other : (m : ℕ) → m < book.next_number → (book.next_number == m) ≡ false
      other m lt = ne_eqb book.next_number m (λ e. less_apart m book.next_number lt (sym e))

-- ---- placing

put_in_pending : (setup : Setup) (digest : Digest) (units : ℕ) (book : Book) (o : Option Buffer) → pending_of (put_in setup digest units book o) ≡ pending_of book
unfolding refreshed
put_in_pending setup digest units book None = refl
put_in_pending setup digest units book (Some b) = use_shown b.number units book.buffers

room_awaited : (setup : Setup) (stream : Stream) (units : ℕ) (book : Book) → HasRisingNumbers book
    → IsAwaited (placing_number setup stream units book) book.next_number (pending_of book) (pending_of (with_room setup stream units book))
room_awaited setup stream units book counted = by (has_room setup stream units book) (some_room setup.capacity units (filling_buffer stream book.buffers))
  where
    by : (c : Bool) → (c ≡ true → (b : Buffer) × (filling_buffer stream book.buffers ≡ Some b))
        → IsAwaited (cond c (number_or book.next_number (filling_buffer stream book.buffers)) book.next_number) book.next_number (pending_of book)
        (pending_of (cond c book (with_new_buffer stream book)))
    by true some =
        let b = some refl in
        let alone = filling_alone stream book.buffers b.0 counted.rising b.1 in
        subst (λ (o : Option Buffer). IsAwaited (number_or book.next_number o) book.next_number (pending_of book) (pending_of book)) (sym b.1)
        (record {
          waits = any_map (λ p. p.0 == b.0.number) shown book.buffers ∙ alone.waits;
          unbegun = any_map (λ p. p.0 == b.0.number && p.1) shown book.buffers ∙ alone.unbegun;
          pending = λ m lt. refl;
          begun = λ m lt. refl;
        })
    by false some = new_awaited stream book counted

pub placed_awaited : (setup : Setup) (stream : Stream) (digest : Digest) (units : ℕ) (book : Book) → HasRisingNumbers book
    → IsAwaited (placing_number setup stream units book) book.next_number (pending_of book) (pending_of (placed setup stream digest units book))
unfolding placed
placed_awaited setup stream digest units book counted =
    subst (λ (p : Pending). IsAwaited (placing_number setup stream units book) book.next_number (pending_of book) p)
    (sym (put_in_pending setup digest units (with_room setup stream units book) (filling_buffer stream (with_room setup stream units book).buffers))) (room_awaited setup stream units book counted)
