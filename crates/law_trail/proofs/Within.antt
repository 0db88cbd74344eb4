-- Books keep to the blocks of the device.
use Rattle.std.proofs.Common.{◌≡◌, ◌⊎◌, inl, inr, ℕ, ◌+◌, ◌<◌, ◌≤◌, Bool, true, false, not, cond, ◌&&◌, List, [], ◌∷◌, ◌++◌, length, map, Option, Some, None, sym, subst, arith}
use Rattle.std.proofs.lemmas.Bool.{false≢true}
use Rattle.std.specs.Prelude.{◌==◌, filter, MatchOption, IfSome}
use Rattle.std.specs.List.{AllByRecursion, filter_map, cons_option}
use Rattle.law_lists.proofs.Each.{all_at, all_joined, all_fewer}
use Rattle.law_lists.proofs.Filters.{map_kept}
use Rattle.law_lists.proofs.Finding.{find_there}
use Rattle.law_lists.proofs.Members.{map_there, filter_from}
use Rattle.law_lists.proofs.Ranges.{range_below}
use Rattle.rec_format.specs.declared.version.Digest.{Digest}
use Rattle.rec_format.specs.Places.{same_digest}
use Rattle.rec_format.specs.Versions.{version_units}
use Rattle.rec_format.specs.declared.version.Version.{Version}
use Rattle.model_device.specs.Book.{Setup, Buffer, Book, Live, Stream, client, defrag, same_stream, is_filling, with_hold, may_be_free, is_in, all_blocks}
use Rattle.model_device.specs.Book.{refreshed, has_room, with_new_buffer, with_room, first_block, filling_buffer, put_in, placed, used_more, dropped_live}
use Rattle.model_device.specs.Book.{without_live, with_flushed, first_to_back, live_of, cold_book}
use Rattle.model_device.specs.Device.{State}
use Rattle.model_device.specs.Steps.{Step, wrote, moved, removed, rid_of, uncovered, sealed_stream, gate_begun, flushed_buffer, closing_failed, raid_begun}
use Rattle.model_device.specs.Steps.{raid_given_up, marked_part, scanned_block, compared_part, done_part, moved_state, after_step}
use Rattle.block_format.specs.Layout.{Body}
use Rattle.block_format.specs.Copies.{Copy, copies_from, copies_of, copies_named, latest, cold_copy}
use Rattle.law_start.specs.Start.{live_copy, names_of_copies, cold_copies, greatest_number, start_state}
use Rattle.law_start.proofs.Held.{IsNewest, latest_is}
use Rattle.law_start.proofs.Placing.{room_of}
use Rattle.law_trail.specs.Trail.{places_of, CanPlace}
use Rattle.law_trail.specs.Needs.{HasRoomFor}
use Rattle.law_trail.specs.Within.{IsWithin}
use Rattle.law_trail.proofs.Others.{open_places}
use Rattle.law_trail.proofs.Placing.{place, seal_places, use_places, first_free, new_places}

-- ---- free blocks

device_blocks : (setup : Setup) → AllByRecursion (λ b. b < setup.blocks) (all_blocks setup)
device_blocks setup = range_below 0 setup.blocks setup.blocks (omega arith)

free_kept : (setup : Setup) (book : Book) → AllByRecursion (λ b. b < setup.blocks) book.free → AllByRecursion (λ b. b < setup.blocks) (refreshed setup book).free
unfolding refreshed
free_kept setup book free =
    all_joined (λ b. b < setup.blocks) (filter (may_be_free book) book.free) (filter (λ b. may_be_free book b && not (is_in book.free b)) (all_blocks setup))
    (all_fewer (λ b. b < setup.blocks) (may_be_free book) book.free free)
    (all_fewer (λ b. b < setup.blocks) (λ b. may_be_free book b && not (is_in book.free b)) (all_blocks setup) (device_blocks setup))

pub refreshed_within : (setup : Setup) (book : Book) → IsWithin setup book → IsWithin setup (refreshed setup book)
unfolding refreshed
refreshed_within setup book within = record { free = free_kept setup book within.free; places = within.places; live = within.live }

-- ---- placing

new_within : (setup : Setup) (stream : Stream) (book : Book) → 1 ≤ length book.free → IsWithin setup book → IsWithin setup (with_new_buffer stream book)
new_within setup stream book some within = record {
  free = within.free;
  places = subst (AllByRecursion (λ p. p.1 < setup.blocks)) (sym (new_places stream book))
      (all_joined (λ (p : ℕ × ℕ). p.1 < setup.blocks) (places_of book) ((book.next_number, first_block book.free) ∷ []) within.places
      (all_at (λ b. b < setup.blocks) book.free (first_block book.free) within.free (first_free book.free some), tt));
  live = within.live;
}

room_within : (setup : Setup) (stream : Stream) (units : ℕ) (book : Book) → CanPlace setup stream units book → IsWithin setup book → IsWithin setup (with_room setup stream units book)
room_within setup stream units book can within = by (has_room setup stream units book) can
  where
    by : (c : Bool) → (c ≡ true) ⊎ (1 ≤ length book.free) → IsWithin setup (cond c book (with_new_buffer stream book))
    by true can = within
    by false (inl is) = absurd (false≢true is)
    by false (inr some) = new_within setup stream book some within

module _ (setup : Setup) (stream : Stream) (digest : Digest) (units : ℕ) (book : Book) (can : CanPlace setup stream units book) (within : IsWithin setup book) where
  abbrev ready : Book
  ready = with_room setup stream units book

  put_within : (b : Buffer) → filling_buffer stream ready.buffers ≡ Some b → IsWithin setup (put_in setup digest units ready (Some b))
  put_within b found =
      let is = room_within setup stream units book can within in
      refreshed_within setup (record ready {
        live = (record { digest = digest; block = b.block; unit = b.used; units = units }) ∷ without_live digest ready.live;
        buffers = map (used_more b.number units) ready.buffers;
        holds = with_hold b.number (live_of digest ready.live) ready.holds;
      }) (record {
        free = is.free;
        places = subst (AllByRecursion (λ p. p.1 < setup.blocks)) (sym (use_places b.number units ready.buffers)) is.places;
        live = (
          all_at (λ (p : ℕ × ℕ). p.1 < setup.blocks) (places_of ready) (b.number, b.block) is.places
              (map_there place ready.buffers b (find_there (λ c. same_stream stream c.stream && is_filling c.phase) ready.buffers b found)),
          all_fewer (λ l. l.block < setup.blocks) (λ l. not (same_digest digest l.digest)) ready.live is.live,
        );
      })

  placed_within : IsWithin setup (placed setup stream digest units book)
  unfolding placed
  placed_within =
      let room = room_of setup stream units book in
      subst (λ (o : Option Buffer). IsWithin setup (put_in setup digest units ready o)) (sym room.found) (put_within room.buffer room.found)

-- ---- the steps

back_within : (limit : ℕ) (blocks : List ℕ) → AllByRecursion (λ b. b < limit) blocks → AllByRecursion (λ b. b < limit) (first_to_back blocks)
back_within limit [] all = tt
back_within limit (b ∷ blocks) all = all_joined (λ b. b < limit) blocks (b ∷ []) all.1 (all.0, tt)

module _ (setup : Setup) (s : State) (within : IsWithin setup s.book) where
  gone_within : (digest : Digest) → IsWithin setup (dropped_live setup digest s.book)
  unfolding dropped_live
  gone_within digest = refreshed_within setup (record s.book { live = without_live digest s.book.live }) (record {
    free = within.free;
    places = within.places;
    live = all_fewer (λ l. l.block < setup.blocks) (λ l. not (same_digest digest l.digest)) s.book.live within.live;
  })

  flushed_within : (number : ℕ) → IsWithin setup (with_flushed setup number s.book)
  unfolding with_flushed
  flushed_within number = refreshed_within setup (record s.book {
    buffers = filter (λ b. not (b.number == number)) s.book.buffers;
    holds = filter (λ h. not (h.0 == number)) s.book.holds;
    flushed_numbers = s.book.flushed_numbers ++ number ∷ [];
  }) (record {
    free = within.free;
    places = subst (AllByRecursion (λ p. p.1 < setup.blocks)) (sym (map_kept place (λ p. not (p.0 == number)) s.book.buffers))
        (all_fewer (λ (p : ℕ × ℕ). p.1 < setup.blocks) (λ p. not (p.0 == number)) (places_of s.book) within.places);
    live = within.live;
  })

  move_within : (digest : Digest) (live : Option Live) → MatchOption live (Unit {0}) (λ copy. CanPlace setup defrag copy.units s.book) → IsWithin setup (moved_state setup digest live s).book
  move_within digest None can = within
  move_within digest (Some copy) can = placed_within setup defrag digest copy.units s.book can within

  -- After a step that has room the blocks of the book are still those of the device.
  pub step_within : (step : Step) → HasRoomFor setup s step → IsWithin setup (after_step setup step s).book
  unfolding after_step
  step_within (wrote digest v) can = placed_within setup client digest (version_units v) s.book can within
  step_within (moved digest) can = move_within digest (live_of digest s.book.live) can
  step_within (removed digest) can = gone_within digest
  step_within (rid_of digest) can = gone_within digest
  step_within (uncovered digest) can = within
  step_within (sealed_stream stream) can = record {
    free = within.free;
    places =
        subst (AllByRecursion (λ p. p.1 < setup.blocks)) (sym (seal_places stream s.book.buffers)) within.places;
    live = within.live;
  }
  step_within (gate_begun number) can = record { free = within.free; places = subst (AllByRecursion (λ p. p.1 < setup.blocks)) (sym (open_places number s.book)) within.places; live = within.live }
  step_within (flushed_buffer number) can = flushed_within number
  step_within closing_failed can = record { free = back_within setup.blocks s.book.free within.free; places = within.places; live = within.live }
  step_within raid_begun can = within
  step_within raid_given_up can = within
  step_within (marked_part part now) can = within
  step_within (scanned_block copies) can = within
  step_within (compared_part part) can = within
  step_within (done_part part) can = within

-- ---- the start

copies_within : (limit block unit : ℕ) (records : List (Digest × Version)) → block < limit → AllByRecursion (λ c. c.block < limit) (copies_from block unit records)
copies_within limit block unit [] lt = tt
copies_within limit block unit (r ∷ records) lt = (lt, copies_within limit block (unit + version_units r.1) records lt)

all_copies_within : (limit : ℕ) (bodies : List Body) → AllByRecursion (λ b. b.block < limit) bodies → AllByRecursion (λ c. c.block < limit) (copies_of bodies)
all_copies_within limit [] all = tt
all_copies_within limit (b ∷ bodies) all =
    all_joined (λ c. c.block < limit) (copies_from b.block 0 b.records) (copies_of bodies) (copies_within limit b.block 0 b.records all.0) (all_copies_within limit bodies all.1)

named_within : (limit : ℕ) (digest : Digest) (copies : List Copy) → AllByRecursion (λ c. c.block < limit) copies → IfSome (cold_copy digest copies) (λ c. c.block < limit)
named_within limit digest copies all = by (latest (copies_named digest copies)) (latest_is (copies_named digest copies))
  where
    by : (o : Option Copy) → IfSome o (IsNewest (copies_named digest copies)) → IfSome o (λ c. c.block < limit)
    by None is = tt
    by (Some c) is = all_at (λ c. c.block < limit) copies c all (filter_from (λ (x : Copy). same_digest digest x.digest) copies c is.there).0

found_within : (limit : ℕ) (copies : List Copy) (names : List Digest) → AllByRecursion (λ c. c.block < limit) copies
    → AllByRecursion (λ l. l.block < limit) (map live_copy (filter_map (λ digest. cold_copy digest copies) names))
found_within limit copies [] all = tt
found_within limit copies (d ∷ names) all = by (cold_copy d copies) (named_within limit d copies all) (found_within limit copies names all)
  where
    others : List Copy
    others = filter_map (λ digest. cold_copy digest copies) names

    by : (o : Option Copy) → IfSome o (λ c. c.block < limit) → AllByRecursion (λ l. l.block < limit) (map live_copy others)
        → AllByRecursion (λ l. l.block < limit) (map live_copy (cons_option o others))
    by None is rest = rest
    by (Some c) is rest = (is, rest)

-- where the bodies are in blocks of the device
pub start_within : (setup : Setup) (bodies : List Body) → AllByRecursion (λ b. b.block < setup.blocks) bodies → IsWithin setup (start_state setup bodies).book
unfolding start_state cold_book
start_within setup bodies all = refreshed_within setup (record {
  live = map live_copy (cold_copies (copies_of bodies));
  buffers = [];
  holds = [];
  free = [];
  queue = [];
  flushed_numbers = [];
  next_number = greatest_number bodies + 1;
}) (record {
  free = tt;
  places = tt;
  live = found_within setup.blocks (copies_of bodies) (names_of_copies (copies_of bodies)) (all_copies_within setup.blocks bodies all);
})
