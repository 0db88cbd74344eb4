-- A copy of a shelf is no longer live: what every shelf keeps, and the state that it stands for then.
use Rattle.std.proofs.Common.{◌≡◌, ◌≢◌, inl, ⊎_elim, ℕ, ◌+◌, ◌<◌, ◌≤◌, Bool, true, false, not, cond, ◌&&◌, List, [], ◌∷◌, ◌++◌, map, length, sum_by, refl, sym, ◌∙◌, ap, subst, arith, append_assoc}
use Rattle.std.specs.Prelude.{Some, IsSomeAnd, Contains, ◌==◌}
use Rattle.std.specs.List.{AllByRecursion}
use Rattle.std.proofs.lemmas.Bool.{both_ways, and_parts, or_cases, cond-false, eqb-true}
use Rattle.std.proofs.lemmas.List.{append-nil, length-set, length-append}
use Rattle.law_lists.proofs.Each.{all_from, all_at, all_joined, all_map}
use Rattle.law_lists.proofs.Members.{map_there, map_from}
use Rattle.disk_model.specs.Disk.{DiskView, IsDisk, IsHonest}
use Rattle.disk_model.specs.Runs.{OneOf}
use Rattle.rec_format.specs.declared.version.Digest.{Digest}
use Rattle.rec_format.specs.declared.version.Version.{Version}
use Rattle.rec_format.specs.Places.{same_digest}
use Rattle.rec_format.proofs.Laws.{same_digest_refl, same_digest_is}
use Rattle.model_device.specs.Histories.{Item, top_of}
use Rattle.model_device.specs.Book.{Setup, Buffer, Live, live_of, may_be_free, use_of, dropped_live}
use Rattle.model_device.specs.Device.{State, entry, history}
use Rattle.model_device.specs.Steps.{Step, with_item, after_step, states_through}
use Rattle.law_start.specs.Surviving.{Survives}
use Rattle.write_buffer.specs.Buffers.{BufferState, used_units}
use Rattle.block_shelf.specs.Lives.{LiveCopy, copies_in, use_in, copy_at, live_in_block, lives_without}
use Rattle.defrag_queue.specs.Queues.{QueueState, requeued}
use Rattle.hold_book.specs.Holds.{Holds, IsHeld, has_hold, with_pair, HoldState, HoldsBelow}
use Rattle.hold_book.proofs.Laws.{has_hold-with_hold}
use Rattle.law_trail.specs.Trail.{places_of, IsBooked}
use Rattle.law_trail.proofs.Books.{live_there, others_live}
use Rattle.law_trail.proofs.Unchanged.{queued_alike}
use Rattle.law_facts.specs.Asking.{MayTake}
use Rattle.law_images.specs.Changes.{is_plain}
use Rattle.law_images.specs.Kept.{BookInOrder}
use Rattle.law_images.proofs.Holding.{plain_holds}
use Rattle.law_images.proofs.Stepping.{plain_book}
use Rattle.raid_book.specs.Raids.{SameButMarks}
use Rattle.block_shelf.specs.declared.place.Place.{Place}
use Rattle.block_shelf.specs.View.{ShelfView, IsShelf, IsLiveList, IsSetupOf, ArePacked, IsUnused, AreApart, records_of, gate_at}
use Rattle.block_shelf.specs.Standing.{HasCopy, HasRecord, StandsFor, BooksStand, IsPlaced, ImagesHold, LivesSame, book_buffer}
use Rattle.block_shelf.specs.Calls.{Goes, copy_live}
use Rattle.block_shelf.specs.Scans.{possible_copies}
use Rattle.block_shelf.specs.Changes.{has_buffer_in, without_copy, with_free, with_requeued}
use Rattle.block_shelf.proofs.Blocks.{apart_push, apart_back, few}
use Rattle.block_shelf.proofs.Frees.{IsVacant, vacant_from, vacant_is}
use Rattle.block_shelf.proofs.Dropping.{dropped_book, dropped_buffers, dropped_next, dropped_holds, dropped_lives, left_live, stays_live, dropped_listed}
use Rattle.block_shelf.proofs.Dropping.{dropped_frees, fewer, fewer_own, fewer_units, use_elsewhere}
use Rattle.block_shelf.proofs.Going.{stays}
use Rattle.block_shelf.proofs.Keeping.{have_fewer}
use Rattle.block_shelf.proofs.QueueSteps.{has_buffer_is, marked_as, queue_considered, use_in_is}
use Rattle.block_shelf.proofs.Lives.{same_unit, left_list, left_packed, no_copies, each_left, left_there, left_from}

-- ---- what every shelf keeps

pub some_copies : (unit : ℕ) (cs : List LiveCopy) (P : LiveCopy → Type 0) → IsSomeAnd (copy_at unit cs) P → cs ≡ [] → ⊥
some_copies unit [] P some none = absurd some
some_copies unit (c ∷ cs) P some none = cc

-- other holds of the device's blocks, none of a free one
pub held_shelf : {D : Type 0} (view : D → DiskView) (shelf : ShelfView D) (holds : HoldState) → HoldsBelow shelf.geometry.blocks holds.holds
    → AllByRecursion (λ b. IsHeld holds.holds b → ⊥) shelf.free → IsShelf view shelf → IsShelf view (record shelf { holds = holds })
held_shelf view shelf holds below free is = record {
  geometry = is.geometry;
  limits = is.limits;
  room = is.room;
  number = is.number;
  buffers = is.buffers;
  order = is.order;
  free = is.free;
  apart = is.apart;
  gates = is.gates;
  lives = is.lives;
  each = is.each;
  held = below;
  vacant = is.vacant;
  unheld = free;
  packed = is.packed;
  waits = is.waits;
  ready = is.ready;
  stand = is.stand;
  bodies = is.bodies;
  queue = is.queue;
  cache = is.cache;
  raid = is.raid;
}

-- one more hold, of a block that isn't free
pub one_held : (holds : Holds) (number block : ℕ) (free : List ℕ) → AllByRecursion (λ b. b ≢ block) free → AllByRecursion (λ b. IsHeld holds b → ⊥) free
    → AllByRecursion (λ b. IsHeld (with_pair holds number block) b → ⊥) free
one_held holds number block [] apart unheld = tt
one_held holds number block (b ∷ free) apart unheld = (
  λ held. ⊎_elim (λ here. apart.0 (eqb-true b block (and_parts (held.0 == number) (b == block) here).1)) (λ was. unheld.0 (held.0, was))
      (or_cases ((held.0 == number) && (b == block)) (has_hold holds held.0 b) (sym (has_hold-with_hold holds number block held.0 b) ∙ held.1)),
  one_held holds number block free apart.1 unheld.1,
)

module _ {D : Type 0} (view : D → DiskView) (shelf : ShelfView D) (is : IsShelf view shelf) where
  -- a block with a live copy isn't free
  pub live_unlisted : (block : ℕ) → (copies_in block shelf.lives ≡ [] → ⊥) → AllByRecursion (λ b. b ≢ block) shelf.free
  live_unlisted block some = all_map (λ b. copies_in b shelf.lives ≡ []) (λ b. b ≢ block) shelf.free (λ b none e. some (subst (λ (k : ℕ). copies_in k shelf.lives ≡ []) e none)) is.vacant

  pub taken_shelf : (place : Place) → place.block < shelf.geometry.blocks → (copies_in place.block shelf.lives ≡ [] → ⊥) → IsShelf view (without_copy place shelf)
  taken_shelf place below some = record {
    geometry = is.geometry;
    limits = is.limits;
    room = is.room;
    number = is.number;
    buffers = is.buffers;
    order = is.order;
    free = is.free;
    apart = is.apart;
    gates = is.gates;
    lives = length-set shelf.lives place.block _ ∙ is.lives;
    each = λ k. each_left (λ j cs. IsLiveList cs) place.block place.unit shelf.lives lt k (is.each k) (λ list. left_list place.unit (copies_in place.block shelf.lives) list);
    held = is.held;
    vacant = all_map (λ b. copies_in b shelf.lives ≡ []) (λ b. copies_in b (lives_without place.block place.unit shelf.lives) ≡ []) shelf.free
        (λ b none. each_left (λ j cs. cs ≡ []) place.block place.unit shelf.lives lt b none (λ here. absurd (some here))) is.vacant;
    unheld = is.unheld;
    packed = all_map (λ b. ArePacked (used_units b) (copies_in b.block shelf.lives))
        (λ b. ArePacked (used_units b) (copies_in b.block (lives_without place.block place.unit shelf.lives))) shelf.buffers
        (λ b packed. each_left (λ j cs. ArePacked (used_units b) cs) place.block place.unit shelf.lives lt b.block packed
        (λ here. left_packed place.unit (used_units b) (copies_in place.block shelf.lives) here)) is.packed;
    waits = is.waits;
    ready = is.ready;
    stand = is.stand;
    bodies = is.bodies;
    queue = is.queue;
    cache = is.cache;
    raid = is.raid;
  }
    where
      lt : place.block < length shelf.lives
      lt = subst (λ (n : ℕ). place.block < n) (sym is.lives) below

  module _ (block : ℕ) (below : block < shelf.geometry.blocks) (unlisted : AllByRecursion (λ b. b ≢ block) shelf.free) where
    pub freed_shelf : IsUnused shelf block → IsShelf view (with_free block shelf)
    freed_shelf unused = record {
      geometry = is.geometry;
      limits = is.limits;
      room = is.room;
      number = is.number;
      buffers = is.buffers;
      order = is.order;
      free = all_joined (λ b. b < shelf.geometry.blocks) shelf.free (block ∷ []) is.free (below, tt);
      apart = subst AreApart (append_assoc (map (λ b. b.block) shelf.buffers) shelf.free (block ∷ []))
          (apart_push (map (λ b. b.block) shelf.buffers ++ shelf.free) block is.apart
          (all_joined (λ x. x ≢ block) (map (λ b. b.block) shelf.buffers) shelf.free (blocks shelf.buffers unused.buffers) unlisted));
      gates = is.gates;
      lives = is.lives;
      each = is.each;
      held = is.held;
      vacant = all_joined (λ b. copies_in b shelf.lives ≡ []) shelf.free (block ∷ []) is.vacant (unused.live, tt);
      unheld = all_joined (λ b. IsHeld shelf.holds.holds b → ⊥) shelf.free (block ∷ []) is.unheld (unused.holds, tt);
      packed = is.packed;
      waits = is.waits;
      ready = is.ready;
      stand = is.stand;
      bodies = is.bodies;
      queue = is.queue;
      cache = is.cache;
      raid = is.raid;
    }
      where
        blocks : (bs : List BufferState) → AllByRecursion (λ b. b.block ≢ block) bs → AllByRecursion (λ x. x ≢ block) (map (λ b. b.block) bs)
        blocks [] all = tt
        blocks (b ∷ bs) all = (all.0, blocks bs all.1)

    -- there is room for it among the free ones
    pub freed_fits : length shelf.free + 1 ≤ shelf.geometry.blocks
    freed_fits =
        let free : AreApart shelf.free = apart_back (map (λ b. b.block) shelf.buffers) shelf.free is.apart in
        subst (λ (n : ℕ). n ≤ shelf.geometry.blocks) (length-append shelf.free (block ∷ []))
        (few shelf.geometry.blocks (shelf.free ++ block ∷ []) (apart_push shelf.free block free unlisted) (all_joined (λ b. b < shelf.geometry.blocks) shelf.free (block ∷ []) is.free (below, tt)))

-- ---- the state

module _ {D : Type 0} (view : D → DiskView) (is_disk : (disk : D) → IsDisk (view disk)) (setup : Setup) (shelf : ShelfView D) (s : State) (is : IsShelf view shelf) (stands : StandsFor setup shelf s)
    (of_shelf : IsSetupOf setup shelf) (digest : Digest) (place : Place) (live : Contains s.book.live (copy_live digest place)) (below : place.block < shelf.geometry.blocks)
    (item : Item) (step : Step) (only : after_step setup step s ≡ with_item digest item (dropped_live setup digest s.book) s) (plain : is_plain step ≡ true) where
  abbrev after : State
  after = with_item digest item (dropped_live setup digest s.book) s

  abbrev lives : List (List LiveCopy)
  lives = lives_without place.block place.unit shelf.lives

  lt : place.block < length shelf.lives
  lt = subst (λ (n : ℕ). place.block < n) (sym is.lives) below

  abbrev booked : IsBooked s.book
  booked = stands.order.booked

  abbrev copy : LiveCopy
  copy = record { digest = digest; unit = place.unit; units = place.units }

  -- the same digest is the same copy
  the_copy : (k : ℕ) (c : LiveCopy) → Contains s.book.live (live_in_block k c) → same_digest digest c.digest ≡ true → live_in_block k c ≡ copy_live digest place
  the_copy k c there same = sym (stands.listed.one (copy_live digest place) (live_in_block k c) live there same)

  lives_left : LivesSame lives after.book
  lives_left = record {
    known = λ k c there.
        let left = left_live setup s digest (live_in_block k c) (subst (λ (l : List Live). Contains l (live_in_block k c)) (dropped_lives setup s digest) there) in
        left_there place.block place.unit shelf.lives lt k c (stands.lives.known k c left.0)
        (λ here at.
        let one = same_unit (copies_in place.block shelf.lives) (is.each place.block).own c copy
        (subst (λ (j : ℕ). Contains (copies_in j shelf.lives) c) here (stands.lives.known k c left.0)) (stands.lives.known place.block copy live) at in
        both_ways (same_digest digest c.digest) left.1 (ap (λ (x : LiveCopy). same_digest digest x.digest) one ∙ same_digest_refl digest));
    there = λ k c there.
        let was = left_from place.block place.unit shelf.lives lt k c there in
        let is_live = stands.lives.there k c was.0 in
        subst (λ (l : List Live). Contains l (live_in_block k c)) (sym (dropped_lives setup s digest))
        (stays_live setup s digest (live_in_block k c) is_live
        (false_else (same_digest digest c.digest) (λ same. let one = the_copy k c is_live same in was.1 (ap (λ (l : Live). l.block) one) (ap (λ (l : Live). l.unit) one))));
  }
    where
      false_else : (b : Bool) → (b ≡ true → ⊥) → b ≡ false
      false_else true never = absurd (never refl)
      false_else false never = refl

  entry_left : (e : Digest) → same_digest digest e ≡ false → entry after e ≡ entry s e
  entry_left e other = ap top_of (cond-false (same_digest e digest) (item ∷ history s e) (history s e) (by (same_digest e digest) refl))
    where
      by : (b : Bool) → same_digest e digest ≡ b → b ≡ false
      by false is = refl
      by true is = absurd (both_ways (same_digest digest e) other (subst (λ (d : Digest). same_digest digest d ≡ true) (sym (same_digest_is e digest is)) (same_digest_refl digest)))

  -- a live copy behind it was live before, and its entry is as before
  turned : (e : Digest) → same_digest digest e ≡ false → same_digest e digest ≡ false
  turned e other = by (same_digest e digest) refl
    where
      by : (b : Bool) → same_digest e digest ≡ b → b ≡ false
      by false is = refl
      by true is = absurd (both_ways (same_digest digest e) other (subst (λ (d : Digest). same_digest digest d ≡ true) (sym (same_digest_is e digest is)) (same_digest_refl digest)))

  live_own : (e : Digest) (ls : List Live) (l : Live) → live_of e ls ≡ Some l → e ≡ l.digest
  live_own e [] l found = absurd (cc)
  live_own e (m ∷ ls) l found = by (same_digest e m.digest) refl found (live_own e ls l)
    where
      by : (b : Bool) → same_digest e m.digest ≡ b → cond b (Some m) (live_of e ls) ≡ Some l → (live_of e ls ≡ Some l → e ≡ l.digest) → e ≡ l.digest
      by true is found rest = let same : m ≡ l = cc in same_digest_is e m.digest is ∙ ap (λ (x : Live). x.digest) same
      by false is found rest = rest found

  apart : (e : Digest) (l : Live) → live_of e after.book.live ≡ Some l → same_digest digest e ≡ false
  apart e l is_live =
      let left = left_live setup s digest l (subst (λ (x : List Live). Contains x l) (dropped_lives setup s digest) (live_there e after.book.live l is_live)) in
      subst (λ (d : Digest). same_digest digest d ≡ false) (sym (live_own e after.book.live l is_live)) left.1

  was_live : (e : Digest) (l : Live) → live_of e after.book.live ≡ Some l → live_of e s.book.live ≡ Some l
  was_live e l is_live = sym (others_live digest e s.book.live (turned e (apart e l is_live))) ∙ ap (live_of e) (sym (dropped_lives setup s digest)) ∙ is_live

  was_entry : (e : Digest) (l : Live) (v : Version) → live_of e after.book.live ≡ Some l → entry after e ≡ Some v → entry s e ≡ Some v
  was_entry e l v is_live is_entry = sym (entry_left e (apart e l is_live)) ∙ is_entry

  -- with these free blocks the shelf stands for the state behind it
  stands_with : (free : List ℕ) (queue : QueueState) → after.book.free ≡ free → StandsFor setup (record (without_copy place shelf) { free = free; queue = queue }) after
  stands_with free queue same = record {
    buffers = dropped_buffers setup s digest ∙ stands.buffers;
    free = same;
    next = dropped_next setup s digest ∙ stands.next;
    holds = record {
      known = λ n k there. stands.holds.known n k (subst (λ (l : List (ℕ × ℕ)). Contains l (n, k)) (dropped_holds setup s digest) there);
      there = λ n k holds. subst (λ (l : List (ℕ × ℕ)). Contains l (n, k)) (sym (dropped_holds setup s digest)) (stands.holds.there n k holds);
    };
    lives = lives_left;
    listed = dropped_listed setup s digest booked stands.listed;
    order = subst (λ (t : State). BookInOrder setup t (records_of shelf.buffers)) only (plain_book setup s (records_of shelf.buffers) stands.order step plain);
    entries = λ l there.
        let left = left_live setup s digest l (subst (λ (x : List Live). Contains x l) (dropped_lives setup s digest) there) in
        let old = stands.entries l left.0 in
        record { version = old.version; entry_is = entry_left l.digest left.1 ∙ old.entry_is; lies = old.lies };
    kept = have_fewer HasCopy shelf.cache.kept s after was_live was_entry stands.kept;
  }

  -- another digest's copy lies where it lay
  placed_with : (free : List ℕ) (queue : QueueState) → IsPlaced view shelf s → IsPlaced view (record (without_copy place shelf) { free = free; queue = queue }) after
  placed_with free queue placed = record {
    buffered = λ e l v is_live is_entry. placed.buffered e l v (was_live e l is_live) (was_entry e l v is_live is_entry);
    there = λ e l v is_live is_entry. placed.there e l v (was_live e l is_live) (was_entry e l v is_live is_entry);
    kept = have_fewer HasRecord shelf.cache.kept s after was_live was_entry placed.kept;
  }

  -- ---- the queue

  -- the block is considered
  abbrev pub requeued_view : ShelfView D
  requeued_view = with_requeued place.block (without_copy place shelf)

  lt_setup : place.block < setup.blocks
  lt_setup = subst (λ (n : ℕ). place.block < n) (sym of_shelf.shape.blocks) below

  use_is : use_in place.block lives ≡ use_of (fewer setup s digest) place.block
  use_is = use_in_is lives (fewer setup s digest) place.block (record {
    known = λ k c there. lives_left.known k c (subst (λ (l : List Live). Contains l (live_in_block k c)) (sym (dropped_lives setup s digest)) there);
    there = λ k c there. subst (λ (l : List Live). Contains l (live_in_block k c)) (dropped_lives setup s digest) (lives_left.there k c there);
  })
      (each_left (λ j cs. IsLiveList cs) place.block place.unit shelf.lives lt place.block (is.each place.block) (λ list. left_list place.unit (copies_in place.block shelf.lives) list))
      (fewer_own setup s digest booked stands.listed)

  dropped_raid : SameButMarks s.raid after.raid
  dropped_raid = refl

  queued_with : (free : List ℕ) → BooksStand setup shelf s → BooksStand setup (record requeued_view { free = free }) after
  queued_with free queued =
      queue_considered setup shelf (record requeued_view { free = free }) s after refl dropped_raid (fewer setup s digest) (dropped_book setup s digest) refl
      (subst (λ (n : ℕ). AllByRecursion (λ b. b < n) shelf.queue.queue) (sym of_shelf.shape.blocks) is.queue.below) queued place.block lt_setup
      (ap (λ (t : Bool). requeued t place.block shelf.queue.queue)
      (marked_as setup shelf (fewer setup s digest) place.block (use_in place.block lives) (not (has_buffer_in shelf.buffers place.block)) of_shelf is.queue use_is
      (ap not (has_buffer_is shelf.buffers (fewer setup s digest) place.block stands.buffers))))
      (λ b lt other. queued_alike setup s.book (fewer setup s digest) b refl
      (ap (sum_by (λ (l : Live). l.units)) (use_elsewhere digest b s.book.live
      (λ l there same at. other (sym at ∙ ap (λ (x : Live). x.block) (sym (stands.listed.one (copy_live digest place) l live there same)))))))

  -- what the step asks of the copies that an image may have
  abbrev pub MayStep : Type 0
  MayStep = IsHonest (view shelf.disk) → ImagesHold setup view shelf s → MayTake setup s (possible_copies view shelf s) step

  goes_with : MayStep → (free : List ℕ) → after.book.free ≡ free → Goes view setup (step ∷ []) shelf s (record requeued_view { free = free })
  goes_with may free same = record {
    stands = subst (StandsFor setup (record requeued_view { free = free })) (sym only) (stands_with free requeued_view.queue same);
    queued = λ was. subst (BooksStand setup (record requeued_view { free = free })) (sym only) (queued_with free was);
    placed = λ honest placed. subst (IsPlaced view (record requeued_view { free = free })) (sym only) (placed_with free requeued_view.queue placed);
    safe = λ honest safe. plain_holds setup shelf.geometry s (records_of shelf.buffers) (gate_at shelf.gates) (view shelf.disk).may_leave safe step plain (may honest safe);
    leaves = λ honest safe. stays view setup shelf s (is_disk shelf.disk) (OneOf (Survives setup) (states_through setup (step ∷ []) s)) (λ c h. inl h) safe;
  }

  -- ---- whether the block is free then

  places_same : places_of s.book ≡ map {B = ℕ × ℕ} (λ b. (b.number, b.block)) shelf.buffers
  places_same = ap (map {B = ℕ × ℕ} (λ (b : Buffer). (b.number, b.block))) stands.buffers ∙ over shelf.buffers
    where
      over : (bs : List BufferState) → map {B = ℕ × ℕ} (λ b. (b.number, b.block)) (map book_buffer bs) ≡ map {B = ℕ × ℕ} (λ b. (b.number, b.block)) bs
      over [] = refl
      over (b ∷ bs) = ap (λ (l : List (ℕ × ℕ)). (b.number, b.block) ∷ l) (over bs)

  is_vacant : IsUnused requeued_view place.block → IsVacant (fewer setup s digest) place.block
  is_vacant unused = record {
    places = λ n there.
        let b = map_from (λ (x : BufferState). (x.number, x.block)) shelf.buffers (n, place.block) (subst (λ (l : List (ℕ × ℕ)). Contains l (n, place.block)) places_same there) in
        all_at (λ x. x.block ≢ place.block) shelf.buffers b.0 unused.buffers b.1 (ap (λ (p : ℕ × ℕ). p.1) b.2);
    live = λ m there at.
        let c : LiveCopy = record { digest = m.digest; unit = m.unit; units = m.units } in
        let known = lives_left.known m.block c (subst (λ (l : List Live). Contains l m) (sym (dropped_lives setup s digest)) there) in
        let none = subst (λ (l : List LiveCopy). Contains l c) unused.live (subst (λ (k : ℕ). Contains (copies_in k lives) c) at known) in omega (arith, none.1);
    holds = λ n there. unused.holds (n, stands.holds.known n place.block there);
  }

  is_unused : IsVacant (fewer setup s digest) place.block → IsUnused requeued_view place.block
  is_unused vacant = record {
    buffers = all_from (λ b. b.block ≢ place.block) shelf.buffers
        (λ b there at. vacant.places b.number (subst (λ (l : List (ℕ × ℕ)). Contains l (b.number, place.block)) (sym places_same)
        (subst (λ (k : ℕ). Contains (map {B = ℕ × ℕ} (λ (x : BufferState). (x.number, x.block)) shelf.buffers) (b.number, k)) at
        (map_there (λ (x : BufferState). (x.number, x.block)) shelf.buffers b there))));
    live = no_copies (copies_in place.block lives)
        (λ c there. vacant.live (live_in_block place.block c)
        (subst (λ (l : List Live). Contains l (live_in_block place.block c)) (dropped_lives setup s digest) (lives_left.there place.block c there)) refl);
    holds = λ held. vacant.holds held.0 (stands.holds.there held.0 place.block held.1);
  }

  frees : (may : Bool) → may_be_free (fewer setup s digest) place.block ≡ may → after.book.free ≡ shelf.free ++ cond may (place.block ∷ []) []
  frees may is_may =
      dropped_frees setup s digest booked stands.listed (copy_live digest place) live (same_digest_refl digest) lt_setup
      ∙ ap (λ (l : List ℕ). l ++ cond (may_be_free (fewer setup s digest) place.block) (place.block ∷ []) []) stands.free ∙ ap (λ (b : Bool). shelf.free ++ cond b (place.block ∷ []) []) is_may

  pub goes_freed : MayStep → IsUnused requeued_view place.block → Goes view setup (step ∷ []) shelf s (with_free place.block requeued_view)
  goes_freed may unused = goes_with may (shelf.free ++ place.block ∷ []) (frees true (vacant_is (fewer setup s digest) place.block (is_vacant unused)))

  pub goes_kept : MayStep → (IsUnused requeued_view place.block → ⊥) → Goes view setup (step ∷ []) shelf s requeued_view
  goes_kept may used = goes_with may shelf.free (frees false (by (may_be_free (fewer setup s digest) place.block) refl) ∙ append-nil shelf.free)
    where
      by : (may : Bool) → may_be_free (fewer setup s digest) place.block ≡ may → may_be_free (fewer setup s digest) place.block ≡ false
      by false is_may = is_may
      by true is_may = absurd (used (is_unused (vacant_from (fewer setup s digest) place.block (fewer_units setup s digest booked stands.listed) is_may)))
