-- What is live in a block and whether it has a buffer, as the shelf and the book say it, and how the queue stands behind a change.
use Rattle.std.proofs.Common.{◌≡◌, ◌≢◌, ℕ, ◌+◌, ◌<◌, Bool, true, false, not, cond, List, [], ◌∷◌, map, sum_by, refl, sym, ◌∙◌, ap, subst}
use Rattle.std.specs.Prelude.{Some, None, filter, Contains, ◌==◌}
use Rattle.std.specs.List.{AllByRecursion, IsDistinct, list_any}
use Rattle.std.proofs.lemmas.Bool.{both_ways, eq-eqb, eqb-true, not-true}
use Rattle.std.proofs.lemmas.List.Sums.{sum_by-cons}
use Rattle.law_lists.proofs.Distinct.{StandOnce, once_kept, same_sum}
use Rattle.law_lists.proofs.Each.{all_map, all_from, all_at}
use Rattle.law_lists.proofs.Finding.{any_map}
use Rattle.law_lists.proofs.Members.{map_there, map_from, filter_there, filter_from}
use Rattle.disk_model.specs.Disk.{DiskView}
use Rattle.rec_format.specs.Places.{same_digest}
use Rattle.rec_format.proofs.Laws.{same_digest_refl}
use Rattle.model_device.specs.Book.{Setup, Book, Buffer, Live, use_of, has_buffer, is_in, without_live, may_be_queued, refreshed}
use Rattle.model_device.specs.Device.{State}
use Rattle.block_format.specs.declared.geometry.Geometry.{Geometry}
use Rattle.law_trail.specs.Trail.{places_of}
use Rattle.law_trail.proofs.Unchanged.{queued_same}
use Rattle.write_buffer.specs.Buffers.{BufferState}
use Rattle.block_shelf.specs.Lives.{LiveCopy, copies_in, use_in, copy_at, HaveOwnUnits, live_in_block}
use Rattle.defrag_queue.specs.Queues.{QueueState, is_below_mark, requeued, considered}
use Rattle.defrag_queue.proofs.Refreshed.{refreshed_one, refreshed_none, refreshed_all, requeued_below}
use Rattle.raid_book.specs.Books.{BookState}
use Rattle.raid_book.specs.Raids.{RaidStands, SameButMarks}
use Rattle.raid_book.proofs.Marks.{marks_aside}
use Rattle.block_shelf.specs.declared.place.ShelfLimits.{ShelfLimits}
use Rattle.block_shelf.specs.View.{ShelfView, IsShelf, IsLiveList, IsQueueOf, IsSetupOf}
use Rattle.block_shelf.specs.Standing.{HaveOwnDigests, LivesSame, BooksStand, book_buffer}
use Rattle.block_shelf.specs.Changes.{has_buffer_in}
use Rattle.block_shelf.proofs.Lives.{copy_found}

-- ---- live copies

pub own_digests_once : (live : List Live) → HaveOwnDigests live → StandOnce live
unfolding IsDistinct
own_digests_once [] own = tt
own_digests_once (l ∷ live) own = (
  all_map (λ m. same_digest l.digest m.digest ≡ false) (λ m. l ≢ m) live
      (λ m apart same. both_ways (same_digest l.digest m.digest) apart (ap (λ (x : Live). same_digest l.digest x.digest) (sym same) ∙ same_digest_refl l.digest)) own.0,
  own_digests_once live own.1,
)

pub own_digests_kept : (p : Live → Bool) (live : List Live) → HaveOwnDigests live → HaveOwnDigests (filter p live)
unfolding IsDistinct
own_digests_kept p [] own = tt
own_digests_kept p (l ∷ live) own = by (p l) (own_digests_kept p live own.1)
  where
    by : (b : Bool) → HaveOwnDigests (filter p live) → HaveOwnDigests (cond b (l ∷ filter p live) (filter p live))
    by true rest =
        (all_from (λ m. same_digest l.digest m.digest ≡ false) (filter p live) (λ m there. all_at (λ m. same_digest l.digest m.digest ≡ false) live m own.0 (filter_from p live m there).0), rest)
    by false rest = rest

-- another copy stands in the place of the digest's own
pub own_digests_more : (l : Live) (live : List Live) → HaveOwnDigests live → HaveOwnDigests (l ∷ without_live l.digest live)
unfolding IsDistinct
own_digests_more l live own = (
  all_from (λ m. same_digest l.digest m.digest ≡ false) (without_live l.digest live)
      (λ m there. not-true (same_digest l.digest m.digest) (filter_from (λ (x : Live). not (same_digest l.digest x.digest)) live m there).1),
  own_digests_kept (λ m. not (same_digest l.digest m.digest)) live own,
)

-- the copies of a block begin at units of their own
listed_once : (block : ℕ) (cs : List LiveCopy) → HaveOwnUnits cs → StandOnce (map (live_in_block block) cs)
listed_once block [] own = tt
listed_once block (c ∷ cs) own = (all_from (λ m. live_in_block block c ≢ m) (map (live_in_block block) cs) apart, listed_once block cs own.1)
  where
    apart : (m : Live) → Contains (map (live_in_block block) cs) m → live_in_block block c ≢ m
    apart m there same =
        let one = map_from (live_in_block block) cs m there in
        let found : copy_at one.0.unit cs ≡ Some one.0 = copy_found cs one.0 own.1 one.1 in
        let none : copy_at one.0.unit cs ≡ None = subst (λ (n : ℕ). copy_at n cs ≡ None) (ap (λ (l : Live). l.unit) (same ∙ sym one.2)) own.0 in
        let clash : Some one.0 ≡ None = sym found ∙ none in absurd (cc)

sum_in_block : (block : ℕ) (cs : List LiveCopy) → sum_by (λ (l : Live). l.units) (map (live_in_block block) cs) ≡ sum_by (λ (c : LiveCopy). c.units) cs
sum_in_block block [] = refl
sum_in_block block (c ∷ cs) =
    sum_by-cons (λ (l : Live). l.units) (live_in_block block c) (map (live_in_block block) cs) ∙ ap (λ (n : ℕ). c.units + n) (sum_in_block block cs)
    ∙ sym (sum_by-cons (λ (d : LiveCopy). d.units) c cs)

-- what is live in a block takes as many units in the book as in the shelf
pub use_in_is : (lives : List (List LiveCopy)) (book : Book) (block : ℕ) → LivesSame lives book → IsLiveList (copies_in block lives) → HaveOwnDigests book.live → use_in block lives ≡ use_of book block
use_in_is lives book block agree list own =
    sym (sum_in_block block (copies_in block lives))
    ∙ same_sum (λ (l : Live). l.units) (map (live_in_block block) (copies_in block lives)) (filter (λ (l : Live). l.block == block) book.live) (listed_once block (copies_in block lives) list.own)
    (once_kept (λ (l : Live). l.block == block) book.live (own_digests_once book.live own)) to back
  where
    to : (l : Live) → Contains (map (live_in_block block) (copies_in block lives)) l → Contains (filter (λ (m : Live). m.block == block) book.live) l
    to l there =
        let one = map_from (live_in_block block) (copies_in block lives) l there in
        filter_there (λ (m : Live). m.block == block) book.live l (eq-eqb l.block block (ap (λ (m : Live). m.block) (sym one.2))) (subst (Contains book.live) one.2 (agree.there block one.0 one.1))

    back : (l : Live) → Contains (filter (λ (m : Live). m.block == block) book.live) l → Contains (map (live_in_block block) (copies_in block lives)) l
    back l there =
        let was = filter_from (λ (m : Live). m.block == block) book.live l there in
        let at : l.block ≡ block = eqb-true l.block block was.1 in
        let c : LiveCopy = record { digest = l.digest; unit = l.unit; units = l.units } in
        let is : live_in_block block c ≡ l = ap (λ (k : ℕ). live_in_block k c) (sym at) in
        subst (Contains (map (live_in_block block) (copies_in block lives))) is
        (map_there (live_in_block block) (copies_in block lives) c (agree.known block c (subst (Contains book.live) (sym is) was.0)))

-- ---- buffers

-- a block has a buffer in the book just where it has one in the shelf
pub has_buffer_is : (buffers : List BufferState) (book : Book) (block : ℕ) → book.buffers ≡ map book_buffer buffers → has_buffer_in buffers block ≡ has_buffer book block
has_buffer_is buffers book block is = sym (ap (list_any (λ (b : Buffer). b.block == block)) is ∙ any_map (λ (b : Buffer). b.block == block) book_buffer buffers)

-- ---- whether a block is to be vacated

-- the shelf's mark is the book's
pub marked_as : {D : Type 0} (setup : Setup) (shelf : ShelfView D) (book : Book) (block used : ℕ) (flushed : Bool) → IsSetupOf setup shelf → IsQueueOf shelf.geometry shelf.limits shelf.queue
    → used ≡ use_of book block → flushed ≡ not (has_buffer book block) → is_below_mark shelf.queue.capacity shelf.queue.lwm used flushed ≡ may_be_queued setup book block
marked_as setup shelf book block used flushed of_shelf is live unbuffered =
    ap (λ (n : ℕ). is_below_mark n shelf.queue.lwm used flushed) (is.capacity ∙ sym of_shelf.shape.capacity)
    ∙ ap (λ (n : ℕ). is_below_mark setup.capacity n used flushed) (is.lwm ∙ sym of_shelf.lwm)
    ∙ ap (λ (n : ℕ). is_below_mark setup.capacity setup.lwm n flushed) live
    ∙ ap (λ (x : Bool). is_below_mark setup.capacity setup.lwm (use_of book block) x) unbuffered

-- ---- the queue behind a change

module _ {D : Type 0} (setup : Setup) (old new : ShelfView D) (s t : State) (raid : new.raid ≡ old.raid) (marks : SameButMarks s.raid t.raid) where
  -- no turn of a raid was taken
  raid_then : BooksStand setup old s → RaidStands setup new.raid t.raid
  raid_then was = subst (λ (b : BookState). RaidStands setup b t.raid) (sym raid) (marks_aside setup old.raid s.raid t.raid marks was.raid)

  -- neither the queue nor what decides of it changed
  pub queue_same : new.queue.queue ≡ old.queue.queue → t.book.queue ≡ s.book.queue → places_of t.book ≡ places_of s.book → t.book.live ≡ s.book.live → BooksStand setup old s → BooksStand setup new t
  queue_same queue booked places live was = record {
    same = booked ∙ was.same ∙ sym queue;
    all = λ b lt. ap (λ (q : List ℕ). is_in q b) booked ∙ was.all b lt ∙ sym (queued_same setup s.book t.book places live b);
    raid = raid_then was;
  }

  -- The book was brought up to date behind a change. `mid` is the book before that.
  module _ (mid : Book) (is : t.book ≡ refreshed setup mid) (waits : mid.queue ≡ s.book.queue) (below : AllByRecursion (λ b. b < setup.blocks) old.queue.queue) (was : BooksStand setup old s) where
    below_booked : AllByRecursion (λ b. b < setup.blocks) s.book.queue
    below_booked = subst (AllByRecursion (λ b. b < setup.blocks)) (sym was.same) below

    all_then : (b : ℕ) → b < setup.blocks → is_in t.book.queue b ≡ may_be_queued setup t.book b
    all_then b lt = subst (λ (book : Book). is_in book.queue b ≡ may_be_queued setup book b) (sym is) (refreshed_all setup s.book mid waits below_booked b lt)

    -- no block came or went
    pub queue_refreshed : new.queue.queue ≡ old.queue.queue → ((b : ℕ) → b < setup.blocks → may_be_queued setup mid b ≡ may_be_queued setup s.book b) → BooksStand setup new t
    queue_refreshed queue still = record {
      same = ap (λ (book : Book). book.queue) is ∙ refreshed_none setup s.book mid waits was.all still below_booked ∙ was.same ∙ sym queue;
      all = all_then;
      raid = raid_then was;
    }

    -- one block was considered
    pub queue_considered : (k : ℕ) → k < setup.blocks → new.queue.queue ≡ requeued (may_be_queued setup mid k) k old.queue.queue
        → ((b : ℕ) → b < setup.blocks → b ≢ k → may_be_queued setup mid b ≡ may_be_queued setup s.book b) → BooksStand setup new t
    queue_considered k lt queue still = record {
      same = ap (λ (book : Book). book.queue) is ∙ refreshed_one setup s.book mid k lt waits was.all still below_booked ∙ ap (requeued (may_be_queued setup mid k) k) was.same ∙ sym queue;
      all = all_then;
      raid = raid_then was;
    }

-- ---- the queue of a shelf

-- a block of the device is considered
pub considered_is : (g : Geometry) (limits : ShelfLimits) (q : QueueState) (block used : ℕ) (flushed : Bool) → block < g.blocks → IsQueueOf g limits q
    → IsQueueOf g limits (considered q block used flushed)
considered_is g limits q block used flushed lt is = record {
  blocks = is.blocks;
  capacity = is.capacity;
  lwm = is.lwm;
  below = requeued_below g.blocks block (is_below_mark q.capacity q.lwm used flushed) q.queue is.below lt;
}

-- a shelf with another queue
pub queue_shelf : {D : Type 0} (view : D → DiskView) (shelf : ShelfView D) (queue : QueueState) → IsShelf view shelf → IsQueueOf shelf.geometry shelf.limits queue
    → IsShelf view (record shelf { queue = queue })
queue_shelf view shelf queue is queue_is = record {
  geometry = is.geometry;
  limits = is.limits;
  room = is.room;
  number = is.number;
  buffers = is.buffers;
  order = is.order;
  free = is.free;
  apart = is.apart;
  gates = is.gates;
  lives = is.lives;
  each = is.each;
  held = is.held;
  vacant = is.vacant;
  unheld = is.unheld;
  packed = is.packed;
  waits = is.waits;
  ready = is.ready;
  stand = is.stand;
  bodies = is.bodies;
  queue = queue_is;
  cache = is.cache;
  raid = is.raid;
}
