-- A copy is placed in a buffer that takes it: only the block of the copy before comes into the queue, or leaves it.
use Rattle.std.proofs.Common.{◌≡◌, ◌≢◌, ◌⊎◌, inl, inr, ⊎_elim, ℕ, ◌*◌, ◌<◌, Bool, true, false, not, ◌&&◌, List, ◌∷◌, ◌++◌, refl, sym, ◌∙◌, ap, subst}
use Rattle.std.specs.Prelude.{Option, Some, None, ◌==◌, nat_lt, filter, sum_by, Contains}
use Rattle.std.specs.List.{AllByRecursion, list_any}
use Rattle.std.proofs.lemmas.Bool.{cases_eq, cond-false, eq-eqb, eqb-true, ne_eqb}
use Rattle.law_lists.proofs.Each.{all_from, all_at}
use Rattle.law_lists.proofs.Filters.{filter_within}
use Rattle.law_lists.proofs.Finding.{any_there, any_alike}
use Rattle.law_lists.proofs.Members.{first_there}
use Rattle.disk_model.specs.Disk.{DiskView}
use Rattle.rec_format.specs.declared.version.Digest.{Digest}
use Rattle.rec_format.specs.declared.version.Version.{Version}
use Rattle.rec_format.specs.Places.{same_digest}
use Rattle.rec_format.specs.Versions.{version_units}
use Rattle.rec_format.proofs.Laws.{same_digest_is}
use Rattle.model_device.specs.Book.{Setup, Book, Live, has_buffer, use_of, may_be_queued, live_of, without_live, refreshed}
use Rattle.model_device.specs.Device.{State}
use Rattle.write_buffer.specs.declared.stream.Stream.{Stream}
use Rattle.write_buffer.specs.Buffers.{BufferState}
use Rattle.block_shelf.specs.Lives.{copies_in, use_in}
use Rattle.defrag_queue.specs.Queues.{QueueState, considered, is_below_mark, requeued}
use Rattle.law_trail.specs.Trail.{places_of, IsBooked}
use Rattle.law_trail.proofs.Books.{HasNothing, live_there, free_has_nothing}
use Rattle.law_trail.proofs.Places.{buffer_place}
use Rattle.law_trail.proofs.Unchanged.{queued_alike}
use Rattle.raid_book.specs.Raids.{SameButMarks}
use Rattle.block_shelf.specs.declared.place.Place.{Place}
use Rattle.block_shelf.specs.View.{ShelfView, IsShelf, IsLiveList, IsSetupOf}
use Rattle.block_shelf.specs.Standing.{IsListed, StandsFor, BooksStand}
use Rattle.block_shelf.specs.Calls.{copy_live, prior_live}
use Rattle.block_shelf.specs.Changes.{has_buffer_in}
use Rattle.block_shelf.specs.Appends.{with_prior_requeued}
use Rattle.block_shelf.proofs.QueueSteps.{use_in_is, has_buffer_is, marked_as, queue_refreshed, queue_considered}
use Rattle.block_shelf.proofs.Readied.{IsReadied, new_live, filled, filled_live, filled_places, shelf_places, place_there, some_live, live_own}

-- ---- whether a block is to be vacated

-- not where a buffer has it
buffered_unqueued : (setup : Setup) (book : Book) (block : ℕ) → has_buffer book block ≡ true → may_be_queued setup book block ≡ false
buffered_unqueued setup book block is = ap (λ (x : Bool). not x && nat_lt 0 (use_of book block) && nat_lt (use_of book block * 100) (setup.lwm * setup.capacity)) is

-- nor where nothing in it is live
unused_unqueued : (setup : Setup) (book : Book) (block : ℕ) → has_buffer book block ≡ false → use_of book block ≡ 0 → may_be_queued setup book block ≡ false
unused_unqueued setup book block unbuffered none =
    ap (λ (x : Bool). not x && nat_lt 0 (use_of book block) && nat_lt (use_of book block * 100) (setup.lwm * setup.capacity)) unbuffered
    ∙ ap (λ (n : ℕ). nat_lt 0 n && nat_lt (n * 100) (setup.lwm * setup.capacity)) none

pub refreshed_queued : (setup : Setup) (book : Book) (block : ℕ) → may_be_queued setup (refreshed setup book) block ≡ may_be_queued setup book block
unfolding refreshed
refreshed_queued setup book block = refl

module _ {setup : Setup} {s : State} {stream : Stream} {ready : Book} {free : List ℕ} {next_number : ℕ} {front : List BufferState} {b : BufferState} {behind : List BufferState}
    (digest : Digest) (v : Version)
    (readied : IsReadied setup s stream (version_units v) ready free next_number front b behind) (booked : IsBooked s.book) (listed : IsListed setup s.book) where
  abbrev mid : Book
  mid = filled digest v readied

  -- the block of the buffer that takes the copy isn't, neither before nor then
  own_then : may_be_queued setup mid b.block ≡ false
  own_then = buffered_unqueued setup mid b.block
      (buffer_place mid b.block ∙ any_there (λ (p : ℕ × ℕ). p.1 == b.block) (places_of mid) (b.number, b.block)
      (subst (λ (l : List (ℕ × ℕ)). Contains l (b.number, b.block)) (sym (filled_places digest v readied)) (place_there front b behind)) (eq-eqb b.block b.block refl))

  own_before : may_be_queued setup s.book b.block ≡ false
  own_before = by readied.taken
    where
      by : ((s.book.free ≡ free) × Contains (places_of s.book) (b.number, b.block)) ⊎ (s.book.free ≡ b.block ∷ free) → may_be_queued setup s.book b.block ≡ false
      by (inl two) = buffered_unqueued setup s.book b.block (buffer_place s.book b.block
          ∙ any_there (λ (p : ℕ × ℕ). p.1 == b.block) (places_of s.book) (b.number, b.block) two.1 (eq-eqb b.block b.block refl))
      by (inr first) =
          let nothing : HasNothing s.book b.block = free_has_nothing s.book b.block booked (subst (λ (l : List ℕ). Contains l b.block) (sym first) (first_there b.block free)) in
          unused_unqueued setup s.book b.block nothing.buffer nothing.live

  module _ (k : ℕ) (elsewhere : (l : Live) → live_of digest s.book.live ≡ Some l → l.block ≢ k) (other : k ≢ b.block) where
    buffered_same : has_buffer mid k ≡ has_buffer s.book k
    buffered_same =
        buffer_place mid k ∙ ap (list_any (λ (p : ℕ × ℕ). p.1 == k)) (filled_places digest v readied)
        ∙ any_alike (λ (p : ℕ × ℕ). p.1 == k) (shelf_places (front ++ b ∷ behind)) (places_of s.book)
        (λ p is there. ⊎_elim (λ (was : Contains (places_of s.book) p). was) (λ (same : p.1 ≡ b.block). absurd (other (sym (eqb-true p.1 k is) ∙ same))) (readied.come p there))
        (λ p is there. readied.kept p there)
        ∙ sym (buffer_place s.book k)

    -- what is live in it stays
    stays : AllByRecursion (λ l. (l.block == k) ≡ true → not (same_digest digest l.digest) ≡ true) s.book.live
    stays = all_from (λ l. (l.block == k) ≡ true → not (same_digest digest l.digest) ≡ true) s.book.live (λ l there at. by l there (eqb-true l.block k at) (same_digest digest l.digest) refl)
      where
        by : (l : Live) → Contains s.book.live l → l.block ≡ k → (x : Bool) → same_digest digest l.digest ≡ x → not x ≡ true
        by l there at false is = refl
        by l there at true is =
            let old = some_live digest s.book.live l there is in
            let own = live_own digest s.book.live old.0 old.1 in
            let one = listed.one old.0 l (live_there digest s.book.live old.0 old.1) there (subst (λ (d : Digest). same_digest d l.digest ≡ true) (same_digest_is digest old.0.digest own) is) in
            absurd (elsewhere old.0 old.1 (ap (λ (x : Live). x.block) one ∙ at))

    use_same : use_of mid k ≡ use_of s.book k
    use_same =
        ap (λ (ls : List Live). sum_by (λ (l : Live). l.units) (filter (λ (l : Live). l.block == k) ls)) (filled_live digest v readied)
        ∙ ap (sum_by (λ (l : Live). l.units)) (
        cond-false (b.block == k) (new_live digest v b ∷ filter (λ (l : Live). l.block == k) (without_live digest s.book.live))
        (filter (λ (l : Live). l.block == k) (without_live digest s.book.live)) (ne_eqb b.block k (λ e. other (sym e)))
        ∙ filter_within (λ (l : Live). l.block == k) (λ (l : Live). not (same_digest digest l.digest)) s.book.live stays
        )

  pub still_queued : (k : ℕ) → ((l : Live) → live_of digest s.book.live ≡ Some l → l.block ≢ k) → may_be_queued setup mid k ≡ may_be_queued setup s.book k
  still_queued k elsewhere =
      ⊎_elim (λ (e : k ≡ b.block). ap (may_be_queued setup mid) e ∙ own_then ∙ sym own_before ∙ ap (may_be_queued setup s.book) (sym e))
      (λ (other : k ≢ b.block). queued_alike setup s.book mid k (buffered_same k elsewhere other) (use_same k elsewhere other)) (cases_eq k b.block)

-- ---- the queue of the shelf

-- the queue where the block of the copy before is considered, if there is one
abbrev pub queue_behind : {D : Type 0} → Option Place → ShelfView D → QueueState
queue_behind None shelf = shelf.queue
queue_behind (Some p) shelf = considered shelf.queue p.block (use_in p.block shelf.lives) (not (has_buffer_in shelf.buffers p.block))

pub requeued_is : {D : Type 0} (prior : Option Place) (shelf : ShelfView D) → with_prior_requeued prior shelf ≡ record shelf { queue = queue_behind prior shelf }
requeued_is None shelf = refl
requeued_is (Some p) shelf = refl

none_is : {X : Type 0} (o : Option X) (x : X) → o ≡ None → o ≡ Some x → ⊥
none_is o x none some = cc

-- the live copy is the one before
prior_block : (digest : Digest) (p : Place) (o : Option Live) (l : Live) → o ≡ prior_live digest (Some p) → o ≡ Some l → l.block ≡ p.block
prior_block digest p o l prior found = let same : l ≡ copy_live digest p = cc in ap (λ (x : Live). x.block) same

module _ {D : Type 0} (view : D → DiskView) {setup : Setup} {s : State} {stream : Stream} {ready : Book} {free : List ℕ} {next_number : ℕ} {front : List BufferState} {b : BufferState}
    {behind : List BufferState} (digest : Digest) (v : Version)
    (readied : IsReadied setup s stream (version_units v) ready free next_number front b behind) (t : State) (booked : t.book ≡ refreshed setup (filled digest v readied))
    (old mid new : ShelfView D) (raid : new.raid ≡ old.raid) (marks : SameButMarks s.raid t.raid) (is : IsShelf view old) (stands : StandsFor setup old s) (setup_is : IsSetupOf setup old)
    (same : mid.queue ≡ old.queue) (then : StandsFor setup mid t) (each : (k : ℕ) → IsLiveList (copies_in k mid.lives)) where
  pub queue_after : (prior : Option Place) → live_of digest s.book.live ≡ prior_live digest prior → new.queue ≡ queue_behind prior mid → BooksStand setup old s → BooksStand setup new t
  queue_after prior live queue was = by prior live queue
    where
      below : AllByRecursion (λ k. k < setup.blocks) old.queue.queue
      below = subst (λ (n : ℕ). AllByRecursion (λ k. k < n) old.queue.queue) (sym setup_is.shape.blocks) is.queue.below

      by : (prior : Option Place) → live_of digest s.book.live ≡ prior_live digest prior → new.queue ≡ queue_behind prior mid → BooksStand setup new t
      by None live queue =
          queue_refreshed setup old new s t raid marks (filled digest v readied) booked readied.was_queued below was (ap (λ (q : QueueState). q.queue) (queue ∙ same))
          (λ k lt. still_queued digest v readied stands.order.booked stands.listed k (λ l found at. none_is (live_of digest s.book.live) l live found))
      by (Some p) live queue =
          queue_considered setup old new s t raid marks (filled digest v readied) booked readied.was_queued below was p.block
          (all_at (λ l. l.block < setup.blocks) s.book.live (copy_live digest p) stands.order.within.live (live_there digest s.book.live (copy_live digest p) live))
          (ap (λ (q : QueueState). q.queue) queue
          ∙ ap (λ (q : QueueState). requeued (is_below_mark q.capacity q.lwm (use_in p.block mid.lives) (not (has_buffer_in mid.buffers p.block))) p.block q.queue) same
          ∙ ap (λ (x : Bool). requeued x p.block old.queue.queue)
          (marked_as setup old t.book p.block (use_in p.block mid.lives) (not (has_buffer_in mid.buffers p.block)) setup_is is.queue
          (use_in_is mid.lives t.book p.block then.lives (each p.block) then.listed.own) (ap not (has_buffer_is mid.buffers t.book p.block then.buffers))
          ∙ ap (λ (x : Book). may_be_queued setup x p.block) booked ∙ refreshed_queued setup (filled digest v readied) p.block))
          (λ k lt other. still_queued digest v readied stands.order.booked stands.listed k (λ l found at. other (sym at ∙ prior_block digest p (live_of digest s.book.live) l live found)))
