-- A copy is moved out of a block without a buffer: only the use of that block and of the buffer that takes the copy changes, no block comes
-- into the queue, and no free block goes but that of a new buffer.
use Rattle.std.proofs.Common.{◌≡◌, ◌≢◌, ◌⊎◌, inl, inr, ⊎_elim, ℕ, zero, suc, ◌+◌, ◌≤◌, ◌<◌, Bool, true, false, not, cond, ◌&&◌, ◌||◌, List, [], ◌∷◌, ◌++◌}
use Rattle.std.proofs.Common.{length, length-append, map, refl, sym, ◌∙◌, ap, subst, arith}
use Rattle.std.specs.Prelude.{◌==◌, Option, Some, Contains, filter, find}
use Rattle.std.specs.List.{AllByRecursion, IsDistinct, list_any}
use Rattle.std.proofs.lemmas.Bool.{cases_eq, cond-true, cond-false, or_from, ne_eqb, eq-eqb, both_ways, and_from, not-true}
use Rattle.std.proofs.lemmas.List.Sums.{length-filter, count_by-le-length}
use Rattle.std.proofs.lemmas.Map.Keys.{IsDistinct-cons}
use Rattle.law_lists.proofs.Counts.{count_changed}
use Rattle.law_lists.proofs.Distinct.{distinct_fewer, kept_all, kept_but_one}
use Rattle.law_lists.proofs.Each.{all_at, all_from}
use Rattle.law_lists.proofs.Finding.{find_there}
use Rattle.law_lists.proofs.Members.{filter_from}
use Rattle.rec_format.specs.declared.version.Digest.{Digest}
use Rattle.rec_format.specs.Places.{same_digest}
use Rattle.model_device.specs.Book.{Setup, Buffer, Book, Live, Stream, defrag, filling_buffer, has_buffer, is_held, is_in, use_of, may_be_free, may_be_queued}
use Rattle.model_device.specs.Book.{all_blocks, refreshed, used_more, with_hold, live_of, without_live}
use Rattle.defrag_queue.specs.Queues.{requeued}
use Rattle.defrag_queue.proofs.Refreshed.{refreshed_one}
use Rattle.law_start.specs.Holding.{HasRisingNumbers}
use Rattle.law_trail.specs.Trail.{IsBooked}
use Rattle.law_trail.specs.Within.{IsWithin}
use Rattle.law_trail.proofs.Books.{HasNothing, free_has_nothing, live_there}
use Rattle.law_trail.proofs.Places.{buffer_place}
use Rattle.law_trail.proofs.Placing.{use_places}
use Rattle.law_trail.proofs.Unchanged.{queued_alike}
use Rattle.law_room.specs.Tidy.{IsTidy, fills}
use Rattle.law_room.proofs.Keeping.{IsSound, refreshed_tidy}
use Rattle.law_room.proofs.Readying.{IsReadied, has_own}
use Rattle.law_room.proofs.Waiting.{unused_waits_not, buffered_waits_not, waits_below, waits_not}
use Rattle.law_room.proofs.Uses.{share, share_here, share_apart, use_cons, use_without}

-- ---- lists

found_changed : (p : Buffer → Bool) (change : Buffer → Buffer) → ((y : Buffer) → p (change y) ≡ p y) → (bs : List Buffer) (x : Buffer) → find p bs ≡ Some x → find p (map change bs) ≡ Some (change x)
found_changed p change keeps [] x found = absurd (cc)
found_changed p change keeps (y ∷ bs) x found = by (p y) refl found (found_changed p change keeps bs x)
  where
    by : (b : Bool) → p y ≡ b → cond b (Some y) (find p bs) ≡ Some x → (find p bs ≡ Some x → find p (map change bs) ≡ Some (change x))
        → cond (p (change y)) (Some (change y)) (find p (map change bs)) ≡ Some (change x)
    by true is found rest =
        let same : y ≡ x = cc in
        cond-true (p (change y)) (Some (change y)) (find p (map change bs)) (keeps y ∙ is) ∙ ap (λ (z : Buffer). Some (change z)) same
    by false is found rest = cond-false (p (change y)) (Some (change y)) (find p (map change bs)) (keeps y ∙ is) ∙ rest found

-- ---- the move

module _ (setup : Setup) (book ready : Book) (x : Buffer) (is : IsReadied book ready x) (digest : Digest) (copy : Live) (tidy : IsTidy setup book)
    (live : live_of digest book.live ≡ Some copy) (bare : has_buffer book copy.block ≡ false) where
  -- the copy in its new place, and the book before free blocks and queue are brought up to date
  abbrev pub here : Live
  here = record { digest = digest; block = x.block; unit = x.used; units = copy.units }

  abbrev pub mid : Book
  mid = record ready {
    live = here ∷ without_live digest ready.live;
    buffers = map (used_more x.number copy.units) ready.buffers;
    holds = with_hold x.number (live_of digest ready.live) ready.holds;
  }

  abbrev pub new : Book
  new = refreshed setup mid

  -- ---- uses

  pub takes : 1 ≤ copy.units
  takes = all_at (λ (l : Live). 1 ≤ l.units) book.live copy tidy.booked.units (live_there digest book.live copy live)

  uses : (k : ℕ) → share k copy + use_of mid k ≡ share k here + use_of book k
  uses k =
      let one = use_cons k here (without_live digest ready.live) in
      let same : use_of mid k ≡ share k here + use_of (record book { live = without_live digest book.live }) k = one
      ∙ ap (λ (l : List Live). share k here + use_of (record book { live = without_live digest l }) k) is.live in
      let rest = use_without digest book.live copy tidy.own live k in
      omega (arith, same, rest)

  pub used : copy.units ≤ use_of book copy.block
  used = let rest = use_without digest book.live copy tidy.own live copy.block in omega (arith, rest, share_here copy)

  x_in : Contains ready.buffers x
  x_in = find_there (fills defrag) ready.buffers x is.found

  pub ready_bare : has_buffer ready copy.block ≡ false
  ready_bare = is.buffered copy.block (omega (arith, takes, used)) ∙ bare

  pub apart : x.block ≢ copy.block
  apart same = both_ways (has_buffer ready copy.block) ready_bare (subst (λ (n : ℕ). has_buffer ready n ≡ true) same (has_own ready x x_in))

  use_left : copy.units + use_of mid copy.block ≡ use_of book copy.block
  use_left = let all = uses copy.block in omega (arith, all, share_here copy, share_apart copy.block here apart)

  use_here : use_of mid x.block ≡ copy.units + use_of book x.block
  use_here = let all = uses x.block in omega (arith, all, share_here here, share_apart x.block copy (λ same. apart (sym same)))

  use_other : (k : ℕ) → k ≢ copy.block → k ≢ x.block → use_of mid k ≡ use_of book k
  use_other k from to = let all = uses k in omega (arith, all, share_apart k copy (λ same. from (sym same)), share_apart k here (λ same. to (sym same)))

  -- ---- the queue

  has_still : (k : ℕ) → has_buffer mid k ≡ has_buffer ready k
  has_still k = buffer_place mid k ∙ ap (list_any (λ (p : ℕ × ℕ). p.1 == k)) (use_places x.number copy.units ready.buffers) ∙ sym (buffer_place ready k)

  pub ready_use : (k : ℕ) → use_of ready k ≡ use_of book k
  ready_use k = ap (λ (l : List Live). use_of (record book { live = l }) k) is.live

  queued_ready : (k : ℕ) → may_be_queued setup ready k ≡ may_be_queued setup book k
  queued_ready k = by (use_of book k) refl
    where
      by : (n : ℕ) → use_of book k ≡ n → may_be_queued setup ready k ≡ may_be_queued setup book k
      by zero none = unused_waits_not setup ready k (ready_use k ∙ none) ∙ sym (unused_waits_not setup book k none)
      by (suc n) some = queued_alike setup book ready k (is.buffered k (omega (arith, some))) (ready_use k)

  queued_still : (k : ℕ) → k < setup.blocks → k ≢ copy.block → may_be_queued setup mid k ≡ may_be_queued setup book k
  queued_still k lt from =
      ⊎_elim (λ (e : k ≡ x.block).
      let has : has_buffer ready k ≡ true = subst (λ (n : ℕ). has_buffer ready n ≡ true) (sym e) (has_own ready x x_in) in
      buffered_waits_not setup mid k (has_still k ∙ has) ∙ sym (buffered_waits_not setup ready k has) ∙ queued_ready k)
      (λ (to : k ≢ x.block). queued_alike setup ready mid k (has_still k) (use_other k from to ∙ sym (ready_use k)) ∙ queued_ready k)
      (cases_eq k x.block)

  queue_is : new.queue ≡ requeued (may_be_queued setup mid copy.block) copy.block book.queue
  queue_is =
      refreshed_one setup book mid copy.block (all_at (λ (l : Live). l.block < setup.blocks) book.live copy tidy.within.live (live_there digest book.live copy live)) is.queue
      tidy.queued queued_still tidy.below

  -- the block at its front stays there, or leaves it with nothing live
  pub queue_after : (bs : List ℕ) → book.queue ≡ copy.block ∷ bs → (new.queue ≡ book.queue) ⊎ ((length new.queue ≤ length bs) × (use_of mid copy.block ≡ 0))
  queue_after bs front = by (may_be_queued setup mid copy.block) refl
    where
      first_is : is_in book.queue copy.block ≡ true
      first_is = ap (λ (l : List ℕ). is_in l copy.block) front ∙ ap (λ (t : Bool). t || is_in bs copy.block) (eq-eqb copy.block copy.block refl)

      was : may_be_queued setup book copy.block ≡ true
      was = sym (tidy.queued copy.block (all_at (λ (l : Live). l.block < setup.blocks) book.live copy tidy.within.live (live_there digest book.live copy live))) ∙ first_is

      emptied : may_be_queued setup mid copy.block ≡ false → use_of mid copy.block ≡ 0
      emptied gone =
          let lt = waits_below setup book copy.block was in
          waits_not setup mid copy.block (has_still copy.block ∙ ready_bare) (omega (arith, use_left, lt)) gone

      by : (t : Bool) → may_be_queued setup mid copy.block ≡ t → (new.queue ≡ book.queue) ⊎ ((length new.queue ≤ length bs) × (use_of mid copy.block ≡ 0))
      by true may =
          inl (queue_is ∙ ap (λ (t : Bool). requeued t copy.block book.queue) may ∙ cond-true (is_in book.queue copy.block) book.queue (book.queue ++ copy.block ∷ []) first_is)
      by false may =
          let stays : ℕ → Bool = λ b. not (b == copy.block) in
          let left : new.queue ≡ filter stays bs =
          queue_is ∙ ap (λ (t : Bool). requeued t copy.block book.queue) may ∙ ap (filter stays) front
          ∙ cond-false (stays copy.block) (copy.block ∷ filter stays bs) (filter stays bs) (ap not (eq-eqb copy.block copy.block refl)) in
          inr (omega (arith, ap length left, length-filter stays bs, count_by-le-length stays bs), emptied may)

  -- ---- free blocks

  free_still : (k : ℕ) → Contains book.free k → k ≢ x.block → may_be_free mid k ≡ true
  free_still k there to =
      and_from (not (has_buffer mid k) && (use_of mid k == 0)) (not (is_held mid k))
      (and_from (not (has_buffer mid k)) (use_of mid k == 0) (ap not (has_still k ∙ is.unused k there to)) (eq-eqb (use_of mid k) 0 (use_other k from to ∙ nothing.live)))
      (ap not unheld)
    where
      nothing : HasNothing book k
      nothing = free_has_nothing book k tidy.booked there

      from : k ≢ copy.block
      from same = let none : use_of book copy.block ≡ 0 = subst (λ (n : ℕ). use_of book n ≡ 0) same nothing.live in absurd (omega (arith, none, used, takes))

      unheld : is_held mid k ≡ false
      unheld =
          ap (λ (o : Option Live). list_any (λ (h : ℕ × ℕ). h.1 == k) (with_hold x.number o ready.holds)) (ap (live_of digest) is.live ∙ live)
          ∙ or_from (copy.block == k) (is_held ready k) (ne_eqb copy.block k (λ same. from (sym same)))
          (ap (list_any (λ (h : ℕ × ℕ). h.1 == k)) is.holds ∙ nothing.hold)

  free_is : length (filter (may_be_free mid) book.free) ≤ length new.free
  unfolding refreshed
  free_is =
      let all = length-append (filter (may_be_free mid) ready.free) (filter (λ b. may_be_free mid b && not (is_in ready.free b)) (all_blocks setup)) in
      let same = ap (λ (l : List ℕ). length (filter (may_be_free mid) l)) is.free in omega (arith, all, same)

  -- no more than one free block goes, and none where the buffer's wasn't free
  pub free_less : length book.free ≤ length new.free + 1
  free_less = omega (arith, free_is, kept_but_one (may_be_free mid) x.block book.free tidy.once free_still)

  pub free_same : ((k : ℕ) → Contains book.free k → k ≢ x.block) → length book.free ≤ length new.free
  free_same other = omega (arith, free_is, kept_all (may_be_free mid) book.free (λ k there. free_still k there (other k there)))

  -- ---- the book behind it

  pub new_use : (k : ℕ) → use_of new k ≡ use_of mid k
  unfolding refreshed
  new_use k = refl

  pub new_left : copy.units + use_of new copy.block ≡ use_of book copy.block
  new_left = let same = new_use copy.block in omega (arith, same, use_left)

  pub new_here : use_of new x.block ≡ copy.units + use_of book x.block
  new_here = new_use x.block ∙ use_here

  pub new_other : (k : ℕ) → k ≢ copy.block → k ≢ x.block → use_of new k ≡ use_of book k
  new_other k from to = new_use k ∙ use_other k from to

  new_has : (k : ℕ) → has_buffer new k ≡ has_buffer mid k
  unfolding refreshed
  new_has k = refl

  pub new_bare : has_buffer new copy.block ≡ false
  new_bare = new_has copy.block ∙ has_still copy.block ∙ ready_bare

  pub new_buffers : new.buffers ≡ map (used_more x.number copy.units) ready.buffers
  unfolding refreshed
  new_buffers = refl

  used_fills : (stream : Stream) (y : Buffer) → fills stream (used_more x.number copy.units y) ≡ fills stream y
  used_fills stream y = by (y.number == x.number)
    where
      by : (t : Bool) → fills stream (cond t (record y { used = y.used + copy.units }) y) ≡ fills stream y
      by true = refl
      by false = refl

  -- the same buffer takes moved records, and has the copy more
  pub new_found : filling_buffer defrag new.buffers ≡ Some (record x { used = x.used + copy.units })
  new_found =
      ap (filling_buffer defrag) new_buffers
      ∙ found_changed (fills defrag) (used_more x.number copy.units) (used_fills defrag) ready.buffers x is.found
      ∙ ap (λ (y : Buffer). Some y) (cond-true (x.number == x.number) (record x { used = x.used + copy.units }) x (eq-eqb x.number x.number refl))

  -- ---- it is tidy, where the placing keeps what it does of numbers and blocks

  once_placed : IsDistinct (λ l m. same_digest l.digest m.digest) mid.live
  once_placed =
      IsDistinct-cons (λ (l m : Live). same_digest l.digest m.digest) here (without_live digest ready.live)
      (all_from (λ m. same_digest digest m.digest ≡ false) (without_live digest ready.live)
      (λ m there. not-true (same_digest digest m.digest) (filter_from (λ (l : Live). not (same_digest digest l.digest)) ready.live m there).1))
      (distinct_fewer (λ (l m : Live). same_digest l.digest m.digest) (λ l. not (same_digest digest l.digest)) ready.live
      (subst (λ (ls : List Live). IsDistinct (λ l m. same_digest l.digest m.digest) ls) (sym is.live) tidy.own))

  sound : IsBooked new → IsWithin setup new → HasRisingNumbers new → IsSound setup mid
  unfolding refreshed
  sound booked within numbered = record {
    apart = booked.apart;
    units = booked.units;
    within = record { free = subst (AllByRecursion (λ b. b < setup.blocks)) (sym is.free) tidy.within.free; places = within.places; live = within.live };
    numbered = record { rising = numbered.rising; below = numbered.below };
    alone = λ stream.
        let old = count_changed (fills stream) (fills stream) (used_more x.number copy.units) ready.buffers (λ y there still. sym (used_fills stream y) ∙ still) in
        omega (arith, old, is.alone stream);
    once = subst (IsDistinct (λ a b. a == b)) (sym is.free) tidy.once;
    own = once_placed;
    below = subst (AllByRecursion (λ b. b < setup.blocks)) (sym is.queue) tidy.below;
  }

  pub moved_tidy : IsBooked new → IsWithin setup new → HasRisingNumbers new → IsTidy setup new
  moved_tidy booked within numbered = refreshed_tidy setup mid (sound booked within numbered)
