-- A set of images is kept where a copy is appended to a buffer: a new version, or one that is moved.
use Rattle.std.proofs.Common.{◌≡◌, ◌⊎◌, inl, inr, ⊎_elim, ℕ, ◌<◌, ◌≤◌, Bool, false, cond, List, [], ◌∷◌, refl, sym, ◌∙◌, ap, subst, arith}
use Rattle.std.specs.Prelude.{Contains, Option, Some, MatchOption}
use Rattle.std.specs.List.{AllByRecursion}
use Rattle.law_lists.proofs.Each.{all_at}
use Rattle.rec_format.specs.declared.version.Digest.{Digest}
use Rattle.rec_format.specs.declared.version.Version.{Version}
use Rattle.rec_format.specs.Versions.{version_units}
use Rattle.model_device.specs.Histories.{write, top_of}
use Rattle.model_device.specs.Book.{Setup, Book, Live, Stream, client, defrag, live_of, placed, placing_number, has_room, first_block}
use Rattle.model_device.specs.Device.{State, history, entry}
use Rattle.model_device.specs.Steps.{wrote, moved, moved_state, after_step}
use Rattle.rec_format.proofs.Laws.{same_digest_refl}
use Rattle.model_device.proofs.Numbers.{history_with_number, next_number_rises}
use Rattle.disk_model.specs.Disk.{Images}
use Rattle.block_format.specs.declared.geometry.Geometry.{Geometry}
use Rattle.block_format.specs.Layout.{Body}
use Rattle.law_start.proofs.HeldWrites.{wrote_history}
use Rattle.law_start.proofs.Orderly.{placing_below}
use Rattle.law_facts.specs.Asking.{MayBeWritten}
use Rattle.law_facts.proofs.Guarded.{number_top}
use Rattle.law_trail.specs.Trail.{Records, places_of, CanPlace}
use Rattle.law_trail.specs.Numbers.{AddsNone, AddsOnly, AddsPlaced}
use Rattle.law_trail.specs.Needs.{HasRoomFor, IsBacked}
use Rattle.law_trail.proofs.Placing.{placed_places}
use Rattle.law_trail.proofs.Whole.{step_whole}
use Rattle.law_images.specs.Kept.{possible_in, BookInOrder, IsInOrder, IsKept}
use Rattle.law_images.specs.Changes.{Appends}
use Rattle.law_images.proofs.Stepping.{WaitedOrCame, book_in_order, step_book, step_in_order, step_kept, whole_kept, none_in}

module _ (setup : Setup) (s : State) (old new : Records) (order : BookInOrder setup s old) (stream : Stream) (units : ℕ) (digest : Digest) (v : Version)
    (appends : Appends setup stream units digest v s.book old new) where
  abbrev number : ℕ
  number = placing_number setup stream units s.book

  abbrev book : Book
  book = placed setup stream digest units s.book

  -- buffers that are to come have no records
  still_empty : (n : ℕ) → book.next_number ≤ n → s.book.next_number ≤ book.next_number → new n ≡ []
  still_empty n le up = none_in (new n) (λ r there.
      ⊎_elim (λ (was : Contains (old n) r). let none = subst (λ (l : List (Digest × Version)). Contains l r) (order.ahead n (omega arith)) was in omega (arith, none.1))
      (λ (is : (n ≡ number) × (r ≡ (digest, v))). let below = placing_below setup stream digest units s.book order.numbered.counted in let same = is.0 in omega (arith, below, same))
      (appends.only n r there))

  -- What waits waited before, or is the copy that is appended.
  came : (g : Geometry) (images : Images) (after : State) → after.book ≡ book → AllByRecursion (λ p. p.1 < setup.blocks) (places_of after.book) → entry after digest ≡ Some v
      → WaitedOrCame setup g s after old new images
  came g images after booked within top n block d w waits = by (appends.only n (d, w) waits.has)
      (placed_places setup stream digest units s.book (n, block) (subst (λ (b : Book). Contains (places_of b) (n, block)) booked waits.placed))
    where
      by : Contains (old n) (d, w) ⊎ ((n ≡ number) × (◌≡◌ {A = Digest × Version} (d, w) (digest, v))) → Contains (places_of s.book) (n, block)
          ⊎ ((has_room setup stream units s.book ≡ false) × (◌≡◌ {A = ℕ × ℕ} (n, block) (s.book.next_number, first_block s.book.free)))
          → possible_in g s.book old images block d w ⊎ ((block < setup.blocks) × (entry after d ≡ Some w))
      by (inl was) (inl there) = inl (inl (n, record { placed = there; has = was }))
      by (inl was) (inr next) = absurd (let same = ap (λ (p : ℕ × ℕ). p.0) next.1 in let none =
          subst (λ (l : List (Digest × Version)). Contains l (d, w)) (order.ahead n (omega (arith, same))) was in omega (arith, none.1))
      by (inr is) there = inr (
        all_at (λ p. p.1 < setup.blocks) (places_of after.book) (n, block) within waits.placed,
        ap (λ (r : Digest × Version). entry after r.0) is.1 ∙ top ∙ sym (ap (λ (r : Digest × Version). Some r.1) is.1),
      )

-- ---- a new version

module _ (setup : Setup) (s : State) (old new : Records) (digest : Digest) (v : Version) where
  pub wrote_book : (after_step setup (wrote digest v) s).book ≡ placed setup client digest (version_units v) s.book
  unfolding after_step
  wrote_book = refl

  wrote_entry : entry (after_step setup (wrote digest v) s) digest ≡ Some v
  wrote_entry =
      ap top_of (wrote_history setup s digest v digest)
      ∙ ap (λ (b : Bool). top_of (cond b (write v (placing_number setup client (version_units v) s.book ∷ []) ∷ history s digest) (history s digest))) (same_digest_refl digest)

  -- over every disk
  pub wrote_booked : BookInOrder setup s old → Appends setup client (version_units v) digest v s.book old new → BookInOrder setup (after_step setup (wrote digest v) s) new
  wrote_booked order appends =
      step_book setup s old new (wrote digest v) order appends.room
      (λ n le. still_empty setup s old new order client (version_units v) digest v appends n (subst (λ (b : Book). b.next_number ≤ n) wrote_book le)
      (subst (λ (b : Book). s.book.next_number ≤ b.next_number) wrote_book (next_number_rises setup (wrote digest v) s)))

  pub wrote_in_order : IsInOrder setup s old → Appends setup client (version_units v) digest v s.book old new → IsInOrder setup (after_step setup (wrote digest v) s) new
  wrote_in_order order appends =
      step_in_order setup s old new (wrote digest v) order appends.room appends.only
      (step_whole setup s new order.numbered (whole_kept s old new appends.keeps order.whole) [] (wrote digest v) appends.there)
      (λ n le. still_empty setup s old new (book_in_order order) client (version_units v) digest v appends n (subst (λ (b : Book). b.next_number ≤ n) wrote_book le)
      (subst (λ (b : Book). s.book.next_number ≤ b.next_number) wrote_book (next_number_rises setup (wrote digest v) s)))

  -- A version that may be written is appended to the client stream.
  pub wrote_kept : (g : Geometry) (images : Images) → IsKept setup g s old images → MayBeWritten setup s digest v → Appends setup client (version_units v) digest v s.book old new
      → IsKept setup g (after_step setup (wrote digest v) s) new images
  wrote_kept g images kept may appends =
      let order = wrote_in_order kept.order appends in
      step_kept setup g s old new images (wrote digest v) kept appends.room may appends.keeps order (λ c image bodies r. appends.there)
      (came setup s old new (book_in_order kept.order) client (version_units v) digest v appends g images (after_step setup (wrote digest v) s) wrote_book order.within.places wrote_entry)

-- ---- a version that is moved

module _ (setup : Setup) (s : State) (old new : Records) (digest : Digest) (copy : Live) (live : live_of digest s.book.live ≡ Some copy) where
  pub moved_is : after_step setup (moved digest) s ≡ moved_state setup digest (Some copy) s
  unfolding after_step
  moved_is = ap (λ (o : Option Live). moved_state setup digest o s) live

  pub moved_book : (after_step setup (moved digest) s).book ≡ placed setup defrag digest copy.units s.book
  moved_book = ap (λ (t : State). t.book) moved_is

  moved_room : CanPlace setup defrag copy.units s.book → HasRoomFor setup s (moved digest)
  moved_room can = subst (λ (o : Option Live). MatchOption o (Unit {0}) (λ l. CanPlace setup defrag l.units s.book)) (sym live) can

  -- over every disk, whatever version was read
  pub moved_booked : (v : Version) → BookInOrder setup s old → Appends setup defrag copy.units digest v s.book old new → BookInOrder setup (after_step setup (moved digest) s) new
  moved_booked v order appends =
      step_book setup s old new (moved digest) order (moved_room appends.room)
      (λ n le. still_empty setup s old new order defrag copy.units digest v appends n (subst (λ (b : Book). b.next_number ≤ n) moved_book le)
      (subst (λ (b : Book). s.book.next_number ≤ b.next_number) moved_book (next_number_rises setup (moved digest) s)))

module _ (setup : Setup) (s : State) (old new : Records) (digest : Digest) (copy : Live) (live : live_of digest s.book.live ≡ Some copy) (v : Version) (top : entry s digest ≡ Some v) where
  pub moved_entry : entry (after_step setup (moved digest) s) digest ≡ Some v
  moved_entry =
      ap (λ (t : State). entry t digest) (moved_is setup s old new digest copy live) ∙ ap top_of (history_with_number digest (placing_number setup defrag copy.units s.book) s.log)
      ∙ number_top (placing_number setup defrag copy.units s.book) (history s digest) ∙ top

  module _ (appends : Appends setup defrag copy.units digest v s.book old new) where
    room : HasRoomFor setup s (moved digest)
    room = moved_room setup s old new digest copy live appends.room

    adds : AddsPlaced setup s (moved digest) old new
    adds = subst (λ (o : Option Live). MatchOption o (AddsNone old new) (λ l. (w : Version) × (entry s digest ≡ Some w)
        × AddsOnly (placing_number setup defrag l.units s.book) digest w old new)) (sym live) (v, top, appends.only)

    backed : (bodies : List Body) → IsBacked setup s new bodies (moved digest)
    backed bodies =
        subst (λ (o : Option Live). MatchOption o (Unit {0}) (λ l. (w : Version) → entry s digest ≡ Some w → Contains (new (placing_number setup defrag l.units s.book)) (digest, w))) (sym live)
        (λ w is. let same : v ≡ w = cc in subst (λ (x : Version). Contains (new (placing_number setup defrag copy.units s.book)) (digest, x)) same appends.there)

    pub moved_in_order : IsInOrder setup s old → IsInOrder setup (after_step setup (moved digest) s) new
    moved_in_order order =
        step_in_order setup s old new (moved digest) order room adds (step_whole setup s new order.numbered (whole_kept s old new appends.keeps order.whole) [] (moved digest) (backed []))
        (λ n le. still_empty setup s old new (book_in_order order) defrag copy.units digest v appends n
        (subst (λ (b : Book). b.next_number ≤ n) (moved_book setup s old new digest copy live) le)
        (subst (λ (b : Book). s.book.next_number ≤ b.next_number) (moved_book setup s old new digest copy live) (next_number_rises setup (moved digest) s)))

    -- The copy of an entry is appended to the other stream.
    pub moved_kept : (g : Geometry) (images : Images) → IsKept setup g s old images → IsKept setup g (after_step setup (moved digest) s) new images
    moved_kept g images kept =
        let order = moved_in_order kept.order in
        step_kept setup g s old new images (moved digest) kept room tt appends.keeps order (λ c image bodies r. backed bodies)
        (came setup s old new (book_in_order kept.order) defrag copy.units digest v appends g images (after_step setup (moved digest) s)
        (moved_book setup s old new digest copy live) order.within.places moved_entry)
