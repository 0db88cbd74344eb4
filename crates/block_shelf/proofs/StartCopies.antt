-- A start from entries, and from a sound image: the state's versions are those of copies, which lie where the book says.
use Rattle.std.proofs.Common.{◌≡◌, ℕ, ◌+◌, ◌*◌, ◌<◌, Bool, true, false, cond, List, [], ◌∷◌, map, refl, sym, ◌∙◌, ap, subst}
use Rattle.std.specs.Prelude.{Option, Some, None, IfSome, find, Contains, option_map}
use Rattle.std.specs.List.{AllByRecursion, range_with_len}
use Rattle.law_lists.proofs.Each.{all_from, all_at}
use Rattle.law_lists.proofs.Finding.{found_first, found_any}
use Rattle.law_lists.proofs.Members.{filter_from}
use Rattle.disk_model.specs.Disk.{Images, DiskView, IsOnly}
use Rattle.rec_format.specs.declared.version.Digest.{Digest}
use Rattle.rec_format.specs.declared.version.Version.{Version}
use Rattle.rec_format.specs.Places.{same_digest, part_count}
use Rattle.rec_format.specs.Versions.{version_units}
use Rattle.rec_format.proofs.Laws.{same_digest_is, same_digest_refl}
use Rattle.model_device.specs.Histories.{write, top_of}
use Rattle.model_device.specs.Book.{Setup, Live, live_of, cold_book, refreshed}
use Rattle.model_device.specs.Device.{State, Log, entry, history_of, no_raid}
use Rattle.block_format.specs.declared.geometry.Geometry.{Geometry}
use Rattle.block_format.specs.declared.geometry.Gate.{Gate}
use Rattle.block_format.specs.declared.geometry.Gate.TheVariants.{Shut, Set, Unsure}
use Rattle.block_format.specs.Layout.{IsGeometry, IsRecordAt, body_bytes, Body}
use Rattle.block_format.specs.Copies.{Copy, IsReadable, copies_of, copies_named, version_of, cold_copy}
use Rattle.block_flusher.specs.Images.{IsBodyOf}
use Rattle.law_start.specs.Sound.{IsShapeOf, IsSound}
use Rattle.law_start.specs.Start.{live_copy, cold_copies, greatest_number, start_state, entries_state}
use Rattle.law_start.proofs.ColdStart.{start_entry}
use Rattle.law_start.proofs.StartLive.{start_live, entries_live}
use Rattle.law_start.proofs.Held.{IsNewest, latest_is}
use Rattle.law_start.proofs.Images.{one_shape}
use Rattle.law_start.proofs.Places.{copy_stands}
use Rattle.law_images.specs.Gates.{GateStands}
use Rattle.law_images.specs.Held.{AreSure}
use Rattle.law_images.proofs.Knowing.{IsSeen}
use Rattle.law_images.proofs.Starting.{start_in_order, entries_in_order}
use Rattle.law_images.proofs.Holding.{start_holds}
use Rattle.law_images.proofs.Stepping.{book_in_order}
use Rattle.raid_book.specs.Books.{BookState}
use Rattle.raid_book.specs.Raids.{RaidStands}
use Rattle.model_device.specs.Steps.{part_total}
use Rattle.block_shelf.specs.declared.place.Place.{Place}
use Rattle.block_shelf.specs.declared.place.ShelfLimits.{ShelfLimits}
use Rattle.block_shelf.specs.View.{ShelfView, IsSetupOf, GatesStand, gate_at}
use Rattle.block_shelf.specs.Standing.{StandsFor, BooksStand, IsPlaced, ImagesHold, StandsBehind}
use Rattle.block_shelf.specs.Starting.{LiesIn, CanBeLive, StartsWith, AreLive, AllHave, place_of_copy}
use Rattle.block_shelf.proofs.StartStates.{from_found, own_found, begun_one, queued_with, stands_with}

-- of each digest the state's version and its live copy are those of one of these copies
pub record ShowsCopies (copies : List Copy) (look : Digest → Option Copy) (s : State) : Type 0 where
  pub entry_is : (d : Digest) → entry s d ≡ version_of (look d)
  pub live_is : (d : Digest) → live_of d s.book.live ≡ option_map live_copy (look d)
  pub there : (d : Digest) → IfSome (look d) (λ c. Contains copies c × (same_digest d c.digest ≡ true))

-- a live copy and its version are those of one copy
record IsCopyOf (copies : List Copy) (d : Digest) (l : Live) (c : Copy) : Type 0 where
  live_is : live_copy c ≡ l
  listed : Contains copies c
  named : d ≡ c.digest

module _ (copies : List Copy) (look : Digest → Option Copy) (s : State) (shows : ShowsCopies copies look s) where
  live_copied : (d : Digest) (l : Live) → live_of d s.book.live ≡ Some l → (c : Copy) × (look d ≡ Some c) × IsCopyOf copies d l c
  live_copied d l live = by (look d) refl (shows.there d) (sym (shows.live_is d) ∙ live)
    where
      by : (o : Option Copy) → look d ≡ o → IfSome o (λ c. Contains copies c × (same_digest d c.digest ≡ true)) → option_map live_copy o ≡ Some l → (c : Copy)
          × (look d ≡ Some c) × IsCopyOf copies d l c
      by None is there same = absurd (cc)
      by (Some c) is there same = (c, is, record { live_is = cc; listed = there.0; named = same_digest_is d c.digest there.1 })

  shown_placed : {D : Type 0} (view : D → DiskView) (shelf : ShelfView D) → shelf.buffers ≡ [] → shelf.cache.kept ≡ []
      → AllHave shelf.geometry (view shelf.disk).may_leave copies → IsPlaced view shelf s
  shown_placed view shelf unbuffered unkept have = record {
    buffered = λ d l v live version. subst (AllByRecursion (λ b. b.block ≡ l.block → StandsBehind l.unit d v b.records)) (sym unbuffered) tt;
    kept = λ d l v live version. subst (AllByRecursion (λ k. k.block ≡ l.block → StandsBehind l.unit d v k.body.records)) (sym unkept) tt;
    there = λ d l v live version none image left.
        let one = live_copied d l live in
        let c = one.0 in
        let same : version_of (Some c) ≡ Some v = ap version_of (sym one.1) ∙ sym (shows.entry_is d) ∙ version in
        let is : c.version ≡ v = cc in
        subst (λ (m : Live). IsRecordAt (body_bytes shelf.geometry m.block image) (32 + 16 * m.unit) d v) one.2.live_is
        (subst (λ (w : Version). IsRecordAt (body_bytes shelf.geometry c.block image) (32 + 16 * c.unit) d w) is
        (subst (λ (e : Digest). IsRecordAt (body_bytes shelf.geometry c.block image) (32 + 16 * c.unit) e c.version) (sym one.2.named) (have c one.2.listed image left)));
  }

  -- where no digest has two live copies, each is that of a version
  pub shown_versions : ((l m : Live) → Contains s.book.live l → Contains s.book.live m → same_digest l.digest m.digest ≡ true → l ≡ m) → (l : Live) → Contains s.book.live l
      → (v : Version) × (entry s l.digest ≡ Some v) × (l.units ≡ version_units v)
  shown_versions one l there =
      let first = found_first (λ (m : Live). same_digest l.digest m.digest) s.book.live l there (same_digest_refl l.digest) in
      let same : l ≡ first.0 = one l first.0 there first.2 first.3 in
      let copy = live_copied l.digest first.0 first.1 in
      (copy.0.version, shows.entry_is l.digest ∙ ap version_of copy.1, ap (λ (m : Live). m.units) (same ∙ sym copy.2.live_is))

-- ---- a start from entries

abbrev find_copy : List Copy → Digest → Option Copy
find_copy found d = find (λ c. same_digest d c.digest) found

found_top : (d : Digest) (found : List Copy) → top_of (history_of d (map (λ c. (c.digest, write c.version [])) found)) ≡ version_of (find_copy found d)
found_top d [] = refl
found_top d (c ∷ found) = by (same_digest d c.digest) (found_top d found)
  where
    log : Log
    log = map (λ x. (x.digest, write x.version [])) found

    by : (b : Bool) → top_of (history_of d log) ≡ version_of (find_copy found d)
        → top_of (cond b (write c.version [] ∷ history_of d log) (history_of d log)) ≡ version_of (cond b (Some c) (find_copy found d))
    by true rest = refl
    by false rest = rest

module _ (setup : Setup) (found : List Copy) (next_number : ℕ) where
  entries_raid : (entries_state setup found next_number).raid ≡ no_raid
  unfolding entries_state
  entries_raid = refl

  entries_show : ShowsCopies found (find_copy found) (entries_state setup found next_number)
  unfolding entries_state
  entries_show = record {
    entry_is = λ d. found_top d found;
    live_is = λ d. entries_live setup found next_number d;
    there = λ d. found_any (λ c. same_digest d c.digest) found;
  }

  entries_book : (entries_state setup found next_number).book ≡ cold_book setup (map live_copy found) next_number
  unfolding entries_state
  entries_book = refl

  entries_lives : (entries_state setup found next_number).book.live ≡ map live_copy found
  unfolding entries_state cold_book refreshed
  entries_lives = refl

  pub entries_placed : {D : Type 0} (view : D → DiskView) (shelf : ShelfView D) → shelf.buffers ≡ [] → shelf.cache.kept ≡ [] → AllHave shelf.geometry (view shelf.disk).may_leave found
      → IsPlaced view shelf (entries_state setup found next_number)
  entries_placed view shelf unbuffered unkept have = shown_placed found (find_copy found) (entries_state setup found next_number) entries_show view shelf unbuffered unkept have

-- ---- a start from a sound image

cold_there : (d : Digest) (copies : List Copy) → IfSome (cold_copy d copies) (λ c. Contains copies c × (same_digest d c.digest ≡ true))
cold_there d copies = by (cold_copy d copies) (latest_is (copies_named d copies))
  where
    by : (o : Option Copy) → IfSome o (IsNewest (copies_named d copies)) → IfSome o (λ c. Contains copies c × (same_digest d c.digest ≡ true))
    by None is = tt
    by (Some c) is = filter_from (λ (x : Copy). same_digest d x.digest) copies c is.there

module _ (setup : Setup) (image : List ℕ) (bodies : List Body) (sound : IsSound setup image bodies) where
  start_raid : (start_state setup bodies).raid ≡ no_raid
  unfolding start_state
  start_raid = refl

  abbrev copies : List Copy
  copies = copies_of bodies

  start_show : ShowsCopies copies (λ d. cold_copy d copies) (start_state setup bodies)
  start_show = record {
    entry_is = start_entry setup bodies sound.twins;
    live_is = start_live setup bodies;
    there = λ d. cold_there d copies;
  }

  start_book : (start_state setup bodies).book ≡ cold_book setup (map live_copy (cold_copies copies)) (greatest_number bodies + 1)
  unfolding start_state
  start_book = refl

  start_lives : (start_state setup bodies).book.live ≡ map live_copy (cold_copies copies)
  unfolding start_state cold_book refreshed
  start_lives = refl

  module _ (g : Geometry) (shape : IsShapeOf setup g) (is_g : IsGeometry g) where
    readable : IsReadable image g bodies
    readable = subst (λ (h : Geometry). IsReadable image h bodies) (one_shape setup sound.shape g sound.is_shape shape sound.readable.header.geometry is_g) sound.readable

    all_have : (images : Images) → IsOnly image images → AllHave g images copies
    all_have images only c there other left =
        subst (λ (b : List ℕ). IsRecordAt (body_bytes g c.block b) (32 + 16 * c.unit) c.digest c.version) (sym (only.alone other left))
        (copy_stands g image (range_with_len 0 g.blocks) bodies readable.blocks c there).there

-- a gate of which it is known how it stands is as it is seen
seen_gate : (g : Geometry) (image : List ℕ) (images : Images) (gates : List Gate) → IsOnly image images → GatesStand g images gates → AreSure g (gate_at gates) → (block : ℕ)
    → block < g.blocks → IsSeen g image block (gate_at gates block)
seen_gate g image images gates only stand sure block lt = by (gate_at gates block) refl (stand block lt)
  where
    by : (gate : Gate) → gate_at gates block ≡ gate → GateStands g images block gate → IsSeen g image block gate
    by Shut is stands = stands image only.holds
    by Set is stands = (stands.0 image only.holds, subst (IsBodyOf g block) (sym (stands.1.1.one image only.holds)) stands.1.1.is_body)
    by Unsure is stands = absurd (sure block lt is)

-- ---- the shelf

module _ {D : Type 0} (view : D → DiskView) (disk : D) (g : Geometry) (limits : ShelfLimits) (gates : List Gate) (live : List (Digest × Place)) (next_number : ℕ) (shelf : ShelfView D)
    (can : CanBeLive g live) (is_g : IsGeometry g) (starts : StartsWith disk g limits gates live next_number shelf) (setup : Setup) (is : IsSetupOf setup shelf) where
  shape : IsShapeOf setup g
  shape = subst (IsShapeOf setup) (ap (λ (v : ShelfView D). v.geometry) starts.parts) is.shape

  mark : setup.lwm ≡ limits.lwm
  mark = is.lwm ∙ ap (λ (v : ShelfView D). v.limits.lwm) starts.parts

  -- no raid runs
  raid_stands : RaidStands setup shelf.raid no_raid
  raid_stands = subst (λ (b : BookState). RaidStands setup b no_raid) (sym (ap (λ (v : ShelfView D). v.raid) starts.parts))
      (record {
        turns = record { number = refl; next = refl; scanned = refl; parts = parts_are; blocks = sym shape.blocks };
        copies = λ part. refl;
      })
    where
      parts_are : part_count g.device g.devices limits.sprigs ≡ part_total setup
      parts_are = λ i. part_count (sym shape.device i) (sym shape.devices i) (sym (is.sprigs ∙ ap (λ (v : ShelfView D). v.limits.sprigs) starts.parts) i)

  module _ (found : List Copy) (are : AreLive live found) where
    pub entries_stand : StandsFor setup shelf (entries_state setup found next_number)
    entries_stand =
        let s : State = entries_state setup found next_number in
        let same = from_found live found are in
        let own = own_found found are.once in
        let lives = entries_lives setup found next_number in
        stands_with setup g live can (map live_copy found) same own next_number shape.blocks disk limits gates shelf starts s (entries_book setup found next_number)
        (book_in_order (entries_in_order setup found next_number
        (all_from (λ c. c.block < setup.blocks) found (λ c there. subst (λ (n : ℕ). c.block < n) (sym shape.blocks)
        (all_at (LiesIn g) live (c.digest, place_of_copy c) can.each (are.there c there)).block))))
        (λ l there. shown_versions found (find_copy found) s (entries_show setup found next_number)
        (λ x y in_x in_y. begun_one setup g live can (map live_copy found) same own next_number shape.blocks x y (subst (λ (ls : List Live). Contains ls x) lives in_x)
        (subst (λ (ls : List Live). Contains ls y) lives in_y))
        l (subst (λ (ls : List Live). Contains ls l) (sym lives) there))

    pub entries_queued : BooksStand setup shelf (entries_state setup found next_number)
    entries_queued =
        queued_with setup g live can (map live_copy found) (from_found live found are) (own_found found are.once) next_number shape.blocks disk limits gates shelf starts
        (entries_state setup found next_number)
        (entries_book setup found next_number) shape.capacity mark (subst (RaidStands setup shelf.raid) (sym (entries_raid setup found next_number)) raid_stands)

  module _ (image : List ℕ) (bodies : List Body) (sound : IsSound setup image bodies) where
    abbrev cold : List Copy
    cold = cold_copies (copies_of bodies)

    module _ (are : AreLive live cold) (next : next_number ≡ greatest_number bodies + 1) where
      start_is : (start_state setup bodies).book ≡ cold_book setup (map live_copy cold) next_number
      start_is = start_book setup image bodies sound ∙ ap (cold_book setup (map live_copy cold)) (sym next)

      pub start_stands : StandsFor setup shelf (start_state setup bodies)
      start_stands =
          let s : State = start_state setup bodies in
          let same = from_found live cold are in
          let own = own_found cold are.once in
          let lives = start_lives setup image bodies sound in
          stands_with setup g live can (map live_copy cold) same own next_number shape.blocks disk limits gates shelf starts s start_is
          (book_in_order (start_in_order setup g shape is_g image bodies sound))
          (λ l there. shown_versions (copies_of bodies) (λ d. cold_copy d (copies_of bodies)) s (start_show setup image bodies sound)
          (λ x y in_x in_y. begun_one setup g live can (map live_copy cold) same own next_number shape.blocks x y (subst (λ (ls : List Live). Contains ls x) lives in_x)
          (subst (λ (ls : List Live). Contains ls y) lives in_y))
          l (subst (λ (ls : List Live). Contains ls l) (sym lives) there))

      pub start_queued : BooksStand setup shelf (start_state setup bodies)
      start_queued =
          queued_with setup g live can (map live_copy cold) (from_found live cold are) (own_found cold are.once) next_number shape.blocks disk limits gates shelf starts
          (start_state setup bodies) start_is shape.capacity mark (subst (RaidStands setup shelf.raid) (sym (start_raid setup image bodies sound)) raid_stands)

    module _ (only : IsOnly image (view disk).may_leave) where
      pub start_placed : IsPlaced view shelf (start_state setup bodies)
      start_placed =
          subst (λ (v : ShelfView D). IsPlaced view v (start_state setup bodies)) (sym starts.parts)
          (shown_placed (copies_of bodies) (λ d. cold_copy d (copies_of bodies)) (start_state setup bodies) (start_show setup image bodies sound) view _ refl refl
          (all_have setup image bodies sound g shape is_g (view disk).may_leave only))

      pub start_safe : GatesStand g (view disk).may_leave gates → AreSure g (gate_at gates) → ImagesHold setup view shelf (start_state setup bodies)
      start_safe stand sure =
          subst (λ (v : ShelfView D). ImagesHold setup view v (start_state setup bodies)) (sym starts.parts)
          (start_holds setup g shape is_g image bodies (gate_at gates) (view disk).may_leave only.alone (seen_gate g image (view disk).may_leave gates only stand sure) sound)
