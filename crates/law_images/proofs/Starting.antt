-- After a start from a sound image, and after a restart within a run, the image that was read is a set that is kept.
use Rattle.std.proofs.Common.{◌≡◌, ◌⊎◌, inl, inr, ℕ, ◌+◌, ◌<◌, Bool, true, false, cond, List, [], ◌∷◌, map, refl, sym, ◌∙◌, ap, subst, arith}
use Rattle.std.proofs.lemmas.Bool.{false≢true}
use Rattle.std.specs.Prelude.{Contains}
use Rattle.std.specs.List.{AllByRecursion}
use Rattle.law_lists.proofs.Each.{all_at, all_from}
use Rattle.law_lists.proofs.Members.{cons_cases, first_there, rest_there, flat_map_there}
use Rattle.rec_format.specs.declared.version.Digest.{Digest}
use Rattle.rec_format.specs.declared.version.Version.{Version}
use Rattle.rec_format.specs.Versions.{version_units}
use Rattle.rec_format.specs.Places.{same_digest}
use Rattle.model_device.specs.Histories.{Item, write, is_pending}
use Rattle.model_device.specs.Book.{Setup, Book, cold_book, refreshed, pending_of}
use Rattle.model_device.specs.Device.{State, history, history_of}
use Rattle.disk_model.specs.Disk.{Images}
use Rattle.block_format.specs.declared.geometry.Geometry.{Geometry}
use Rattle.block_format.specs.Layout.{IsGeometry, Body}
use Rattle.block_format.specs.Copies.{Copy, IsReadable, copies_from, copies_of}
use Rattle.law_start.specs.Sound.{IsShapeOf, IsSound}
use Rattle.law_start.specs.Start.{Restarts, start_state, entries_state, live_copy}
use Rattle.law_start.specs.Orderly.{NumbersBelow}
use Rattle.law_start.specs.Holding.{begun_versions, HasRisingNumbers}
use Rattle.law_start.proofs.Images.{one_shape}
use Rattle.law_facts.specs.Facts.{HasFacts, copies_among}
use Rattle.law_facts.proofs.Stay.{facts_become}
use Rattle.law_facts.proofs.Starting.{start_facts}
use Rattle.law_facts.proofs.Reaching.{start_left}
use Rattle.law_facts.proofs.Restarting.{restart_facts}
use Rattle.law_facts.proofs.Resuming.{restart_left}
use Rattle.law_facts.proofs.Numbered.{restart_numbered}
use Rattle.law_trail.specs.Trail.{Records, IsTrailed}
use Rattle.law_trail.specs.Numbers.{RecordsWhole}
use Rattle.law_trail.specs.Within.{IsWithin}
use Rattle.law_trail.proofs.Starting.{copy_stored, units_taken, start_booked, start_trailed, restart_booked, restart_trailed, start_numbered}
use Rattle.law_trail.proofs.Records.{none_written}
use Rattle.law_trail.proofs.Within.{refreshed_within, start_within}
use Rattle.law_trail.proofs.Books.{refreshed_booked}
use Rattle.law_images.specs.Kept.{Shows, Upholds, possible_in, IsInOrder, IsKept}
use Rattle.law_images.specs.Changes.{records_by}
use Rattle.law_images.proofs.Reading.{body_shown, shown_there}

-- ---- copies and records

-- the copy of a record
record HasCopy (copies : List Copy) (block : ℕ) (digest : Digest) (v : Version) : Type 0 where
  copy : Copy
  there : Contains copies copy
  placed : copy.block ≡ block
  named : copy.digest ≡ digest
  same : copy.version ≡ v

record_copied : (block unit : ℕ) (records : List (Digest × Version)) (digest : Digest) (v : Version) → Contains records (digest, v) → HasCopy (copies_from block unit records) block digest v
record_copied block unit [] digest v there = absurd (omega (arith, there.1))
record_copied block unit (r ∷ records) digest v there = by (cons_cases r records (digest, v) there) (record_copied block (unit + version_units r.1) records digest v)
  where
    c : Copy
    c = record { digest = r.0; version = r.1; block = block; unit = unit }

    rest : List Copy
    rest = copies_from block (unit + version_units r.1) records

    by : (r ≡ (digest, v)) ⊎ Contains records (digest, v) → (Contains records (digest, v) → HasCopy rest block digest v) → HasCopy (c ∷ rest) block digest v
    by (inl e) more = record { copy = c; there = first_there c rest; placed = refl; named = ap (λ (x : Digest × Version). x.0) e; same = ap (λ (x : Digest × Version). x.1) e }
    by (inr in_rest) more = let one = more in_rest in record { copy = one.copy; there = rest_there c rest one.copy one.there; placed = one.placed; named = one.named; same = one.same }

body_copied : (bodies : List Body) (b : Body) (digest : Digest) (v : Version) → Contains bodies b → Contains b.records (digest, v) → HasCopy (copies_of bodies) b.block digest v
body_copied bodies b digest v there has =
    let one = record_copied b.block 0 b.records digest v has in
    record { copy = one.copy; there = flat_map_there (λ (x : Body). copies_from x.block 0 x.records) bodies b one.copy there one.there; placed = one.placed; named = one.named; same = one.same }

-- what holds of each copy holds of each record
all_records : (P : Digest → Version → Type 0) (bodies : List Body) → AllByRecursion (λ c. P c.digest c.version) (copies_of bodies)
    → AllByRecursion (λ b. AllByRecursion (λ r. P r.0 r.1) b.records) bodies
all_records P bodies all =
    all_from (λ b. AllByRecursion (λ r. P r.0 r.1) b.records) bodies
    (λ b there. all_from (λ r. P r.0 r.1) b.records
    (λ r has. let one = body_copied bodies b r.0 r.1 there has in
    subst (λ (d : Digest). P d r.1) one.named (subst (λ (v : Version). P one.copy.digest v) one.same (all_at (λ c. P c.digest c.version) (copies_of bodies) one.copy all one.there))))

-- ---- the set of one image

module _ (setup : Setup) (g : Geometry) (s : State) (image : List ℕ) (bodies : List Body) (images : Images) (shape : IsShapeOf setup g) (is_g : IsGeometry g)
    (alone : (c : List ℕ) → images c → c ≡ image) (readable : IsReadable image g bodies) where
  -- what waits in no buffer, and is shown by this image, is among the copies of its bodies
  copied : (block : ℕ) (digest : Digest) (v : Version) → possible_in g s.book (records_by []) images block digest v → copies_among bodies block digest v
  copied block digest v (inl waits) = absurd (let none = waits.1.has in omega (arith, none.1))
  copied block digest v (inr left) =
      let there = shown_there g image bodies left.body readable (subst (λ (c : List ℕ). Shows g c left.body) (alone left.image left.is_left) left.shown) in
      let one = body_copied bodies left.body digest v there left.has in
      (one.copy, one.there, one.placed ∙ left.placed, one.named, one.same)

  one_kept : IsInOrder setup s (records_by []) → HasFacts setup s (copies_among bodies) → IsTrailed s (records_by []) bodies
      → AllByRecursion (λ c. Contains (begun_versions (pending_of s.book) (history s c.digest)) c.version) (copies_of bodies) → IsKept setup g s (records_by []) images
  one_kept order facts trailed begun = record {
    shape = shape;
    geometry = is_g;
    order = order;
    facts = facts_become setup s (copies_among bodies) (possible_in g s.book (records_by []) images) (λ block digest v possible. inl (copied block digest v possible)) facts;
    upheld = λ c is. subst (Upholds g s (records_by [])) (sym (alone c is)) (record {
      bodies = bodies;
      readable = readable;
      begun = all_records (λ d v. Contains (begun_versions (pending_of s.book) (history s d)) v) bodies begun;
      trailed = trailed;
    });
  }

-- its bodies lie in blocks of the device
bodies_within : (setup : Setup) (g : Geometry) (image : List ℕ) (bodies : List Body) → IsShapeOf setup g → IsReadable image g bodies → AllByRecursion (λ b. b.block < setup.blocks) bodies
bodies_within setup g image bodies shape readable =
    all_from (λ b. b.block < setup.blocks) bodies (λ b there. subst (λ (n : ℕ). b.block < n) (sym shape.blocks) (body_shown g image bodies b readable there).within)

read_in : (setup : Setup) (g : Geometry) (image : List ℕ) (bodies : List Body) → IsShapeOf setup g → IsGeometry g → IsSound setup image bodies → IsReadable image g bodies
read_in setup g image bodies shape is_g sound =
    subst (λ (h : Geometry). IsReadable image h bodies) (one_shape setup sound.shape g sound.is_shape shape sound.readable.header.geometry is_g) sound.readable

whole_at_start : (setup : Setup) (bodies : List Body) (t : State) → t.book ≡ (start_state setup bodies).book → RecordsWhole t (records_by [])
unfolding start_state cold_book refreshed
whole_at_start setup bodies t same number is digest = absurd (false≢true (ap (λ (b : Book). is_pending (pending_of b) number) (sym same) ∙ is))

module _ (setup : Setup) (g : Geometry) (shape : IsShapeOf setup g) (is_g : IsGeometry g) where
  pub start_in_order : (image : List ℕ) (bodies : List Body) → IsSound setup image bodies → IsInOrder setup (start_state setup bodies) (records_by [])
  start_in_order image bodies sound = record {
    booked = start_booked setup bodies;
    numbered = start_numbered setup image bodies sound;
    within = start_within setup bodies (bodies_within setup g image bodies shape (read_in setup g image bodies shape is_g sound));
    written = none_written (start_state setup bodies);
    whole = whole_at_start setup bodies (start_state setup bodies) refl;
    ahead = λ number le. refl;
  }

  -- A start from a sound image, which is the one that a crash may leave.
  pub start_kept : (image : List ℕ) (bodies : List Body) (images : Images) → ((c : List ℕ) → images c → c ≡ image) → IsSound setup image bodies
      → IsKept setup g (start_state setup bodies) (records_by []) images
  start_kept image bodies images alone sound =
      one_kept setup g (start_state setup bodies) image bodies images shape is_g alone (read_in setup g image bodies shape is_g sound) (start_in_order image bodies sound)
      (start_facts setup image bodies sound)
      (start_trailed setup (records_by []) bodies sound.twins) (start_left setup image bodies sound).begun

-- A restart within a run, from an image of a set that was kept.
pub restart_kept : (setup : Setup) (g : Geometry) (s new : State) (records : Records) (before now : Images) (image : List ℕ) → IsKept setup g s records before → before image
    → Restarts setup s image new
    → ((c : List ℕ) → now c → c ≡ image) → IsKept setup g new (records_by []) now
restart_kept setup g s new records before now image kept was r alone =
    one_kept setup g new image r.bodies now kept.shape kept.geometry alone readable order
    (restart_facts setup s new image (possible_in g s.book records before) kept.facts r were) (restart_trailed setup s image new (records_by []) r)
    (restart_left setup s new image (possible_in g s.book records before) kept.facts r were).begun
  where
    readable : IsReadable image g r.bodies
    readable = read_in setup g image r.bodies kept.shape kept.geometry r.sound

    order : IsInOrder setup new (records_by [])
    order = record {
      booked = restart_booked setup s image new r;
      numbered = record { counted = subst HasRisingNumbers (sym r.book) (start_numbered setup image r.bodies r.sound).counted; below = restart_numbered setup s new image r };
      within = subst (IsWithin setup) (sym r.book) (start_within setup r.bodies (bodies_within setup g image r.bodies kept.shape readable));
      written = none_written new;
      whole = whole_at_start setup r.bodies new r.book;
      ahead = λ number le. refl;
    }

    were : (block : ℕ) (digest : Digest) (v : Version) → copies_among r.bodies block digest v → possible_in g s.book records before block digest v
    were block digest v there =
        let is = copy_stored r.bodies there.0 there.1 in
        inr (record {
          image = image;
          is_left = was;
          body = is.body;
          shown = body_shown g image r.bodies is.body readable is.there;
          placed = is.placed ∙ there.2;
          has = subst (λ (d : Digest). Contains is.body.records (d, v)) there.3 (subst (λ (w : Version). Contains is.body.records (there.0.digest, w)) there.4 is.has);
        })

-- ---- a start over another disk

-- From entries that were found, whatever the disk: what is kept over every disk.
numberless : (limit : ℕ) (digest : Digest) (found : List Copy) → NumbersBelow limit (history_of digest (map (λ c. (c.digest, write c.version [])) found))
numberless limit digest [] = tt
numberless limit digest (c ∷ found) = by (same_digest digest c.digest) (numberless limit digest found)
  where
    others : List Item
    others = history_of digest (map (λ c. (c.digest, write c.version [])) found)

    by : (b : Bool) → NumbersBelow limit others → NumbersBelow limit (cond b (write c.version [] ∷ others) others)
    by true rest = (tt, rest)
    by false rest = rest

live_within : (limit : ℕ) (found : List Copy) → AllByRecursion (λ c. c.block < limit) found → AllByRecursion (λ l. l.block < limit) (map live_copy found)
live_within limit [] all = tt
live_within limit (c ∷ found) all = (all.0, live_within limit found all.1)

pub entries_in_order : (setup : Setup) (found : List Copy) (next_number : ℕ) → AllByRecursion (λ c. c.block < setup.blocks) found
    → IsInOrder setup (entries_state setup found next_number) (records_by [])
unfolding entries_state cold_book refreshed
entries_in_order setup found next_number within = record {
  booked = refreshed_booked setup bare tt (units_taken found);
  numbered = record { counted = record { rising = tt; below = tt }; below = λ digest. numberless next_number digest found };
  within = refreshed_within setup bare (record {
    free = tt;
    places = tt;
    live = live_within setup.blocks found within;
  });
  written = none_written (entries_state setup found next_number);
  whole = λ number is digest. absurd (false≢true is);
  ahead = λ number le. refl;
}
  where
    bare : Book
    bare = record {
      live = map live_copy found;
      buffers = [];
      holds = [];
      free = [];
      queue = [];
      flushed_numbers = [];
      next_number = next_number;
    }
