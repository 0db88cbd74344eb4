-- The gate of a block without a buffer is written: what every shelf keeps, and what is held.
use Rattle.std.proofs.Common.{◌≡◌, ◌≢◌, inl, ⊎_elim, ℕ, ◌+◌, ◌*◌, ◌<◌, ◌≤◌, List, [], ◌∷◌, ◌++◌, length, refl, sym, ◌∙◌, ap, subst}
use Rattle.std.specs.Prelude.{Contains, slice_set, Some}
use Rattle.std.specs.List.{AllByRecursion}
use Rattle.std.proofs.lemmas.Bool.{cases_eq}
use Rattle.std.proofs.lemmas.List.{get_or-set_same, get_or-set_other, length-set}
use Rattle.std.proofs.lemmas.List.Elements.{Contains-push, Contains-append_left}
use Rattle.law_lists.proofs.Members.{cons_cases}
use Rattle.disk_model.specs.Disk.{Images, DiskView, IsDisk, IsHonest, Within, TornFrom, Advances, meanwhile}
use Rattle.disk_model.specs.Runs.{Leaves, leaves_more}
use Rattle.rec_format.specs.declared.version.Digest.{Digest}
use Rattle.model_device.specs.Book.{Setup, Live, first_to_back, live_of}
use Rattle.model_device.specs.Device.{State}
use Rattle.model_device.specs.Steps.{closing_failed, after_step}
use Rattle.block_format.specs.declared.geometry.Geometry.{Geometry}
use Rattle.block_format.specs.declared.geometry.Gate.{Gate}
use Rattle.block_format.specs.declared.geometry.Gate.TheVariants.{Shut, Set, Unsure}
use Rattle.block_format.specs.Layout.{IsRecordAt, body_bytes, block_place, device_end}
use Rattle.block_flusher.specs.Images.{IsShut, HasOneBody, IsBodyOf}
use Rattle.law_start.specs.Surviving.{Survives}
use Rattle.write_buffer.specs.Buffers.{BufferState}
use Rattle.law_trail.specs.Trail.{Records}
use Rattle.law_trail.proofs.Books.{live_there}
use Rattle.law_images.specs.Changes.{ChangesIn}
use Rattle.law_images.specs.Gates.{GateStands, with_gate}
use Rattle.law_images.specs.Held.{HoldsGates}
use Rattle.law_images.proofs.Parts.{gate_changes, body_stays}
use Rattle.law_images.proofs.Gates.{gates_elsewhere, over_seen}
use Rattle.law_images.proofs.Loosening.{gate_own, gate_other}
use Rattle.law_images.proofs.Held.{knows_same, held_fewer}
use Rattle.law_images.proofs.Holding.{plain_holds}
use Rattle.law_images.proofs.Stepping.{plain_book}
use Rattle.law_images.proofs.Worked.{HasClosed, close_call}
use Rattle.block_shelf.specs.View.{ShelfView, IsShelf, BodiesStand, IsBufferOf, HasItsBody, WaitsShut, gate_at, records_of}
use Rattle.block_shelf.specs.Standing.{StandsFor, BooksStand, IsPlaced, ImagesHold}
use Rattle.block_shelf.specs.Calls.{Goes}
use Rattle.block_shelf.specs.Changes.{with_gate_known}

-- ---- what is known of gates, as a list and as a function

pub gates_with : (gates : List Gate) (block : ℕ) (gate : Gate) → block < length gates → (k : ℕ) → gate_at (slice_set gates block gate) k ≡ with_gate block gate (gate_at gates) k
gates_with gates block gate lt k =
    ⊎_elim (λ (e : k ≡ block). ap (gate_at (slice_set gates block gate)) e ∙ get_or-set_same gates block gate Shut lt ∙ sym (gate_own block k gate (gate_at gates) e))
    (λ (other : k ≢ block). get_or-set_other gates block k gate Shut other ∙ sym (gate_other block k gate (gate_at gates) other)) (cases_eq k block)

pub holds_same : (setup : Setup) (g : Geometry) (s : State) (records : Records) (old new : ℕ → Gate) (images : Images) → ((k : ℕ) → new k ≡ old k) → HoldsGates setup g s records old images
    → HoldsGates setup g s records new images
holds_same setup g s records old new images same holds = record {
  knows = knows_same g s.book images old new same holds.knows;
  held = held_fewer setup g s records old new images images (λ k lt unsure. sym (same k) ∙ unsure) (λ c image. image) holds.held;
}

-- what the closing of a gate asks, where it isn't shut
pub asked : (g : Geometry) (images : Images) (block : ℕ) (gate : Gate) (seen : List ℕ) → GateStands g images block gate → gate ≢ Shut → images seen
    → HasOneBody g block (body_bytes g block seen) images × IsBodyOf g block (body_bytes g block seen)
asked g images block Shut seen stands unshut image = absurd (unshut refl)
asked g images block Set seen stands unshut image = over_seen g images block stands.1.0 seen stands.1.1 image
asked g images block Unsure seen stands unshut image = over_seen g images block stands.0 seen stands.1 image

-- ---- the shelf, behind the write of a gate

module _ {D : Type 0} (view : D → DiskView) (shelf : ShelfView D) (disk : D) (block : ℕ) (is : IsShelf view shelf) (is_disk : IsDisk (view disk)) (was_disk : IsDisk (view shelf.disk))
    (below : block < shelf.geometry.blocks)
    (unbuffered : AllByRecursion (λ b. b.block ≢ block) shelf.buffers) (size : (view disk).extent ≡ (view shelf.disk).extent) (was_honest : IsHonest (view disk) → IsHonest (view shelf.disk))
    (time : Advances (view shelf.disk) (view disk))
    (torn : IsHonest (view shelf.disk) → TornFrom (block_place shelf.geometry block) 4096 (view shelf.disk).may_leave (meanwhile (view shelf.disk) (view disk))) where
  lt : block < length shelf.gates
  lt = subst (λ (n : ℕ). block < n) (sym is.gates) below

  -- what may be left now may have been left since
  pub now_within : Within (meanwhile (view shelf.disk) (view disk)) (view disk).may_leave
  now_within c image = is_disk.now_since (view shelf.disk).moment c (time.stays (view shelf.disk).moment was_disk.now_had) image

  changes : IsHonest (view shelf.disk) → ChangesIn shelf.geometry block (view shelf.disk).may_leave (view disk).may_leave
  changes honest c image = gate_changes shelf.geometry block is.geometry (view shelf.disk).may_leave (meanwhile (view shelf.disk) (view disk)) (torn honest) c (now_within c image)

  pub gate_shelf : (gate : Gate) → (IsHonest (view disk) → GateStands shelf.geometry (view disk).may_leave block gate)
      → ((view disk).tells → BodiesStand shelf.geometry (view disk).seen shelf.buffers shelf.cache.kept) → IsShelf view (with_gate_known disk block gate shelf)
  gate_shelf gate stands bodies = record {
    geometry = is.geometry;
    limits = is.limits;
    room = subst (λ (n : ℕ). device_end shelf.geometry ≤ n) (sym size) is.room;
    number = is.number;
    buffers = is.buffers;
    order = is.order;
    free = is.free;
    apart = is.apart;
    gates = length-set shelf.gates block gate ∙ is.gates;
    lives = is.lives;
    each = is.each;
    held = is.held;
    vacant = is.vacant;
    unheld = is.unheld;
    packed = is.packed;
    waits = waits shelf.buffers unbuffered is.waits;
    ready = λ honest. readies (was_honest honest) shelf.buffers unbuffered is.buffers (is.ready (was_honest honest));
    queue = is.queue;
    cache = is.cache;
    raid = is.raid;
    stand = λ honest k k_lt.
        subst (GateStands shelf.geometry (view disk).may_leave k) (sym (gates_with shelf.gates block gate lt k))
        (⊎_elim (λ (e : k ≡ block). subst (λ (x : Gate). GateStands shelf.geometry (view disk).may_leave k x) (sym (gate_own block k gate (gate_at shelf.gates) e))
        (subst (λ (j : ℕ). GateStands shelf.geometry (view disk).may_leave j gate) (sym e) (stands honest)))
        (λ (other : k ≢ block). subst (GateStands shelf.geometry (view disk).may_leave k) (sym (gate_other block k gate (gate_at shelf.gates) other))
        (gates_elsewhere shelf.geometry (view shelf.disk).may_leave (view disk).may_leave block k (gate_at shelf.gates k) (changes (was_honest honest)) k_lt other
        (is.stand (was_honest honest) k k_lt))) (cases_eq k block));
    bodies = bodies;
  }
    where
      waits : (bs : List BufferState) → AllByRecursion (λ b. b.block ≢ block) bs → AllByRecursion (WaitsShut shelf.gates) bs → AllByRecursion (WaitsShut (slice_set shelf.gates block gate)) bs
      waits [] others all = tt
      waits (b ∷ bs) others all = (
        λ un. gates_with shelf.gates block gate lt b.block ∙ gate_other block b.block gate (gate_at shelf.gates) others.0 ∙ all.0 un,
        waits bs others.1 all.1,
      )

      readies : IsHonest (view shelf.disk) → (bs : List BufferState) → AllByRecursion (λ b. b.block ≢ block) bs → AllByRecursion (IsBufferOf shelf.geometry shelf.next_number) bs
          → AllByRecursion (HasItsBody shelf.geometry (view shelf.disk).may_leave) bs
          → AllByRecursion (HasItsBody shelf.geometry (view disk).may_leave) bs
      readies honest [] others of_g all = tt
      readies honest (b ∷ bs) others of_g all = (
        λ written c image. let d = changes honest c image in d.2.bodies b.block of_g.0.block others.0 ∙ all.0 written d.0 d.1,
        readies honest bs others.1 of_g.1 all.1,
      )

  -- ---- the state

  module _ (setup : Setup) (s : State) (stands : StandsFor setup shelf s) where
    pub still_stands : (gate : Gate) → StandsFor setup (with_gate_known disk block gate shelf) s
    still_stands gate = record {
      buffers = stands.buffers;
      free = stands.free;
      next = stands.next;
      holds = stands.holds;
      lives = stands.lives;
      listed = stands.listed;
      order = stands.order;
      entries = stands.entries;
      kept = stands.kept;
    }

    -- the bodies stay as they are
    pub still_placed : IsHonest (view shelf.disk) → ((digest : Digest) (l : Live) → live_of digest s.book.live ≡ Some l → l.block < shelf.geometry.blocks) → (gate : Gate)
        → IsPlaced view shelf s → IsPlaced view (with_gate_known disk block gate shelf) s
    still_placed honest within gate placed = record {
      buffered = placed.buffered;
      there = λ e l v is_live is_entry none c image.
          let t = torn honest c (now_within c image) in
          let d = changes honest c image in
          ⊎_elim (λ (here : l.block ≡ block). subst (λ (x : List ℕ). IsRecordAt x (32 + 16 * l.unit) e v)
          (sym (subst (λ (k : ℕ). body_bytes shelf.geometry k c ≡ body_bytes shelf.geometry k t.0) (sym here) (body_stays shelf.geometry block is.geometry t.0 c t.2)))
          (placed.there e l v is_live is_entry none t.0 t.1))
          (λ (other : l.block ≢ block). subst (λ (x : List ℕ). IsRecordAt x (32 + 16 * l.unit) e v) (sym (d.2.bodies l.block (within e l is_live) other))
          (placed.there e l v is_live is_entry none d.0 d.1)) (cases_eq l.block block);
      kept = placed.kept;
    }

    module _ (honest : IsHonest (view shelf.disk)) (safe : ImagesHold setup view shelf s) (not_shut : gate_at shelf.gates block ≢ Shut)
        (free : gate_at shelf.gates block ≡ Set → Contains s.book.free block) where
      abbrev closed : HasClosed setup shelf.geometry s (records_of shelf.buffers) (gate_at shelf.gates) block (meanwhile (view shelf.disk) (view disk)) (view disk).may_leave
      closed = close_call setup shelf.geometry s (records_of shelf.buffers) (gate_at shelf.gates) (view shelf.disk).may_leave (meanwhile (view shelf.disk) (view disk))
          (view disk).may_leave block below safe not_shut free (torn honest) now_within

      -- meanwhile each image survives the state
      pub closing_leaves : Leaves (Survives setup s) (view shelf.disk) (view disk)
      closing_leaves = record { time = time; each = closed.meanwhile }

      -- it failed, or may have failed
      pub unsure_safe : ImagesHold setup view (with_gate_known disk block Unsure shelf) s
      unsure_safe = holds_same setup shelf.geometry s (records_of shelf.buffers) (with_gate block Unsure (gate_at shelf.gates)) (gate_at (slice_set shelf.gates block Unsure))
          (view disk).may_leave (gates_with shelf.gates block Unsure lt) closed.failed

      -- it went well
      pub shut_safe : IsShut shelf.geometry block (view disk).may_leave → ImagesHold setup view (with_gate_known disk block Shut shelf) s
      shut_safe shut = holds_same setup shelf.geometry s (records_of shelf.buffers) (with_gate block Shut (gate_at shelf.gates)) (gate_at (slice_set shelf.gates block Shut))
          (view disk).may_leave (gates_with shelf.gates block Shut lt) (closed.closed shut)

    module _ (unshut : gate_at shelf.gates block ≢ Shut) (free : gate_at shelf.gates block ≡ Set → Contains s.book.free block) where
      within : (digest : Digest) (l : Live) → live_of digest s.book.live ≡ Some l → l.block < shelf.geometry.blocks
      within digest l live = (stands.entries l (live_there digest s.book.live l live)).lies.block

      pub goes_unsure : Goes view setup [] shelf s (with_gate_known disk block Unsure shelf)
      goes_unsure = record {
        stands = still_stands Unsure;
        queued = λ queued. record { same = queued.same; all = queued.all; raid = queued.raid };
        placed = λ honest placed. still_placed honest within Unsure placed;
        safe = λ honest safe. unsure_safe honest safe unshut free;
        leaves = λ honest safe. leaves_more (λ c survives. inl survives) (closing_leaves honest safe unshut free);
      }

      pub goes_shut : (IsHonest (view shelf.disk) → IsShut shelf.geometry block (view disk).may_leave) → Goes view setup [] shelf s (with_gate_known disk block Shut shelf)
      goes_shut shut = record {
        stands = still_stands Shut;
        queued = λ queued. record { same = queued.same; all = queued.all; raid = queued.raid };
        placed = λ honest placed. still_placed honest within Shut placed;
        safe = λ honest safe. shut_safe honest safe unshut free (shut honest);
        leaves = λ honest safe. leaves_more (λ c survives. inl survives) (closing_leaves honest safe unshut free);
      }

-- ---- the block that couldn't be closed goes to the back

pub back_there : (free : List ℕ) (b : ℕ) → Contains free b → Contains (first_to_back free) b
back_there [] b there = there
back_there (k ∷ free) b there =
    ⊎_elim (λ (e : k ≡ b). subst (Contains (free ++ k ∷ [])) e (Contains-push free k)) (λ (more : Contains free b). Contains-append_left free (k ∷ []) b more) (cons_cases k free b there)

module _ {D : Type 0} (view : D → DiskView) (setup : Setup) (shelf : ShelfView D) (s : State) where
  pub passed_stands : StandsFor setup shelf s → StandsFor setup (record shelf { free = first_to_back shelf.free }) (after_step setup closing_failed s)
  unfolding after_step
  passed_stands stands = record {
    buffers = stands.buffers;
    free = ap first_to_back stands.free;
    next = stands.next;
    holds = record { known = stands.holds.known; there = stands.holds.there };
    lives = record { known = stands.lives.known; there = stands.lives.there };
    listed = record { all = λ b lt may. back_there s.book.free b (stands.listed.all b lt may); one = stands.listed.one; own = stands.listed.own };
    order = plain_book setup s (records_of shelf.buffers) stands.order closing_failed refl;
    entries = λ l live. let old = stands.entries l live in record { version = old.version; entry_is = old.entry_is; lies = old.lies };
    kept = λ e l v is_live is_entry. stands.kept e l v is_live is_entry;
  }

  pub passed_queued : BooksStand setup shelf s → BooksStand setup (record shelf { free = first_to_back shelf.free }) (after_step setup closing_failed s)
  unfolding after_step
  passed_queued queued = record { same = queued.same; all = queued.all; raid = queued.raid }

  pub passed_placed : IsPlaced view shelf s → IsPlaced view (record shelf { free = first_to_back shelf.free }) (after_step setup closing_failed s)
  unfolding after_step
  passed_placed placed = record {
    buffered = placed.buffered;
    there = λ e l v is_live is_entry none c image. placed.there e l v is_live is_entry none c image;
    kept =
        λ e l v is_live is_entry. placed.kept e l v is_live is_entry;
  }

  pub passed_safe : ImagesHold setup view shelf s → ImagesHold setup view (record shelf { free = first_to_back shelf.free }) (after_step setup closing_failed s)
  passed_safe safe = plain_holds setup shelf.geometry s (records_of shelf.buffers) (gate_at shelf.gates) (view shelf.disk).may_leave safe closing_failed refl tt
