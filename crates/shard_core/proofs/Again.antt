-- A start on the disk of a shard that stood safely for a state.
use Rattle.std.proofs.Common.{◌≡◌, ◌≢◌, ◌⊎◌, inl, inr, ℕ, ◌<◌, ◌≤◌, List, [], ◌∷◌, map, take, length, arith, refl, sym, ◌∙◌, ap, subst}
use Rattle.std.specs.Prelude.{Contains}
use Rattle.disk_model.specs.Disk.{Images, DiskView, IsHonest, IsOnly}
use Rattle.rec_format.specs.declared.version.Digest.{Digest}
use Rattle.rec_format.specs.Versions.{block_capacity}
use Rattle.model_device.specs.Histories.{writes_of}
use Rattle.model_device.specs.Book.{Setup, Book, cold_book, refreshed, Live, live_of, is_in, may_be_queued}
use Rattle.model_device.specs.Device.{State, history, entry, no_raid}
use Rattle.block_format.specs.declared.geometry.Geometry.{Geometry}
use Rattle.block_format.specs.declared.geometry.Gate.{Gate}
use Rattle.block_format.specs.Layout.{device_end, IsHeader, Body, body_bytes}
use Rattle.block_format.specs.Copies.{Copy, IsReadable}
use Rattle.block_format.specs.Refusals.{IsBlock, IsDamagedAt}
use Rattle.block_format.proofs.BodyLaws.{fault_refuses}
use Rattle.law_start.specs.Start.{Restarts, start_state}
use Rattle.law_start.specs.Surviving.{Survives}
use Rattle.law_start.specs.Orderly.{IsFalling}
use Rattle.law_start.proofs.ColdStart.{start_entry}
use Rattle.law_start.proofs.Images.{one_shape}
use Rattle.law_trail.specs.Trail.{Records}
use Rattle.law_images.specs.Kept.{IsInOrder, IsKept}
use Rattle.law_images.specs.Gates.{KnowsGates}
use Rattle.law_images.specs.Held.{HoldsGates}
use Rattle.law_images.specs.Changes.{records_by}
use Rattle.law_images.proofs.Held.{held_kept, held_sure, held_survives}
use Rattle.law_images.proofs.Starting.{restart_kept}
use Rattle.law_images.proofs.Stepping.{book_in_order}
use Rattle.write_buffer.specs.Buffers.{BufferState}
use Rattle.raid_book.specs.Raids.{RaidStands}
use Rattle.block_shelf.specs.View.{records_of, gate_at}
use Rattle.block_shelf.specs.Standing.{StandsFor, BooksStand, IsOfEntry, HoldsSame, LivesSame, IsListed, book_buffer}
use Rattle.law_sprig.specs.Parts.{AreOwn, FitsParts}
use Rattle.law_sprig.specs.Starting.{AllHaveLatest}
use Rattle.law_sprig.proofs.Restarting.{new_top, restart_parts}
use Rattle.law_sprig.proofs.Resuming.{resumed, resumes, resumed_own}
use Rattle.shard_core.specs.declared.settings.Settings.{Settings}
use Rattle.cold_scan.specs.declared.header.Asked.{Asked}
use Rattle.cold_scan.specs.declared.header.StartCause.{StartCause}
use Rattle.cold_scan.specs.declared.header.StartCause.TheVariants.{NotFormatted, OtherGeometry, DamagedBlock, Memory, Fault}
use Rattle.shard_core.specs.declared.index.Finding.{Finding}
use Rattle.shard_core.specs.View.{ShardView, setup_for, setup_of}
use Rattle.shard_core.specs.Stands.{Agrees, IsSafe}
use Rattle.cold_scan.specs.Starting.{Passes, IsRefused}
use Rattle.shard_core.specs.Finding.{BeginsOver, BeginsBehind}
use Rattle.shard_core.specs.Again.{StartsAgain, IsNoRefusal}
use Rattle.shard_core.proofs.Beginning.{same_bodies}
use Rattle.shard_core.proofs.Headers.{one_header, small_capacity}
use Rattle.cold_scan.proofs.Scans.{each_block}
use Rattle.shard_core.proofs.Showing.{sound_own}

-- ---- the state behind a restart

-- a start leaves no buffer
no_buffers : (setup : Setup) (bodies : List Body) → (start_state setup bodies).book.buffers ≡ []
unfolding start_state cold_book refreshed
no_buffers setup bodies = refl

map_none : (bs : List BufferState) → [] ≡ map book_buffer bs → bs ≡ []
map_none [] same = refl
map_none (b ∷ bs) same = absurd cc

-- A shard that stands behind a start from an image stands so behind a restart from it.
module _ {D : Type 0} (view : D → DiskView) (shard : ShardView D) (s new : State) (image : List ℕ) (r : Restarts (setup_of shard) s image new)
    (behind : BeginsBehind view shard.shelf.disk r.bodies shard)
    (records : Records) (was : ℕ → Gate) (before : Images) (holds : HoldsGates (setup_of shard) shard.shelf.geometry s records was before) (left : before image)
    (honest : IsHonest (view shard.shelf.disk)) (only : IsOnly image (view shard.shelf.disk).may_leave) (own : AreOwn (setup_of shard) new) where
  abbrev setup : Setup
  setup = setup_of shard

  abbrev start : State
  start = start_state setup r.bodies

  abbrev g : Geometry
  g = shard.shelf.geometry

  abbrev now : Images
  now = (view shard.shelf.disk).may_leave

  abbrev gates : ℕ → Gate
  gates = gate_at shard.shelf.gates

  -- it stands safely for the state of the start
  start_agrees : Agrees shard start
  start_agrees = behind.sound image r.sound

  start_safe : IsSafe view shard start
  start_safe = behind.safe honest image r.sound only

  abbrev stands : StandsFor setup shard.shelf start
  stands = start_agrees.shelf.stands

  no_records : records_by [] ≡ records_of shard.shelf.buffers
  no_records = ap records_of (sym (map_none shard.shelf.buffers (sym (no_buffers setup r.bodies) ∙ stands.buffers)))

  -- the image is kept in the state behind the restart, so its histories fall
  restart_is_kept : IsKept setup g new (records_by []) now
  restart_is_kept = restart_kept setup g s new records before now image (held_kept setup g s records was before holds.held) left r only.alone

  falls : (digest : Digest) → IsFalling (writes_of (history new digest))
  falls digest = (restart_is_kept.facts.guarded digest).falling

  -- the entries are those of the start
  same_entry : (digest : Digest) → entry new digest ≡ entry start digest
  same_entry digest = new_top setup s new image r falls digest ∙ sym (start_entry setup r.bodies r.sound.twins digest)

  -- the sprigs fit it, and the live copies are its entries'
  parts_fit : FitsParts setup shard.sprigs new
  parts_fit = restart_parts setup s new image r falls shard.sprigs behind.latest.parts
      (subst (λ (l : List Copy). AllHaveLatest setup l shard.sprigs) (sound_own setup image r.bodies r.sound) behind.latest.each) own

  entry_lies : (l : Live) → IsOfEntry g shard.shelf.buffers start l → IsOfEntry g shard.shelf.buffers new l
  entry_lies l is = record { version = is.version; entry_is = same_entry l.digest ∙ is.entry_is; lies = is.lies }

  stands_again : StandsFor setup shard.shelf new
  stands_again = record {
    buffers = ap (λ (b : Book). b.buffers) r.book ∙ stands.buffers;
    free = ap (λ (b : Book). b.free) r.book ∙ stands.free;
    next = ap (λ (b : Book). b.next_number) r.book ∙ stands.next;
    holds = subst (HoldsSame shard.shelf.holds.holds) (sym r.book) stands.holds;
    lives = subst (LivesSame shard.shelf.lives) (sym r.book) stands.lives;
    listed = subst (IsListed setup) (sym r.book) stands.listed;
    order = book_in_order (subst (IsInOrder setup new) no_records restart_is_kept.order);
    entries = λ l there. entry_lies l (stands.entries l (subst (λ (b : Book). Contains b.live l) r.book there));
    kept = λ digest l v live top. stands.kept digest l v (sym (ap (λ (b : Book). live_of digest b.live) r.book) ∙ live) (sym (same_entry digest) ∙ top);
  }

  -- no raid runs
  start_raid : start.raid ≡ no_raid
  unfolding start_state
  start_raid = refl

  queue_again : BooksStand setup shard.shelf new
  queue_again = record {
    same = ap (λ (b : Book). b.queue) r.book ∙ start_agrees.shelf.queue.same;
    all = λ block lt. subst (λ (b : Book). is_in b.queue block ≡ may_be_queued setup b block) (sym r.book) (start_agrees.shelf.queue.all block lt);
    raid = subst (RaidStands setup shard.shelf.raid) (start_raid ∙ sym r.raid) start_agrees.shelf.queue.raid;
  }

  pub agrees_again : Agrees shard new
  agrees_again = record {
    sprigs = parts_fit;
    times = start_agrees.times;
    shelf = record { stands = stands_again; queue = queue_again };
  }

  pub safe_again : IsSafe view shard new
  safe_again = record {
    placed = record {
      buffered = λ digest l v live top. start_safe.placed.buffered digest l v (sym (ap (λ (b : Book). live_of digest b.live) r.book) ∙ live) (sym (same_entry digest) ∙ top);
      there = λ digest l v live top apart c may. start_safe.placed.there digest l v (sym (ap (λ (b : Book). live_of digest b.live) r.book) ∙ live) (sym (same_entry digest) ∙ top) apart c may;
      kept = λ digest l v live top. start_safe.placed.kept digest l v (sym (ap (λ (b : Book). live_of digest b.live) r.book) ∙ live) (sym (same_entry digest) ∙ top);
    };
    safe = subst (λ (x : Records). HoldsGates setup g new x gates now) no_records (record {
      knows = subst (λ (b : Book). KnowsGates g b now gates) (sym r.book) start_safe.safe.knows;
      held = held_sure setup g new (records_by []) gates now behind.sure restart_is_kept;
    });
  }

-- ---- from the disk of a shard

module _ {D : Type 0} (view : D → DiskView) (disk : D) (asked : Asked) (old : ShardView D) (s : State) (disk_was : old.shelf.disk ≡ disk) (device : old.shelf.geometry.device ≡ asked.device)
    (devices : old.shelf.geometry.devices ≡ asked.devices)
    (honest : IsHonest (view disk)) (safe : IsSafe view old s) where
  abbrev bytes : List ℕ
  bytes = (view disk).seen

  abbrev shape : Geometry
  shape = old.shelf.geometry

  -- what is read is an image that the disk might have left, so it survives the state
  bytes_left : (view old.shelf.disk).may_leave bytes
  bytes_left = subst (λ (d : D). (view d).may_leave bytes) (sym disk_was) honest.image

  survives : Survives (setup_of old) s bytes
  survives = held_survives (setup_of old) shape s (records_of old.shelf.buffers) (gate_at old.shelf.gates) (view old.shelf.disk).may_leave safe.safe.held bytes bytes_left

  readable : IsReadable bytes shape survives.bodies
  readable =
      let sound = survives.sound in
      subst (λ (h : Geometry). IsReadable bytes h survives.bodies)
      (one_shape (setup_of old) sound.shape shape sound.is_shape safe.safe.held.shape sound.readable.header.geometry safe.safe.held.geometry) sound.readable

  -- it has one header, and each open block has its body
  this_shape : (g : Geometry) → IsHeader (take 4096 bytes) g → g ≡ shape
  this_shape g header = one_header (take 4096 bytes) g shape header readable.header

  not_damaged : (block place : ℕ) → IsDamagedAt shape bytes block place → ⊥
  not_damaged block place damaged = by (each_block shape bytes 0 shape.blocks survives.bodies readable.blocks block (omega arith) (omega (arith, damaged.is_there)))
    where
      by : IsBlock shape bytes block → ⊥
      by (inl closed) = closed damaged.is_open
      by (inr body) = fault_refuses (block_capacity shape.block_size) (body_bytes shape block bytes) block place (small_capacity shape readable.header.geometry) damaged.fault body.0 body.1 body.2

  -- nothing that the bytes show stands against it
  pub no_refusal : (cause : StartCause) → IsRefused asked bytes cause → IsNoRefusal cause
  no_refusal (NotFormatted first) why = why.0 shape readable.header
  no_refusal (OtherGeometry kept named size) why = by why.1.4
    where
      here : kept ≡ shape
      here = this_shape kept why.1.0

      by : (kept.device ≢ asked.device) ⊎ (kept.devices ≢ asked.devices) ⊎ (length bytes < device_end kept) → ⊥
      by (inl other) = other (ap (λ (g : Geometry). g.device) here ∙ device)
      by (inr (inl other)) = other (ap (λ (g : Geometry). g.devices) here ∙ devices)
      by (inr (inr short)) = let long = subst (λ (g : Geometry). device_end g ≤ length bytes) (sym here) readable.size in omega (arith, short, long)
  no_refusal (DamagedBlock block place) why = not_damaged block place (subst (λ (g : Geometry). IsDamagedAt g bytes block place) (this_shape why.0 why.1.header) why.2)
  no_refusal Memory why = tt
  no_refusal Fault why = tt

  -- from what was read
  module _ (now : D) (g : Geometry) (set : Settings) (finding : Finding) (bodies : List Body) (shard : ShardView D) (set_was : old.set ≡ set) (begins : BeginsOver now g set finding shard)
      (behind : BeginsBehind view now bodies shard)
      (passes : Passes asked bytes g bodies) (honest_now : IsHonest (view now)) (only : IsOnly bytes (view now).may_leave) (agrees : Agrees old s) where
    same_shape : shard.shelf.geometry ≡ shape
    same_shape = begins.geometry_is ∙ this_shape g passes.is_asked.header

    same_set : old.set ≡ shard.set
    same_set = set_was ∙ sym begins.set_is

    same_setup : setup_of old ≡ setup_of shard
    same_setup = λ i. setup_for (sym same_shape i) (same_set i)

    abbrev new : State
    new = resumed (setup_of old) s bytes survives

    from_old : Restarts (setup_of old) s bytes new
    from_old = resumes (setup_of old) s bytes survives

    from_same : Restarts (setup_of shard) s bytes new
    from_same = subst (λ (x : Setup). Restarts x s bytes new) same_setup from_old

    -- the bodies are those that were read
    these : bodies ≡ from_same.bodies
    these = same_bodies (setup_of shard) shard.shelf.geometry asked bytes bodies from_same.bodies (record { capacity = refl; blocks = refl; device = refl; devices = refl })
        (subst (λ (h : Geometry). Passes asked bytes h bodies) (sym begins.geometry_is) passes) from_same.sound

    begins_here : BeginsBehind view shard.shelf.disk from_same.bodies shard
    begins_here = subst (λ (d : D). BeginsBehind view d from_same.bodies shard) (sym begins.disk_is) (subst (λ (l : List Body). BeginsBehind view now l shard) these behind)

    held_here : HoldsGates (setup_of shard) shard.shelf.geometry s (records_of old.shelf.buffers) (gate_at old.shelf.gates) (view old.shelf.disk).may_leave
    held_here = subst (λ (h : Geometry). HoldsGates (setup_for h shard.set) h s (records_of old.shelf.buffers) (gate_at old.shelf.gates) (view old.shelf.disk).may_leave) (sym same_shape)
        (subst (λ (x : Settings). HoldsGates (setup_for shape x) shape s (records_of old.shelf.buffers) (gate_at old.shelf.gates) (view old.shelf.disk).may_leave) same_set safe.safe)

    honest_here : IsHonest (view shard.shelf.disk)
    honest_here = subst (λ (d : D). IsHonest (view d)) (sym begins.disk_is) honest_now

    only_here : IsOnly bytes (view shard.shelf.disk).may_leave
    only_here = subst (λ (d : D). IsOnly bytes (view d).may_leave) (sym begins.disk_is) only

    own_here : AreOwn (setup_of shard) new
    own_here = subst (λ (x : Setup). AreOwn x new) same_setup (resumed_own (setup_of old) s bytes survives agrees.sprigs.own)

    pub starts_again : StartsAgain view old s shard
    starts_again = record {
      geometry = same_shape;
      image = bytes;
      left = bytes_left;
      state = new;
      restarts = from_old;
      agrees = agrees_again view shard s new bytes from_same begins_here (records_of old.shelf.buffers) (gate_at old.shelf.gates)
          (view old.shelf.disk).may_leave held_here bytes_left honest_here only_here own_here;
      safe = safe_again view shard s new bytes from_same begins_here (records_of old.shelf.buffers) (gate_at old.shelf.gates)
          (view old.shelf.disk).may_leave held_here bytes_left honest_here only_here own_here;
    }
