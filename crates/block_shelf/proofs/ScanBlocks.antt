-- What a scan reads of a block is all that may be in it and nothing else, and over a sound image nothing of it is damaged.
use Rattle.std.proofs.Common.{◌≡◌, ◌≢◌, ◌<◌, ◌-◌, ◌/◌, ℕ, length, true, false, List, [], map, inl, inr, sym, ◌∙◌, ap, subst, arith, refl, ne_eqb, Result, Ok, Err}
use Rattle.std.specs.Prelude.{Contains, ◌==◌, IfErr}
use Rattle.std.specs.List.{AllByRecursion}
use Rattle.law_lists.proofs.Between.{Parted, parted}
use Rattle.law_lists.proofs.Each.{all_at, all_map}
use Rattle.law_lists.proofs.Finding.{any_none}
use Rattle.law_lists.proofs.Members.{map_there}
use Rattle.disk_model.specs.Disk.{Images, DiskView, IsHonest}
use Rattle.rec_format.specs.declared.version.Digest.{Digest}
use Rattle.rec_format.specs.declared.version.Version.{Version}
use Rattle.rec_format.specs.Versions.{block_capacity}
use Rattle.model_device.specs.Book.{Setup, Buffer, has_buffer}
use Rattle.model_device.specs.Device.{State}
use Rattle.block_format.specs.declared.geometry.Geometry.{Geometry}
use Rattle.block_format.specs.declared.geometry.Gate.{Gate}
use Rattle.block_format.specs.declared.geometry.Gate.TheVariants.{Shut, Set, Unsure}
use Rattle.block_format.specs.declared.geometry.Found.{Found}
use Rattle.block_format.specs.Layout.{Body, IsBody, IsFaultAt, IsOpen, gate_sector, body_bytes}
use Rattle.block_format.specs.Readings.{AtMostOneBody, IsUnreadAt, body_capacity, found_from}
use Rattle.block_flusher.specs.Images.{HasOneBody, IsBodyOf}
use Rattle.law_trail.specs.Trail.{Records, places_of}
use Rattle.law_images.specs.Kept.{Shows}
use Rattle.law_images.specs.Gates.{GateStands}
use Rattle.law_images.specs.Held.{loosened}
use Rattle.law_images.specs.Scans.{IsScanOf}
use Rattle.law_images.proofs.Scanning.{read_waiting}
use Rattle.law_images.proofs.HeldCourses.{begun_read, shut_read, set_read}
use Rattle.law_images.proofs.Loosening.{shut_still, loosened_has}
use Rattle.write_buffer.specs.declared.phase.Phase.{Phase}
use Rattle.write_buffer.specs.declared.phase.Phase.TheVariants as phase
use Rattle.write_buffer.specs.Buffers.{BufferState, bytes_of, body_in}
use Rattle.block_shelf.specs.declared.refusals.VacateRefusal.{VacateRefusal}
use Rattle.block_shelf.specs.declared.refusals.VacateRefusal.TheVariants.{Damaged, Memory, Fault}
use Rattle.block_shelf.specs.View.{ShelfView, IsShelf, IsBufferOf, WaitsShut, HasItsBody, StandInOrder, records_of, gate_at, is_written, has_begun}
use Rattle.block_shelf.specs.Standing.{StandsFor, ImagesHold, book_buffer}
use Rattle.block_shelf.specs.Changes.{has_buffer_in}
use Rattle.block_shelf.specs.Scans.{ReadsAll, ReadsBody, NeedsRead, IsDamageOf, IsOfBlock, IsRefusalOf, IsToldOf, IsSound}
use Rattle.block_shelf.proofs.Between.{records_at}
use Rattle.block_shelf.proofs.QueueSteps.{has_buffer_is}

-- the gates differ
sure_gates : Set ≢ Unsure
sure_gates e = grind (arith, e)

shut_gates : Shut ≢ Unsure
shut_gates e = grind (arith, e)

-- bytes that are a body aren't damaged
pub no_damage : (g : Geometry) (bytes : List ℕ) (block : ℕ) (refusal : VacateRefusal) → IsBodyOf g block bytes → IsDamageOf g bytes block refusal → IsSound refusal
no_damage g bytes block (Damaged other place) is damage = damage.2 is
no_damage g bytes block Memory is damage = tt
no_damage g bytes block Fault is damage = tt

-- the fault that was found in bytes is damage of theirs
pub damage_there : (g : Geometry) (bytes : List ℕ) (block place : ℕ) → length bytes ≡ g.block_size - 4096 → IsUnreadAt bytes block place → IsDamageOf g bytes block (Damaged block place)
damage_there g bytes block place long is =
    let one : body_capacity bytes ≡ block_capacity g.block_size = ap (λ (n : ℕ). n / 16) (omega (arith, long)) in (
      refl,
      subst (λ (n : ℕ). IsFaultAt n bytes block place) one is.0,
      λ b. is.1 b.0 (subst (λ (n : ℕ). IsBody n bytes b.0) (sym one) b.1) b.2,
    )

-- a refusal tells damage where there is some
pub refusal_damage : (g : Geometry) (bytes : List ℕ) (block : ℕ) (refusal : VacateRefusal) → IsRefusalOf g bytes block refusal → IsDamageOf g bytes block refusal
refusal_damage g bytes block (Damaged other place) is = is
refusal_damage g bytes block Memory is = tt
refusal_damage g bytes block Fault is = tt

-- where there is none nothing is told
pub undamaged : (g : Geometry) (bytes : List ℕ) (block : ℕ) (refusal : VacateRefusal) → IsSound refusal → IsDamageOf g bytes block refusal
undamaged g bytes block (Damaged other place) sound = absurd sound
undamaged g bytes block Memory sound = tt
undamaged g bytes block Fault sound = tt

-- so it is of an answer
pub unhurt : {A : Type 0} (g : Geometry) (bytes : List ℕ) (block : ℕ) (result : Result A VacateRefusal) → IfErr result IsSound → IfErr result (IsDamageOf g bytes block)
unhurt g bytes block (Ok found) sound = tt
unhurt g bytes block (Err refusal) sound = undamaged g bytes block refusal sound

pub only_set : (gate : Gate) → gate ≢ Shut → gate ≢ Unsure → gate ≡ Set
only_set Shut shut unsure = absurd (shut refl)
only_set Set shut unsure = refl
only_set Unsure shut unsure = absurd (unsure refl)

-- what is told of a block that is read from the disk
pub told_at : {D A : Type 0} (shelf : ShelfView D) (block : ℕ) (result : Result A VacateRefusal) → NeedsRead shelf block → IfErr result (IsOfBlock block) → IfErr result (IsToldOf shelf block)
told_at shelf block (Ok found) needs of_block = tt
told_at shelf block (Err (Damaged other place)) needs of_block = (of_block, needs)
told_at shelf block (Err Memory) needs of_block = tt
told_at shelf block (Err Fault) needs of_block = tt

-- where there is no damage nothing is told
pub untold : {D A : Type 0} (shelf : ShelfView D) (block : ℕ) (result : Result A VacateRefusal) → IfErr result IsSound → IfErr result (IsToldOf shelf block)
untold shelf block (Ok found) sound = tt
untold shelf block (Err (Damaged other place)) sound = absurd sound
untold shelf block (Err Memory) sound = tt
untold shelf block (Err Fault) sound = tt

module _ {D : Type 0} (view : D → DiskView) (setup : Setup) (shelf : ShelfView D) (s : State) (is : IsShelf view shelf) (stands : StandsFor setup shelf s)
    (honest : IsHonest (view shelf.disk)) (safe : ImagesHold setup view shelf s) (block : ℕ) where
  abbrev g : Geometry
  g = shelf.geometry

  abbrev images : Images
  images = (view shelf.disk).may_leave

  abbrev records : Records
  records = records_of shelf.buffers

  -- ---- a pending buffer

  module _ (b : BufferState) (there : Contains shelf.buffers b) (at : b.block ≡ block) where
    parts : Parted b shelf.buffers
    parts = parted b shelf.buffers there

    own_records : records b.number ≡ b.records
    own_records = ap (λ (l : List BufferState). records_of l b.number) parts.parts ∙ records_at parts.front b parts.behind (subst StandInOrder parts.parts is.order)

    placed : Contains (places_of s.book) (b.number, block)
    placed = subst (λ (k : ℕ). Contains (places_of s.book) (b.number, k)) at
        (subst (λ (l : List Buffer). Contains (map {B = ℕ × ℕ} (λ x. (x.number, x.block)) l) (b.number, b.block)) (sym stands.buffers)
        (map_there {Y = ℕ × ℕ} (λ x. (x.number, x.block)) (map book_buffer shelf.buffers) (book_buffer b) (map_there book_buffer shelf.buffers b there)))

    below : block < g.blocks
    below = subst (λ (k : ℕ). k < g.blocks) at (all_at (IsBufferOf g shelf.next_number) shelf.buffers b is.buffers there).block

    shut_yet : has_begun b.phase ≡ false → gate_at shelf.gates block ≡ Shut
    shut_yet unbegun = ap (gate_at shelf.gates) (sym at) ∙ all_at (WaitsShut shelf.gates) shelf.buffers b is.waits there unbegun

    waits : has_begun b.phase ≡ false → IsScanOf g s.book records (loosened g (gate_at shelf.gates) images) block (records b.number)
    waits unbegun = read_waiting setup g s records (loosened g (gate_at shelf.gates) images) b.number block safe.held placed
        (λ c image. inl (shut_still g safe.held.geometry (gate_at shelf.gates) images block (λ unsure. shut_gates (sym (shut_yet unbegun) ∙ unsure))
        (subst (GateStands g images block) (shut_yet unbegun) (is.stand honest block below)) c image))

    stands_there : is_written b.phase ≡ true → IsBody (block_capacity g.block_size) (bytes_of b) (body_in b)
        → IsScanOf g s.book records (loosened g (gate_at shelf.gates) images) block (records b.number)
    stands_there written is_body = begun_read setup g s records (gate_at shelf.gates) images block below safe b.number (bytes_of b) placed
        (subst (λ (k : ℕ). HasOneBody g k (bytes_of b) images) at (all_at (HasItsBody g images) shelf.buffers b (is.ready honest) there written))
        (record { body = body_in b; placed = at; same = sym own_records; is_body = is_body })

    -- its records, whether or not the write of its gate has begun
    pub buffer_reads : (found : List Found) → IsBody (block_capacity g.block_size) (bytes_of b) (body_in b) → found ≡ found_from 0 b.records → ReadsAll view shelf s block found
    buffer_reads found is_body found_is = record {
      records = b.records;
      found_is = found_is;
      all = subst (IsScanOf g s.book records (loosened g (gate_at shelf.gates) images) block) own_records (by b.phase refl);
      only = λ r has. inl (b.number, record { placed = placed; has = subst (λ (l : List (Digest × Version)). Contains l r) (sym own_records) has });
    }
      where
        by : (p : Phase) → b.phase ≡ p → IsScanOf g s.book records (loosened g (gate_at shelf.gates) images) block (records b.number)
        by phase.Filling e = waits (ap has_begun e)
        by phase.Sealed e = waits (ap has_begun e)
        by phase.BodyDone e = waits (ap has_begun e)
        by phase.GateBegun e = stands_there (ap is_written e) is_body

    -- a reading of its bytes finds them
    pub buffer_found : AtMostOneBody → IsBody (block_capacity g.block_size) (bytes_of b) (body_in b) → (found : List Found) → ReadsBody g (bytes_of b) block found → ReadsAll view shelf s block found
    buffer_found one is_body found reads =
        buffer_reads found is_body (reads.found_is ∙ ap (λ (x : Body). found_from 0 x.records)
        (one (block_capacity g.block_size) (block_capacity g.block_size) (bytes_of b) reads.body (body_in b) reads.is_body is_body (reads.placed ∙ sym at)))

  -- ---- a block without one

  module _ (lt : block < g.blocks) (unbuffered : AllByRecursion (λ b. b.block ≢ block) shelf.buffers) where
    none : has_buffer s.book block ≡ false
    none = sym (has_buffer_is shelf.buffers s.book block stands.buffers) ∙ none_in shelf.buffers unbuffered
      where
        none_in : (bs : List BufferState) → AllByRecursion (λ b. b.block ≢ block) bs → has_buffer_in bs block ≡ false
        none_in bs others = any_none (λ c. c.block == block) bs (all_map (λ c. c.block ≢ block) (λ c. (c.block == block) ≡ false) bs (λ c other. ne_eqb c.block block other) others)

    -- nothing where its gate is shut
    pub shut_reads : gate_at shelf.gates block ≡ Shut → ReadsAll view shelf s block []
    shut_reads shut = record {
      records = [];
      found_is = refl;
      all = shut_read setup g s records (gate_at shelf.gates) images block lt safe none shut;
      only = λ r has. absurd (omega (arith, has.1));
    }

    module _ (set : gate_at shelf.gates block ≡ Set) where
      stands_set : GateStands g images block Set
      stands_set = subst (GateStands g images block) set (is.stand honest block lt)

      -- the body that the disk has where it is set
      pub set_reads : (found : List Found) → ReadsBody g (body_bytes g block (view shelf.disk).seen) block found → ReadsAll view shelf s block found
      set_reads found reads = record {
        records = reads.body.records;
        found_is = reads.found_is;
        all = set_read setup g s records (gate_at shelf.gates) images block lt safe (view shelf.disk).seen reads.body none set honest.image shows reads.placed;
        only = λ r has. inr (record {
          image = (view shelf.disk).seen;
          is_left = loosened_has g (gate_at shelf.gates) images (view shelf.disk).seen honest.image;
          body = reads.body;
          shown = shows;
          placed = reads.placed;
          has = has;
        });
      }
        where
          shows : Shows g (view shelf.disk).seen reads.body
          shows = record {
            within = subst (λ (k : ℕ). k < g.blocks) (sym reads.placed) lt;
            is_open = subst (λ (k : ℕ). IsOpen (gate_sector g k (view shelf.disk).seen)) (sym reads.placed) (stands_set.0 (view shelf.disk).seen honest.image);
            is_body = subst (λ (k : ℕ). IsBody (block_capacity g.block_size) (body_bytes g k (view shelf.disk).seen) reads.body) (sym reads.placed) reads.is_body;
          }

      -- which is one
      pub set_sound : (refusal : VacateRefusal) → IsDamageOf g (body_bytes g block (view shelf.disk).seen) block refusal → IsSound refusal
      set_sound refusal = no_damage g (body_bytes g block (view shelf.disk).seen) block refusal
          (subst (IsBodyOf g block) (sym (stands_set.1.1.one (view shelf.disk).seen honest.image)) stands_set.1.1.is_body)
