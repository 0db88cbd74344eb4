-- The gate of the first free block is closed, or couldn't be: what every shelf keeps, and what is held.
use Rattle.std.proofs.Common.{◌≡◌, ◌≢◌, ℕ, ◌<◌, List, [], ◌∷◌, ◌++◌, length, map, drop, take, refl, sym, ◌∙◌, ap, subst}
use Rattle.std.specs.Prelude.{Contains, slice_set}
use Rattle.std.specs.List.{AllByRecursion}
use Rattle.std.proofs.lemmas.List.{get_or-set_same, set-get_or}
use Rattle.law_lists.proofs.Each.{all_map, all_joined, all_parted, all_before_map}
use Rattle.law_lists.proofs.Members.{first_there}
use Rattle.disk_model.specs.Disk.{DiskView, IsDisk, IsHonest, TellsTorn, TornFrom, meanwhile}
use Rattle.disk_model.specs.Runs.{leaves_more, one_of_front}
use Rattle.model_device.specs.Book.{Setup, first_block, first_to_back}
use Rattle.model_device.specs.Device.{State}
use Rattle.model_device.specs.Steps.{closing_failed, after_step}
use Rattle.block_format.specs.declared.geometry.Gate.{Gate}
use Rattle.block_format.specs.declared.geometry.Gate.TheVariants.{Shut, Set, Unsure}
use Rattle.block_format.specs.Layout.{block_place}
use Rattle.law_start.specs.Surviving.{Survives}
use Rattle.write_buffer.specs.Buffers.{BufferState}
use Rattle.post_cache.specs.Bodies.{CacheState}
use Rattle.hold_book.specs.Holds.{IsHeld}
use Rattle.block_shelf.specs.Lives.{copies_in}
use Rattle.law_images.specs.Gates.{GateStands}
use Rattle.block_shelf.specs.View.{ShelfView, IsShelf, AreApart, gate_at}
use Rattle.block_shelf.specs.Disks.{IsLater}
use Rattle.block_shelf.specs.Standing.{StandsFor}
use Rattle.block_shelf.specs.Calls.{Goes}
use Rattle.block_shelf.specs.Changes.{with_gate_known}
use Rattle.block_shelf.specs.Appends.{with_first_shut, with_first_unclosed}
use Rattle.block_shelf.proofs.Bodies.{bodies_gate}
use Rattle.block_shelf.proofs.Blocks.{apart_from, apart_push}
use Rattle.block_shelf.proofs.InNew.{first_and_rest}
use Rattle.block_shelf.proofs.Closing.{gate_shelf, goes_shut, goes_unsure, passed_stands, passed_queued, passed_placed, passed_safe}
use Rattle.block_shelf.proofs.Roomed.{goes_nowhere}

-- ---- the first free block goes to the back

pub turned : (free : List ℕ) → drop 1 free ++ take 1 free ≡ first_to_back free
turned [] = refl
turned (b ∷ free) = refl

turned_apart : (xs : List ℕ) (b : ℕ) (bs : List ℕ) → AreApart (xs ++ b ∷ bs) → AreApart (xs ++ (bs ++ b ∷ []))
turned_apart [] b bs apart = apart_push bs b apart.1 (all_map (λ m. b ≢ m) (λ m. m ≢ b) bs (λ m ne e. ne (sym e)) apart.0)
turned_apart (x ∷ xs) b bs apart =
    let parts = all_parted (λ m. x ≢ m) xs (b ∷ bs) apart.0 in
    (all_joined (λ m. x ≢ m) xs (bs ++ b ∷ []) parts.0 (all_joined (λ m. x ≢ m) bs (b ∷ []) parts.1.1 (parts.1.0, tt)), turned_apart xs b bs apart.1)

back_apart : (xs free : List ℕ) → AreApart (xs ++ free) → AreApart (xs ++ first_to_back free)
back_apart xs [] apart = apart
back_apart xs (b ∷ free) apart = turned_apart xs b free apart

back_all : (P : ℕ → Type 0) (free : List ℕ) → AllByRecursion P free → AllByRecursion P (first_to_back free)
back_all P [] all = tt
back_all P (b ∷ free) all = all_joined P free (b ∷ []) all.1 (all.0, tt)

pub passed_shelf : {D : Type 0} (view : D → DiskView) (shelf : ShelfView D) → IsShelf view shelf → IsShelf view (record shelf { free = first_to_back shelf.free })
passed_shelf view shelf is = record {
  geometry = is.geometry;
  limits = is.limits;
  room = is.room;
  number = is.number;
  buffers = is.buffers;
  order = is.order;
  free = back_all (λ b. b < shelf.geometry.blocks) shelf.free is.free;
  apart = back_apart (map (λ b. b.block) shelf.buffers) shelf.free is.apart;
  gates = is.gates;
  lives = is.lives;
  each = is.each;
  held = is.held;
  vacant = back_all (λ b. copies_in b shelf.lives ≡ []) shelf.free is.vacant;
  unheld = back_all (λ b. IsHeld shelf.holds.holds b → ⊥) shelf.free is.unheld;
  packed = is.packed;
  waits = is.waits;
  ready = is.ready;
  stand = is.stand;
  bodies = is.bodies;
  queue = is.queue;
  cache = is.cache;
  raid = is.raid;
}

-- ---- its gate

pub first_below : {D : Type 0} (view : D → DiskView) (shelf : ShelfView D) → IsShelf view shelf → 0 < length shelf.free → first_block shelf.free < shelf.geometry.blocks
first_below view shelf is some = (subst (AllByRecursion (λ b. b < shelf.geometry.blocks)) (first_and_rest shelf.free some) is.free).0

-- a shelf with other buffers, gates and free blocks, and with what is kept
pub same_parts : {D : Type 0} (shelf : ShelfView D) (disk : D) (cache : CacheState BufferState) (next_number : ℕ) (bs cs : List BufferState) (gs hs : List Gate) (es fs : List ℕ)
    → bs ≡ cs → gs ≡ hs → es ≡ fs
    → record shelf { disk = disk; buffers = bs; gates = gs; free = es; cache = cache; next_number = next_number }
    ≡ record shelf { disk = disk; buffers = cs; gates = hs; free = fs; cache = cache; next_number = next_number }
same_parts shelf disk cache next_number bs cs gs hs es fs buffers gates free =
    ap (λ (l : List BufferState). record shelf { disk = disk; buffers = l; gates = gs; free = es; cache = cache; next_number = next_number }) buffers
    ∙ ap (λ (l : List Gate). record shelf { disk = disk; buffers = cs; gates = l; free = es; cache = cache; next_number = next_number }) gates
    ∙ ap (λ (l : List ℕ). record shelf { disk = disk; buffers = cs; gates = hs; free = l; cache = cache; next_number = next_number }) free

-- the calls that close the gate of a block, which is the first free one
module _ {D : Type 0} (view : D → DiskView) (is_disk : (disk : D) → IsDisk (view disk)) (shelf : ShelfView D) (disk : D) (block : ℕ) (is : IsShelf view shelf) (some : 0 < length shelf.free)
    (at : block ≡ first_block shelf.free)
    (later : IsLater (view shelf.disk) (view disk)) (honest : IsHonest (view shelf.disk) → IsHonest (view disk)) (was_honest : IsHonest (view disk) → IsHonest (view shelf.disk))
    (changes : IsHonest (view shelf.disk) → TornFrom (block_place shelf.geometry block) 4096 (view shelf.disk).may_leave (meanwhile (view shelf.disk) (view disk)))
    (gates : List Gate) (known : IsHonest (view disk) → GateStands shelf.geometry (view disk).may_leave block (gate_at gates block)) where
  abbrev first : ℕ
  first = first_block shelf.free

  -- the disk told its bytes before, and all others are as they were
  abbrev pub FirstTold : Type 0
  FirstTold = ((view disk).tells → (view shelf.disk).tells) × TellsTorn (block_place shelf.geometry block) 4096 (view shelf.disk) (view disk)

  torn : IsHonest (view shelf.disk) → TornFrom (block_place shelf.geometry first) 4096 (view shelf.disk).may_leave (meanwhile (view shelf.disk) (view disk))
  torn = subst (λ (k : ℕ). IsHonest (view shelf.disk) → TornFrom (block_place shelf.geometry k) 4096 (view shelf.disk).may_leave (meanwhile (view shelf.disk) (view disk))) at changes

  below : first < shelf.geometry.blocks
  below = first_below view shelf is some

  unbuffered : AllByRecursion (λ b. b.block ≢ first) shelf.buffers
  unbuffered = all_before_map (λ b. b.block ≢ first) (λ k. k ≢ first) (λ b. b.block) (λ b ne. ne) shelf.buffers
      (apart_from (map (λ b. b.block) shelf.buffers) first (drop 1 shelf.free)
      (subst (λ (l : List ℕ). AreApart (map (λ (b : BufferState). b.block) shelf.buffers ++ l)) (first_and_rest shelf.free some) is.apart))

  stands_as : (gate : Gate) → gates ≡ slice_set shelf.gates block gate → IsHonest (view disk) → GateStands shelf.geometry (view disk).may_leave first gate
  stands_as gate is_set now =
      subst (λ (k : ℕ). GateStands shelf.geometry (view disk).may_leave k gate) at
      (subst (GateStands shelf.geometry (view disk).may_leave block) (ap (λ (l : List Gate). gate_at l block) is_set
      ∙ get_or-set_same shelf.gates block gate Shut (subst (λ (n : ℕ). block < n) (sym is.gates) (subst (λ (k : ℕ). k < shelf.geometry.blocks) (sym at) below))) (known now))

  known_shelf : FirstTold → (gate : Gate) → gates ≡ slice_set shelf.gates block gate → IsShelf view (with_gate_known disk first gate shelf)
  known_shelf told gate is_set = gate_shelf view shelf disk first is (is_disk disk) (is_disk shelf.disk) below unbuffered later.size was_honest later.time torn gate (stands_as gate is_set)
      (bodies_gate shelf.geometry is.geometry block (view shelf.disk) (view disk) shelf.buffers shelf.cache.kept told.0 told.1 is.bodies)

  pub shut_shelf : FirstTold → gates ≡ slice_set shelf.gates block Shut → IsShelf view (with_first_shut disk shelf)
  shut_shelf told is_shut = known_shelf told Shut is_shut

  pub unclosed_shelf : FirstTold → gates ≡ slice_set shelf.gates block Unsure → IsShelf view (with_first_unclosed disk shelf)
  unclosed_shelf told is_unsure = passed_shelf view (with_gate_known disk first Unsure shelf) (known_shelf told Unsure is_unsure)

  module _ (setup : Setup) (s : State) (stands : StandsFor setup shelf s) where
    there : Contains s.book.free first
    there = subst (λ (l : List ℕ). Contains l first) (sym (stands.free ∙ first_and_rest shelf.free some)) (first_there first (drop 1 shelf.free))

    pub goes_closed : gates ≡ slice_set shelf.gates block Shut → (gate_at shelf.gates block ≡ Shut → disk ≡ shelf.disk) → Goes view setup [] shelf s (with_first_shut disk shelf)
    goes_closed is_set quiet = by (gate_at shelf.gates first) refl
      where
        called : gate_at shelf.gates first ≢ Shut → Goes view setup [] shelf s (with_first_shut disk shelf)
        called unshut = goes_shut view shelf disk first is (is_disk disk) (is_disk shelf.disk) below unbuffered later.size was_honest later.time torn setup s stands unshut (λ set. there)
            (λ was. stands_as Shut is_set (honest was))

        by : (gate : Gate) → gate_at shelf.gates first ≡ gate → Goes view setup [] shelf s (with_first_shut disk shelf)
        by Shut is_shut =
            let same : with_first_shut disk shelf ≡ shelf =
            ap (λ (d : D). record shelf { disk = d; gates = slice_set shelf.gates first Shut }) (quiet (ap (gate_at shelf.gates) at ∙ is_shut))
            ∙ ap (λ (x : Gate). record shelf { gates = slice_set shelf.gates first x }) (sym is_shut)
            ∙ ap (λ (l : List Gate). record shelf { gates = l }) (set-get_or shelf.gates first Shut) in
            subst (Goes view setup [] shelf s) (sym same) (goes_nowhere view is_disk setup s shelf stands)
        by Set is_open = called (λ is_shut. let clash : Set ≡ Shut = sym is_open ∙ is_shut in cc)
        by Unsure is_unsure = called (λ is_shut. let clash : Unsure ≡ Shut = sym is_unsure ∙ is_shut in cc)

    pub goes_unclosed : gate_at shelf.gates block ≢ Shut → Goes view setup (closing_failed ∷ []) shelf s (with_first_unclosed disk shelf)
    goes_unclosed unshut =
        let mid = with_gate_known disk first Unsure shelf in
        let open_still : gate_at shelf.gates first ≢ Shut = subst (λ (k : ℕ). gate_at shelf.gates k ≢ Shut) at unshut in
        let goes : Goes view setup [] shelf s mid = goes_unsure view shelf disk first is (is_disk disk)
        (is_disk shelf.disk) below unbuffered later.size was_honest later.time torn setup s stands open_still (λ set. there) in
        record {
          stands = passed_stands view setup mid s goes.stands;
          queued = λ queued. passed_queued view setup mid s (goes.queued queued);
          placed = λ h placed. passed_placed view setup mid s (goes.placed h placed);
          safe = λ h safe. passed_safe view setup mid s (goes.safe h safe);
          leaves = λ h safe. leaves_more (λ c image. one_of_front (Survives setup) (s ∷ []) (after_step setup closing_failed s ∷ []) c image) (goes.leaves h safe);
        }
