-- The gate of a block without a buffer is closed, where it was unsure. Where none is, what is possible stays so.
use Rattle.std.proofs.Common.{◌≡◌, ◌≢◌, ◌<◌, ◌≤◌, ◌⊎◌, inl, inr, ℕ, List, [], length, sym, ◌∙◌, ap, subst, arith}
use Rattle.std.specs.Prelude.{slice_set}
use Rattle.std.specs.List.{AllByRecursion}
use Rattle.std.proofs.lemmas.Bool.{cases_lt}
use Rattle.std.proofs.lemmas.List.{get_or-set_same, get_or_past}
use Rattle.std.proofs.lemmas.List.Elements.{Contains-get_or}
use Rattle.law_lists.proofs.Each.{all_at}
use Rattle.disk_model.specs.Disk.{DiskView, IsDisk, IsHonest, TellsTorn, TornFrom, Within, meanwhile}
use Rattle.model_device.specs.Book.{Setup}
use Rattle.model_device.specs.Device.{State}
use Rattle.block_format.specs.declared.geometry.Gate.{Gate}
use Rattle.block_format.specs.declared.geometry.Gate.TheVariants.{Shut, Set, Unsure}
use Rattle.block_format.specs.Layout.{block_place}
use Rattle.law_facts.specs.Facts.{SamePossible}
use Rattle.law_images.specs.Gates.{GateStands}
use Rattle.law_images.proofs.Behind.{possible_stays}
use Rattle.block_shelf.specs.Disks.{IsLater}
use Rattle.block_shelf.specs.View.{ShelfView, IsShelf, AreSure, records_of, gate_at}
use Rattle.block_shelf.specs.Standing.{StandsFor, ImagesHold}
use Rattle.block_shelf.specs.Calls.{Goes}
use Rattle.block_shelf.specs.Scans.{possible_copies}
use Rattle.block_shelf.proofs.Bodies.{bodies_gate}
use Rattle.block_shelf.proofs.Closing.{gate_shelf, goes_shut, goes_unsure}

not_shut : (gate : Gate) → gate ≡ Unsure → gate ≢ Shut
not_shut gate is e = grind (arith, is, e)

not_set : (gate : Gate) → gate ≡ Unsure → gate ≢ Set
not_set gate is e = grind (arith, is, e)

-- where none is unsure none at a block is
pub sure_at : (gates : List Gate) (block : ℕ) → AreSure gates → gate_at gates block ≢ Unsure
sure_at gates block sure = by (cases_lt block (length gates))
  where
    shut_sure : Shut ≢ Unsure
    shut_sure e = grind (arith, e)

    by : (block < length gates) ⊎ (length gates ≤ block) → gate_at gates block ≢ Unsure
    by (inl lt) = all_at (λ (gate : Gate). gate ≢ Unsure) gates (gate_at gates block) sure (Contains-get_or gates block Shut lt)
    by (inr past) = λ e. shut_sure (sym (get_or_past gates block Shut past) ∙ e)

module _ {D : Type 0} (view : D → DiskView) (is_disk : (disk : D) → IsDisk (view disk)) (shelf : ShelfView D) (disk : D) (block : ℕ) (is : IsShelf view shelf)
    (lt : block < shelf.geometry.blocks) (unbuffered : AllByRecursion (λ b. b.block ≢ block) shelf.buffers)
    (later : IsLater (view shelf.disk) (view disk)) (honest : IsHonest (view shelf.disk) → IsHonest (view disk)) (was_honest : IsHonest (view disk) → IsHonest (view shelf.disk))
    (torn : IsHonest (view shelf.disk) → TornFrom (block_place shelf.geometry block) 4096 (view shelf.disk).may_leave (meanwhile (view shelf.disk) (view disk)))
    (gates : List Gate) (known : IsHonest (view disk) → GateStands shelf.geometry (view disk).may_leave block (gate_at gates block)) where
  now_known : (gate : Gate) → gates ≡ slice_set shelf.gates block gate → IsHonest (view disk) → GateStands shelf.geometry (view disk).may_leave block gate
  now_known gate set now =
      subst (GateStands shelf.geometry (view disk).may_leave block)
      (ap (λ (l : List Gate). gate_at l block) set ∙ get_or-set_same shelf.gates block gate Shut (subst (λ (n : ℕ). block < n) (sym is.gates) lt)) (known now)

  pub closed_shelf : ((view disk).tells → (view shelf.disk).tells) → TellsTorn (block_place shelf.geometry block) 4096 (view shelf.disk) (view disk) → (gate : Gate)
      → gates ≡ slice_set shelf.gates block gate → IsShelf view (record shelf { disk = disk; gates = gates })
  closed_shelf was_told bytes gate set = subst (λ (l : List Gate). IsShelf view (record shelf { disk = disk; gates = l })) (sym set)
      (gate_shelf view shelf disk block is (is_disk disk) (is_disk shelf.disk) lt unbuffered later.size was_honest later.time torn gate (now_known gate set)
      (bodies_gate shelf.geometry is.geometry block (view shelf.disk) (view disk) shelf.buffers shelf.cache.kept was_told bytes is.bodies))

  module _ (unsure : gate_at shelf.gates block ≡ Unsure) (setup : Setup) (s : State) (stands : StandsFor setup shelf s) where
    -- it is shut
    pub goes_closed : gates ≡ slice_set shelf.gates block Shut → Goes view setup [] shelf s (record shelf { disk = disk; gates = gates })
    goes_closed set = subst (λ (l : List Gate). Goes view setup [] shelf s (record shelf { disk = disk; gates = l })) (sym set)
        (goes_shut view shelf disk block is (is_disk disk) (is_disk shelf.disk) lt unbuffered later.size was_honest later.time torn setup s stands (not_shut (gate_at shelf.gates block) unsure)
        (λ set_. absurd (not_set (gate_at shelf.gates block) unsure set_)) (λ was. now_known Shut set (honest was)))

    -- or unsure still
    pub goes_unclosed : gates ≡ slice_set shelf.gates block Unsure → Goes view setup [] shelf s (record shelf { disk = disk; gates = gates })
    goes_unclosed set = subst (λ (l : List Gate). Goes view setup [] shelf s (record shelf { disk = disk; gates = l })) (sym set)
        (goes_unsure view shelf disk block is (is_disk disk) (is_disk shelf.disk) lt unbuffered later.size was_honest later.time torn setup s stands (not_shut (gate_at shelf.gates block) unsure)
        (λ set_. absurd (not_set (gate_at shelf.gates block) unsure set_)))

-- Where no gate is unsure, what is possible stays so as a disk is only read.
pub same_possible : {D : Type 0} (view : D → DiskView) (setup : Setup) (old new : ShelfView D) (s : State) → AreSure old.gates → ImagesHold setup view old s → IsHonest (view new.disk)
    → Within (view old.disk).may_leave (view new.disk).may_leave → new ≡ record old { disk = new.disk; gates = new.gates; raid = new.raid } → new.gates ≡ old.gates
    → SamePossible (possible_copies view old s) (possible_copies view new s)
same_possible {D} view setup old new s sure safe honest fewer rest gates =
    subst (λ (v : ShelfView D). SamePossible (possible_copies view old s) (possible_copies view v s))
    (sym (rest ∙ ap (λ (l : List Gate). record old { disk = new.disk; gates = l; raid = new.raid }) gates))
    (possible_stays old.geometry s.book (records_of old.buffers) (gate_at old.gates) (view old.disk).may_leave (view new.disk).may_leave safe.held.geometry
    (λ k lt. sure_at old.gates k sure) safe.knows.stands
    fewer (view new.disk).seen honest.image)
