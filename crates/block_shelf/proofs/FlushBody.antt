-- The body of a sealed buffer is written, behind a gate that is shut.
use Rattle.std.proofs.Common.{◌≡◌, inl, ℕ, ◌+◌, ◌-◌, ◌<◌, true, false, List, [], ◌∷◌, ◌++◌, refl, sym, ap, ◌∙◌, subst}
use Rattle.std.specs.List.{AllByRecursion}
use Rattle.std.proofs.lemmas.Bool.{false≢true}
use Rattle.law_lists.proofs.Between.{all_own}
use Rattle.disk_model.specs.Disk.{Images, DiskView, IsHonest, Within, TellsTorn, TornFrom, meanwhile}
use Rattle.model_device.specs.Book.{Setup}
use Rattle.model_device.specs.Device.{State}
use Rattle.block_format.specs.declared.geometry.Gate.TheVariants.{Shut}
use Rattle.block_format.specs.Layout.{block_place}
use Rattle.block_flusher.specs.Images.{IsShut, HasOneBody}
use Rattle.write_buffer.specs.declared.phase.Phase.{Phase}
use Rattle.write_buffer.specs.declared.phase.Phase.TheVariants.{Sealed, BodyDone}
use Rattle.write_buffer.specs.Phases.{later_phase}
use Rattle.write_buffer.specs.Buffers.{BufferState, bytes_of, with_phase}
use Rattle.law_trail.specs.Trail.{Records}
use Rattle.law_images.specs.Changes.{ChangesIn}
use Rattle.law_images.specs.Gates.{GateStands}
use Rattle.law_images.specs.Held.{HoldsGates, IsKeptLoosened}
use Rattle.law_images.proofs.Held.{held_survives, held_fewer, body_held, body_knows}
use Rattle.law_images.proofs.Knowing.{knows_fewer}
use Rattle.law_images.proofs.Parts.{body_changes}
use Rattle.block_shelf.specs.View.{ShelfView, IsShelf, IsBufferOf, WaitsShut, BodyStands, is_unsealed, is_written, has_begun, records_of, gate_at}
use Rattle.block_shelf.specs.Standing.{StandsFor, ImagesHold, book_phase}
use Rattle.block_shelf.specs.Calls.{Goes}
use Rattle.block_shelf.proofs.Between.{others_apart, records_same}
use Rattle.block_shelf.proofs.Bodies.{bodies_body}
use Rattle.block_shelf.proofs.FlushShelf.{KeepsDisk, now_within, written, own, written_shelf, still_stands, still_queued, still_placed}

-- the gate of a buffer that waits is shut
waits_shut : {D : Type 0} (view : D → DiskView) (shelf : ShelfView D) (front : List BufferState) (b : BufferState) (behind : List BufferState) → shelf.buffers ≡ front ++ b ∷ behind
    → IsShelf view shelf → b.phase ≡ Sealed → gate_at shelf.gates b.block ≡ Shut
waits_shut view shelf front b behind parts is sealed = all_own (WaitsShut shelf.gates) front b behind (subst (AllByRecursion (WaitsShut shelf.gates)) parts is.waits) (ap has_begun sealed)

module _ {D : Type 0} (view : D → DiskView) (shelf : ShelfView D) (disk : D) (front : List BufferState) (b : BufferState) (behind : List BufferState)
    (is : IsShelf view (record shelf { buffers = front ++ b ∷ behind })) (call : KeepsDisk view shelf.disk disk) (sealed : b.phase ≡ Sealed)
    (torn : IsHonest (view shelf.disk) → TornFrom (block_place shelf.geometry b.block + 4096) (shelf.geometry.block_size - 4096) (view shelf.disk).may_leave (meanwhile (view shelf.disk) (view disk)))
    (still : IsHonest (view shelf.disk) → IsShut shelf.geometry b.block (meanwhile (view shelf.disk) (view disk))) where
  abbrev old : ShelfView D
  old = record shelf { buffers = front ++ b ∷ behind }

  abbrev since : Images
  since = meanwhile (view shelf.disk) (view disk)

  abbrev records : Records
  records = records_of (front ++ b ∷ behind)

  fewer : Within since (view disk).may_leave
  fewer = now_within view shelf.disk disk call

  away : IsHonest (view shelf.disk) → ChangesIn shelf.geometry b.block (view shelf.disk).may_leave since
  away honest = body_changes shelf.geometry b.block is.geometry (view shelf.disk).may_leave since (torn honest)

  is_shut : gate_at shelf.gates b.block ≡ Shut
  is_shut = waits_shut view old front b behind refl is sealed

  below : b.block < shelf.geometry.blocks
  below = (own view shelf disk front b behind is call away).block

  pub body_shelf : TellsTorn (block_place shelf.geometry b.block + 4096) (shelf.geometry.block_size - 4096) (view shelf.disk) (view disk) → (p : Phase) → is_unsealed p ≡ false
      → (IsHonest (view disk) → is_written p ≡ true → HasOneBody shelf.geometry b.block (bytes_of b) (view disk).may_leave)
      → ((view disk).tells → is_written p ≡ true → BodyStands shelf.geometry (view disk).seen b) → IsShelf view (written view shelf disk front b behind p shelf.gates)
  body_shelf bytes p unfilled body there =
      written_shelf view shelf disk front b behind is call away p shelf.gates unfilled refl (λ k other. refl) (λ unbegun. is_shut) body
      (λ honest. subst (GateStands shelf.geometry (view disk).may_leave b.block) (sym is_shut) (λ c image. still (call.was_honest honest) c (fewer c image)))
      (bodies_body shelf.geometry is.geometry (view shelf.disk) (view disk) front b behind shelf.cache.kept (others_apart front b behind shelf.free is.apart) is.cache.each is.cache.apart
      p call.was_told bytes there is.bodies)

  module _ (setup : Setup) (s : State) (stands : StandsFor setup old s) where
    module _ (honest : IsHonest (view shelf.disk)) (safe : ImagesHold setup view old s) where
      in_since : IsKeptLoosened setup shelf.geometry s records (gate_at shelf.gates) since
      in_since = body_held setup shelf.geometry s records (gate_at shelf.gates) (view shelf.disk).may_leave since b.block below safe.held is_shut
          (subst (GateStands shelf.geometry (view shelf.disk).may_leave b.block) is_shut (safe.knows.stands b.block below)) (still honest) (torn honest)

      body_safe : HoldsGates setup shelf.geometry s records (gate_at shelf.gates) (view disk).may_leave
      body_safe = record {
        knows = knows_fewer shelf.geometry s.book since (view disk).may_leave (gate_at shelf.gates) fewer
            (body_knows shelf.geometry is.geometry s.book (gate_at shelf.gates) (view shelf.disk).may_leave since b.block below safe.knows is_shut (still honest) (torn honest));
        held = held_fewer setup shelf.geometry s records (gate_at shelf.gates) (gate_at shelf.gates) since (view disk).may_leave (λ k lt unsure. unsure) fewer in_since;
      }

    pub goes_body : (p : Phase) → book_phase p ≡ book_phase b.phase → Goes view setup [] old s (written view shelf disk front b behind p shelf.gates)
    goes_body p same = record {
      stands = still_stands view shelf disk front b behind is call away setup s stands p shelf.gates same;
      queued = still_queued view shelf disk front b behind is call away setup s stands p shelf.gates;
      placed = λ honest placed. still_placed view shelf disk front b behind is call away setup s stands p shelf.gates honest placed;
      safe = λ honest safe. subst (λ (r : Records). HoldsGates setup shelf.geometry s r (gate_at shelf.gates) (view disk).may_leave) (sym (records_same front b behind p)) (body_safe honest safe);
      leaves = λ honest safe. record { time = call.time; each = λ c left. inl (held_survives setup shelf.geometry s records (gate_at shelf.gates) since (in_since honest safe) c left) };
    }

-- the phase behind the write of a body
pub settled_phase : (b c : BufferState) → c ≡ with_phase (later_phase b.phase BodyDone) b → b.phase ≡ Sealed → c ≡ with_phase BodyDone b
settled_phase b c set phase = set ∙ ap (λ (q : Phase). with_phase (later_phase q BodyDone) b) phase

-- ---- as the call finds it

-- the gate is shut before
pub shut_before : {D : Type 0} (view : D → DiskView) (shelf : ShelfView D) (front : List BufferState) (b : BufferState) (behind : List BufferState) → shelf.buffers ≡ front ++ b ∷ behind
    → IsShelf view shelf → b.phase ≡ Sealed → (block : ℕ) → block ≡ b.block
    → IsHonest (view shelf.disk) → IsShut shelf.geometry block (view shelf.disk).may_leave
shut_before view shelf front b behind parts is sealed block at honest =
    subst (λ (k : ℕ). IsShut shelf.geometry k (view shelf.disk).may_leave) (sym at)
    (subst (GateStands shelf.geometry (view shelf.disk).may_leave b.block) (waits_shut view shelf front b behind parts is sealed)
    (is.stand honest b.block (all_own (IsBufferOf shelf.geometry shelf.next_number) front b behind (subst (AllByRecursion (IsBufferOf shelf.geometry shelf.next_number)) parts is.buffers)).block))

module _ {D : Type 0} (view : D → DiskView) (shelf : ShelfView D) (disk : D) (front : List BufferState) (b : BufferState) (behind : List BufferState)
    (parts : shelf.buffers ≡ front ++ b ∷ behind) (shelf_is : IsShelf view shelf)
    (call : KeepsDisk view shelf.disk disk) (sealed : b.phase ≡ Sealed) (block : ℕ) (at : block ≡ b.block)
    (torn : IsHonest (view shelf.disk) → TornFrom (block_place shelf.geometry block + 4096) (shelf.geometry.block_size - 4096) (view shelf.disk).may_leave (meanwhile (view shelf.disk) (view disk)))
    (still : IsHonest (view shelf.disk) → IsShut shelf.geometry block (meanwhile (view shelf.disk) (view disk))) where
  is_between : IsShelf view (record shelf { buffers = front ++ b ∷ behind })
  is_between = subst (λ (bs : List BufferState). IsShelf view (record shelf { buffers = bs })) parts shelf_is

  torn_b : IsHonest (view shelf.disk) → TornFrom (block_place shelf.geometry b.block + 4096) (shelf.geometry.block_size - 4096) (view shelf.disk).may_leave (meanwhile (view shelf.disk) (view disk))
  torn_b honest = subst (λ (k : ℕ). TornFrom (block_place shelf.geometry k + 4096) (shelf.geometry.block_size - 4096) (view shelf.disk).may_leave (meanwhile (view shelf.disk) (view disk)))
      at (torn honest)

  still_b : IsHonest (view shelf.disk) → IsShut shelf.geometry b.block (meanwhile (view shelf.disk) (view disk))
  still_b honest = subst (λ (k : ℕ). IsShut shelf.geometry k (meanwhile (view shelf.disk) (view disk))) at (still honest)

  -- a disk that tells its bytes tells the same, but for the body
  abbrev pub TellsBody : Type 0
  TellsBody = TellsTorn (block_place shelf.geometry block + 4096) (shelf.geometry.block_size - 4096) (view shelf.disk) (view disk)

  bytes_b : TellsBody → TellsTorn (block_place shelf.geometry b.block + 4096) (shelf.geometry.block_size - 4096) (view shelf.disk) (view disk)
  bytes_b bytes = subst (λ (k : ℕ). TellsTorn (block_place shelf.geometry k + 4096) (shelf.geometry.block_size - 4096) (view shelf.disk) (view disk)) at bytes

  abbrev Goes_to : ShelfView D → Type 0
  Goes_to new = (setup : Setup) (s : State) → StandsFor setup shelf s → Goes view setup [] shelf s new

  -- to a later phase, or to none
  goes_to : (p : Phase) → book_phase p ≡ book_phase b.phase → Goes_to (record shelf { disk = disk; buffers = front ++ with_phase p b ∷ behind })
  goes_to p same setup s stands =
      subst (λ (bs : List BufferState). Goes view setup [] (record shelf { buffers = bs }) s (record shelf { disk = disk; buffers = front ++ with_phase p b ∷ behind })) (sym parts)
      (goes_body view shelf disk front b behind is_between call sealed torn_b still_b setup s
      (subst (λ (bs : List BufferState). StandsFor setup (record shelf { buffers = bs }) s) parts stands) p same)

  -- it failed
  pub tried_shelf : TellsBody → IsShelf view (record shelf { disk = disk; buffers = front ++ b ∷ behind })
  tried_shelf bytes =
      body_shelf view shelf disk front b behind is_between call sealed torn_b still_b (bytes_b bytes) b.phase (ap is_unsealed sealed)
      (λ honest was. absurd (false≢true (sym (ap is_written sealed) ∙ was)))
      (λ told was. absurd (false≢true (sym (ap is_written sealed) ∙ was)))

  pub tried_goes : Goes_to (record shelf { disk = disk; buffers = front ++ b ∷ behind })
  tried_goes setup s stands = goes_to b.phase refl setup s stands

  -- it went well
  pub done_shelf : TellsBody → (IsHonest (view disk) → HasOneBody shelf.geometry b.block (bytes_of b) (view disk).may_leave) → ((view disk).tells → BodyStands shelf.geometry (view disk).seen b)
      → IsShelf view (record shelf { disk = disk; buffers = front ++ with_phase BodyDone b ∷ behind })
  done_shelf bytes body there =
      body_shelf view shelf disk front b behind is_between call sealed torn_b still_b (bytes_b bytes) BodyDone refl (λ honest was. body honest) (λ told was. there told)

  pub done_goes : Goes_to (record shelf { disk = disk; buffers = front ++ with_phase BodyDone b ∷ behind })
  done_goes setup s stands = goes_to BodyDone (ap book_phase (sym sealed)) setup s stands
