-- The gate of a sealed buffer is written, over its body, for the first time or again.
use Rattle.std.proofs.Common.{◌≡◌, inl, inr, ℕ, ◌<◌, Bool, true, ◌&&◌, List, ◌∷◌, ◌++◌, map, length, refl, sym, ap, ◌∙◌, subst}
use Rattle.std.specs.Prelude.{◌==◌, slice_set, Contains}
use Rattle.std.proofs.lemmas.Bool.{false≢true, and_from, eq-eqb}
use Rattle.std.proofs.lemmas.List.{length-set, get_or-set_same, get_or-set_other, set-set}
use Rattle.law_lists.proofs.Between.{all_own, own_there}
use Rattle.law_lists.proofs.Finding.{any_there}
use Rattle.law_lists.proofs.Members.{map_there}
use Rattle.disk_model.specs.Disk.{Images, DiskView, IsHonest, Within, TellsTorn, TornFrom, meanwhile}
use Rattle.rec_format.specs.Versions.{block_capacity}
use Rattle.model_device.specs.Histories.{is_begun}
use Rattle.model_device.specs.Book.{Setup, Buffer, is_opening, pending_of}
use Rattle.model_device.specs.Device.{State}
use Rattle.model_device.specs.Steps.{gate_begun, after_step}
use Rattle.block_format.specs.declared.geometry.Gate.{Gate}
use Rattle.block_format.specs.declared.geometry.Gate.TheVariants.{Shut, Set, Unsure}
use Rattle.block_format.specs.Layout.{IsBody, block_place}
use Rattle.block_flusher.specs.Images.{IsOpened, HasOneBody}
use Rattle.write_buffer.specs.declared.phase.Phase.{Phase}
use Rattle.write_buffer.specs.declared.phase.Phase.TheVariants.{Filling, Sealed, BodyDone, GateBegun}
use Rattle.write_buffer.specs.Phases.{later_phase}
use Rattle.write_buffer.specs.Buffers.{BufferState, bytes_of, body_in, with_phase}
use Rattle.law_trail.specs.Trail.{Records, places_of}
use Rattle.law_images.specs.Changes.{ChangesIn, IsOpening}
use Rattle.law_images.specs.Gates.{GateStands, StandsOver, IsBodyWith, with_gate}
use Rattle.law_images.specs.Held.{HoldsGates}
use Rattle.law_images.proofs.Held.{held_known, knows_known}
use Rattle.law_images.proofs.Holding.{plain_holds}
use Rattle.law_images.proofs.Parts.{gate_changes, body_stays}
use Rattle.law_images.proofs.Worked.{HasOpened, open_call, opening_begun}
use Rattle.block_shelf.specs.View.{ShelfView, IsShelf, IsBufferOf, HasItsBody, is_written, records_of, gate_at}
use Rattle.block_shelf.specs.Standing.{StandsFor, ImagesHold, book_buffer, book_phase}
use Rattle.block_shelf.specs.Calls.{Goes}
use Rattle.block_shelf.specs.Flushes.{gate_steps}
use Rattle.block_shelf.proofs.Between.{records_at, records_same}
use Rattle.block_shelf.proofs.Bodies.{bodies_gate, bodies_phase}
use Rattle.block_shelf.proofs.Closing.{gates_with, holds_same}
use Rattle.block_shelf.proofs.FlushShelf.{KeepsDisk, now_within, written, own, written_shelf, still_stands, begun_stands, still_queued, begun_queued, still_placed, begun_placed}

-- no phase is later than that
pub begun_phase : (b c : BufferState) → c ≡ with_phase (later_phase b.phase GateBegun) b → c ≡ with_phase GateBegun b
begun_phase b c set = set ∙ ap (λ (q : Phase). with_phase q b) (latest b.phase)
  where
    latest : (p : Phase) → later_phase p GateBegun ≡ GateBegun
    latest Filling = refl
    latest Sealed = refl
    latest BodyDone = refl
    latest GateBegun = refl

-- a buffer whose gate has begun is begun in the book
begun_between : (s : State) (front : List BufferState) (b : BufferState) (behind : List BufferState) → b.phase ≡ GateBegun → s.book.buffers ≡ map book_buffer (front ++ b ∷ behind)
    → is_begun (pending_of s.book) b.number ≡ true
begun_between s front b behind phase is =
    any_there (λ (p : ℕ × Bool). p.0 == b.number && p.1) (pending_of s.book) (b.number, is_opening (book_phase b.phase))
    (subst (λ (l : List Buffer). Contains (map {B = ℕ × Bool} (λ x. (x.number, is_opening x.phase)) l) (b.number, is_opening (book_phase b.phase))) (sym is)
    (map_there {Y = ℕ × Bool} (λ x. (x.number, is_opening x.phase)) (map book_buffer (front ++ b ∷ behind)) (book_buffer b) (map_there book_buffer (front ++ b ∷ behind) b (own_there front b behind))))
    (and_from (b.number == b.number) (is_opening (book_phase b.phase)) (eq-eqb b.number b.number refl) (ap (λ (p : Phase). is_opening (book_phase p)) phase))

module _ {D : Type 0} (view : D → DiskView) (shelf : ShelfView D) (disk : D) (front : List BufferState) (b : BufferState) (behind : List BufferState)
    (is : IsShelf view (record shelf { buffers = front ++ b ∷ behind })) (call : KeepsDisk view shelf.disk disk)
    (has_body : is_written b.phase ≡ true) (is_body : IsBody (block_capacity shelf.geometry.block_size) (bytes_of b) (body_in b))
    (torn : IsHonest (view shelf.disk) → TornFrom (block_place shelf.geometry b.block) 4096 (view shelf.disk).may_leave (meanwhile (view shelf.disk) (view disk))) where
  abbrev old : ShelfView D
  old = record shelf { buffers = front ++ b ∷ behind }

  abbrev before : Images
  before = (view shelf.disk).may_leave

  abbrev since : Images
  since = meanwhile (view shelf.disk) (view disk)

  abbrev now : Images
  now = (view disk).may_leave

  abbrev gates : ℕ → Gate
  gates = gate_at shelf.gates

  abbrev records : Records
  records = records_of (front ++ b ∷ behind)

  -- the shelf behind it
  abbrev opening_view : Gate → ShelfView D
  opening_view gate = written view shelf disk front b behind GateBegun (slice_set shelf.gates b.block gate)

  fewer : Within since now
  fewer = now_within view shelf.disk disk call

  away : IsHonest (view shelf.disk) → ChangesIn shelf.geometry b.block before since
  away honest = gate_changes shelf.geometry b.block is.geometry before since (torn honest)

  below : b.block < shelf.geometry.blocks
  below = (own view shelf disk front b behind is call away).block

  lt : b.block < length shelf.gates
  lt = subst (λ (n : ℕ). b.block < n) (sym is.gates) below

  the_body : IsHonest (view shelf.disk) → HasOneBody shelf.geometry b.block (bytes_of b) before
  the_body honest = all_own (HasItsBody shelf.geometry before) front b behind (is.ready honest) has_body

  still_body : IsHonest (view shelf.disk) → HasOneBody shelf.geometry b.block (bytes_of b) now
  still_body honest c image = let t = torn honest c (fewer c image) in body_stays shelf.geometry b.block is.geometry t.0 c t.2 ∙ the_body honest t.0 t.1

  stands_over : IsHonest (view shelf.disk) → StandsOver shelf.geometry b.block (bytes_of b) now
  stands_over honest = record { one = still_body honest; is_body = (body_in b, is_body, refl) }

  gate_shelf : TellsTorn (block_place shelf.geometry b.block) 4096 (view shelf.disk) (view disk) → (gate : Gate) → (IsHonest (view disk) → GateStands shelf.geometry now b.block gate)
      → IsShelf view (opening_view gate)
  gate_shelf bytes gate stands =
      written_shelf view shelf disk front b behind is call away GateBegun (slice_set shelf.gates b.block gate) refl (length-set shelf.gates b.block gate)
      (λ k other. get_or-set_other shelf.gates b.block k gate Shut other)
      (λ unbegun. absurd (false≢true (sym unbegun))) (λ honest was. still_body (call.was_honest honest))
      (λ honest. subst (GateStands shelf.geometry now b.block) (sym (get_or-set_same shelf.gates b.block gate Shut lt)) (stands honest))
      (λ told. bodies_phase shelf.geometry (view disk).seen front b behind shelf.cache.kept GateBegun has_body
      (bodies_gate shelf.geometry is.geometry b.block (view shelf.disk) (view disk) (front ++ b ∷ behind) shelf.cache.kept call.was_told bytes is.bodies told))

  pub unsure_shelf : TellsTorn (block_place shelf.geometry b.block) 4096 (view shelf.disk) (view disk) → IsShelf view (opening_view Unsure)
  unsure_shelf bytes = gate_shelf bytes Unsure (λ honest. (bytes_of b, stands_over (call.was_honest honest)))

  pub set_shelf : TellsTorn (block_place shelf.geometry b.block) 4096 (view shelf.disk) (view disk) → (IsHonest (view disk) → IsOpened shelf.geometry b.block now) → IsShelf view (opening_view Set)
  set_shelf bytes opened = gate_shelf bytes Set (λ honest. (opened honest, (bytes_of b, stands_over (call.was_honest honest))))

  -- ---- the state

  with_own : IsBodyWith shelf.geometry b.block (bytes_of b) (records b.number)
  with_own = record { body = body_in b; placed = refl; same = sym (records_at front b behind is.order); is_body = is_body }

  module _ (setup : Setup) (s : State) (stands : StandsFor setup old s) where
    placed_between : Contains (places_of s.book) (b.number, b.block)
    placed_between =
        subst (λ (l : List Buffer). Contains (map {B = ℕ × ℕ} (λ x. (x.number, x.block)) l) (b.number, b.block)) (sym stands.buffers)
        (map_there {Y = ℕ × ℕ} (λ x. (x.number, x.block)) (map book_buffer (front ++ b ∷ behind)) (book_buffer b) (map_there book_buffer (front ++ b ∷ behind) b (own_there front b behind)))

    -- from a state in which the write of the gate has begun
    module _ (then : State) (opening : IsOpening then.book b.number b.block) (holds : ImagesHold setup view old s → HoldsGates setup shelf.geometry then records gates before)
        (honest : IsHonest (view shelf.disk)) (safe : ImagesHold setup view old s) where
      opens : HasOpened setup shelf.geometry then records gates b.number b.block (bytes_of b) since now
      opens = open_call setup shelf.geometry then records gates before since now b.number b.block (bytes_of b) below (holds safe) opening (the_body honest) with_own (torn honest) fewer

      unsure_safe : HoldsGates setup shelf.geometry then records (gate_at (slice_set shelf.gates b.block Unsure)) now
      unsure_safe = holds_same setup shelf.geometry then records (with_gate b.block Unsure gates) (gate_at (slice_set shelf.gates b.block Unsure)) now
          (gates_with shelf.gates b.block Unsure lt) opens.failed

      set_safe : IsOpened shelf.geometry b.block now → HoldsGates setup shelf.geometry then records (gate_at (slice_set shelf.gates b.block Set)) now
      set_safe opened =
          holds_same setup shelf.geometry then records (with_gate b.block Set gates) (gate_at (slice_set shelf.gates b.block Set)) now (gates_with shelf.gates b.block Set lt)
          (record {
            knows = knows_known shelf.geometry then.book gates now b.block Set (opened, (bytes_of b, stands_over honest)) opens.failed.knows;
            held = held_known setup shelf.geometry then records gates now now b.block Set (λ c image. image) opens.failed.held;
          })

    -- what is held behind it, in each state in which the write of the gate has begun
    abbrev HoldsAfter : Gate → Type 0
    HoldsAfter gate = (then : State) → IsOpening then.book b.number b.block → (ImagesHold setup view old s → HoldsGates setup shelf.geometry then records gates before)
        → IsHonest (view shelf.disk) → ImagesHold setup view old s
        → HoldsGates setup shelf.geometry then records (gate_at (slice_set shelf.gates b.block gate)) now

    -- the records are those of the buffers then
    renamed : (then : State) (gate : Gate) → HoldsGates setup shelf.geometry then records (gate_at (slice_set shelf.gates b.block gate)) now
        → HoldsGates setup shelf.geometry then (records_of (front ++ with_phase GateBegun b ∷ behind)) (gate_at (slice_set shelf.gates b.block gate)) now
    renamed then gate holds = subst (λ (r : Records). HoldsGates setup shelf.geometry then r (gate_at (slice_set shelf.gates b.block gate)) now) (sym (records_same front b behind GateBegun)) holds

    goes_gate : (gate : Gate) → HoldsAfter gate → Goes view setup (gate_steps b.phase b.number) old s (opening_view gate)
    goes_gate gate after = by b.phase refl
      where
        by : (q : Phase) → b.phase ≡ q → Goes view setup (gate_steps q b.number) old s (opening_view gate)
        by Filling phase = absurd (false≢true (ap is_written (sym phase) ∙ has_body))
        by Sealed phase = absurd (false≢true (ap is_written (sym phase) ∙ has_body))
        by BodyDone phase = record {
          stands = begun_stands view shelf disk front b behind is call away setup s stands (slice_set shelf.gates b.block gate);
          placed = λ honest placed. begun_placed view shelf disk front b behind is call away setup s stands (slice_set shelf.gates b.block gate) honest placed;
          queued = begun_queued view shelf disk front b behind is call away setup s stands (slice_set shelf.gates b.block gate);
          safe = λ honest safe. renamed then gate (after then opening holds honest safe);
          leaves = λ honest safe. record { time = call.time; each = λ c left. inr (inl ((opens then opening holds honest safe).meanwhile c left)) };
        }
          where
            then : State
            then = after_step setup (gate_begun b.number) s

            opening : IsOpening then.book b.number b.block
            opening = opening_begun setup s b.number b.block placed_between

            holds : ImagesHold setup view old s → HoldsGates setup shelf.geometry then records gates before
            holds safe = plain_holds setup shelf.geometry s records gates before safe (gate_begun b.number) refl tt
        by GateBegun phase = record {
          stands = still_stands view shelf disk front b behind is call away setup s stands GateBegun (slice_set shelf.gates b.block gate) (ap book_phase (sym phase));
          placed = λ honest placed. still_placed view shelf disk front b behind is call away setup s stands GateBegun (slice_set shelf.gates b.block gate) honest placed;
          queued = still_queued view shelf disk front b behind is call away setup s stands GateBegun (slice_set shelf.gates b.block gate);
          safe = λ honest safe. renamed s gate (after s opening (λ held. held) honest safe);
          leaves = λ honest safe. record { time = call.time; each = λ c left. inl ((opens s opening (λ held. held) honest safe).meanwhile c left) };
        }
          where
            opening : IsOpening s.book b.number b.block
            opening = record { placed = placed_between; begun = begun_between s front b behind phase stands.buffers }

    pub goes_unsure : Goes view setup (gate_steps b.phase b.number) old s (opening_view Unsure)
    goes_unsure = goes_gate Unsure unsure_safe

    pub goes_set : (IsHonest (view shelf.disk) → IsOpened shelf.geometry b.block now) → Goes view setup (gate_steps b.phase b.number) old s (opening_view Set)
    goes_set opened = goes_gate Set (λ then opening holds honest safe. set_safe then opening holds honest safe (opened honest))

-- ---- as the call finds it

module _ {D : Type 0} (view : D → DiskView) (shelf : ShelfView D) (disk : D) (front : List BufferState) (b : BufferState) (behind : List BufferState)
    (parts : shelf.buffers ≡ front ++ b ∷ behind) (shelf_is : IsShelf view shelf) (call : KeepsDisk view shelf.disk disk)
    (has_body : is_written b.phase ≡ true) (is_body : IsBody b.capacity (bytes_of b) (body_in b)) (block : ℕ) (at : block ≡ b.block)
    (torn : IsHonest (view shelf.disk) → TornFrom (block_place shelf.geometry block) 4096 (view shelf.disk).may_leave (meanwhile (view shelf.disk) (view disk))) where
  is_between : IsShelf view (record shelf { buffers = front ++ b ∷ behind })
  is_between = subst (λ (bs : List BufferState). IsShelf view (record shelf { buffers = bs })) parts shelf_is

  own_body : IsBody (block_capacity shelf.geometry.block_size) (bytes_of b) (body_in b)
  own_body = subst (λ (n : ℕ). IsBody n (bytes_of b) (body_in b)) (all_own (IsBufferOf shelf.geometry shelf.next_number) front b behind is_between.buffers).capacity is_body

  torn_b : IsHonest (view shelf.disk) → TornFrom (block_place shelf.geometry b.block) 4096 (view shelf.disk).may_leave (meanwhile (view shelf.disk) (view disk))
  torn_b honest = subst (λ (k : ℕ). TornFrom (block_place shelf.geometry k) 4096 (view shelf.disk).may_leave (meanwhile (view shelf.disk) (view disk))) at (torn honest)

  bytes_b : TellsTorn (block_place shelf.geometry block) 4096 (view shelf.disk) (view disk) → TellsTorn (block_place shelf.geometry b.block) 4096 (view shelf.disk) (view disk)
  bytes_b bytes = subst (λ (k : ℕ). TellsTorn (block_place shelf.geometry k) 4096 (view shelf.disk) (view disk)) at bytes

  abbrev tried_view : ShelfView D
  tried_view = record shelf { disk = disk; buffers = front ++ with_phase GateBegun b ∷ behind; gates = slice_set shelf.gates block Unsure }

  -- it is unsure first, and known then
  abbrev done_view : ShelfView D
  done_view = record shelf { disk = disk; buffers = front ++ with_phase GateBegun b ∷ behind; gates = slice_set (slice_set shelf.gates block Unsure) block Set }

  abbrev Goes_to : ShelfView D → Type 0
  Goes_to new = (setup : Setup) (s : State) → StandsFor setup shelf s → Goes view setup (gate_steps b.phase b.number) shelf s new

  goes_from : (new : ShelfView D) → ((setup : Setup) (s : State) → StandsFor setup (record shelf { buffers = front ++ b ∷ behind }) s
      → Goes view setup (gate_steps b.phase b.number) (record shelf { buffers = front ++ b ∷ behind }) s new) → Goes_to new
  goes_from new goes setup s stands =
      subst (λ (bs : List BufferState). Goes view setup (gate_steps b.phase b.number) (record shelf { buffers = bs }) s new) (sym parts)
      (goes setup s (subst (λ (bs : List BufferState). StandsFor setup (record shelf { buffers = bs }) s) parts stands))

  -- it failed
  pub tried_gate_shelf : TellsTorn (block_place shelf.geometry block) 4096 (view shelf.disk) (view disk) → IsShelf view tried_view
  tried_gate_shelf bytes = subst (λ (k : ℕ). IsShelf view (record shelf { disk = disk; buffers = front ++ with_phase GateBegun b ∷ behind; gates = slice_set shelf.gates k Unsure })) (sym at)
      (unsure_shelf view shelf disk front b behind is_between call has_body own_body torn_b (bytes_b bytes))

  pub tried_gate_goes : Goes_to tried_view
  tried_gate_goes = subst (λ (k : ℕ). Goes_to (record shelf { disk = disk; buffers = front ++ with_phase GateBegun b ∷ behind; gates = slice_set shelf.gates k Unsure })) (sym at)
      (goes_from (record shelf { disk = disk; buffers = front ++ with_phase GateBegun b ∷ behind; gates = slice_set shelf.gates b.block Unsure })
      (λ setup s stands. goes_unsure view shelf disk front b behind is_between call has_body own_body torn_b setup s stands))

  -- it went well
  module _ (opened : IsHonest (view disk) → IsOpened shelf.geometry block (view disk).may_leave) where
    opened_b : IsHonest (view disk) → IsOpened shelf.geometry b.block (view disk).may_leave
    opened_b honest = subst (λ (k : ℕ). IsOpened shelf.geometry k (view disk).may_leave) at (opened honest)

    gates_same : slice_set (slice_set shelf.gates block Unsure) block Set ≡ slice_set shelf.gates b.block Set
    gates_same = set-set shelf.gates block Unsure Set ∙ ap (λ (k : ℕ). slice_set shelf.gates k Set) at

    pub done_gate_shelf : TellsTorn (block_place shelf.geometry block) 4096 (view shelf.disk) (view disk) → IsShelf view done_view
    done_gate_shelf bytes = subst (λ (l : List Gate). IsShelf view (record shelf { disk = disk; buffers = front ++ with_phase GateBegun b ∷ behind; gates = l })) (sym gates_same)
        (set_shelf view shelf disk front b behind is_between call has_body own_body torn_b (bytes_b bytes) opened_b)

    pub done_gate_goes : (IsHonest (view shelf.disk) → IsHonest (view disk)) → Goes_to done_view
    done_gate_goes stays = subst (λ (l : List Gate). Goes_to (record shelf { disk = disk; buffers = front ++ with_phase GateBegun b ∷ behind; gates = l })) (sym gates_same)
        (goes_from (record shelf { disk = disk; buffers = front ++ with_phase GateBegun b ∷ behind; gates = slice_set shelf.gates b.block Set })
        (λ setup s stands. goes_set view shelf disk front b behind is_between call has_body own_body torn_b setup s stands (λ honest. opened_b (stays honest))))
