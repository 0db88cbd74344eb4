-- A shelf that goes by an event's steps makes the event.
use Rattle.std.proofs.Common.{◌≡◌, ℕ, ◌≤◌, true, false, ◌&&◌, List, [], ◌∷◌, refl}
use Rattle.std.specs.Prelude.{filter, flat_map, nat_le}
use Rattle.std.specs.List.{AllByRecursion}
use Rattle.law_lists.proofs.Each.{all_joined}
use Rattle.model_device.specs.Book.{Setup, Book, Buffer, Phase, Stream, filling, sealed, opening}
use Rattle.model_device.specs.Device.{State}
use Rattle.model_device.specs.Steps.{Step, sealed_stream, gate_begun, flushed_buffer, closing_failed, after_steps}
use Rattle.model_device.specs.Events.{Event, Call, Answer}
use Rattle.model_device.specs.Legal.{Allowed, flush_of, flush_between}
use Rattle.disk_model.specs.Disk.{DiskView, IsHonest}
use Rattle.sprig_tree.specs.State.{SprigState}
use Rattle.law_sprig.specs.Sparing.{is_of_book, AreOfBook}
use Rattle.law_sprig.proofs.Writing.{book_fits}
use Rattle.law_refused.proofs.Leaving.{refused_leaves}
use Rattle.block_shelf.specs.View.{ShelfView}
use Rattle.block_shelf.specs.Calls.{Goes}
use Rattle.law_steps.specs.Standing.{SprigStands, ShelfStands, StandTogether, ShelfIsSafe}
use Rattle.law_steps.specs.Events.{MakesEvent}

-- ---- what sealing, closing and flushing leave as it was

abbrev pub IsFlushing : Step → Type 0
IsFlushing (sealed_stream stream) = Unit {0}
IsFlushing (gate_begun number) = Unit {0}
IsFlushing (flushed_buffer number) = Unit {0}
IsFlushing closing_failed = Unit {0}
IsFlushing _ = ⊥

flushing_is_of_book : (step : Step) → IsFlushing step → is_of_book step ≡ true
flushing_is_of_book (sealed_stream stream) is = refl
flushing_is_of_book (gate_begun number) is = refl
flushing_is_of_book (flushed_buffer number) is = refl
flushing_is_of_book closing_failed is = refl
flushing_is_of_book step is = absurd is

flushing_are_of_book : (steps : List Step) → AllByRecursion IsFlushing steps → AreOfBook steps
flushing_are_of_book [] all = tt
flushing_are_of_book (step ∷ steps) all = (flushing_is_of_book step all.0, flushing_are_of_book steps all.1)

one_flushing : (number block : ℕ) (stream : Stream) (used : ℕ) (phase : Phase)
    → AllByRecursion IsFlushing (flush_of (record { number = number; block = block; stream = stream; used = used; phase = phase }))
one_flushing number block stream used filling = tt
one_flushing number block stream used sealed = (tt, (tt, tt))
one_flushing number block stream used opening = (tt, tt)

buffers_flushing : (bs : List Buffer) → AllByRecursion IsFlushing (flat_map flush_of bs)
buffers_flushing [] = tt
buffers_flushing (b ∷ bs) = all_joined IsFlushing (flush_of b) (flat_map flush_of bs) (one_flushing b.number b.block b.stream b.used b.phase) (buffers_flushing bs)

pub between_flushing : (first last : ℕ) (book : Book) → AllByRecursion IsFlushing (flush_between first last book)
between_flushing first last book = buffers_flushing (filter (λ b. nat_le first b.number && nat_le b.number last) book.buffers)

-- ---- a sprig and the shelf behind such steps

module _ (setup : Setup) (part : ℕ) (sprig : SprigState) (s : State) (steps : List Step) (all : AllByRecursion IsFlushing steps) where
  pub sprig_stays : SprigStands setup part sprig s → SprigStands setup part sprig (after_steps setup steps s)
  sprig_stays stands = record { fits = book_fits setup part sprig s steps (flushing_are_of_book steps all) stands.fits; times = stands.times }

  pub together_on : {D : Type 0} (new : ShelfView D) → SprigStands setup part sprig s → ShelfStands setup new (after_steps setup steps s)
      → StandTogether setup part sprig new (after_steps setup steps s)
  together_on new stands shelf = record { sprig_stands = sprig_stays stands; shelf_stands = shelf }

-- ---- the event

module _ {D : Type 0} (view : D → DiskView) (setup : Setup) (old new : ShelfView D) (s : State) (call : Call) (answer : Answer) (steps : List Step) where
  abbrev pub event_of : Event
  event_of = record { call = call; answer = answer; steps = steps; faults_before = (view old.disk).faults; faults_after = (view new.disk).faults }

  pub makes_by : (Stands : State → Type 0) → (view old.disk).faults ≤ (view new.disk).faults → Goes view setup steps old s new
      → Allowed setup false s event_of call → (IsHonest (view old.disk) → ShelfIsSafe view setup old s → Allowed setup true s event_of call)
      → Stands (after_steps setup steps s) → MakesEvent view setup call answer old s new Stands
  makes_by Stands up goes allowed allowed_told stands = record {
    event = event_of;
    is_call = refl;
    is_answer = refl;
    follows = record { begins = refl; counts = up; allowed = allowed };
    told = λ honest safe. record { begins = refl; counts = up; allowed = allowed_told honest safe };
    left = refused_leaves setup false s event_of allowed;
    counted = refl;
    stands = stands;
    placed = goes.placed;
    safe = λ honest safe. record { placed = goes.placed honest safe.placed; safe = goes.safe honest safe.safe };
    leaves = λ honest safe. goes.leaves honest safe.safe;
  }
