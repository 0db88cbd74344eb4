-- Memory is taken, and nothing else has changed: the state stays, and so do the images.
use Rattle.std.proofs.Common.{◌≡◌, inl, [], ◌∷◌, refl, sym, ◌∙◌, ap, subst, arith}
use Rattle.std.specs.Prelude.{Option, Some, None, IsTrue}
use Rattle.disk_model.specs.Disk.{DiskView, IsDisk}
use Rattle.disk_model.specs.Runs.{OneOf, Leaves, leaves_none}
use Rattle.model_device.specs.Book.{Setup}
use Rattle.model_device.specs.Device.{State}
use Rattle.law_start.specs.Surviving.{Survives}
use Rattle.hold_book.specs.Holds.{Holds, has_hold}
use Rattle.law_images.proofs.Held.{held_survives}
use Rattle.block_shelf.specs.declared.place.Place.{Place}
use Rattle.block_shelf.specs.View.{ShelfView, IsShelf, gate_at, records_of}
use Rattle.block_shelf.specs.Disks.{IsLater}
use Rattle.block_shelf.specs.Standing.{StandsFor, BooksStand, IsPlaced, ImagesHold}
use Rattle.block_shelf.specs.Calls.{Goes, IsPriorIn}
use Rattle.block_shelf.specs.Changes.{SameButRoom}
use Rattle.block_shelf.proofs.Rooms.{roomed_shelf}

module _ {D : Type 0} (old new : ShelfView D) (same : SameButRoom old new) where
  pub room_shelf : (view : D → DiskView) → IsShelf view old → IsShelf view new
  room_shelf view is = subst (IsShelf view) (sym same.rest) (roomed_shelf view old new.holds is same.holds)

  pub room_stands : (setup : Setup) (s : State) → StandsFor setup old s → StandsFor setup new s
  room_stands setup s stands = subst (λ (x : ShelfView D). StandsFor setup x s) (sym same.rest) (record {
    buffers = stands.buffers;
    free = stands.free;
    next = stands.next;
    holds = record {
      known = λ n k there. subst (λ (h : Holds). IsTrue (has_hold h n k)) (sym same.holds) (stands.holds.known n k there);
      there = λ n k held. stands.holds.there n k (subst (λ (h : Holds). IsTrue (has_hold h n k)) same.holds held);
    };
    lives = stands.lives;
    listed = stands.listed;
    order = stands.order;
    entries = stands.entries;
    kept = stands.kept;
  })

  pub room_placed : (view : D → DiskView) (s : State) → IsPlaced view old s → IsPlaced view new s
  room_placed view s placed = subst (λ (x : ShelfView D). IsPlaced view x s) (sym same.rest) (record { buffered = placed.buffered; there = placed.there; kept = placed.kept })

  pub room_queued : (setup : Setup) (s : State) → BooksStand setup old s → BooksStand setup new s
  room_queued setup s queued = subst (λ (x : ShelfView D). BooksStand setup x s) (sym same.rest) (record { same = queued.same; all = queued.all; raid = queued.raid })

  pub room_safe : (setup : Setup) (view : D → DiskView) (s : State) → ImagesHold setup view old s → ImagesHold setup view new s
  room_safe setup view s safe = subst (λ (x : ShelfView D). ImagesHold setup view x s) (sym same.rest) safe

  pub room_disk : new.disk ≡ old.disk
  room_disk = ap (λ (x : ShelfView D). x.disk) same.rest

  pub room_prior : (prior : Option Place) → IsPriorIn old prior → IsPriorIn new prior
  room_prior prior there = subst (λ (x : ShelfView D). IsPriorIn x prior) (sym same.rest) (over prior there)
    where
      over : (p : Option Place) → IsPriorIn old p → IsPriorIn (record old { holds = new.holds }) p
      over None there = tt
      over (Some p) there = there

pub room_none : {D : Type 0} (shelf : ShelfView D) → SameButRoom shelf shelf
room_none shelf = record { rest = refl; holds = refl }

pub room_then : {D : Type 0} (old mid new : ShelfView D) → SameButRoom old mid → SameButRoom mid new → SameButRoom old new
room_then {D} old mid new first then = record {
  rest = then.rest ∙ ap (λ (x : ShelfView D). record x { holds = new.holds }) first.rest;
  holds = then.holds ∙ first.holds;
}

-- ---- no step

pub later_none : (v : DiskView) → IsDisk v → IsLater v v
later_none v is = record { time = (leaves_none (λ c. Unit {0}) v is (λ c image. tt)).time; count = omega arith; size = refl }

module _ {D : Type 0} (view : D → DiskView) (is_disk : (disk : D) → IsDisk (view disk)) (setup : Setup) (s : State) where
  pub goes_nowhere : (shelf : ShelfView D) → StandsFor setup shelf s → Goes view setup [] shelf s shelf
  goes_nowhere shelf stands = record {
    stands = stands;
    queued = λ queued. queued;
    placed = λ honest placed. placed;
    safe = λ honest safe. safe;
    leaves = λ honest safe. leaves_none (OneOf (Survives setup) (s ∷ [])) (view shelf.disk) (is_disk shelf.disk)
        (λ c image. inl (held_survives setup shelf.geometry s (records_of shelf.buffers) (gate_at shelf.gates) (view shelf.disk).may_leave safe.held c image));
  }

  pub goes_room : (old new : ShelfView D) → SameButRoom old new → StandsFor setup old s → Goes view setup [] old s new
  goes_room old new same stands = record {
    stands = room_stands old new same setup s stands;
    queued = λ queued. room_queued old new same setup s queued;
    placed = λ honest placed. room_placed old new same view s placed;
    safe = λ honest safe. room_safe old new same setup view s safe;
    leaves = λ honest safe. subst (λ (disk : D). Leaves (OneOf (Survives setup) (s ∷ [])) (view old.disk) (view disk)) (sym (room_disk old new same)) ((goes_nowhere old stands).leaves honest safe);
  }
