-- A turn of a raid changes nothing of a shelf but the book of the raid.
use Rattle.std.proofs.Common.{◌≡◌, ℕ, true, List, [], ◌∷◌, inl, ⊎_elim, refl, sym, ap, subst}
use Rattle.disk_model.specs.Disk.{DiskView, IsDisk, IsHonest}
use Rattle.rec_format.specs.declared.version.Digest.{Digest}
use Rattle.rec_format.specs.declared.version.Stamp.{Stamp}
use Rattle.disk_model.specs.Runs.{OneOf, leaves_more}
use Rattle.model_device.specs.Book.{Setup}
use Rattle.model_device.specs.Device.{State, RaidState, scan_turn}
use Rattle.model_device.specs.Steps.{Step, raid_begun, raid_given_up, scanned_block, raised, raid_at_begin, raid_at_end, after_step, states_through}
use Rattle.law_start.specs.Surviving.{Survives}
use Rattle.law_facts.specs.Asking.{MayTake, FindsOlder}
use Rattle.law_images.specs.Changes.{is_plain}
use Rattle.law_images.specs.Held.{loosened}
use Rattle.law_images.specs.Kept.{BookInOrder, possible_in}
use Rattle.law_images.proofs.Holding.{plain_holds}
use Rattle.law_images.proofs.Stepping.{plain_book}
use Rattle.raid_book.specs.Books.{BookState, begun, given_up}
use Rattle.raid_book.specs.Raids.{RaidStands}
use Rattle.block_shelf.specs.View.{ShelfView, IsShelf, IsRaidOf, records_of, gate_at}
use Rattle.block_shelf.specs.Standing.{StandsFor, BooksStand, IsPlaced, ImagesHold}
use Rattle.block_shelf.specs.Calls.{Goes}
use Rattle.block_shelf.specs.Scans.{possible_copies}
use Rattle.block_shelf.proofs.Going.{stays}

-- the book may be another of the same parts and blocks
pub raided_shelf : {D : Type 0} (view : D → DiskView) (shelf : ShelfView D) (book : BookState) → IsShelf view shelf → IsRaidOf shelf.geometry shelf.limits book
    → IsShelf view (record shelf { raid = book })
raided_shelf view shelf book is of = record {
  geometry = is.geometry;
  limits = is.limits;
  room = is.room;
  number = is.number;
  buffers = is.buffers;
  order = is.order;
  free = is.free;
  apart = is.apart;
  gates = is.gates;
  lives = is.lives;
  each = is.each;
  held = is.held;
  vacant = is.vacant;
  unheld = is.unheld;
  packed = is.packed;
  waits = is.waits;
  ready = is.ready;
  stand = is.stand;
  bodies = is.bodies;
  queue = is.queue;
  cache = is.cache;
  raid = of;
}

-- a step that changes the raid of a state alone
module _ {D : Type 0} (view : D → DiskView) (setup : Setup) (shelf : ShelfView D) (book : BookState) (s : State) (raid : RaidState) (step : Step)
    (only : after_step setup step s ≡ record s { raid = raid }) (plain : is_plain step ≡ true) where
  abbrev new : ShelfView D
  new = record shelf { raid = book }

  abbrev then : State
  then = record s { raid = raid }

  pub stands_then : StandsFor setup shelf s → StandsFor setup new then
  stands_then stands = record {
    buffers = stands.buffers;
    free = stands.free;
    next = stands.next;
    holds = stands.holds;
    lives = stands.lives;
    listed = stands.listed;
    order = subst (λ (t : State). BookInOrder setup t (records_of shelf.buffers)) only (plain_book setup s (records_of shelf.buffers) stands.order step plain);
    entries = λ l there. let was = stands.entries l there in record { version = was.version; entry_is = was.entry_is; lies = was.lies };
    kept = λ e l v is_live is_entry. stands.kept e l v is_live is_entry;
  }

  pub books_then : RaidStands setup book raid → BooksStand setup shelf s → BooksStand setup new then
  books_then stands was = record { same = was.same; all = was.all; raid = stands }

  pub placed_then : IsPlaced view shelf s → IsPlaced view new then
  placed_then placed = record {
    buffered = λ e l v is_live is_entry. placed.buffered e l v is_live is_entry;
    there = λ e l v is_live is_entry. placed.there e l v is_live is_entry;
    kept = λ e l v is_live is_entry. placed.kept e l v is_live is_entry;
  }

  -- what the step asks of the copies that an image may have
  abbrev pub MayTurn : Type 0
  MayTurn = MayTake setup s (possible_in shelf.geometry s.book (records_of shelf.buffers) (loosened shelf.geometry (gate_at shelf.gates) (view shelf.disk).may_leave)) step

  pub goes_by_turn : IsDisk (view shelf.disk) → (IsHonest (view shelf.disk) → ImagesHold setup view shelf s → MayTurn) → (BooksStand setup shelf s → RaidStands setup book raid)
      → StandsFor setup shelf s → Goes view setup (step ∷ []) shelf s new
  goes_by_turn is_disk may raid_is stands = record {
    stands = subst (StandsFor setup new) (sym only) (stands_then stands);
    queued = λ was. subst (BooksStand setup new) (sym only) (books_then (raid_is was) was);
    placed = λ honest placed. subst (IsPlaced view new) (sym only) (placed_then placed);
    safe = λ honest safe. plain_holds setup shelf.geometry s (records_of shelf.buffers) (gate_at shelf.gates) (view shelf.disk).may_leave safe step plain (may honest safe);
    leaves = λ honest safe. stays view setup shelf s is_disk (OneOf (Survives setup) (states_through setup (step ∷ []) s)) (λ c h. inl h) safe;
  }

-- ---- each turn but a scan

module _ {D : Type 0} (view : D → DiskView) (setup : Setup) (shelf : ShelfView D) (s : State) (is_disk : IsDisk (view shelf.disk)) (stands : StandsFor setup shelf s) where
  -- a raid begins
  pub goes_begun : Goes view setup (raid_begun ∷ []) shelf s (record shelf { raid = begun shelf.raid })
  unfolding after_step
  goes_begun = goes_by_turn view setup shelf (begun shelf.raid) s (raid_at_begin s.raid) raid_begun refl refl is_disk (λ honest safe. tt) begins stands
    where
      begins : BooksStand setup shelf s → RaidStands setup (begun shelf.raid) (raid_at_begin s.raid)
      begins was = record {
        turns = record { number = ap raised was.raid.turns.number; next = refl; scanned = refl; parts = was.raid.turns.parts; blocks = was.raid.turns.blocks };
        copies = λ part. refl;
      }

  -- or is given up
  pub goes_given_up : Goes view setup (raid_given_up ∷ []) shelf s (record shelf { raid = given_up shelf.raid })
  unfolding after_step
  goes_given_up = goes_by_turn view setup shelf (given_up shelf.raid) s (raid_at_end s.raid) raid_given_up refl refl is_disk (λ honest safe. tt) ends stands
    where
      ends : BooksStand setup shelf s → RaidStands setup (given_up shelf.raid) (raid_at_end s.raid)
      ends was = record {
        turns = record { number = ap raised was.raid.turns.number; next = refl; scanned = refl; parts = was.raid.turns.parts; blocks = was.raid.turns.blocks };
        copies = λ part. refl;
      }

-- ---- a scan

-- What was found in a block goes to the book, behind what the reading of the block makes of the shelf.
module _ {D : Type 0} (view : D → DiskView) (setup : Setup) (old mid : ShelfView D) (s : State) (went : Goes view setup [] old s mid) (block : ℕ) (copies : List (Digest × Stamp))
    (book : BookState) where
  pub goes_scanned : s.raid.next ≡ scan_turn block → RaidStands setup book (after_step setup (scanned_block copies) s).raid
      → (IsHonest (view old.disk) → ImagesHold setup view old s → FindsOlder s (possible_copies view mid s) block copies)
      → Goes view setup (scanned_block copies ∷ []) old s (record mid { raid = book })
  unfolding after_step
  goes_scanned turn stands finds =
      let raid : RaidState = (after_step setup (scanned_block copies) s).raid in
      record {
        stands = stands_then view setup mid book s raid (scanned_block copies) refl refl went.stands;
        queued = λ was. books_then view setup mid book s raid (scanned_block copies) refl refl stands (went.queued was);
        placed = λ honest placed. placed_then view setup mid book s raid (scanned_block copies) refl refl (went.placed honest placed);
        safe = λ honest safe. plain_holds setup mid.geometry s (records_of mid.buffers) (gate_at mid.gates) (view mid.disk).may_leave (went.safe honest safe) (scanned_block copies) refl
            (block, turn, finds honest safe);
        leaves = λ honest safe. leaves_more (λ c h. ⊎_elim (λ (survives : Survives setup s c). inl survives) (λ (none : ⊥). absurd none) h) (went.leaves honest safe);
      }
