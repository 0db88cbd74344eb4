-- A raid clears the cover of an entry: the shelf is as it was, and stands for the state behind it.
use Rattle.std.proofs.Common.{◌≡◌, Bool, true, false, [], ◌∷◌, cond, inl, refl, sym, ◌∙◌, subst}
use Rattle.disk_model.specs.Disk.{DiskView, IsDisk, IsHonest}
use Rattle.disk_model.specs.Runs.{OneOf}
use Rattle.rec_format.specs.declared.version.Digest.{Digest}
use Rattle.rec_format.specs.Places.{same_digest}
use Rattle.model_device.specs.Histories.{cleared, top_of}
use Rattle.model_device.specs.Book.{Setup}
use Rattle.model_device.specs.Device.{State, entry, history}
use Rattle.model_device.specs.Steps.{uncovered, with_item, after_step, states_through}
use Rattle.law_start.specs.Surviving.{Survives}
use Rattle.law_facts.specs.Facts.{NoneOlder}
use Rattle.law_images.specs.Kept.{BookInOrder}
use Rattle.law_images.proofs.Holding.{plain_holds}
use Rattle.law_images.proofs.Stepping.{plain_book}
use Rattle.raid_book.proofs.Marks.{marks_aside}
use Rattle.block_shelf.specs.View.{ShelfView, records_of, gate_at}
use Rattle.block_shelf.specs.Standing.{StandsFor, BooksStand, IsPlaced, ImagesHold}
use Rattle.block_shelf.specs.Calls.{Goes}
use Rattle.block_shelf.specs.Scans.{possible_copies}
use Rattle.block_shelf.proofs.Going.{stays}

module _ {D : Type 0} (view : D → DiskView) (setup : Setup) (shelf : ShelfView D) (s : State) (digest : Digest) where
  abbrev after : State
  after = with_item digest cleared s.book s

  is_after : after_step setup (uncovered digest) s ≡ after
  unfolding after_step
  is_after = refl

  same_entry : (e : Digest) → entry after e ≡ entry s e
  same_entry e = by (same_digest e digest)
    where
      by : (b : Bool) → top_of (cond b (cleared ∷ history s e) (history s e)) ≡ entry s e
      by true = refl
      by false = refl

  stands_after : StandsFor setup shelf s → StandsFor setup shelf after
  stands_after stands = record {
    buffers = stands.buffers;
    free = stands.free;
    next = stands.next;
    holds = stands.holds;
    lives = stands.lives;
    listed = stands.listed;
    order = subst (λ (t : State). BookInOrder setup t (records_of shelf.buffers)) is_after (plain_book setup s (records_of shelf.buffers) stands.order (uncovered digest) refl);
    entries = λ l there. let was = stands.entries l there in record { version = was.version; entry_is = same_entry l.digest ∙ was.entry_is; lies = was.lies };
    kept = λ e l v is_live is_entry. stands.kept e l v is_live (sym (same_entry e) ∙ is_entry);
  }

  books_after : BooksStand setup shelf s → BooksStand setup shelf after
  books_after was = record { same = was.same; all = was.all; raid = marks_aside setup shelf.raid s.raid after.raid refl was.raid }

  placed_after : IsPlaced view shelf s → IsPlaced view shelf after
  placed_after placed = record {
    buffered = λ e l v is_live is_entry. placed.buffered e l v is_live (sym (same_entry e) ∙ is_entry);
    there = λ e l v is_live is_entry. placed.there e l v is_live (sym (same_entry e) ∙ is_entry);
    kept = λ e l v is_live is_entry. placed.kept e l v is_live (sym (same_entry e) ∙ is_entry);
  }

  -- No possible copy of the digest may be older than its entry.
  pub goes_uncovered : IsDisk (view shelf.disk) → StandsFor setup shelf s → (IsHonest (view shelf.disk) → ImagesHold setup view shelf s → NoneOlder s (possible_copies view shelf s) digest)
      → Goes view setup (uncovered digest ∷ []) shelf s shelf
  goes_uncovered is_disk stands none = record {
    stands = subst (StandsFor setup shelf) (sym is_after) (stands_after stands);
    queued = λ was. subst (BooksStand setup shelf) (sym is_after) (books_after was);
    placed = λ honest placed. subst (IsPlaced view shelf) (sym is_after) (placed_after placed);
    safe = λ honest safe. plain_holds setup shelf.geometry s (records_of shelf.buffers) (gate_at shelf.gates) (view shelf.disk).may_leave safe (uncovered digest) refl (none honest safe);
    leaves = λ honest safe. stays view setup shelf s is_disk (OneOf (Survives setup) (states_through setup (uncovered digest ∷ []) s)) (λ c h. inl h) safe;
  }
