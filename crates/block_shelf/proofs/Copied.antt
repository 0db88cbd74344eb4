-- What the step of a copy makes of a state, be the copy a new version or one that is moved.
use Rattle.std.proofs.Common.{◌≡◌, ℕ, Bool, false, [], ◌∷◌, refl, sym, ◌∙◌, ap, subst}
use Rattle.std.proofs.lemmas.Bool.{cond-true, cond-false}
use Rattle.std.specs.Prelude.{Some}
use Rattle.disk_model.specs.Disk.{Images}
use Rattle.rec_format.specs.declared.version.Digest.{Digest}
use Rattle.rec_format.specs.declared.version.Version.{Version}
use Rattle.rec_format.specs.Places.{same_digest}
use Rattle.rec_format.specs.Versions.{version_units}
use Rattle.rec_format.proofs.Laws.{same_digest_refl, same_digest_is}
use Rattle.model_device.specs.Histories.{top_of}
use Rattle.model_device.specs.Book.{Setup, Book, defrag, placed, placing_number, has_room, first_block}
use Rattle.model_device.specs.Device.{State, entry, history}
use Rattle.model_device.specs.Steps.{wrote, moved, after_step}
use Rattle.block_format.specs.declared.geometry.Geometry.{Geometry}
use Rattle.block_format.specs.declared.geometry.Gate.{Gate}
use Rattle.block_format.specs.declared.geometry.Gate.TheVariants.{Shut}
use Rattle.law_start.proofs.HeldWrites.{written_item, wrote_history}
use Rattle.law_trail.specs.Trail.{Records}
use Rattle.law_trail.proofs.Books.{live_there}
use Rattle.law_trail.proofs.Moving.{other_history}
use Rattle.law_images.specs.Kept.{BookInOrder}
use Rattle.law_images.specs.Changes.{Appends}
use Rattle.law_images.specs.Held.{HoldsGates}
use Rattle.law_images.proofs.Appending.{wrote_book, wrote_booked, moved_is, moved_book, moved_booked, moved_entry}
use Rattle.law_images.proofs.Holding.{wrote_holds, moved_holds}
use Rattle.raid_book.specs.Raids.{SameButMarks}
use Rattle.block_shelf.specs.declared.place.Class.{Class}
use Rattle.block_shelf.specs.declared.place.Class.TheVariants.{Put, Tomb, Move}
use Rattle.block_shelf.specs.View.{ShelfView}
use Rattle.block_shelf.specs.Standing.{IsCopyIn, StandsFor, IsOfEntry, book_stream}
use Rattle.block_shelf.specs.Appends.{IsReadCopy, IsCopyOf, IsExact, MayBeCopied, copy_step, stream_of}
use Rattle.block_shelf.proofs.Readied.{live_own}

-- the state after it
abbrev pub copied : Setup → Class → Digest → Version → State → State
copied setup kind digest copy s = after_step setup (copy_step kind digest copy) s

-- a copy of a class can be appended, by which the records of the buffers become others
abbrev pub AppendsCopy : Setup → Class → Digest → Version → Book → (old new : Records) → Type 0
AppendsCopy setup kind digest copy book old new = Appends setup (book_stream (stream_of kind)) (version_units copy) digest copy book old new

-- there is room for it in the buffer of its stream
abbrev pub has_room_for : Setup → Class → Version → Book → Bool
has_room_for setup kind copy book = has_room setup (book_stream (stream_of kind)) (version_units copy) book

-- The book places the copy, which is one of the digest's entry then, and the other entries stay. What is kept over every disk is so too.
pub record IsCopied (setup : Setup) (kind : Class) (s : State) (digest : Digest) (copy : Version) : Type 0 where
  pub book : (copied setup kind digest copy s).book ≡ placed setup (book_stream (stream_of kind)) digest (version_units copy) s.book
  pub version : Version
  pub entry_here : entry (copied setup kind digest copy s) digest ≡ Some version
  pub is_copy : IsCopyIn (stream_of kind) version copy
  pub units : version_units copy ≡ version_units version
  pub exact : IsExact kind s digest copy → version ≡ copy
  pub entry_there : (e : Digest) → same_digest e digest ≡ false → entry (copied setup kind digest copy s) e ≡ entry s e
  pub marks : SameButMarks s.raid (copied setup kind digest copy s).raid
  pub order : (old new : Records) → BookInOrder setup s old → AppendsCopy setup kind digest copy s.book old new → BookInOrder setup (copied setup kind digest copy s) new

-- ---- a new version

module _ (setup : Setup) (s : State) (digest : Digest) (v : Version) where
  wrote_here : entry (after_step setup (wrote digest v) s) digest ≡ Some v
  wrote_here = ap top_of (wrote_history setup s digest v digest ∙ cond-true (same_digest digest digest) (written_item setup s v ∷ history s digest) (history s digest) (same_digest_refl digest))

  wrote_there : (e : Digest) → same_digest e digest ≡ false → entry (after_step setup (wrote digest v) s) e ≡ entry s e
  wrote_there e other = ap top_of (wrote_history setup s digest v e ∙ cond-false (same_digest e digest) (written_item setup s v ∷ history s e) (history s e) other)

  wrote_marks : SameButMarks s.raid (after_step setup (wrote digest v) s).raid
  unfolding after_step
  wrote_marks = refl

  put_copied : IsCopied setup Put s digest v
  put_copied = record {
    book = wrote_book setup s (λ n. []) (λ n. []) digest v;
    version = v;
    entry_here = wrote_here;
    is_copy = refl;
    units = refl;
    exact = λ exact. refl;
    entry_there = wrote_there;
    marks = wrote_marks;
    order = λ old new order appends. wrote_booked setup s old new digest v order appends;
  }

  tomb_copied : IsCopied setup Tomb s digest v
  tomb_copied = record {
    book = wrote_book setup s (λ n. []) (λ n. []) digest v;
    version = v;
    entry_here = wrote_here;
    is_copy = refl;
    units = refl;
    exact = λ exact. refl;
    entry_there = wrote_there;
    marks = wrote_marks;
    order = λ old new order appends. wrote_booked setup s old new digest v order appends;
  }

-- ---- a version that is moved

module _ {D : Type 0} (setup : Setup) (shelf : ShelfView D) (s : State) (stands : StandsFor setup shelf s) (digest : Digest) (v : Version) (is : IsReadCopy s digest v) where
  same_version : (v w : Version) → Some v ≡ Some w → v ≡ w
  same_version v w e = cc

  -- the live copy takes as many units
  live_units : is.live.units ≡ version_units v
  live_units =
      let of_entry : IsOfEntry shelf.geometry shelf.buffers s is.live = stands.entries is.live (live_there digest s.book.live is.live is.is_live) in
      let name : digest ≡ is.live.digest = same_digest_is digest is.live.digest (live_own digest s.book.live is.live is.is_live) in
      let one = same_version of_entry.version is.version (sym of_entry.entry_is ∙ ap (entry s) (sym name) ∙ is.entry_is) in
      of_entry.lies.units ∙ ap version_units one ∙ sym is.read.units

  moved_there : (e : Digest) → same_digest e digest ≡ false → entry (after_step setup (moved digest) s) e ≡ entry s e
  moved_there e other =
      ap (λ (t : State). entry t e) (moved_is setup s (λ n. []) (λ n. []) digest is.live is.is_live)
      ∙ ap top_of (other_history digest e (placing_number setup defrag is.live.units s.book) s.log other)

  as_live : (old new : Records) → AppendsCopy setup Move digest v s.book old new → Appends setup defrag is.live.units digest v s.book old new
  as_live old new appends = subst (λ (n : ℕ). Appends setup defrag n digest v s.book old new) (sym live_units) appends

  move_copied : IsCopied setup Move s digest v
  move_copied = record {
    book = moved_book setup s (λ n. []) (λ n. []) digest is.live is.is_live ∙ ap (λ (n : ℕ). placed setup defrag digest n s.book) live_units;
    version = is.version;
    entry_here = moved_entry setup s (λ n. []) (λ n. []) digest is.live is.is_live is.version is.entry_is;
    is_copy = is.read;
    units = is.read.units;
    exact = λ exact. same_version is.version v (sym is.entry_is ∙ exact);
    entry_there = moved_there;
    marks = subst (SameButMarks s.raid) (sym (ap (λ (t : State). t.raid) (moved_is setup s (λ n. []) (λ n. []) digest is.live is.is_live))) refl;
    order = λ old new order appends. moved_booked setup s old new digest is.live is.is_live v order (as_live old new appends);
  }

  pub move_holds : (g : Geometry) (old new : Records) (gates : ℕ → Gate) (images : Images) → HoldsGates setup g s old gates images → entry s digest ≡ Some v
      → AppendsCopy setup Move digest v s.book old new
      → (has_room_for setup Move v s.book ≡ false → gates (first_block s.book.free) ≡ Shut) → HoldsGates setup g (copied setup Move digest v s) new gates images
  move_holds g old new gates images holds top appends shut =
      moved_holds setup g s old gates images holds new digest is.live v is.is_live top (as_live old new appends)
      (subst (λ (n : ℕ). has_room setup defrag n s.book ≡ false → gates (first_block s.book.free) ≡ Shut) (sym live_units) shut)

-- ---- of each class

pub is_copied : {D : Type 0} (setup : Setup) (shelf : ShelfView D) (s : State) → StandsFor setup shelf s → (kind : Class) (digest : Digest) (v : Version) → IsCopyOf kind s digest v
    → IsCopied setup kind s digest v
is_copied setup shelf s stands Put digest v is = put_copied setup s digest v
is_copied setup shelf s stands Tomb digest v is = tomb_copied setup s digest v
is_copied setup shelf s stands Move digest v is = move_copied setup shelf s stands digest v is

-- where the copy may be made what is held is so too
pub copied_holds : {D : Type 0} (setup : Setup) (shelf : ShelfView D) (s : State) → StandsFor setup shelf s → (kind : Class) (digest : Digest) (v : Version) → IsCopyOf kind s digest v
    → (g : Geometry) (old new : Records) (gates : ℕ → Gate) (images : Images) → HoldsGates setup g s old gates images → MayBeCopied setup kind s digest v
    → AppendsCopy setup kind digest v s.book old new
    → (has_room_for setup kind v s.book ≡ false → gates (first_block s.book.free) ≡ Shut) → HoldsGates setup g (copied setup kind digest v s) new gates images
copied_holds setup shelf s stands Put digest v is g old new gates images holds may appends shut = wrote_holds setup g s old gates images holds new digest v may appends shut
copied_holds setup shelf s stands Tomb digest v is g old new gates images holds may appends shut = wrote_holds setup g s old gates images holds new digest v may appends shut
copied_holds setup shelf s stands Move digest v is g old new gates images holds may appends shut = move_holds setup shelf s stands digest v is g old new gates images holds may appends shut
