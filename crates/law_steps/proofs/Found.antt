-- Where the copy of the entry lies that a look-up in the sprig of its part finds.
use Rattle.std.proofs.Common.{◌≡◌, ℕ, ◌≤◌, Bool, true, false, cond, List, [], ◌∷◌, refl, sym, ◌∙◌, ap, subst}
use Rattle.std.specs.Prelude.{Option, Some, None, option_map, IsSomeAnd}
use Rattle.rec_format.specs.declared.version.Digest.{Digest}
use Rattle.rec_format.specs.declared.entry.Entry.{Entry}
use Rattle.rec_format.specs.Places.{same_digest}
use Rattle.rec_format.proofs.Laws.{same_digest_is}
use Rattle.model_device.specs.Book.{Setup, live_of, live_of_entry}
use Rattle.model_device.specs.Device.{State, part_of}
use Rattle.disk_model.specs.Disk.{DiskView}
use Rattle.law_trail.proofs.Books.{live_there}
use Rattle.block_shelf.specs.Lives.{LiveCopy, copies_in}
use Rattle.sprig_tree.specs.Entries.{IsInDigestOrder, entry_of}
use Rattle.sprig_tree.specs.State.{SprigState}
use Rattle.law_sprig.specs.Fits.{HasMarks}
use Rattle.law_sprig.proofs.Looking.{place_is}
use Rattle.law_sprig.proofs.Alike.{Says}
use Rattle.block_shelf.specs.View.{ShelfView, IsShelf}
use Rattle.block_shelf.specs.Standing.{IsOfEntry}
use Rattle.block_shelf.specs.Calls.{IsPriorIn, copy_live, prior_live}
use Rattle.block_shelf.proofs.Lives.{copy_found}
use Rattle.std.specs.List.{AllByRecursion}
use Rattle.law_steps.specs.Sprigs.{SameSprig, place_of}
use Rattle.law_steps.specs.Standing.{SprigStands, StandTogether}

pub entry_named : (digest : Digest) (es : List Entry) (e : Entry) → entry_of digest es ≡ Some e → digest ≡ e.digest
entry_named digest [] e is = absurd cc
entry_named digest (x ∷ es) e is = by (same_digest digest x.digest) refl is (entry_named digest es e)
  where
    by : (b : Bool) → same_digest digest x.digest ≡ b → cond b (Some x) (entry_of digest es) ≡ Some e → (entry_of digest es ≡ Some e → digest ≡ e.digest) → digest ≡ e.digest
    by true same here rest = let one : x ≡ e = cc in same_digest_is digest x.digest same ∙ ap (λ (y : Entry). y.digest) one
    by false other more rest = rest more

-- a sprig stands for what one with the same entries and high time stands for
pub same_stands : (setup : Setup) (part : ℕ) (old new : SprigState) (s : State) → SameSprig old new → SprigStands setup part old s → SprigStands setup part new s
same_stands setup part old new s same stands = record {
  fits = record {
    exists = stands.fits.exists;
    entries = record {
      order = subst IsInDigestOrder (sym same.entries) stands.fits.entries.order;
      shown = λ d. subst (λ (es : List Entry). Says setup part s d (entry_of d es)) (sym same.entries) (stands.fits.entries.shown d);
      high = same.high ∙ stands.fits.entries.high;
    };
    marks = subst (λ (es : List Entry). HasMarks setup part es s.raid) (sym same.entries) stands.fits.marks;
  };
  times = subst (AllByRecursion (λ e. 1 ≤ e.stamp.lut)) (sym same.entries) stands.times;
}

-- ---- where its copy lies

module _ {D : Type 0} (setup : Setup) (digest : Digest) (sprig : SprigState) (shelf : ShelfView D) (s : State) (stand : StandTogether setup (part_of setup digest) sprig shelf s) where
  abbrev found : Option Entry
  found = entry_of digest sprig.entries

  places_same : live_of digest s.book.live ≡ option_map live_of_entry found
  places_same = place_is setup (part_of setup digest) sprig s stand.sprig_stands.fits.entries digest refl

  -- it is the copy that is live for the digest
  pub prior_is : live_of digest s.book.live ≡ prior_live digest (option_map place_of found)
  prior_is = places_same ∙ by found refl
    where
      by : (o : Option Entry) → found ≡ o → option_map live_of_entry o ≡ prior_live digest (option_map place_of o)
      by None is = refl
      by (Some e) is = ap (λ d. Some (copy_live d (place_of e))) (sym (entry_named digest sprig.entries e is))

  module _ (e : Entry) (is : found ≡ Some e) where
    pub live_found : live_of digest s.book.live ≡ Some (live_of_entry e)
    live_found = places_same ∙ ap (option_map live_of_entry) is

    pub lies_found : IsOfEntry shelf.geometry shelf.buffers s (live_of_entry e)
    lies_found = stand.shelf_stands.stands.entries (live_of_entry e) (live_there digest s.book.live (live_of_entry e) live_found)

  pub prior_stands : (view : D → DiskView) → IsShelf view shelf → IsPriorIn shelf (option_map place_of found)
  prior_stands view whole = by found refl
    where
      by : (o : Option Entry) → found ≡ o → IsPriorIn shelf (option_map place_of o)
      by None is = tt
      by (Some e) is =
          let copy : LiveCopy = record { digest = e.digest; unit = e.unit; units = e.units } in
          let there = stand.shelf_stands.stands.lives.known e.block copy (live_there digest s.book.live (live_of_entry e) (live_found e is)) in
          let at = copy_found (copies_in e.block shelf.lives) copy (whole.each e.block).own there in
          ((lies_found e is).lies.block, subst (λ (o : Option LiveCopy). IsSomeAnd o (λ c. c.units ≡ e.units)) (sym at) refl)
