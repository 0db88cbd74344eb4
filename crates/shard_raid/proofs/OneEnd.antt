-- What the end of a raid makes of one entry of its part, from a state for which sprig and shelf stood.
use Rattle.std.proofs.Common.{◌≡◌, ℕ, ◌<◌, ◌≤◌, max, true, not, List, [], ◌∷◌, Some, sym, ◌∙◌, ap, subst, arith}
use Rattle.std.specs.Prelude.{◌==◌, Option, Contains, option_map}
use Rattle.std.specs.List.{AllByRecursion}
use Rattle.std.proofs.lemmas.Bool.{ne_eqb}
use Rattle.std.proofs.lemmas.Map.Views.{Contains-from_any}
use Rattle.law_lists.proofs.Members.{filter_from}
use Rattle.disk_model.specs.Disk.{DiskView, IsDisk}
use Rattle.rec_format.specs.declared.version.Digest.{Digest}
use Rattle.rec_format.specs.declared.entry.Entry.{Entry}
use Rattle.rec_format.proofs.Laws.{same_digest_is}
use Rattle.model_device.specs.Book.{Setup, live_of_entry}
use Rattle.model_device.specs.Device.{State, drop_turn, part_of}
use Rattle.model_device.specs.Steps.{Step, rid_of, uncovered, after_steps}
use Rattle.law_facts.specs.Facts.{NoneOlder}
use Rattle.law_facts.proofs.Raids.{none_older}
use Rattle.law_trail.proofs.Books.{live_there}
use Rattle.raid_book.specs.Turns.{turn_of}
use Rattle.raid_book.specs.Raids.{RaidStands}
use Rattle.sprig_tree.specs.Entries.{entry_of, with_replaced}
use Rattle.sprig_tree.specs.State.{SprigState}
use Rattle.law_sprig.specs.Fits.{IsShown, is_running, has_mark, marks_of, FitsPart}
use Rattle.law_sprig.specs.Tests.{has_digest, passes_test}
use Rattle.law_sprig.specs.Becoming.{Loses, without_cover}
use Rattle.law_sprig.proofs.Ordered.{among_entries}
use Rattle.law_sprig.proofs.Edits.{each_replaced, each_without}
use Rattle.law_sprig.proofs.Taking.{found_shown, at_entry, rid_fits, uncovered_fits}
use Rattle.block_shelf.specs.View.{ShelfView, IsShelf, SameShape}
use Rattle.block_shelf.specs.Standing.{ImagesHold}
use Rattle.block_shelf.specs.Calls.{Goes, IsPriorIn, copy_live}
use Rattle.block_shelf.specs.Scans.{possible_copies}
use Rattle.block_shelf.proofs.FlushStages.{setup_in}
use Rattle.block_shelf.proofs.Going.{goes_none}
use Rattle.block_shelf.proofs.Uncovering.{goes_uncovered}
use Rattle.law_steps.specs.Sprigs.{place_of}
use Rattle.law_steps.specs.Standing.{StandTogether}
use Rattle.law_steps.proofs.Found.{prior_stands}
use Rattle.shard_raid.specs.Marks.{is_marked_by}
use Rattle.shard_raid.specs.Ends.{StandAtEnd, GoTogether}
use Rattle.shard_raid.proofs.Comparing.{mark_is}

-- behind steps that leave the shape and the book they stand at the end of the part again
pub stand_on : {D : Type 0} (view : D → DiskView) (setup : Setup) (part : ℕ) (steps : List Step) (before : SprigState) (old : ShelfView D) (s : State) (sprig : SprigState)
    (new : ShelfView D) → SameShape old new
    → StandAtEnd setup part before old s → GoTogether view setup part steps old s sprig new → StandAtEnd setup part sprig new (after_steps setup steps s)
stand_on view setup part steps before old s sprig new same stand go = record {
  turn = ap (λ b. b.next) same.raid ∙ stand.turn;
  is_setup = setup_in setup old new same stand.is_setup;
  together = go.together;
}

module _ {D : Type 0} (setup : Setup) (part : ℕ) (sprig : SprigState) (shelf : ShelfView D) (s : State) (stand : StandAtEnd setup part sprig shelf s) where
  books : RaidStands setup shelf.raid s.raid
  books = stand.together.shelf_stands.queue.raid

  fits : FitsPart setup part sprig s
  fits = stand.together.sprig_stands.fits

  pub drop_comes : s.raid.next ≡ drop_turn part
  drop_comes = sym books.turns.next ∙ ap turn_of stand.turn

  runs : is_running s.raid.next ≡ not (s.raid.number == 0)
  runs = ap is_running drop_comes ∙ sym (ap not (ne_eqb s.raid.number 0 (λ zero. absurd (omega (arith, zero, fits.marks.begun (ap is_running drop_comes))))))

  -- the marks that count are those with the number of the shelf's raid
  pub marks_are : (e : Entry) → has_mark s.raid e ≡ is_marked_by shelf.raid.number e
  marks_are e = mark_is s.raid.number e s.raid.next runs ∙ ap (λ (n : ℕ). is_marked_by n e) (sym books.turns.number)

  -- no possible copy is older than a marked entry
  pub none_older_than : (view : D → DiskView) (d : Digest) (e : Entry) → entry_of d sprig.entries ≡ Some e → is_marked_by shelf.raid.number e ≡ true → ImagesHold setup view shelf s
      → NoneOlder s (possible_copies view shelf s) d
  none_older_than view d e found marked safe = none_older setup s (possible_copies view shelf s) d part drop_comes there safe.held.facts
    where
      among : has_digest (marks_of setup part s.raid) d ≡ true
      among =
          ap (λ (l : List Digest). has_digest l d) fits.marks.marked ∙ among_entries (has_mark s.raid) d sprig.entries fits.entries.order
          ∙ ap (passes_test (has_mark s.raid)) found ∙ marks_are e ∙ marked

      there : Contains s.raid.marked d
      there = (filter_from (λ x. part_of setup x == part) s.raid.marked d (Contains-from_any same_digest_is d (marks_of setup part s.raid) among)).0

  -- it stays as it is
  pub go_nowhere : (view : D → DiskView) → IsDisk (view shelf.disk) → GoTogether view setup part [] shelf s sprig shelf
  go_nowhere view is_disk = record { goes = goes_none view setup shelf s is_disk stand.together.shelf_stands.stands; together = stand.together }

  module _ (e : Entry) (found : entry_of e.digest sprig.entries ≡ Some e) where
    shown : (part_of setup e.digest ≡ part) × IsShown s e.digest e
    shown = found_shown setup part sprig s e.digest e fits.entries found

    -- its copy is live
    pub is_live : Contains s.book.live (copy_live e.digest (place_of e))
    is_live = live_there e.digest s.book.live (live_of_entry e) shown.1.place

    pub is_placed : (view : D → DiskView) → IsShelf view shelf → IsPriorIn shelf (Some (place_of e))
    is_placed view whole =
        subst (λ (o : Option Entry). IsPriorIn shelf (option_map place_of o)) found
        (prior_stands setup e.digest sprig shelf s (subst (λ (p : ℕ). StandTogether setup p sprig shelf s) (sym shown.0) stand.together) view whole)

    pub lies_below : e.block < shelf.geometry.blocks
    lies_below = (stand.together.shelf_stands.stands.entries (live_of_entry e) is_live).lies.block

    -- it is removed
    pub go_removed : (view : D → DiskView) (after : SprigState) (new : ShelfView D) → Loses e.digest sprig after → Goes view setup (rid_of e.digest ∷ []) shelf s new
        → GoTogether view setup part (rid_of e.digest ∷ []) shelf s after new
    go_removed view after new loses goes = record {
      goes = goes;
      together = record {
        sprig_stands = record {
          fits = rid_fits setup part sprig after s e.digest shown.0 loses fits;
          times = subst (AllByRecursion (λ x. 1 ≤ x.stamp.lut)) (sym loses.entries) (each_without (λ x. 1 ≤ x.stamp.lut) e.digest sprig.entries stand.together.sprig_stands.times);
        };
        shelf_stands = record { stands = goes.stands; queue = goes.queued stand.together.shelf_stands.queue };
      };
    }

    -- or loses its cover flag
    pub go_uncovered : (view : D → DiskView) → IsDisk (view shelf.disk) → is_marked_by shelf.raid.number e ≡ true → (after : SprigState)
        → after ≡ record sprig { entries = with_replaced (without_cover e) sprig.entries; hw = max sprig.hw e.stamp.lut } → GoTogether view setup part (uncovered e.digest ∷ []) shelf s after shelf
    go_uncovered view is_disk marked after put = record {
      goes = goes;
      together = record {
        sprig_stands = record {
          fits = uncovered_fits setup part sprig after s e.digest e found (record { entries = ap (λ (v : SprigState). v.entries) put; high = ap (λ (v : SprigState). v.hw) put }) fits;
          times = subst (λ (v : SprigState). AllByRecursion (λ x. 1 ≤ x.stamp.lut) v.entries) (sym put)
              (each_replaced (λ x. 1 ≤ x.stamp.lut) (without_cover e) sprig.entries
              (at_entry (λ x. 1 ≤ x.stamp.lut) e.digest sprig.entries e stand.together.sprig_stands.times found) stand.together.sprig_stands.times);
        };
        shelf_stands = record { stands = goes.stands; queue = goes.queued stand.together.shelf_stands.queue };
      };
    }
      where
        goes : Goes view setup (uncovered e.digest ∷ []) shelf s shelf
        goes = goes_uncovered view setup shelf s e.digest is_disk stand.together.shelf_stands.stands (λ honest safe. none_older_than view e.digest e found marked safe)
