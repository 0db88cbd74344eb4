-- The numbers of buffers in the histories stay below the next in every step.
use Rattle.std.proofs.Common.{◌≡◌, ℕ, ◌<◌, ◌≤◌, Bool, true, false, cond, List, [], ◌∷◌, refl, sym, subst}
use Rattle.std.specs.Prelude.{Option, Some, None}
use Rattle.rec_format.specs.declared.version.Digest.{Digest}
use Rattle.rec_format.specs.Places.{same_digest}
use Rattle.rec_format.specs.Versions.{version_units}
use Rattle.model_device.specs.Histories.{Item, write, dropped, rid, cleared, with_number, without_numbers}
use Rattle.model_device.specs.Book.{Setup, Live, client, defrag, live_of, placing_number, placed, dropped_live, with_flushed, refreshed}
use Rattle.model_device.specs.Device.{State, history, history_of, log_with_number}
use Rattle.model_device.specs.Steps.{Step, wrote, moved, removed, rid_of, uncovered, sealed_stream, gate_begun, flushed_buffer, closing_failed, raid_begun}
use Rattle.model_device.specs.Steps.{raid_given_up, marked_part, scanned_block, compared_part, done_part, moved_state, after_step}
use Rattle.rec_format.proofs.Laws.{same_digest_is}
use Rattle.model_device.proofs.Numbers.{history_with_number, next_number_rises}
use Rattle.block_format.specs.Layout.{Body}
use Rattle.law_start.specs.Sound.{IsSound}
use Rattle.law_start.specs.Start.{Restarts, start_state}
use Rattle.law_start.specs.Orderly.{NumbersBelow}
use Rattle.law_start.specs.Holding.{HasRisingNumbers}
use Rattle.law_start.proofs.ColdStart.{start_orderly}
use Rattle.law_start.proofs.Growing.{numbers_rise}
use Rattle.law_start.proofs.Orderly.{placing_below}
use Rattle.law_facts.specs.Reaching.{AreNumbered}
use Rattle.law_facts.proofs.Stay.{history_without_number}

number_below : (limit number : ℕ) (items : List Item) → number < limit → NumbersBelow limit items → NumbersBelow limit (with_number number items)
number_below limit number [] lt below = tt
number_below limit number (write v [] ∷ older) lt below = below
number_below limit number (write v (n ∷ numbers) ∷ older) lt below = ((lt, below.0), below.1)
number_below limit number (dropped ∷ older) lt below = below
number_below limit number (rid ∷ older) lt below = below
number_below limit number (cleared ∷ older) lt below = number_below limit number older lt below

none_named : (limit : ℕ) (items : List Item) → NumbersBelow limit (without_numbers items)
none_named limit [] = tt
none_named limit (write v numbers ∷ older) = (tt, none_named limit older)
none_named limit (dropped ∷ older) = none_named limit older
none_named limit (rid ∷ older) = none_named limit older
none_named limit (cleared ∷ older) = none_named limit older

added_below : (limit : ℕ) (b : Bool) (item : Item) (items : List Item) → NumbersBelow limit (item ∷ items) → NumbersBelow limit items → NumbersBelow limit (cond b (item ∷ items) items)
added_below limit true item items more rest = more
added_below limit false item items more rest = rest

module _ (setup : Setup) (s : State) (counted : HasRisingNumbers s.book) (numbered : AreNumbered s) where
  moved_numbered : (digest : Digest) (copy : Option Live) → s.book.next_number ≤ (moved_state setup digest copy s).book.next_number → AreNumbered (moved_state setup digest copy s)
  moved_numbered digest None rises d = numbered d
  moved_numbered digest (Some copy) rises d = by (same_digest d digest) refl
    where
      number : ℕ
      number = placing_number setup defrag copy.units s.book

      limit : ℕ
      limit = (placed setup defrag digest copy.units s.book).next_number

      risen : NumbersBelow limit (history s d)
      risen = numbers_rise s.book.next_number limit (history s d) rises (numbered d)

      by : (b : Bool) → same_digest d digest ≡ b → NumbersBelow limit (history_of d (log_with_number digest number s.log))
      by false other = subst (NumbersBelow limit) (sym (history_without_number d digest number s.log other)) risen
      by true same =
          subst (λ (x : Digest). NumbersBelow limit (history_of d (log_with_number x number s.log))) (same_digest_is d digest same)
          (subst (NumbersBelow limit) (sym (history_with_number d number s.log)) (number_below limit number (history s d) (placing_below setup defrag digest copy.units s.book counted) risen))

  risen_all : (step : Step) (d : Digest) → NumbersBelow (after_step setup step s).book.next_number (history s d)
  risen_all step d = numbers_rise s.book.next_number (after_step setup step s).book.next_number (history s d) (next_number_rises setup step s) (numbered d)

  -- in each step
  pub numbered_stay : (step : Step) → AreNumbered (after_step setup step s)
  unfolding after_step dropped_live with_flushed refreshed
  numbered_stay (wrote digest v) d =
      let risen = risen_all (wrote digest v) d in
      added_below (placed setup client digest (version_units v) s.book).next_number (same_digest d digest) (write v (placing_number setup client (version_units v) s.book ∷ [])) (history s d)
      ((placing_below setup client digest (version_units v) s.book counted, tt), risen) risen
  numbered_stay (moved digest) d = moved_numbered digest (live_of digest s.book.live) (next_number_rises setup (moved digest) s) d
  numbered_stay (removed digest) d = added_below s.book.next_number (same_digest d digest) dropped (history s d) (numbered d) (numbered d)
  numbered_stay (rid_of digest) d = added_below s.book.next_number (same_digest d digest) rid (history s d) (numbered d) (numbered d)
  numbered_stay (uncovered digest) d = added_below s.book.next_number (same_digest d digest) cleared (history s d) (numbered d) (numbered d)
  numbered_stay (sealed_stream stream) d = numbered d
  numbered_stay (gate_begun number) d = numbered d
  numbered_stay (flushed_buffer number) d = numbered d
  numbered_stay closing_failed d = numbered d
  numbered_stay raid_begun d = numbered d
  numbered_stay raid_given_up d = numbered d
  numbered_stay (marked_part part now) d = numbered d
  numbered_stay (scanned_block copies) d = numbered d
  numbered_stay (compared_part part) d = numbered d
  numbered_stay (done_part part) d = numbered d

-- a start and a restart name no buffer
pub start_numbered : (setup : Setup) (image : List ℕ) (bodies : List Body) → IsSound setup image bodies → AreNumbered (start_state setup bodies)
start_numbered setup image bodies sound digest = (start_orderly setup image bodies sound digest).numbers

pub restart_numbered : (setup : Setup) (s new : State) (image : List ℕ) → Restarts setup s image new → AreNumbered new
restart_numbered setup s new image r digest = let k = r.kept digest in subst (NumbersBelow new.book.next_number) (sym k.2) (none_named new.book.next_number k.0)
