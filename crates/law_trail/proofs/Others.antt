-- Trails are kept by the steps that place and flush nothing.
use Rattle.std.proofs.Common.{◌≡◌, ℕ, ◌≤◌, Bool, true, false, not, cond, ◌&&◌, List, [], ◌∷◌, Option, Some, None, refl, sym, ◌∙◌, ap, subst}
use Rattle.std.proofs.lemmas.Bool.{cond_both}
use Rattle.std.specs.Prelude.{◌==◌, Contains}
use Rattle.std.specs.List.{AllByRecursion, list_any}
use Rattle.law_lists.proofs.Each.{all_joined, all_map}
use Rattle.law_lists.proofs.Filters.{map_shows}
use Rattle.rec_format.specs.declared.version.Digest.{Digest}
use Rattle.rec_format.specs.Places.{same_digest}
use Rattle.model_device.specs.Histories.{Item, dropped, rid, cleared, top_of}
use Rattle.model_device.specs.Book.{Setup, Book, Live, Stream, has_buffer, is_held, use_of, may_be_free, refreshed, dropped_live, live_of, without_live}
use Rattle.model_device.specs.Book.{with_seal, opened_if, with_gate_begun, first_to_back, with_first_passed}
use Rattle.model_device.specs.Device.{State, history}
use Rattle.model_device.specs.Steps.{removed, rid_of, uncovered, sealed_stream, gate_begun, closing_failed, with_item, after_step}
use Rattle.rec_format.proofs.Laws.{same_digest_is}
use Rattle.block_format.specs.Layout.{Body}
use Rattle.law_trail.specs.Trail.{Records, places_of, uncovered_since, LeadsOn, IsTrailed, HaveOwnBlocks, IsBooked}
use Rattle.law_trail.proofs.Places.{buffer_place}
use Rattle.law_trail.proofs.Books.{refreshed_booked, fewer_live, others_live, none_live}
use Rattle.law_trail.proofs.Placing.{place, seal_places, opened_place}
use Rattle.law_trail.proofs.Carrying.{lead_carried, same_records}

-- ---- books with the same places and holds

module _ (old new : Book) (places : places_of new ≡ places_of old) (holds : new.holds ≡ old.holds) (booked : IsBooked old) (records : Records) (bodies : List Body) where
  same_buffer : (block : ℕ) → has_buffer new block ≡ has_buffer old block
  same_buffer block = buffer_place new block ∙ ap (list_any (λ p. p.1 == block)) places ∙ sym (buffer_place old block)

  pub same_lead : (digest : Digest) (items : List Item) → LeadsOn old records bodies digest (live_of digest old.live) items → LeadsOn new records bodies digest (live_of digest old.live) items
  same_lead digest items leads =
      lead_carried old new records records bodies bodies booked
      (record {
        places = λ p there. subst (λ (l : List (ℕ × ℕ)). Contains l p) (sym places) there;
        holds = λ h there. subst (λ (l : List (ℕ × ℕ)). Contains l h) (sym holds) there;
        unbuffered = λ block none used. same_buffer block ∙ none;
        records = same_records old records;
        bodies = λ body there none used. there;
      }) digest items (live_of digest old.live) refl leads

-- what may be free may be so in a book with the same live copies too
module _ (old new : Book) (places : places_of new ≡ places_of old) (holds : new.holds ≡ old.holds) (live : new.live ≡ old.live) where
  same_free : (block : ℕ) → may_be_free new block ≡ may_be_free old block
  same_free block =
      ap (λ (b : Bool). not b && (use_of new block == 0) && not (is_held new block)) (buffer_place new block ∙ ap (list_any (λ p. p.1 == block)) places ∙ sym (buffer_place old block))
      ∙ ap (λ (l : List Live). not (has_buffer old block) && (use_of (record old { live = l }) block == 0) && not (is_held new block)) live
      ∙ ap (λ (h : List (ℕ × ℕ)). not (has_buffer old block) && (use_of old block == 0) && not (list_any (λ x. x.1 == block) h)) holds

  pub same_booked : AllByRecursion (λ b. may_be_free old b ≡ true) new.free → IsBooked old → IsBooked new
  same_booked free booked = record {
    free = all_map (λ b. may_be_free old b ≡ true) (λ b. may_be_free new b ≡ true) new.free (λ b is. same_free b ∙ is) free;
    apart = subst HaveOwnBlocks (sym places) booked.apart;
    units = subst (AllByRecursion (λ l. 1 ≤ l.units)) (sym live) booked.units;
  }

-- ---- removals

module _ (setup : Setup) (s : State) (digest : Digest) (booked : IsBooked s.book) where
  gone_booked : IsBooked (dropped_live setup digest s.book)
  unfolding dropped_live
  gone_booked = refreshed_booked setup (record s.book { live = without_live digest s.book.live }) booked.apart (fewer_live (λ l. not (same_digest digest l.digest)) s.book.live booked.units)

  pub removed_booked : IsBooked (after_step setup (removed digest) s).book
  unfolding after_step
  removed_booked = gone_booked

  pub rid_booked : IsBooked (after_step setup (rid_of digest) s).book
  unfolding after_step
  rid_booked = gone_booked

  module _ (records : Records) (bodies : List Body) (trailed : IsTrailed s records bodies) where
    gone_trailed : (item : Item) → ((items : List Item) → top_of (item ∷ items) ≡ None) → IsTrailed (with_item digest item (dropped_live setup digest s.book) s) records bodies
    unfolding dropped_live refreshed
    gone_trailed item none e = by (same_digest e digest) refl
      where
        new : Book
        new = dropped_live setup digest s.book

        by : (b : Bool) → same_digest e digest ≡ b → LeadsOn new records bodies e (live_of e (without_live digest s.book.live)) (cond b (item ∷ history s e) (history s e))
        by true same =
            subst (λ (o : Option Live). LeadsOn new records bodies e o (item ∷ history s e))
            (sym (ap (λ (d : Digest). live_of d (without_live digest s.book.live)) (same_digest_is e digest same) ∙ none_live digest s.book.live)) (none (history s e))
        by false other =
            subst (λ (o : Option Live). LeadsOn new records bodies e o (history s e)) (sym (others_live digest e s.book.live other))
            (same_lead s.book new refl refl booked records bodies e (history s e) (trailed e))

    pub removed_trailed : IsTrailed (after_step setup (removed digest) s) records bodies
    unfolding after_step
    removed_trailed = gone_trailed dropped (λ items. refl)

    pub rid_trailed : IsTrailed (after_step setup (rid_of digest) s) records bodies
    unfolding after_step
    rid_trailed = gone_trailed rid (λ items. refl)

    cleared_leads : (e : Digest) (live : Option Live) (items : List Item) → LeadsOn s.book records bodies e live items → LeadsOn s.book records bodies e live (cleared ∷ items)
    cleared_leads e None items leads = leads
    cleared_leads e (Some l) items leads = uncovered_since leads

    pub uncovered_trailed : IsTrailed (after_step setup (uncovered digest) s) records bodies
    unfolding after_step
    uncovered_trailed e =
        cond_both (same_digest e digest) (cleared ∷ history s e) (history s e) (LeadsOn s.book records bodies e (live_of e s.book.live))
        (λ _. cleared_leads e (live_of e s.book.live) (history s e) (trailed e)) (λ _. trailed e)

-- ---- phases of buffers, and the free block that couldn't be closed

pub open_places : (number : ℕ) (book : Book) → places_of (with_gate_begun number book) ≡ places_of book
open_places number book = map_shows place (λ b. opened_if (b.number == number) b) (λ b. opened_place (b.number == number) b) book.buffers

back_booked : (book : Book) (blocks : List ℕ) → AllByRecursion (λ b. may_be_free book b ≡ true) blocks → AllByRecursion (λ b. may_be_free book b ≡ true) (first_to_back blocks)
back_booked book [] all = tt
back_booked book (b ∷ blocks) all = all_joined (λ b. may_be_free book b ≡ true) blocks (b ∷ []) all.1 (all.0, tt)

module _ (setup : Setup) (s : State) (booked : IsBooked s.book) where
  pub sealed_booked : (stream : Stream) → IsBooked (after_step setup (sealed_stream stream) s).book
  unfolding after_step
  sealed_booked stream = same_booked s.book (with_seal stream s.book) (seal_places stream s.book.buffers) refl refl booked.free booked

  pub begun_booked : (number : ℕ) → IsBooked (after_step setup (gate_begun number) s).book
  unfolding after_step
  begun_booked number = same_booked s.book (with_gate_begun number s.book) (open_places number s.book) refl refl booked.free booked

  pub passed_booked : IsBooked (after_step setup closing_failed s).book
  unfolding after_step
  passed_booked = same_booked s.book (with_first_passed s.book) refl refl refl (back_booked s.book s.book.free booked.free) booked

  module _ (records : Records) (bodies : List Body) (trailed : IsTrailed s records bodies) where
    pub sealed_trailed : (stream : Stream) → IsTrailed (after_step setup (sealed_stream stream) s) records bodies
    unfolding after_step
    sealed_trailed stream e = same_lead s.book (with_seal stream s.book) (seal_places stream s.book.buffers) refl booked records bodies e (history s e) (trailed e)

    pub begun_trailed : (number : ℕ) → IsTrailed (after_step setup (gate_begun number) s) records bodies
    unfolding after_step
    begun_trailed number e = same_lead s.book (with_gate_begun number s.book) (open_places number s.book) refl booked records bodies e (history s e) (trailed e)

    pub passed_trailed : IsTrailed (after_step setup closing_failed s) records bodies
    unfolding after_step
    passed_trailed e = same_lead s.book (with_first_passed s.book) refl refl booked records bodies e (history s e) (trailed e)
