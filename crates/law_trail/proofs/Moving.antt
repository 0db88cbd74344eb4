-- Trails are kept where a copy is moved.
use Rattle.std.proofs.Common.{◌≡◌, ℕ, ◌≤◌, Bool, true, false, cond, ◌&&◌, List, [], ◌∷◌, Option, Some, refl, sym, ◌∙◌, ap, subst}
use Rattle.std.proofs.lemmas.Bool.{and_parts, cond-false}
use Rattle.std.specs.Prelude.{Contains}
use Rattle.law_lists.proofs.Each.{all_at}
use Rattle.rec_format.specs.declared.version.Digest.{Digest}
use Rattle.rec_format.specs.declared.version.Version.{Version}
use Rattle.rec_format.specs.Places.{same_digest}
use Rattle.model_device.specs.Histories.{Item, with_number}
use Rattle.model_device.specs.Book.{Setup, Book, Live, defrag, live_of, placed, placing_number}
use Rattle.model_device.specs.Device.{State, Log, history, history_of, entry, stops_search, item_with_number, log_with_number}
use Rattle.model_device.specs.Steps.{moved, moved_state, after_step}
use Rattle.rec_format.proofs.Laws.{same_digest_is}
use Rattle.model_device.proofs.Numbers.{history_with_number}
use Rattle.block_format.specs.Layout.{Body}
use Rattle.law_trail.specs.Trail.{Records, Trail, LeadsOn, IsTrailed, IsBooked, CanPlace}
use Rattle.law_trail.proofs.Books.{live_there, live_not_free}
use Rattle.law_trail.proofs.Placing.{PlacesCopy, placed_is}
use Rattle.law_trail.proofs.Carrying.{carried}
use Rattle.law_trail.proofs.Writing.{placed_carries, own_live, others_lead, holds_old, move_leads, trail_entry}

-- the histories of other digests stay
pub other_history : (digest e : Digest) (number : ℕ) (log : Log) → same_digest e digest ≡ false → history_of e (log_with_number digest number log) ≡ history_of e log
other_history digest e number [] other = refl
other_history digest e number (x ∷ log) other = by (same_digest digest x.0 && stops_search x.1) refl (other_history digest e number log other)
  where
    passed : same_digest digest x.0 ≡ true → same_digest e x.0 ≡ false
    passed same = ap (same_digest e) (sym (same_digest_is digest x.0 same)) ∙ other

    by : (b : Bool) → (same_digest digest x.0 && stops_search x.1) ≡ b → history_of e (log_with_number digest number log) ≡ history_of e log
        → history_of e (cond b ((x.0, item_with_number number x.1) ∷ log) (x ∷ log_with_number digest number log)) ≡ cond (same_digest e x.0) (x.1 ∷ history_of e log) (history_of e log)
    by true is rest =
        let apart = passed (and_parts (same_digest digest x.0) (stops_search x.1) is).0 in
        cond-false (same_digest e x.0) (item_with_number number x.1 ∷ history_of e log) (history_of e log) apart
        ∙ sym (cond-false (same_digest e x.0) (x.1 ∷ history_of e log) (history_of e log) apart)
    by false is rest = ap (λ (l : List Item). cond (same_digest e x.0) (x.1 ∷ l) l) rest

module _ (setup : Setup) (s : State) (booked : IsBooked s.book) (digest : Digest) (copy : Live) (live : live_of digest s.book.live ≡ Some copy) (can : CanPlace setup defrag copy.units s.book) where
  abbrev number : ℕ
  number = placing_number setup defrag copy.units s.book

  abbrev new : Book
  new = placed setup defrag digest copy.units s.book

  p : PlacesCopy digest number s.book new
  p = placed_is setup defrag digest copy.units s.book (all_at (λ l. 1 ≤ l.units) s.book.live copy booked.units (live_there digest s.book.live copy live)) booked can

  moved_is : after_step setup (moved digest) s ≡ moved_state setup digest (Some copy) s
  unfolding after_step
  moved_is = ap (λ (o : Option Live). moved_state setup digest o s) live

  pub moved_booked : IsBooked (after_step setup (moved digest) s).book
  moved_booked = subst (λ (t : State). IsBooked t.book) (sym moved_is) p.booked

  module _ (records : Records) (bodies : List Body) (has : (v : Version) → entry s digest ≡ Some v → Contains (records number) (digest, v)) (trailed : IsTrailed s records bodies) where
    own_moved : Trail new records bodies digest p.copy.block (with_number number (history s digest))
    own_moved =
        let leads = subst (λ (o : Option Live). LeadsOn s.book records bodies digest o (history s digest)) live (trailed digest) in
        let trail = carried s.book new records records bodies bodies booked (placed_carries digest number s.book new p booked records bodies) digest leads
        (live_not_free s.book digest copy booked live) in
        let top = trail_entry s.book records bodies digest leads in
        move_leads digest number s.book new p booked records bodies copy.block (history s digest) top.0 top.1 (has top.0 top.1)
        (holds_old digest number s.book new p booked records bodies copy live) trail

    each_moved : (e : Digest) → LeadsOn new records bodies e (live_of e new.live) (history_of e (log_with_number digest number s.log))
    each_moved e = by (same_digest e digest) refl
      where
        by : (b : Bool) → same_digest e digest ≡ b → LeadsOn new records bodies e (live_of e new.live) (history_of e (log_with_number digest number s.log))
        by true same =
            subst (λ (o : Option Live). LeadsOn new records bodies e o (history_of e (log_with_number digest number s.log))) (sym (own_live digest number s.book new p booked records bodies e same))
            (subst (λ (d : Digest). Trail new records bodies d p.copy.block (history_of d (log_with_number digest number s.log))) (sym (same_digest_is e digest same))
            (subst (Trail new records bodies digest p.copy.block) (sym (history_with_number digest number s.log)) own_moved))
        by false other =
            subst (LeadsOn new records bodies e (live_of e new.live)) (sym (other_history digest e number s.log other))
            (others_lead digest number s.book new p booked records bodies e (history s e) other (trailed e))

    pub moved_trailed : IsTrailed (after_step setup (moved digest) s) records bodies
    moved_trailed = subst (λ (t : State). IsTrailed t records bodies) (sym moved_is) each_moved
