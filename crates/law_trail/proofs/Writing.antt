-- Trails are kept where a copy is placed: by a write, and by a move.
use Rattle.std.proofs.Common.{◌≡◌, ℕ, ◌≤◌, Bool, true, false, cond, List, [], ◌∷◌, Option, Some, None, refl, sym, ◌∙◌, ap, subst, arith}
use Rattle.std.proofs.lemmas.Bool.{cond-true, cond-false}
use Rattle.std.specs.Prelude.{Contains}
use Rattle.law_lists.proofs.Members.{first_there, rest_there}
use Rattle.rec_format.specs.declared.version.Digest.{Digest}
use Rattle.rec_format.specs.declared.version.Version.{Version}
use Rattle.rec_format.specs.Places.{same_digest}
use Rattle.rec_format.specs.Versions.{version_units}
use Rattle.model_device.specs.Histories.{Item, write, dropped, rid, cleared, top_of, with_number}
use Rattle.model_device.specs.Book.{Setup, Book, Live, client, live_of, without_live, with_hold, placed, placing_number}
use Rattle.model_device.specs.Device.{State, history}
use Rattle.model_device.specs.Steps.{wrote, after_step}
use Rattle.rec_format.proofs.Laws.{same_digest_is}
use Rattle.block_format.specs.Layout.{Body}
use Rattle.law_trail.specs.Trail.{Records, WaitsIn, Trail, stored, first, replaced, moved, moved_found, uncovered_since, LeadsOn, IsTrailed, IsBooked, CanPlace}
use Rattle.law_trail.proofs.Books.{others_live, live_not_free}
use Rattle.law_trail.proofs.Placing.{PlacesCopy, placed_is}
use Rattle.law_trail.proofs.Carrying.{CarriesTrails, carried, lead_carried, same_records}

held_stays : (number : ℕ) (live : Option Live) (holds : List (ℕ × ℕ)) (h : ℕ × ℕ) → Contains holds h → Contains (with_hold number live holds) h
held_stays number None holds h there = there
held_stays number (Some l) holds h there = rest_there (number, l.block) holds h there

-- ---- a placed copy

module _ (digest : Digest) (number : ℕ) (book new : Book) (p : PlacesCopy digest number book new) (booked : IsBooked book) (records : Records) (bodies : List Body) where
  pub placed_carries : CarriesTrails book new records records bodies bodies
  placed_carries = record {
    places = p.places;
    holds = λ h there. subst (λ (l : List (ℕ × ℕ)). Contains l h) (sym p.holds) (held_stays number (live_of digest book.live) book.holds h there);
    unbuffered = p.unbuffered;
    records = same_records book records;
    bodies = λ body there none used. there;
  }

  pub own_live : (e : Digest) → same_digest e digest ≡ true → live_of e new.live ≡ Some p.copy
  own_live e same =
      ap (live_of e) p.live
      ∙ cond-true (same_digest e p.copy.digest) (Some p.copy) (live_of e (without_live digest book.live)) (ap (same_digest e) p.own ∙ same)

  other_live : (e : Digest) → same_digest e digest ≡ false → live_of e new.live ≡ live_of e book.live
  other_live e other =
      ap (live_of e) p.live
      ∙ cond-false (same_digest e p.copy.digest) (Some p.copy) (live_of e (without_live digest book.live)) (ap (same_digest e) p.own ∙ other)
      ∙ others_live digest e book.live other

  -- the trails of other digests lead on
  pub others_lead : (e : Digest) (items : List Item) → same_digest e digest ≡ false → LeadsOn book records bodies e (live_of e book.live) items
      → LeadsOn new records bodies e (live_of e new.live) items
  others_lead e items other leads =
      subst (λ (o : Option Live). LeadsOn new records bodies e o items) (sym (other_live e other))
      (lead_carried book new records records bodies bodies booked placed_carries e items (live_of e book.live) refl leads)

  pub holds_old : (l : Live) → live_of digest book.live ≡ Some l → Contains new.holds (number, l.block)
  holds_old l is = subst (λ (h : List (ℕ × ℕ)). Contains h (number, l.block)) (sym (p.holds ∙ ap (λ (o : Option Live). with_hold number o book.holds) is)) (first_there (number, l.block) book.holds)

  waits : (v : Version) → Contains (records number) (digest, v) → WaitsIn new records number p.copy.block digest v
  waits v has = record { placed = p.placed_in; has = has }

  -- a new version leads on to the copy before, if there was one
  write_leads : (v : Version) (items : List Item) (live : Option Live) → live_of digest book.live ≡ live → Contains (records number) (digest, v) → LeadsOn book records bodies digest live items
      → Trail new records bodies digest p.copy.block (write v (number ∷ []) ∷ items)
  write_leads v items None is has none = first (waits v has) none
  write_leads v items (Some l) is has trail =
      replaced (waits v has) (holds_old l is) (carried book new records records bodies bodies booked placed_carries digest trail (live_not_free book digest l booked is))

  -- ---- a move

  behind_cleared : {block : ℕ} {older : List Item} → Trail new records bodies digest block (cleared ∷ older) → Trail new records bodies digest block older
  behind_cleared (uncovered_since rest) = rest

  pub move_leads : (block : ℕ) (items : List Item) (v : Version) → top_of items ≡ Some v → Contains (records number) (digest, v) → Contains new.holds (number, block)
      → Trail new records bodies digest block items → Trail new records bodies digest p.copy.block (with_number number items)
  move_leads block [] v top has held trail = absurd (cc)
  move_leads block (write w [] ∷ older) v top has held trail =
      let same : v ≡ w = cc in moved_found (subst (λ (x : Version). WaitsIn new records number p.copy.block digest x) same (waits v has)) held trail
  move_leads block (write w (n ∷ ns) ∷ older) v top has held trail =
      let same : v ≡ w = cc in moved (subst (λ (x : Version). WaitsIn new records number p.copy.block digest x) same (waits v has)) held trail
  move_leads block (dropped ∷ older) v top has held trail = absurd (cc)
  move_leads block (rid ∷ older) v top has held trail = absurd (cc)
  move_leads block (cleared ∷ older) v top has held trail = uncovered_since (move_leads block older v top has held (behind_cleared trail))

-- a trail begins with the entry
pub trail_entry : (book : Book) (records : Records) (bodies : List Body) (digest : Digest) {block : ℕ} {items : List Item} → Trail book records bodies digest block items → (v : Version)
    × (top_of items ≡ Some v)
trail_entry book records bodies digest (stored {v = v} none is) = (v, refl)
trail_entry book records bodies digest (first {v = v} waits none) = (v, refl)
trail_entry book records bodies digest (replaced {v = v} waits held rest) = (v, refl)
trail_entry book records bodies digest (moved {v = v} waits held rest) = (v, refl)
trail_entry book records bodies digest (moved_found {v = v} waits held rest) = (v, refl)
trail_entry book records bodies digest (uncovered_since rest) = trail_entry book records bodies digest rest

-- ---- a version is written

pub takes_room : (v : Version) → 1 ≤ version_units v
takes_room v = omega arith

module _ (setup : Setup) (s : State) (booked : IsBooked s.book) where
  pub wrote_booked : (digest : Digest) (v : Version) → CanPlace setup client (version_units v) s.book → IsBooked (after_step setup (wrote digest v) s).book
  unfolding after_step
  wrote_booked digest v can = (placed_is setup client digest (version_units v) s.book (takes_room v) booked can).booked

  pub wrote_trailed : (records : Records) (bodies : List Body) (digest : Digest) (v : Version) → CanPlace setup client (version_units v) s.book
      → Contains (records (placing_number setup client (version_units v) s.book)) (digest, v)
      → IsTrailed s records bodies → IsTrailed (after_step setup (wrote digest v) s) records bodies
  unfolding after_step
  wrote_trailed records bodies digest v can has trailed e = by (same_digest e digest) refl
    where
      number : ℕ
      number = placing_number setup client (version_units v) s.book

      new : Book
      new = placed setup client digest (version_units v) s.book

      p : PlacesCopy digest number s.book new
      p = placed_is setup client digest (version_units v) s.book (takes_room v) booked can

      own : same_digest e digest ≡ true → LeadsOn new records bodies e (live_of e new.live) (write v (number ∷ []) ∷ history s e)
      own same =
          let is = same_digest_is e digest same in
          subst (λ (o : Option Live). LeadsOn new records bodies e o (write v (number ∷ []) ∷ history s e)) (sym (own_live digest number s.book new p booked records bodies e same))
          (subst (λ (d : Digest). Trail new records bodies d p.copy.block (write v (number ∷ []) ∷ history s d)) (sym is)
          (write_leads digest number s.book new p booked records bodies v (history s digest) (live_of digest s.book.live) refl has (trailed digest)))

      by : (b : Bool) → same_digest e digest ≡ b → LeadsOn new records bodies e (live_of e new.live) (cond b (write v (number ∷ []) ∷ history s e) (history s e))
      by true same = own same
      by false other = others_lead digest number s.book new p booked records bodies e (history s e) other (trailed e)
