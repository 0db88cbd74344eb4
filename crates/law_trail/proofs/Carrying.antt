-- A trail is carried from one book to another that keeps the places and the holds, and takes no block that isn't free.
use Rattle.std.proofs.Common.{◌≡◌, ℕ, false, List, [], ◌∷◌, Option, Some, None, refl, sym, subst}
use Rattle.std.specs.Prelude.{Contains}
use Rattle.std.specs.List.{AllByRecursion}
use Rattle.law_lists.proofs.Each.{all_at}
use Rattle.rec_format.specs.declared.version.Digest.{Digest}
use Rattle.rec_format.specs.declared.version.Version.{Version}
use Rattle.model_device.specs.Histories.{Item}
use Rattle.model_device.specs.Book.{Book, Live, has_buffer, live_of}
use Rattle.model_device.specs.Device.{State, history}
use Rattle.block_format.specs.Layout.{Body}
use Rattle.law_trail.specs.Trail.{Records, places_of, StoredIn, WaitsIn, Trail, stored, first, replaced, moved, moved_found, uncovered_since, LeadsOn}
use Rattle.law_trail.specs.Trail.{IsTrailed, IsBooked, NotFree, KeepsRecords, KeepsBodies}
use Rattle.law_trail.proofs.Books.{held_not_free, live_not_free}

pub record CarriesTrails (old new : Book) (old_records new_records : Records) (old_bodies new_bodies : List Body) : Type 0 where
  pub places : (p : ℕ × ℕ) → Contains (places_of old) p → Contains (places_of new) p
  pub holds : (h : ℕ × ℕ) → Contains old.holds h → Contains new.holds h
  pub unbuffered : (block : ℕ) → has_buffer old block ≡ false → NotFree old block → has_buffer new block ≡ false
  pub records : KeepsRecords old old_records new_records
  pub bodies : KeepsBodies old old_bodies new_bodies

module _ (old new : Book) (old_records new_records : Records) (old_bodies new_bodies : List Body) (booked : IsBooked old)
    (carries : CarriesTrails old new old_records new_records old_bodies new_bodies) (digest : Digest) where
  stored_on : (block : ℕ) (v : Version) → has_buffer old block ≡ false → NotFree old block → StoredIn old_bodies block digest v → StoredIn new_bodies block digest v
  stored_on block v none used is = record {
    body = is.body;
    there = carries.bodies is.body is.there (subst (λ (k : ℕ). has_buffer old k ≡ false) (sym is.placed) none) (subst (λ (k : ℕ). NotFree old k) (sym is.placed) used);
    placed = is.placed;
    has = is.has;
  }

  waits_on : (number block : ℕ) (v : Version) → WaitsIn old old_records number block digest v → WaitsIn new new_records number block digest v
  waits_on number block v waits = record {
    placed = carries.places (number, block) waits.placed;
    has = all_at (λ p. (r : Digest × Version) → Contains (old_records p.0) r → Contains (new_records p.0) r) (places_of old) (number, block) carries.records waits.placed (digest, v) waits.has;
  }

  pub carried : {block : ℕ} {items : List Item} → Trail old old_records old_bodies digest block items → NotFree old block → Trail new new_records new_bodies digest block items
  carried (stored {block = block} {v = v} none is) used = stored (carries.unbuffered block none used) (stored_on block v none used is)
  carried (first {block = block} {number = number} {v = v} waits none) used = first (waits_on number block v waits) none
  carried (replaced {block = block} {number = number} {before = before} {v = v} waits held rest) used =
      replaced (waits_on number block v waits) (carries.holds (number, before) held) (carried rest (held_not_free old number before booked held))
  carried (moved {block = block} {number = number} {before = before} {v = v} waits held rest) used =
      moved (waits_on number block v waits) (carries.holds (number, before) held) (carried rest (held_not_free old number before booked held))
  carried (moved_found {block = block} {number = number} {before = before} {v = v} waits held rest) used =
      moved_found (waits_on number block v waits) (carries.holds (number, before) held) (carried rest (held_not_free old number before booked held))
  carried (uncovered_since rest) used = uncovered_since (carried rest used)

  pub lead_carried : (items : List Item) (live : Option Live) → live_of digest old.live ≡ live → LeadsOn old old_records old_bodies digest live items
      → LeadsOn new new_records new_bodies digest live items
  lead_carried items None is leads = leads
  lead_carried items (Some l) is leads = carried leads (live_not_free old digest l booked is)

-- ---- changes of records and bodies alone

pub same_records : (book : Book) (records : Records) → KeepsRecords book records records
same_records book records = each (places_of book)
  where
    each : (ps : List (ℕ × ℕ)) → AllByRecursion (λ p. (r : Digest × Version) → Contains (records p.0) r → Contains (records p.0) r) ps
    each [] = tt
    each (p ∷ ps) = ((λ r there. there), each ps)

-- more records of the pending buffers
pub records_kept : (s : State) (old new : Records) (bodies : List Body) → IsBooked s.book → KeepsRecords s.book old new → IsTrailed s old bodies → IsTrailed s new bodies
records_kept s old new bodies booked keeps trailed digest =
    lead_carried s.book s.book old new bodies bodies booked
    (record { places = λ p there. there; holds = λ h there. there; unbuffered = λ block none used. none; records = keeps; bodies = λ body there none used. there })
    digest (history s digest) (live_of digest s.book.live) refl (trailed digest)

-- A body in a free block goes, or one in the block of a pending buffer comes or goes: whatever is kept of the others.
pub bodies_kept : (s : State) (records : Records) (old new : List Body) → IsBooked s.book → KeepsBodies s.book old new → IsTrailed s records old → IsTrailed s records new
bodies_kept s records old new booked keeps trailed digest =
    lead_carried s.book s.book records records old new booked
    (record { places = λ p there. there; holds = λ h there. there; unbuffered = λ block none used. none; records = same_records s.book records; bodies = keeps })
    digest (history s digest) (live_of digest s.book.live) refl (trailed digest)
