-- What a scan of a block has to read, and what it finds.
use Rattle.std.proofs.Common.{◌≡◌, ◌⊎◌, inl, inr, ℕ, Bool, false, ◌&&◌, List, [], ◌∷◌, refl, sym, ◌∙◌, ap, subst}
use Rattle.std.proofs.lemmas.Bool.{both_ways, eq-eqb, and_from}
use Rattle.std.specs.Prelude.{Contains, ◌==◌, filter}
use Rattle.std.specs.List.{list_any}
use Rattle.law_lists.proofs.Finding.{any_there}
use Rattle.law_lists.proofs.Members.{map_there, filter_there}
use Rattle.rec_format.specs.declared.version.Digest.{Digest}
use Rattle.rec_format.specs.declared.version.Stamp.{Stamp}
use Rattle.rec_format.specs.declared.version.Version.{Version}
use Rattle.rec_format.specs.Places.{same_digest}
use Rattle.model_device.specs.Book.{Setup, has_buffer}
use Rattle.model_device.specs.Device.{State, scan_turn, entry, stamp_of}
use Rattle.model_device.specs.Steps.{is_older_than, scanned_block, after_step}
use Rattle.model_device.specs.Events.{Event}
use Rattle.rec_format.proofs.Laws.{same_digest_refl}
use Rattle.disk_model.specs.Disk.{Images}
use Rattle.block_format.specs.declared.geometry.Geometry.{Geometry}
use Rattle.block_format.specs.Layout.{IsOpen, IsClosed, gate_sector, body_bytes, Body}
use Rattle.block_flusher.specs.Images.{IsShut, HasOneBody}
use Rattle.law_facts.specs.Facts.{Possible}
use Rattle.law_facts.specs.Asking.{FindsOlder, ScansAll}
use Rattle.law_trail.specs.Trail.{Records, places_of}
use Rattle.law_trail.proofs.Flushing.{one_place}
use Rattle.law_trail.proofs.Places.{buffer_place}
use Rattle.law_images.specs.Kept.{Shows, possible_in, IsKept}
use Rattle.law_images.specs.Changes.{OpensOver, ShowsRecords}
use Rattle.law_images.specs.Scans.{IsScanOf, FindsAmong, older_among}
use Rattle.law_images.proofs.Reading.{one_shown, one_behind}
use Rattle.law_images.proofs.Stepping.{plain_kept}

-- ---- what has to be read

-- of a pending buffer's block its records, as long as no image shows others there
pub read_waiting : (setup : Setup) (g : Geometry) (s : State) (records : Records) (images : Images) (number block : ℕ) → IsKept setup g s records images
    → Contains (places_of s.book) (number, block) → OpensOver g block (records number) images
    → IsScanOf g s.book records images block (records number)
read_waiting setup g s records images number block kept placed opens = record {
  pending = λ m there r has. subst (λ (k : ℕ). Contains (records k) r)
      (ap (λ (p : ℕ × ℕ). p.0) (one_place (places_of s.book) (m, block) (number, block) kept.order.booked.apart there placed refl)) has;
  stored = λ c image body at shown r has. by c body at shown r has (opens c image);
}
  where
    by : (c : List ℕ) (body : Body) → body.block ≡ block → Shows g c body → (r : Digest × Version) → Contains body.records r → IsClosed (gate_sector g block c)
        ⊎ ShowsRecords g c block (records number) → Contains (records number) r
    by c body at shown r has (inl closed) = absurd (closed (subst (λ (k : ℕ). IsOpen (gate_sector g k c)) at shown.is_open))
    by c body at shown r has (inr is) =
        subst (λ (l : List (Digest × Version)). Contains l r) (ap (λ (b : Body). b.records) (one_shown g c body is.body shown is.shown (at ∙ sym is.placed)) ∙ is.same) has

module _ (g : Geometry) (s : State) (records : Records) (images : Images) (block : ℕ) (none : has_buffer s.book block ≡ false) where
  no_place : (number : ℕ) → Contains (places_of s.book) (number, block) → ⊥
  no_place number there =
      both_ways (has_buffer s.book block) none (buffer_place s.book block ∙ any_there (λ (p : ℕ × ℕ). p.1 == block) (places_of s.book) (number, block) there (eq-eqb block block refl))

  -- of a block that is shut nothing
  pub read_shut : IsShut g block images → IsScanOf g s.book records images block []
  read_shut shut = record {
    pending = λ number there r has. absurd (no_place number there);
    stored = λ c image body at shown r has. absurd (shut c image (subst (λ (k : ℕ). IsOpen (gate_sector g k c)) at shown.is_open));
  }

  -- of another the body that is seen in one image, if each has the same behind its gate
  pub read_set : (bytes seen : List ℕ) (body : Body) → HasOneBody g block bytes images → images seen → Shows g seen body → body.block ≡ block → IsScanOf g s.book records images block body.records
  read_set bytes seen body one image shows placed = record {
    pending = λ number there r has. absurd (no_place number there);
    stored = λ c is other at shown r has.
        let same = one_behind g c seen other body shown shows (at ∙ sym placed)
        (ap (λ (k : ℕ). body_bytes g k seen) placed ∙ one seen image ∙ sym (one c is) ∙ ap (λ (k : ℕ). body_bytes g k c) (sym at)) in
        subst (λ (b : Body). Contains b.records r) same has;
  }

-- ---- what is found

-- A scan finds what it has to, if all that the block may have was read.
pub scan_finds : (g : Geometry) (s : State) (records : Records) (images : Images) (block : ℕ) (read : List (Digest × Version)) (copies : List (Digest × Stamp))
    → IsScanOf g s.book records images block read → FindsAmong s read copies
    → FindsOlder s (possible_in g s.book records images) block copies
scan_finds g s records images block read copies is finds digest v marked o =
    finds (digest, v) (there o.may_come) marked (ap (λ e. is_older_than (stamp_of e) v.stamp) o.top ∙ o.later)
  where
    there : possible_in g s.book records images block digest v → Contains read (digest, v)
    there (inl waits) = is.pending waits.0 waits.1.placed (digest, v) waits.1.has
    there (inr left) = is.stored left.image left.is_left left.body left.placed left.shown (digest, v) left.has

pub older_found : (s : State) (read : List (Digest × Version)) → FindsAmong s read (older_among s read)
older_found s read r there marked older =
    map_there (λ (x : Digest × Version). (x.0, x.1.stamp)) (filter passes read) r
    (filter_there passes read r (and_from (list_any (same_digest r.0) s.raid.marked) (is_older_than (stamp_of (entry s r.0)) r.1.stamp)
    (any_there (same_digest r.0) s.raid.marked r.0 marked (same_digest_refl r.0)) older) there)
  where
    passes : Digest × Version → Bool
    passes x = list_any (same_digest x.0) s.raid.marked && is_older_than (stamp_of (entry s x.0)) x.1.stamp

-- so the scan's step may be taken
pub scan_kept : (setup : Setup) (g : Geometry) (s : State) (records : Records) (images : Images) (block : ℕ) (read : List (Digest × Version)) (copies : List (Digest × Stamp))
    → IsKept setup g s records images → s.raid.next ≡ scan_turn block
    → IsScanOf g s.book records images block read → FindsAmong s read copies → IsKept setup g (after_step setup (scanned_block copies) s) records images
scan_kept setup g s records images block read copies kept turn is finds =
    plain_kept setup g s records images kept (scanned_block copies) refl (block, turn, scan_finds g s records images block read copies is finds)

-- and an event that is this scan finds all
pub scans_all : (g : Geometry) (s : State) (records : Records) (images : Images) (event : Event) (block : ℕ) (read : List (Digest × Version)) (copies : List (Digest × Stamp))
    → s.raid.next ≡ scan_turn block → event.steps ≡ scanned_block copies ∷ []
    → IsScanOf g s.book records images block read → FindsAmong s read copies → ScansAll s (possible_in g s.book records images) event
scans_all g s records images event block read copies turn steps is finds other found other_turn other_steps =
    subst (λ (k : ℕ). FindsOlder s (possible_in g s.book records images) k found) same_block
    (subst (λ (l : List (Digest × Stamp)). FindsOlder s (possible_in g s.book records images) block l) same_copies (scan_finds g s records images block read copies is finds))
  where
    turns : scan_turn block ≡ scan_turn other
    turns = sym turn ∙ other_turn

    same_block : block ≡ other
    same_block = cc

    both : scanned_block copies ∷ [] ≡ scanned_block found ∷ []
    both = sym steps ∙ other_steps

    same_copies : copies ≡ found
    same_copies = cc

-- one that scans nothing has nothing to find
pub no_scan : (s : State) (possible : Possible) (event : Event) → ((copies : List (Digest × Stamp)) → event.steps ≡ scanned_block copies ∷ [] → ⊥) → ScansAll s possible event
no_scan s possible event none block copies turn steps = absurd (none copies steps)
