-- Where the copy of an entry is stored, and what a raid may rely on.
use Rattle.std.proofs.Common.{◌≡◌, inl, inr, ℕ, true, false, List, refl, sym, ◌∙◌, subst}
use Rattle.std.proofs.lemmas.Bool.{both_ways, eq-eqb}
use Rattle.std.specs.Prelude.{Contains, Option, Some, ◌==◌}
use Rattle.law_lists.proofs.Finding.{any_there}
use Rattle.law_lists.proofs.Members.{map_from, filter_from}
use Rattle.rec_format.specs.declared.version.Digest.{Digest}
use Rattle.rec_format.specs.declared.version.Version.{Version}
use Rattle.rec_format.specs.Places.{same_digest}
use Rattle.model_device.specs.Histories.{Item, top_of}
use Rattle.model_device.specs.Book.{Setup, Book, Live, has_buffer, live_of}
use Rattle.model_device.specs.Device.{State, history, entry}
use Rattle.rec_format.proofs.Laws.{same_digest_is}
use Rattle.disk_model.specs.Disk.{Images}
use Rattle.block_format.specs.declared.geometry.Geometry.{Geometry}
use Rattle.block_format.specs.Layout.{Body}
use Rattle.block_format.specs.Copies.{Copy, IsReadable, copies_of, copies_named}
use Rattle.law_start.specs.Surviving.{IsPossible, HasNoOlder}
use Rattle.law_start.proofs.Images.{one_shape}
use Rattle.law_facts.specs.Facts.{NoneOlder, somewhere}
use Rattle.law_facts.proofs.Raids.{has_no_older}
use Rattle.law_trail.specs.Trail.{Records, StoredIn, WaitsIn, places_of, Trail, stored, first, replaced, moved, moved_found, uncovered_since, LeadsOn}
use Rattle.law_trail.proofs.Places.{buffer_place}
use Rattle.law_trail.proofs.Starting.{copy_stored}
use Rattle.law_trail.proofs.Whole.{pending_waits}
use Rattle.law_images.specs.Kept.{possible_in, IsKept}
use Rattle.law_images.specs.Changes.{HasRecord}
use Rattle.law_images.proofs.Reading.{body_shown}

-- ---- live copies

module _ (book : Book) (records : Records) (bodies : List Body) (digest : Digest) where
  waits_buffered : (number block : ℕ) (v : Version) → WaitsIn book records number block digest v → has_buffer book block ≡ true
  waits_buffered number block v waits = buffer_place book block ∙ any_there (λ (p : ℕ × ℕ). p.1 == block) (places_of book) (number, block) waits.placed (eq-eqb block block refl)

  -- a trail from a block without a buffer begins with what is stored there, the entry
  stored_first : {block : ℕ} {items : List Item} → Trail book records bodies digest block items → has_buffer book block ≡ false → (v : Version) → top_of items ≡ Some v → StoredIn bodies block digest v
  stored_first (stored {block = block} {v = w} none is) free v top = let same : w ≡ v = cc in subst (StoredIn bodies block digest) same is
  stored_first (first {block = block} {number = n} {v = w} waits none) free v top = absurd (both_ways (has_buffer book block) free (waits_buffered n block w waits))
  stored_first (replaced {block = block} {number = n} {v = w} waits held rest) free v top = absurd (both_ways (has_buffer book block) free (waits_buffered n block w waits))
  stored_first (moved {block = block} {number = n} {v = w} waits held rest) free v top = absurd (both_ways (has_buffer book block) free (waits_buffered n block w waits))
  stored_first (moved_found {block = block} {number = n} {v = w} waits held rest) free v top = absurd (both_ways (has_buffer book block) free (waits_buffered n block w waits))
  stored_first (uncovered_since rest) free v top = stored_first rest free v top

-- Each image shows the live copy of an entry, where its block has no buffer.
pub live_shown : (setup : Setup) (g : Geometry) (s : State) (records : Records) (images : Images) (digest : Digest) (copy : Live) (v : Version) → IsKept setup g s records images
    → live_of digest s.book.live ≡ Some copy → entry s digest ≡ Some v
    → has_buffer s.book copy.block ≡ false → (c : List ℕ) → images c → HasRecord g c copy.block digest v
live_shown setup g s records images digest copy v kept live top none c image =
    let u = kept.upheld c image in
    let trail = subst (λ (o : Option Live). LeadsOn s.book records u.bodies digest o (history s digest)) live (u.trailed digest) in
    let is = stored_first s.book records u.bodies digest trail none v top in
    record { body = is.body; placed = is.placed; shown = body_shown g c u.bodies is.body u.readable is.there; has = is.has }

-- ---- raids

-- What law_start calls possible is possible in some block.
pub possible_somewhere : (setup : Setup) (g : Geometry) (s : State) (records : Records) (images : Images) (digest : Digest) (v : Version) → IsKept setup g s records images
    → IsPossible setup s images digest v
    → somewhere (possible_in g s.book records images) digest v
possible_somewhere setup g s records images digest v kept (inl pending) = let w = pending_waits s records digest v kept.order.whole pending in (w.1, inl (w.0, w.2))
possible_somewhere setup g s records images digest v kept (inr is) =
    let r = subst (λ (h : Geometry). IsReadable is.image h is.bodies) (one_shape setup is.shape g is.is_shape kept.shape is.readable.header.geometry kept.geometry) is.readable in
    let m = map_from (λ (c : Copy). c.version) (copies_named digest (copies_of is.bodies)) v is.copy in
    let f = filter_from (λ (c : Copy). same_digest digest c.digest) (copies_of is.bodies) m.0 m.1 in
    let one = copy_stored is.bodies m.0 f.0 in (
      m.0.block,
      inr (record {
        image = is.image;
        is_left = is.is_left;
        body = one.body;
        shown = body_shown g is.image is.bodies one.body r one.there;
        placed = one.placed;
        has = subst (λ (d : Digest). Contains one.body.records (d, v)) (sym (same_digest_is digest m.0.digest f.1)) (subst (λ (w : Version). Contains one.body.records (m.0.digest, w)) m.2 one.has);
      }),
    )

-- so where no copy in any block is older than the entry, none is
pub kept_no_older : (setup : Setup) (g : Geometry) (s : State) (records : Records) (images : Images) (digest : Digest) (e : Version) → IsKept setup g s records images
    → entry s digest ≡ Some e → NoneOlder s (possible_in g s.book records images) digest
    → HasNoOlder setup s images digest e
kept_no_older setup g s records images digest e kept top none =
    has_no_older setup s images (possible_in g s.book records images) digest e top none (λ v is. possible_somewhere setup g s records images digest v kept is)
