-- What stands behind a gate that is unsure counts as possible: what a shelf does keeps it so.
use Rattle.std.proofs.Common.{◌≡◌, ◌≢◌, ⊎_elim, ℕ, ◌+◌, ◌-◌, ◌<◌, List, refl, sym, ◌∙◌, ap, subst, arith}
use Rattle.std.proofs.lemmas.Bool.{cases_eq, both_ways}
use Rattle.std.specs.Prelude.{Contains, false}
use Rattle.disk_model.specs.Disk.{Images, Within, TornFrom}
use Rattle.rec_format.specs.declared.version.Digest.{Digest}
use Rattle.rec_format.specs.declared.version.Version.{Version}
use Rattle.model_device.specs.Histories.{is_begun}
use Rattle.model_device.specs.Book.{Setup, Book, pending_of}
use Rattle.model_device.specs.Device.{State}
use Rattle.block_format.specs.declared.geometry.Geometry.{Geometry}
use Rattle.block_format.specs.declared.geometry.Gate.{Gate}
use Rattle.block_format.specs.declared.geometry.Gate.TheVariants.{Shut, Set, Unsure}
use Rattle.block_format.specs.Layout.{IsGeometry, block_place, body_bytes}
use Rattle.law_start.specs.Surviving.{Survives}
use Rattle.block_flusher.specs.Images.{IsShut, IsOpened, HasOneBody, IsBodyOf}
use Rattle.law_trail.specs.Trail.{Records, places_of, IsBooked}
use Rattle.law_trail.proofs.Flushing.{one_place}
use Rattle.law_images.specs.Kept.{IsKept}
use Rattle.law_images.specs.Changes.{BringsNone, IsOpening}
use Rattle.law_images.specs.Gates.{GateStands, KnowsGates, IsBodyWith, with_gate}
use Rattle.law_images.specs.Held.{loosened, IsKeptLoosened, IsSurer, AreSure}
use Rattle.law_images.proofs.Changing.{fewer_kept, fewer_brings}
use Rattle.law_images.proofs.Gates.{body_call_kept, body_call_brings, closing_call_kept, closing_call_brings, opening_call_kept, gate_torn, over_seen}
use Rattle.law_images.proofs.Knowing.{knows_changed}
use Rattle.law_images.proofs.Loosening.{gate_own, gate_other, surer_with, surer_since, loosened_has, loosened_sure, loosened_fewer, loosened_torn}
use Rattle.law_images.proofs.Loosening.{loosened_written, loosened_surer, loosened_begun, shut_still, open_still, one_still}
use Rattle.law_images.proofs.Parts.{body_changes, gate_changes, body_stays}
use Rattle.law_images.proofs.Surviving.{kept_survives}

set_not_unsure : Set ≢ Unsure
set_not_unsure e = grind (arith, e)

unsure_not_shut : Unsure ≢ Shut
unsure_not_shut e = grind (arith, e)

shut_not_unsure : Shut ≢ Unsure
shut_not_unsure e = grind (arith, e)

-- ---- images, and what is known of gates

module _ (setup : Setup) (g : Geometry) (s : State) (records : Records) where
  -- the images themselves are kept
  pub held_kept : (gates : ℕ → Gate) (images : Images) → IsKeptLoosened setup g s records gates images → IsKept setup g s records images
  held_kept gates images held = fewer_kept setup g s records (loosened g gates images) images (loosened_has g gates images) held

  pub held_survives : (gates : ℕ → Gate) (images : Images) → IsKeptLoosened setup g s records gates images → (c : List ℕ) → images c → Survives setup s c
  held_survives gates images held c image = kept_survives setup g s records (loosened g gates images) held c (loosened_has g gates images c image)

  -- where no gate is unsure that is all
  pub held_sure : (gates : ℕ → Gate) (images : Images) → AreSure g gates → IsKept setup g s records images → IsKeptLoosened setup g s records gates images
  held_sure gates images sure kept = fewer_kept setup g s records images (loosened g gates images) (loosened_sure g gates images sure) kept

  -- A read, or a sync: no other image comes, and of some gates more may be known.
  pub held_fewer : (old new : ℕ → Gate) (before now : Images) → IsSurer g old new → Within before now → IsKeptLoosened setup g s records old before → IsKeptLoosened setup g s records new now
  held_fewer old new before now surer fewer held =
      fewer_kept setup g s records (loosened g old before) (loosened g new now) (λ c image. loosened_surer g old new before surer c (loosened_fewer g new before now fewer c image)) held

  -- A gate was unsure while it was written, and is known then.
  pub held_known : (gates : ℕ → Gate) (since now : Images) (block : ℕ) (gate : Gate) → Within since now → IsKeptLoosened setup g s records (with_gate block Unsure gates) since
      → IsKeptLoosened setup g s records (with_gate block gate gates) now
  held_known gates since now block gate fewer held = held_fewer (with_gate block Unsure gates) (with_gate block gate gates) since now (surer_since g block gate gates) fewer held

-- ---- the writes of a block

module _ (setup : Setup) (g : Geometry) (s : State) (records : Records) (gates : ℕ → Gate) (before since : Images) (block : ℕ) (lt : block < g.blocks)
    (held : IsKeptLoosened setup g s records gates before) where
  -- The body is written behind a gate that is shut.
  pub body_held : gates block ≡ Shut → IsShut g block before → IsShut g block since → TornFrom (block_place g block + 4096) (g.block_size - 4096) before since
      → IsKeptLoosened setup g s records gates since
  body_held is shut still torn =
      let sure : gates block ≢ Unsure = λ unsure. shut_not_unsure (sym is ∙ unsure) in
      body_call_kept setup g s records (loosened g gates before) (loosened g gates since) block lt held (shut_still g held.geometry gates before block sure shut)
      (shut_still g held.geometry gates since block sure still)
      (loosened_torn g gates (block_place g block + 4096) (g.block_size - 4096) before since torn)

  -- A gate that is unsure is written, whatever the images show there now.
  pub unsure_held : gates block ≡ Unsure → TornFrom (block_place g block) 4096 before since → IsKeptLoosened setup g s records gates since
  unsure_held is torn = fewer_kept setup g s records (loosened g gates before) (loosened g gates since) (loosened_written g gates block before since lt is torn) held

  -- where it may be unsure, it is written
  begun_held : IsKeptLoosened setup g s records (with_gate block Unsure gates) before → TornFrom (block_place g block) 4096 before since
      → IsKeptLoosened setup g s records (with_gate block Unsure gates) since
  begun_held is torn =
      fewer_kept setup g s records (loosened g (with_gate block Unsure gates) before) (loosened g (with_gate block Unsure gates) since)
      (loosened_written g (with_gate block Unsure gates) block before since lt (gate_own block block Unsure gates refl) torn) is

  -- A gate that isn't shut is closed. If it is set, the block is free, so what stands behind it was possible; if it is unsure, nothing is asked.
  pub close_held : GateStands g before block (gates block) → gates block ≢ Shut → (gates block ≡ Set → Contains s.book.free block) → TornFrom (block_place g block) 4096 before since
      → IsKeptLoosened setup g s records (with_gate block Unsure gates) since
  close_held stands not_shut free torn = begun_held (by (gates block) refl stands) torn
    where
      by : (gate : Gate) → gates block ≡ gate → GateStands g before block gate → IsKeptLoosened setup g s records (with_gate block Unsure gates) before
      by Shut is at = absurd (not_shut is)
      by Set is at =
          closing_call_kept setup g s records (loosened g gates before) (loosened g (with_gate block Unsure gates) before) block lt held (free is)
          (open_still g held.geometry gates before block (λ unsure. set_not_unsure (sym is ∙ unsure)) at.0) (loosened_begun g gates block before)
      by Unsure is at = held_fewer setup g s records gates (with_gate block Unsure gates) before before (surer_with g block Unsure gates (λ same. is)) (λ c image. image) held

  -- The gate of a pending buffer is opened over its body, for the first time or again.
  pub open_held : (number : ℕ) (bytes : List ℕ) → IsOpening s.book number block → HasOneBody g block bytes before → IsBodyWith g block bytes (records number)
      → TornFrom (block_place g block) 4096 before since
      → IsKeptLoosened setup g s records (with_gate block Unsure gates) since
  open_held number bytes opening one is_body torn =
      begun_held
      (opening_call_kept setup g s records (loosened g gates before) (loosened g (with_gate block Unsure gates) before) block lt held number bytes opening
      (one_still g held.geometry gates before block bytes one) is_body
      (loosened_begun g gates block before)) torn

  -- ---- none of them shows a copy that wasn't possible

  pub body_brings : gates block ≡ Shut → IsShut g block since → TornFrom (block_place g block + 4096) (g.block_size - 4096) before since
      → BringsNone g s.book records (loosened g gates before) (loosened g gates since)
  body_brings is still torn =
      body_call_brings setup g s records (loosened g gates before) (loosened g gates since) block lt held
      (shut_still g held.geometry gates since block (λ unsure. shut_not_unsure (sym is ∙ unsure)) still)
      (loosened_torn g gates (block_place g block + 4096) (g.block_size - 4096) before since torn)

  pub unsure_brings : gates block ≡ Unsure → TornFrom (block_place g block) 4096 before since → BringsNone g s.book records (loosened g gates before) (loosened g gates since)
  unsure_brings is torn = fewer_brings g s.book records (loosened g gates before) (loosened g gates since) (loosened_written g gates block before since lt is torn)

  pub set_brings : gates block ≡ Set → IsOpened g block before → TornFrom (block_place g block) 4096 before since
      → BringsNone g s.book records (loosened g gates before) (loosened g (with_gate block Unsure gates) since)
  set_brings is opened torn k digest v left =
      closing_call_brings setup g s records (loosened g gates before) (loosened g (with_gate block Unsure gates) before) block lt held
      (open_still g held.geometry gates before block (λ unsure. set_not_unsure (sym is ∙ unsure)) opened) (loosened_begun g gates block before) k digest v
      (record {
        image = left.image;
        is_left = loosened_written g (with_gate block Unsure gates) block before since lt (gate_own block block Unsure gates refl) torn left.image left.is_left;
        body = left.body;
        shown = left.shown;
        placed = left.placed;
        has = left.has;
      })

-- ---- what is known of gates meanwhile

pub knows_same : (g : Geometry) (book : Book) (images : Images) (old new : ℕ → Gate) → ((k : ℕ) → new k ≡ old k) → KnowsGates g book images old → KnowsGates g book images new
knows_same g book images old new same knows = record {
  stands = λ block lt. subst (GateStands g images block) (sym (same block)) (knows.stands block lt);
  waiting = λ number block there unbegun. same block ∙ knows.waiting number block there unbegun;
}

-- What the closing of a gate asks, where it isn't shut: each image has the body that one of them has, and it is a body.
pub close_asks : (g : Geometry) (book : Book) (images : Images) (gates : ℕ → Gate) (block : ℕ) (seen : List ℕ) → KnowsGates g book images gates → block < g.blocks → gates block ≢ Shut → images seen
    → HasOneBody g block (body_bytes g block seen) images × IsBodyOf g block (body_bytes g block seen)
close_asks g book images gates block seen knows lt not_shut image = by (gates block) refl (knows.stands block lt)
  where
    by : (gate : Gate) → gates block ≡ gate → GateStands g images block gate → HasOneBody g block (body_bytes g block seen) images × IsBodyOf g block (body_bytes g block seen)
    by Shut shut stands = absurd (not_shut shut)
    by Set set stands = over_seen g images block stands.1.0 seen stands.1.1 image
    by Unsure unsure stands = over_seen g images block stands.0 seen stands.1 image

-- a gate was unsure while it was written, and stands as it is known then
pub knows_known : (g : Geometry) (book : Book) (gates : ℕ → Gate) (images : Images) (block : ℕ) (gate : Gate) → GateStands g images block gate → KnowsGates g book images (with_gate block Unsure gates)
    → KnowsGates g book images (with_gate block gate gates)
knows_known g book gates images block gate stands knows = record {
  stands = λ k lt.
      ⊎_elim (λ (e : k ≡ block). subst (λ (x : Gate). GateStands g images k x) (sym (gate_own block k gate gates e)) (subst (λ (x : ℕ). GateStands g images x gate) (sym e) stands))
      (λ (other : k ≢ block). subst (GateStands g images k) (gate_other block k Unsure gates other ∙ sym (gate_other block k gate gates other)) (knows.stands k lt)) (cases_eq k block);
  waiting = λ number k there unbegun.
      let was = knows.waiting number k there unbegun in
      ⊎_elim (λ (e : k ≡ block). absurd (unsure_not_shut (sym (gate_own block k Unsure gates e) ∙ was)))
      (λ (other : k ≢ block). gate_other block k gate gates other ∙ sym (gate_other block k Unsure gates other) ∙ was) (cases_eq k block);
}

module _ (g : Geometry) (is : IsGeometry g) (book : Book) (gates : ℕ → Gate) (before since : Images) (block : ℕ) (lt : block < g.blocks) (knows : KnowsGates g book before gates) where
  -- the body is written
  pub body_knows : gates block ≡ Shut → IsShut g block since → TornFrom (block_place g block + 4096) (g.block_size - 4096) before since → KnowsGates g book since gates
  body_knows shut still torn =
      knows_same g book since (with_gate block Shut gates) gates same
      (knows_changed g book before since gates block Shut (body_changes g block is before since torn) still (λ number there unbegun. refl) knows)
    where
      same : (k : ℕ) → gates k ≡ with_gate block Shut gates k
      same k = ⊎_elim (λ (e : k ≡ block). ap gates e ∙ shut ∙ sym (gate_own block k Shut gates e)) (λ (other : k ≢ block). sym (gate_other block k Shut gates other)) (cases_eq k block)

  -- a gate that isn't shut is written
  pub write_knows : gates block ≢ Shut → TornFrom (block_place g block) 4096 before since → KnowsGates g book since (with_gate block Unsure gates)
  write_knows not_shut torn =
      knows_changed g book before since gates block Unsure (gate_changes g block is before since torn) (by (gates block) refl (knows.stands block lt))
      (λ number there unbegun. absurd (not_shut (knows.waiting number block there unbegun))) knows
    where
      by : (gate : Gate) → gates block ≡ gate → GateStands g before block gate → GateStands g since block Unsure
      by Shut shut stands = absurd (not_shut shut)
      by Set set stands = gate_torn g before since block stands.1.0 is torn stands.1.1
      by Unsure unsure stands = gate_torn g before since block stands.0 is torn stands.1

  -- the gate of a pending buffer is opened
  pub open_knows : (number : ℕ) (bytes : List ℕ) (own : List (Digest × Version)) → IsBooked book → IsOpening book number block → HasOneBody g block bytes before
      → IsBodyWith g block bytes own → TornFrom (block_place g block) 4096 before since
      → KnowsGates g book since (with_gate block Unsure gates)
  open_knows number bytes own booked opening one is_body torn =
      knows_changed g book before since gates block Unsure (gate_changes g block is before since torn)
      (bytes, record { one = λ c image. let t = torn c image in body_stays g block is t.0 c t.2 ∙ one t.0 t.1; is_body = (is_body.body, is_body.is_body, is_body.placed) }) never knows
    where
      never : (m : ℕ) → Contains (places_of book) (m, block) → is_begun (pending_of book) m ≡ false → Unsure ≡ Shut
      never m there unbegun =
          let same = ap (λ (p : ℕ × ℕ). p.0) (one_place (places_of book) (m, block) (number, block) booked.apart there opening.placed refl) in
          absurd (both_ways (is_begun (pending_of book) m) unbegun (ap (is_begun (pending_of book)) same ∙ opening.begun))
