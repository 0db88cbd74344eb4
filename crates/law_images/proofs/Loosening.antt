-- The images of a set with anything in the gates that are unsure, as the images change.
use Rattle.std.proofs.Common.{◌≡◌, ◌≢◌, inl, inr, ⊎_elim, ℕ, ◌+◌, ◌-◌, ◌<◌, List, length, refl, sym, ◌∙◌, ap, subst, arith}
use Rattle.std.proofs.lemmas.Bool.{cases_eq, eq-eqb, ne_eqb, cond-true, cond-false}
use Rattle.std.proofs.lemmas.List.{take_all}
use Rattle.std.specs.Prelude.{◌==◌}
use Rattle.disk_model.specs.Bytes.{Apart}
use Rattle.disk_model.specs.Disk.{Images, Within, TornFrom}
use Rattle.model_device.specs.Book.{Book}
use Rattle.rec_format.specs.declared.version.Digest.{Digest}
use Rattle.rec_format.specs.declared.version.Version.{Version}
use Rattle.block_format.specs.declared.geometry.Geometry.{Geometry}
use Rattle.block_format.specs.declared.geometry.Gate.{Gate}
use Rattle.block_format.specs.declared.geometry.Gate.TheVariants.{Shut, Set, Unsure}
use Rattle.block_format.specs.Layout.{IsGeometry, IsOpen, IsClosed, block_place, gate_sector, body_bytes, IsBody}
use Rattle.block_flusher.specs.Images.{IsShut, IsOpened, HasOneBody}
use Rattle.rec_format.specs.Versions.{block_capacity}
use Rattle.law_images.specs.Changes.{AllShow}
use Rattle.law_images.specs.Gates.{StandsOver, GateStands, KnowsGates, with_gate}
use Rattle.law_images.specs.Held.{IsAway, DiffersInUnsure, loosened, IsSurer, AreSure}
use Rattle.law_images.proofs.Parts.{low, away}
use Rattle.law_images.proofs.Splicing.{between}

-- ---- which gates are unsure

pub gate_own : (block k : ℕ) (gate : Gate) (gates : ℕ → Gate) → k ≡ block → with_gate block gate gates k ≡ gate
gate_own block k gate gates e = cond-true (k == block) gate (gates k) (eq-eqb k block e)

pub gate_other : (block k : ℕ) (gate : Gate) (gates : ℕ → Gate) → k ≢ block → with_gate block gate gates k ≡ gates k
gate_other block k gate gates other = cond-false (k == block) gate (gates k) (ne_eqb k block other)

-- one gate is known
pub surer_with : (g : Geometry) (block : ℕ) (gate : Gate) (gates : ℕ → Gate) → (gate ≡ Unsure → gates block ≡ Unsure) → IsSurer g gates (with_gate block gate gates)
surer_with g block gate gates is k lt unsure =
    ⊎_elim (λ (e : k ≡ block). subst (λ (x : ℕ). gates x ≡ Unsure) (sym e) (is (sym (gate_own block k gate gates e) ∙ unsure)))
    (λ (other : k ≢ block). sym (gate_other block k gate gates other) ∙ unsure) (cases_eq k block)

-- and it was unsure meanwhile
pub surer_since : (g : Geometry) (block : ℕ) (gate : Gate) (gates : ℕ → Gate) → IsSurer g (with_gate block Unsure gates) (with_gate block gate gates)
surer_since g block gate gates k lt unsure =
    ⊎_elim (λ (e : k ≡ block). gate_own block k Unsure gates e)
    (λ (other : k ≢ block). gate_other block k Unsure gates other ∙ sym (gate_other block k gate gates other) ∙ unsure) (cases_eq k block)

-- ---- images

module _ (g : Geometry) (gates : ℕ → Gate) where
  -- each image is among them
  pub loosened_has : (images : Images) → Within (loosened g gates images) images
  loosened_has images c image = (c, image, record { size = refl; apart = λ a m free. refl })

  -- and no other, where no gate is unsure
  pub loosened_sure : (images : Images) → AreSure g gates → Within images (loosened g gates images)
  loosened_sure images sure c image = subst images same image.1
    where
      d : List ℕ
      d = image.0

      same : d ≡ c
      same =
          let is = image.2.apart 0 (length c) (λ k lt unsure. absurd (sure k lt unsure)) in
          let size = image.2.size in
          sym (take_all (length c) d (omega (arith, size))) ∙ sym is ∙ take_all (length c) c (omega arith)

  pub loosened_fewer : (before now : Images) → Within before now → Within (loosened g gates before) (loosened g gates now)
  loosened_fewer before now fewer c image = (image.0, fewer image.0 image.1, image.2)

  -- a write changes them as it changes the images
  pub loosened_torn : (place n : ℕ) (before now : Images) → TornFrom place n before now → TornFrom place n (loosened g gates before) (loosened g gates now)
  loosened_torn place n before now torn c image =
      let t = torn image.0 image.1 in
      let is = between g gates place n t.0 c (image.2.size ∙ t.2.size) (λ a m out free. image.2.apart a m free ∙ t.2.apart a m out) in
      (is.0, (t.0, t.1, is.1), is.2)

  -- the write of a gate that is unsure brings no other
  pub loosened_written : (block : ℕ) (before now : Images) → block < g.blocks → gates block ≡ Unsure → TornFrom (block_place g block) 4096 before now
      → Within (loosened g gates before) (loosened g gates now)
  loosened_written block before now lt unsure torn c image =
      let t = torn image.0 image.1 in
      (t.0, t.1, record { size = image.2.size ∙ t.2.size; apart = λ a m free. image.2.apart a m free ∙ t.2.apart a m (free block lt unsure) })

-- where fewer gates are unsure there are fewer
pub loosened_surer : (g : Geometry) (old new : ℕ → Gate) (images : Images) → IsSurer g old new → Within (loosened g old images) (loosened g new images)
loosened_surer g old new images surer c image = (image.0, image.1, record { size = image.2.size; apart = λ a m free. image.2.apart a m (λ k lt unsure. free k lt (surer k lt unsure)) })

-- Where one more is unsure, they are those before but for its gate.
pub loosened_begun : (g : Geometry) (gates : ℕ → Gate) (block : ℕ) (images : Images) → TornFrom (block_place g block) 4096 (loosened g gates images) (loosened g (with_gate block Unsure gates) images)
loosened_begun g gates block images c image =
    let is = between g gates (block_place g block) 4096 image.0 c image.2.size (λ a m out free. image.2.apart a m (freed a m out free)) in
    (is.0, (image.0, image.1, is.1), is.2)
  where
    freed : (a m : ℕ) → Apart a m (block_place g block) 4096 → IsAway g gates a m → IsAway g (with_gate block Unsure gates) a m
    freed a m out free k lt unsure =
        ⊎_elim (λ (e : k ≡ block). subst (λ (x : ℕ). Apart a m (block_place g x) 4096) (sym e) out)
        (λ (other : k ≢ block). free k lt (sym (gate_other block k Unsure gates other) ∙ unsure)) (cases_eq k block)

-- ---- what they show

module _ (g : Geometry) (is : IsGeometry g) (gates : ℕ → Gate) (images : Images) where
  gate_away : (k : ℕ) → gates k ≢ Unsure → IsAway g gates (block_place g k) 4096
  gate_away k sure j lt unsure = narrow (away g j is k 0 4096 (λ e. sure (ap gates e ∙ unsure)) (let size = low g j is in omega (arith, size)))
    where
      narrow : Apart (block_place g k + 0) 4096 (block_place g j) g.block_size → Apart (block_place g k) 4096 (block_place g j) 4096
      narrow (inl before) = inl (omega (arith, before))
      narrow (inr behind) = let size = low g j is in inr (omega (arith, behind, size))

  body_away : (k : ℕ) → IsAway g gates (block_place g k + 4096) (g.block_size - 4096)
  body_away k j lt unsure = ⊎_elim (λ (e : k ≡ j). inr (let same = ap (block_place g) e in omega (arith, same)))
      (λ (other : k ≢ j). narrow (away g j is k 4096 (g.block_size - 4096) other (let size = low g j is in omega (arith, size)))) (cases_eq k j)
    where
      narrow : Apart (block_place g k + 4096) (g.block_size - 4096) (block_place g j) g.block_size → Apart (block_place g k + 4096) (g.block_size - 4096) (block_place g j) 4096
      narrow (inl before) = inl before
      narrow (inr behind) = let size = low g j is in inr (omega (arith, behind, size))

  pub gate_same : (k : ℕ) (old new : List ℕ) → gates k ≢ Unsure → DiffersInUnsure g gates old new → gate_sector g k new ≡ gate_sector g k old
  gate_same k old new sure differs = differs.apart (block_place g k) 4096 (gate_away k sure)

  pub body_same : (k : ℕ) (old new : List ℕ) → DiffersInUnsure g gates old new → body_bytes g k new ≡ body_bytes g k old
  body_same k old new differs = differs.apart (block_place g k + 4096) (g.block_size - 4096) (body_away k)

  pub shut_still : (k : ℕ) → gates k ≢ Unsure → IsShut g k images → IsShut g k (loosened g gates images)
  shut_still k sure shut c image = subst IsClosed (sym (gate_same k image.0 c sure image.2)) (shut image.0 image.1)

  pub open_still : (k : ℕ) → gates k ≢ Unsure → IsOpened g k images → IsOpened g k (loosened g gates images)
  open_still k sure opened c image = subst IsOpen (sym (gate_same k image.0 c sure image.2)) (opened image.0 image.1)

  pub one_still : (k : ℕ) (bytes : List ℕ) → HasOneBody g k bytes images → HasOneBody g k bytes (loosened g gates images)
  one_still k bytes one c image = body_same k image.0 c image.2 ∙ one image.0 image.1

  over_still : (k : ℕ) (bytes : List ℕ) → StandsOver g k bytes images → StandsOver g k bytes (loosened g gates images)
  over_still k bytes over = record { one = one_still k bytes over.one; is_body = over.is_body }

  stands_as : (k : ℕ) (gate : Gate) → gates k ≡ gate → GateStands g images k gate → GateStands g (loosened g gates images) k gate
  stands_as k Shut at stands = shut_still k (λ unsure. not_shut (sym at ∙ unsure)) stands
    where
      not_shut : Shut ≢ Unsure
      not_shut e = grind (arith, e)
  stands_as k Set at stands = (open_still k (λ unsure. not_set (sym at ∙ unsure)) stands.0, (stands.1.0, over_still k stands.1.0 stands.1.1))
    where
      not_set : Set ≢ Unsure
      not_set e = grind (arith, e)
  stands_as k Unsure at stands = (stands.0, over_still k stands.0 stands.1)

  -- each gate stands in them as it does in the images
  pub stands_still : (k : ℕ) → GateStands g images k (gates k) → GateStands g (loosened g gates images) k (gates k)
  stands_still k stands = stands_as k (gates k) refl stands

  pub knows_still : (book : Book) → KnowsGates g book images gates → KnowsGates g book (loosened g gates images) gates
  knows_still book knows = record { stands = λ block lt. stands_still block (knows.stands block lt); waiting = knows.waiting }

  -- and the records that each image shows behind a gate that isn't unsure
  pub all_show_still : (block : ℕ) (records : List (Digest × Version)) → gates block ≢ Unsure → AllShow g block records images → AllShow g block records (loosened g gates images)
  all_show_still block records sure show c image =
      let was = show image.0 image.1 in
      record {
        body = was.body;
        placed = was.placed;
        shown = record {
          within = was.shown.within;
          is_open = subst IsOpen (sym (gate_same was.body.block image.0 c (subst (λ (k : ℕ). gates k ≢ Unsure) (sym was.placed) sure) image.2)) was.shown.is_open;
          is_body = subst (λ (l : List ℕ). IsBody (block_capacity g.block_size) l was.body) (sym (body_same was.body.block image.0 c image.2)) was.shown.is_body;
        };
        same = was.same;
      }
