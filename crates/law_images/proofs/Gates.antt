-- What a shelf knows of gates, and the writes of a block, as the block's calls promise them.
use Rattle.std.proofs.Common.{◌≡◌, ◌≢◌, ◌⊎◌, inl, inr, ⊎_elim, ℕ, ◌+◌, ◌-◌, ◌<◌, List, sym, ◌∙◌, ap, subst}
use Rattle.std.specs.Prelude.{Contains}
use Rattle.rec_format.specs.declared.version.Digest.{Digest}
use Rattle.rec_format.specs.declared.version.Version.{Version}
use Rattle.rec_format.specs.Versions.{block_capacity}
use Rattle.model_device.specs.Book.{Setup}
use Rattle.model_device.specs.Device.{State}
use Rattle.model_device.specs.Steps.{flushed_buffer, after_step}
use Rattle.disk_model.specs.Bytes.{Torn}
use Rattle.disk_model.specs.Disk.{Images, Within, TornFrom}
use Rattle.block_format.specs.declared.geometry.Geometry.{Geometry}
use Rattle.block_format.specs.declared.geometry.Gate.{Gate}
use Rattle.block_format.specs.declared.geometry.Gate.TheVariants.{Shut, Set, Unsure}
use Rattle.block_format.specs.Layout.{IsGeometry, IsOpen, IsClosed, block_place, gate_sector, body_bytes, Body, IsBody}
use Rattle.block_flusher.specs.Images.{IsShut, IsOpened, HasOneBody, IsBodyOf, OpensOverOneBody}
use Rattle.law_trail.specs.Trail.{Records, places_of}
use Rattle.law_images.specs.Kept.{Shows, IsKept}
use Rattle.law_images.specs.Changes.{ChangesIn, ShowsRecords, OpensOver, AllShow, OpensAsBefore, BringsNone, IsOpening}
use Rattle.law_images.specs.Gates.{StandsOver, GateStands, IsBodyWith}
use Rattle.law_images.proofs.Reading.{IsClear, IsShownIn, clear_block}
use Rattle.law_images.proofs.Changing.{behind_kept, behind_brings, closing_kept, closing_brings, opening_kept}
use Rattle.law_images.proofs.Parts.{closed_or_open, body_changes, gate_changes, body_stays}
use Rattle.law_images.proofs.Stepping.{flushed_kept}

-- ---- what is known of a gate

over_fewer : (g : Geometry) (before now : Images) (block : ℕ) (bytes : List ℕ) → Within before now → StandsOver g block bytes before → StandsOver g block bytes now
over_fewer g before now block bytes fewer over = record { one = λ c image. over.one c (fewer c image); is_body = over.is_body }

over_elsewhere : (g : Geometry) (before now : Images) (block k : ℕ) (bytes : List ℕ) → ChangesIn g block before now → k < g.blocks → k ≢ block → StandsOver g k bytes before → StandsOver g k bytes now
over_elsewhere g before now block k bytes changes lt other over = record { one = λ c image. let d = changes c image in d.2.bodies k lt other ∙ over.one d.0 d.1; is_body = over.is_body }

-- where there are fewer images it stands
pub gates_fewer : (g : Geometry) (before now : Images) (block : ℕ) (gate : Gate) → Within before now → GateStands g before block gate → GateStands g now block gate
gates_fewer g before now block Shut fewer stands = λ c image. stands c (fewer c image)
gates_fewer g before now block Set fewer stands = (λ c image. stands.0 c (fewer c image), (stands.1.0, over_fewer g before now block stands.1.0 fewer stands.1.1))
gates_fewer g before now block Unsure fewer stands = (stands.0, over_fewer g before now block stands.0 fewer stands.1)

-- and where another block changes
pub gates_elsewhere : (g : Geometry) (before now : Images) (block k : ℕ) (gate : Gate) → ChangesIn g block before now → k < g.blocks → k ≢ block → GateStands g before k gate → GateStands g now k gate
gates_elsewhere g before now block k Shut changes lt other stands = λ c image. let d = changes c image in subst IsClosed (sym (d.2.gates k lt other)) (stands d.0 d.1)
gates_elsewhere g before now block k Set changes lt other stands =
    (λ c image. let d = changes c image in subst IsOpen (sym (d.2.gates k lt other)) (stands.0 d.0 d.1), (stands.1.0, over_elsewhere g before now block k stands.1.0 changes lt other stands.1.1))
gates_elsewhere g before now block k Unsure changes lt other stands = (stands.0, over_elsewhere g before now block k stands.0 changes lt other stands.1)

-- a gate that isn't shut is being written: it is unsure
pub gate_torn : (g : Geometry) (before now : Images) (block : ℕ) (bytes : List ℕ) → IsGeometry g → TornFrom (block_place g block) 4096 before now → StandsOver g block bytes before
    → GateStands g now block Unsure
gate_torn g before now block bytes is torn over = (bytes, record { one = λ c image. let t = torn c image in body_stays g block is t.0 c t.2 ∙ over.one t.0 t.1; is_body = over.is_body })

-- Behind a sync that went well one image is left, and each gate stands in it as it is seen.
pub gate_closed : (g : Geometry) (seen : List ℕ) (images : Images) (block : ℕ) → ((c : List ℕ) → images c → c ≡ seen) → IsClosed (gate_sector g block seen) → GateStands g images block Shut
gate_closed g seen images block alone closed = λ c image. subst (λ (x : List ℕ). IsClosed (gate_sector g block x)) (sym (alone c image)) closed

pub gate_open : (g : Geometry) (seen : List ℕ) (images : Images) (block : ℕ) → ((c : List ℕ) → images c → c ≡ seen) → IsOpen (gate_sector g block seen)
    → IsBodyOf g block (body_bytes g block seen) → GateStands g images block Set
gate_open g seen images block alone is_open is_body = (
  λ c image. subst (λ (x : List ℕ). IsOpen (gate_sector g block x)) (sym (alone c image)) is_open,
  (body_bytes g block seen, record { one = λ c image. ap (body_bytes g block) (alone c image); is_body = is_body }),
)

-- where an image has a gate open, each image has its body
pub gate_over_one : (g : Geometry) (images : Images) (block : ℕ) (gate : Gate) → GateStands g images block gate → OpensOverOneBody g block images
gate_over_one g images block Shut stands c d in_c in_d is_open = absurd (stands c in_c is_open)
gate_over_one g images block Set stands c d in_c in_d is_open = stands.1.1.one d in_d ∙ sym (stands.1.1.one c in_c)
gate_over_one g images block Unsure stands c d in_c in_d is_open = stands.1.one d in_d ∙ sym (stands.1.one c in_c)

-- What the closing of a gate asks: each image has the body that one of them has, and it is a body.
pub over_seen : (g : Geometry) (images : Images) (block : ℕ) (bytes seen : List ℕ) → StandsOver g block bytes images → images seen → HasOneBody g block (body_bytes g block seen) images
    × IsBodyOf g block (body_bytes g block seen)
over_seen g images block bytes seen over image = (λ c is. over.one c is ∙ sym (over.one seen image), subst (IsBodyOf g block) (sym (over.one seen image)) over.is_body)

-- ---- what an image shows behind an open gate

-- a body stands behind the open gates of images that are kept
pub open_shown : (setup : Setup) (g : Geometry) (s : State) (records : Records) (images : Images) (c : List ℕ) (block : ℕ) → IsKept setup g s records images → images c → block < g.blocks
    → IsOpen (gate_sector g block c) → IsShownIn g c block
open_shown setup g s records images c block kept image lt is_open = by (clear_block g c (kept.upheld c image).bodies block (kept.upheld c image).readable lt)
  where
    by : IsClear g c block → IsShownIn g c block
    by (inl closed) = absurd (closed is_open)
    by (inr is) = is

-- so it is in the grammar, as the closing of a gate asks
pub open_is_body : (setup : Setup) (g : Geometry) (s : State) (records : Records) (images : Images) (c : List ℕ) (block : ℕ) → IsKept setup g s records images → images c → block < g.blocks
    → IsOpen (gate_sector g block c)
    → IsBodyOf g block (body_bytes g block c)
open_is_body setup g s records images c block kept image lt is_open =
    let is = open_shown setup g s records images c block kept image lt is_open in
    (is.body, subst (λ (k : ℕ). IsBody (block_capacity g.block_size) (body_bytes g k c) is.body) is.placed is.shown.is_body, is.placed)

pub shows_with : (g : Geometry) (c : List ℕ) (block : ℕ) (bytes : List ℕ) (records : List (Digest × Version)) → block < g.blocks → IsOpen (gate_sector g block c)
    → body_bytes g block c ≡ bytes → IsBodyWith g block bytes records
    → ShowsRecords g c block records
shows_with g c block bytes records lt is_open same is = record {
  body = is.body;
  placed = is.placed;
  shown = record {
    within = subst (λ (k : ℕ). k < g.blocks) (sym is.placed) lt;
    is_open = subst (λ (k : ℕ). IsOpen (gate_sector g k c)) (sym is.placed) is_open;
    is_body = subst (λ (k : ℕ). IsBody (block_capacity g.block_size) (body_bytes g k c) is.body) (sym is.placed)
        (subst (λ (l : List ℕ). IsBody (block_capacity g.block_size) l is.body) (sym same) is.is_body);
  };
  same = is.same;
}

-- each image has the gate closed, or shows the records
pub opens_over : (g : Geometry) (images : Images) (block : ℕ) (bytes : List ℕ) (records : List (Digest × Version)) → block < g.blocks → HasOneBody g block bytes images
    → IsBodyWith g block bytes records → OpensOver g block records images
opens_over g images block bytes records lt one is c image =
    ⊎_elim (λ (closed : IsClosed (gate_sector g block c)). inl closed) (λ (is_open : IsOpen (gate_sector g block c)). inr (shows_with g c block bytes records lt is_open (one c image) is))
    (closed_or_open (gate_sector g block c))

-- each image shows them
pub opened_shows : (g : Geometry) (images : Images) (block : ℕ) (bytes : List ℕ) (records : List (Digest × Version)) → block < g.blocks → IsOpened g block images
    → HasOneBody g block bytes images → IsBodyWith g block bytes records → AllShow g block records images
opened_shows g images block bytes records lt opened one is c image = shows_with g c block bytes records lt (opened c image) (one c image) is

-- ---- the calls

module _ (setup : Setup) (g : Geometry) (s : State) (records : Records) (before since : Images) (block : ℕ) (lt : block < g.blocks) (kept : IsKept setup g s records before) where
  -- The body is written behind a gate that is shut.
  pub body_call_kept : IsShut g block before → IsShut g block since → TornFrom (block_place g block + 4096) (g.block_size - 4096) before since → IsKept setup g s records since
  body_call_kept shut still torn = behind_kept setup g s records before since block (body_changes g block kept.geometry before since torn) kept shut still

  -- Where each image has the gate open, and it is written, what stands behind it is what an image shows before.
  opens : IsOpened g block before → TornFrom (block_place g block) 4096 before since → OpensAsBefore g block before since
  opens opened torn c image = by (closed_or_open (gate_sector g block c))
    where
      t : (d : List ℕ) × before d × Torn (block_place g block) 4096 d c
      t = torn c image

      is : IsShownIn g t.0 block
      is = open_shown setup g s records before t.0 block kept t.1 lt (opened t.0 t.1)

      bytes : body_bytes g is.body.block c ≡ body_bytes g is.body.block t.0
      bytes = subst (λ (k : ℕ). body_bytes g k c ≡ body_bytes g k t.0) (sym is.placed) (body_stays g block kept.geometry t.0 c t.2)

      by : IsClosed (gate_sector g block c) ⊎ IsOpen (gate_sector g block c) → IsClosed (gate_sector g block c)
          ⊎ ((body : Body) × (body.block ≡ block) × Shows g c body × (d : List ℕ) × before d × Shows g d body)
      by (inl closed) = inl closed
      by (inr is_open) = inr (
        is.body,
        is.placed,
        record {
          within = is.shown.within;
          is_open = subst (λ (k : ℕ). IsOpen (gate_sector g k c)) (sym is.placed) is_open;
          is_body = subst (λ (l : List ℕ). IsBody (block_capacity g.block_size) l is.body) (sym bytes) is.shown.is_body;
        },
        t.0,
        t.1,
        is.shown,
      )

  -- The gate of a free block, which is open in each image, is closed.
  pub closing_call_kept : Contains s.book.free block → IsOpened g block before → TornFrom (block_place g block) 4096 before since → IsKept setup g s records since
  closing_call_kept free opened torn = closing_kept setup g s records before since block (gate_changes g block kept.geometry before since torn) kept free (opens opened torn)

  -- neither shows a copy that wasn't possible
  pub body_call_brings : IsShut g block since → TornFrom (block_place g block + 4096) (g.block_size - 4096) before since → BringsNone g s.book records before since
  body_call_brings still torn = behind_brings setup g s records before since block (body_changes g block kept.geometry before since torn) kept still

  pub closing_call_brings : IsOpened g block before → TornFrom (block_place g block) 4096 before since → BringsNone g s.book records before since
  closing_call_brings opened torn = closing_brings setup g s records before since block (gate_changes g block kept.geometry before since torn) kept (opens opened torn)

  -- The gate of a pending buffer is opened, over its body.
  pub opening_call_kept : (number : ℕ) (bytes : List ℕ) → IsOpening s.book number block → HasOneBody g block bytes before → IsBodyWith g block bytes (records number)
      → TornFrom (block_place g block) 4096 before since → IsKept setup g s records since
  opening_call_kept number bytes opening one is torn =
      opening_kept setup g s records before since block (gate_changes g block kept.geometry before since torn) kept number opening
      (opens_over g since block bytes (records number) lt (λ c image. let t = torn c image in body_stays g block kept.geometry t.0 c t.2 ∙ one t.0 t.1) is)

-- When it is open in each image, the buffer is flushed.
pub opened_call_kept : (setup : Setup) (g : Geometry) (s : State) (records : Records) (now : Images) (number block : ℕ) (bytes : List ℕ) → IsKept setup g s records now → block < g.blocks
    → Contains (places_of s.book) (number, block)
    → IsOpened g block now → HasOneBody g block bytes now → IsBodyWith g block bytes (records number) → IsKept setup g (after_step setup (flushed_buffer number) s) records now
opened_call_kept setup g s records now number block bytes kept lt placed opened one is =
    flushed_kept setup g s records now kept number block placed (opened_shows g now block bytes (records number) lt opened one is)
