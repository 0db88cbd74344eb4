-- Which records stand behind a gate that is unsure: those of the one body there, all of them possible and begun, and no others. Where no gate
-- is unsure each image has what is possible, and it stays so as fewer images are left.
use Rattle.std.proofs.Common.{◌≡◌, ◌≢◌, ◌⊎◌, inl, inr, ℕ, ◌+◌, ◌<◌, ◌≤◌, List, length, take, drop, refl, sym, ◌∙◌, ap, subst, arith}
use Rattle.std.proofs.Math.Nat.{mul-le-mul_right}
use Rattle.std.specs.Prelude.{Contains}
use Rattle.law_lists.proofs.Each.{all_at}
use Rattle.disk_model.specs.Bytes.{Torn, overwrite, overwrite_torn, overwrite_there}
use Rattle.disk_model.specs.Disk.{Images, Within}
use Rattle.rec_format.specs.declared.version.Digest.{Digest}
use Rattle.rec_format.specs.declared.version.Version.{Version}
use Rattle.rec_format.specs.Versions.{block_capacity}
use Rattle.model_device.specs.Book.{Setup, Book}
use Rattle.model_device.specs.Device.{State}
use Rattle.block_format.specs.declared.geometry.Geometry.{Geometry}
use Rattle.block_format.specs.declared.geometry.Gate.{Gate}
use Rattle.block_format.specs.declared.geometry.Gate.TheVariants.{Shut, Set, Unsure}
use Rattle.block_format.specs.Layout.{IsGeometry, IsOpen, block_place, gate_sector, body_bytes, open_sector, Body, IsBody}
use Rattle.block_flusher.specs.Images.{HasOneBody}
use Rattle.law_facts.specs.Facts.{SamePossible}
use Rattle.law_trail.specs.Trail.{Records, WaitsIn}
use Rattle.law_images.specs.Kept.{HaveBegun, IsLeftIn, possible_in}
use Rattle.law_images.specs.Changes.{ShowsRecords, HasRecord}
use Rattle.law_images.specs.Gates.{GateStands, IsBodyWith}
use Rattle.law_images.specs.Held.{loosened, IsKeptLoosened, AreSure}
use Rattle.law_images.proofs.Gates.{shows_with}
use Rattle.law_images.proofs.Loosening.{loosened_has, loosened_fewer, shut_still, one_still}
use Rattle.law_images.proofs.Parts.{low, body_stays}
use Rattle.law_images.proofs.Reading.{one_behind, shown_there}

sector_sized : length open_sector ≡ 4096
sector_sized = refl

module _ (setup : Setup) (g : Geometry) (s : State) (records : Records) (gates : ℕ → Gate) (images : Images) (block : ℕ) (lt : block < g.blocks) (held : IsKeptLoosened setup g s records gates images)
    (bytes : List ℕ) (own : List (Digest × Version)) (one : HasOneBody g block bytes images) (is_body : IsBodyWith g block bytes own) where
  -- what is possible in the block waits in a pending buffer, or stands behind the gate
  pub behind_only : (digest : Digest) (v : Version) → possible_in g s.book records (loosened g gates images) block digest v → ((number : ℕ) × WaitsIn s.book records number block digest v)
      ⊎ Contains own (digest, v)
  behind_only digest v (inl waits) = inl waits
  behind_only digest v (inr left) =
      let is = shows_with g left.image block bytes own lt (subst (λ (k : ℕ). IsOpen (gate_sector g k left.image)) left.placed left.shown.is_open)
      (one_still g held.geometry gates images block bytes one left.image left.is_left) is_body in
      let same = one_behind g left.image left.image left.body is.body left.shown is.shown (left.placed ∙ sym is.placed) (ap (λ (k : ℕ). body_bytes g k left.image) (is.placed ∙ sym left.placed)) in
      inr (subst (λ (l : List (Digest × Version)). Contains l (digest, v)) is.same (subst (λ (b : Body). Contains b.records (digest, v)) same left.has))

  module _ (unsure : gates block ≡ Unsure) (c : List ℕ) (image : images c) where
    abbrev opened : List ℕ
    opened = overwrite (block_place g block) open_sector c

    torn : Torn (block_place g block) 4096 c opened
    torn = subst (λ (n : ℕ). Torn (block_place g block) n c opened) sector_sized (overwrite_torn (block_place g block) open_sector c)

    in_loosened : loosened g gates images opened
    in_loosened = (c, image, record { size = torn.size; apart = λ a m free. torn.apart a m (free block lt unsure) })

    fits : block_place g block + length open_sector ≤ length c
    fits =
        let size = (held.upheld c (loosened_has g gates images c image)).readable.size in
        let room = mul-le-mul_right {m = block + 1} {n = g.blocks} g.block_size (omega (arith, lt)) in
        let low_ = low g block held.geometry in
        let sized = sector_sized in
        omega (arith, size, room, low_, sized)

    shows : ShowsRecords g opened block own
    shows = shows_with g opened block bytes own lt is_open (body_stays g block held.geometry c opened torn ∙ one c image) is_body
      where
        there : gate_sector g block opened ≡ open_sector
        there = subst (λ (n : ℕ). take n (drop (block_place g block) opened) ≡ open_sector) sector_sized (overwrite_there (block_place g block) open_sector c fits)

        is_open : IsOpen (gate_sector g block opened)
        is_open = subst IsOpen (sym there) refl

    -- each record behind the gate is possible
    pub behind_possible : (digest : Digest) (v : Version) → Contains own (digest, v) → possible_in g s.book records (loosened g gates images) block digest v
    behind_possible digest v has =
        inr (record {
          image = opened;
          is_left = in_loosened;
          body = shows.body;
          shown = shows.shown;
          placed = shows.placed;
          has =
              subst (λ (l : List (Digest × Version)). Contains l (digest, v)) (sym shows.same) has;
        })

    -- and its flush has begun
    pub behind_begun : HaveBegun s own
    behind_begun =
        let u = held.upheld opened in_loosened in
        subst (HaveBegun s) shows.same (all_at (λ b. HaveBegun s b.records) u.bodies shows.body u.begun (shown_there g opened u.bodies shows.body u.readable shows.shown))

-- ---- gates that aren't unsure

module _ (g : Geometry) (is : IsGeometry g) (gates : ℕ → Gate) (images : Images) (block : ℕ) (sure : gates block ≢ Unsure) (digest : Digest) (v : Version)
    (left : IsLeftIn g (loosened g gates images) block digest v) (c : List ℕ) (image : images c) where
  left_behind : (gate : Gate) → gates block ≡ gate → GateStands g images block gate → HasRecord g c block digest v
  left_behind Shut at stands = absurd (shut_still g is gates images block sure stands left.image left.is_left (subst (λ (k : ℕ). IsOpen (gate_sector g k left.image)) left.placed left.shown.is_open))
  left_behind Set at stands = record {
    body = left.body;
    placed = left.placed;
    shown = record {
      within = left.shown.within;
      is_open = subst (λ (k : ℕ). IsOpen (gate_sector g k c)) (sym left.placed) (stands.0 c image);
      is_body = subst (λ (l : List ℕ). IsBody (block_capacity g.block_size) l left.body) same left.shown.is_body;
    };
    has = left.has;
  }
    where
      same : body_bytes g left.body.block left.image ≡ body_bytes g left.body.block c
      same =
          ap (λ (k : ℕ). body_bytes g k left.image) left.placed ∙ one_still g is gates images block stands.1.0 stands.1.1.one left.image left.is_left
          ∙ sym (stands.1.1.one c image) ∙ ap (λ (k : ℕ). body_bytes g k c) (sym left.placed)
  left_behind Unsure at stands = absurd (sure at)

  -- each image has what some image has there
  pub left_each : GateStands g images block (gates block) → HasRecord g c block digest v
  left_each stands = left_behind (gates block) refl stands

-- Where no gate is unsure the same is possible over fewer images, if there is one.
pub possible_stays : (g : Geometry) (book : Book) (records : Records) (gates : ℕ → Gate) (before now : Images) → IsGeometry g → AreSure g gates
    → ((block : ℕ) → block < g.blocks → GateStands g before block (gates block))
    → Within before now → (c : List ℕ) → now c → SamePossible (possible_in g book records (loosened g gates before)) (possible_in g book records (loosened g gates now))
possible_stays g book records gates before now is sure stands fewer c image block digest v = (to, from)
  where
    to : possible_in g book records (loosened g gates before) block digest v → possible_in g book records (loosened g gates now) block digest v
    to (inl waits) = inl waits
    to (inr left) =
        let lt = subst (λ (k : ℕ). k < g.blocks) left.placed left.shown.within in
        let each = left_each g is gates before block (sure block lt) digest v left c (fewer c image) (stands block lt) in
        inr (record { image = c; is_left = loosened_has g gates now c image; body = each.body; shown = each.shown; placed = each.placed; has = each.has })

    from : possible_in g book records (loosened g gates now) block digest v → possible_in g book records (loosened g gates before) block digest v
    from (inl waits) = inl waits
    from (inr left) =
        inr (record { image = left.image; is_left = loosened_fewer g gates before now fewer left.image left.is_left; body = left.body; shown = left.shown; placed = left.placed; has = left.has })
