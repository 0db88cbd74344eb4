-- What a write of a block's gate sector, or of its body, leaves of the block.
use Rattle.std.proofs.Common.{◌≡◌, ℕ, ◌+◌, ◌-◌, ◌≤◌, List, take, length, replicate, inl, inr, ⊎_elim, sym, ◌∙◌, ap, subst, arith}
use Rattle.std.specs.Prelude.{◌≢◌, ◌⊎◌, Result, Ok, Err, OnOk}
use Rattle.std.proofs.Math.Pow.{pow_mono}
use Rattle.std.proofs.Math.Nat.{mul-le-mul_right}
use Rattle.std.proofs.lemmas.List.{take-replicate, drop-replicate}
use Rattle.disk_model.specs.Bytes.{range, Torn}
use Rattle.disk_model.specs.Disk.{Images, TornFrom, Written, IsOnly}
use Rattle.block_format.specs.declared.geometry.Geometry.{Geometry}
use Rattle.block_format.specs.Layout.{IsGeometry, IsClosed, block_place, gate_sector, gate_text, open_sector, closed_sector}
use Rattle.block_flusher.specs.Images.{IsShut, IsOpened, OpensOverOneBody, StaysElsewhere, ChangesNoOther}

-- a block has from 16 KiB to 1 MiB
pub size_bounds : (g : Geometry) → IsGeometry g → (16384 ≤ g.block_size) × (g.block_size ≤ 1048576)
size_bounds g is =
    let s = is.block_size in
    (subst (λ (n : ℕ). 16384 ≤ n) (sym s.3) (pow_mono {i = 14} {j = s.0} s.1), subst (λ (n : ℕ). n ≤ 1048576) (sym s.3) (pow_mono {i = s.0} {j = 20} s.2))

-- ---- a part, under the names of the clauses

pub torn_at : (place n place' n' : ℕ) (old new : List ℕ) → place ≡ place' → n ≡ n' → Torn place n old new → Torn place' n' old new
torn_at place n place' n' old new here long torn = subst (λ (p : ℕ). Torn p n' old new) here (subst (λ (k : ℕ). Torn place k old new) long torn)

pub images_at : (place n place' n' : ℕ) (before now : Images) → place ≡ place' → n ≡ n' → TornFrom place n before now → TornFrom place' n' before now
images_at place n place' n' before now here long from =
    λ c image. let t = from c image in (t.0, t.1, torn_at place n place' n' t.0 c here long t.2)

-- what a write left at its place
pub stands : {T E : Type 0} (r : Result T E) (place place' n : ℕ) (bytes text old new : List ℕ) → place ≡ place' → length bytes ≡ n → bytes ≡ text → OnOk r (Written place bytes old new)
    → OnOk r (range place' n new ≡ text)
stands (Ok x) place place' n bytes text old new here long is write =
    ap (λ (p : ℕ). range p n new) (sym here) ∙ ap (λ (k : ℕ). range place k new) (sym long) ∙ write.there ∙ is
stands (Err e) place place' n bytes text old new here long is write = tt

-- ---- images of a block

module _ (g : Geometry) (block : ℕ) where
  gate_apart : (old new : List ℕ) → Torn (block_place g block + 4096) (g.block_size - 4096) old new → gate_sector g block new ≡ gate_sector g block old
  gate_apart old new torn = torn.apart (block_place g block) 4096 (inl (omega arith))

  -- a write of the body leaves the closed gate
  pub stays_shut : (before now : Images) → IsShut g block before → TornFrom (block_place g block + 4096) (g.block_size - 4096) before now → IsShut g block now
  stays_shut before now shut from = λ c image. let t = from c image in subst IsClosed (sym (gate_apart t.0 c t.2)) (shut t.0 t.1)

  pub shut_kept : (images : Images) → IsShut g block images → OpensOverOneBody g block images
  shut_kept images shut = λ c d here there open_. absurd (shut c here open_)

  -- ---- where what is read is the one image

  only_shut : (bytes : List ℕ) (images : Images) → gate_sector g block bytes ≡ closed_sector → IsOnly bytes images → IsShut g block images
  only_shut bytes images gate only = λ c image is_open. zeros_differ (sym (ap (take 16) (ap (gate_sector g block) (only.alone c image) ∙ gate) ∙ take-replicate 16 4096 0 (omega arith)) ∙ is_open)
    where
      zeros_differ : replicate 16 0 ≢ gate_text
      zeros_differ same = cc

  pub alone_shut : {T E : Type 0} (r : Result T E) (bytes : List ℕ) (images : Images) → OnOk r (gate_sector g block bytes ≡ closed_sector) → OnOk r (IsOnly bytes images)
      → OnOk r (IsShut g block images)
  alone_shut (Ok x) bytes images gate only = only_shut bytes images gate only
  alone_shut (Err e) bytes images gate only = tt

  -- so it is on a disk of zeros
  pub zeros_shut : (bytes : List ℕ) (images : Images) (n : ℕ) → block_place g block + 4096 ≤ n → bytes ≡ replicate n 0 → IsOnly bytes images → IsShut g block images
  zeros_shut bytes images n room zeros only =
      only_shut bytes images
      (ap (gate_sector g block) zeros ∙ ap (take 4096) (drop-replicate (block_place g block) n 0) ∙ take-replicate 4096 (n - block_place g block) 0 (omega arith)) only

  pub alone_opened : {T E : Type 0} (r : Result T E) (bytes : List ℕ) (images : Images) → OnOk r (gate_sector g block bytes ≡ open_sector) → OnOk r (IsOnly bytes images)
      → OnOk r (IsOpened g block images)
  alone_opened (Ok x) bytes images gate only = λ c image. ap (take 16) (ap (gate_sector g block) (only.alone c image) ∙ gate)
  alone_opened (Err e) bytes images gate only = tt

-- ---- all other bytes

-- a part of a block is apart from the header and from each other block
pub elsewhere : (g : Geometry) (block place n : ℕ) (old new : List ℕ) → block_place g block ≤ place → place + n ≤ block_place g block + g.block_size → Torn place n old new
    → StaysElsewhere g block old new
elsewhere g block place n old new from to torn = record {
  header = torn.apart 0 4096 (inl (omega arith));
  others = λ k other. torn.apart (block_place g k) g.block_size (⊎_elim
      (λ below. inl (omega (arith, mul-le-mul_right {m = k + 1} {n = block} g.block_size below)))
      (λ above. inr (omega (arith, mul-le-mul_right {m = block + 1} {n = k} g.block_size above)))
      (sides k other));
}
  where
    sides : (k : ℕ) → k ≢ block → (k + 1 ≤ block) ⊎ (block + 1 ≤ k)
    sides k other = grind (arith, other)

pub no_other : (g : Geometry) (block place n : ℕ) (before now : Images) → block_place g block ≤ place → place + n ≤ block_place g block + g.block_size → TornFrom place n before now
    → ChangesNoOther g block before now
no_other g block place n before now from to torn = λ c image. let t = torn c image in (t.0, t.1, elsewhere g block place n t.0 c from to t.2)
