-- Where blocks and records lie.
use Rattle.std.proofs.Common.{◌≡◌, inr, ⊎_elim, ℕ, suc, zero, Bool, true, false, ◌+◌, ◌-◌, ◌*◌, ◌/◌, ◌<◌, ◌≤◌, List, [], ◌∷◌, ◌++◌, length, take, drop, get_or}
use Rattle.std.proofs.Common.{refl, sym, ◌∙◌, ap, subst, arith, add-one}
use Rattle.std.proofs.Math.Pow.{pow_mono}
use Rattle.std.proofs.lemmas.List.{append_assoc, drop-drop, drop_at, length-drop, length-take, take_all}
use Rattle.rec_format.specs.declared.version.Digest.{Digest}
use Rattle.rec_format.specs.declared.version.Version.{Version}
use Rattle.rec_format.specs.Versions.{version_units, block_capacity}
use Rattle.rec_format.specs.RecordText.{BeginsWith, record_text}
use Rattle.rec_format.proofs.RecordFront.{length-text, only_one, units_hold}
use Rattle.block_format.specs.declared.geometry.Geometry.{Geometry}
use Rattle.block_format.specs.declared.geometry.Found.{Found}
use Rattle.block_format.specs.Layout.{IsGeometry, IsOpen, IsRecordAt, block_place, body_bytes, device_end, gate_sector, Body, IsBody, records_text}
use Rattle.block_format.specs.Readings.{body_capacity, found_from}
use Rattle.block_format.proofs.BodyLaws.{begins_text}
use Rattle.block_format.proofs.BodyRecords.{AllRecorded, Record}
use Rattle.test_hist.specs.Steps.{AddsBlock, AddsBody}

-- ---- blocks

-- a block has from 16 KiB to 1 MiB
pub size_bounds : (g : Geometry) → IsGeometry g → (16384 ≤ g.block_size) × (g.block_size ≤ 1048576)
size_bounds g is =
    let s = is.block_size in
    (subst (λ (n : ℕ). 16384 ≤ n) (sym s.3) (pow_mono {i = 14} {j = s.0} s.1), subst (λ (n : ℕ). n ≤ 1048576) (sym s.3) (pow_mono {i = s.0} {j = 20} s.2))

-- a block ends before the device does
pub block_within : (g : Geometry) (block : ℕ) → block < g.blocks → block_place g block + g.block_size ≤ device_end g
block_within g block below = grind arith

-- the units behind the head of a body are those of its block
one_capacity : (g : Geometry) (body : List ℕ) → length body ≡ g.block_size - 4096 → body_capacity body ≡ block_capacity g.block_size
one_capacity g body long = ap (λ (n : ℕ). n / 16) (omega (arith, long))

-- what the body of an open block adds, the block does
pub adds_open : (g : Geometry) (image : List ℕ) (block : ℕ) (body : List ℕ) (whole : Bool) (old new : List Record) → body ≡ body_bytes g block image → length body ≡ g.block_size - 4096
    → IsOpen (gate_sector g block image) → AddsBody body block whole old new → AddsBlock g image block whole old new
adds_open g image block body true old new is long opened adds =
    inr (opened, adds.0, subst (λ (l : List ℕ). IsBody (block_capacity g.block_size) l adds.0) is (subst (λ (n : ℕ). IsBody n body adds.0) (one_capacity g body long) adds.1), adds.2, adds.3)
adds_open g image block body false old new is long opened adds =
    ⊎_elim (λ closed. closed opened)
    (λ b. adds b.0 (subst (λ (n : ℕ). IsBody n body b.0) (sym (one_capacity g body long)) (subst (λ (l : List ℕ). IsBody (block_capacity g.block_size) l b.0) (sym is) b.1)) b.2)

-- ---- records

-- a record lies within the bytes
pub place_within : (bytes : List ℕ) (place : ℕ) (digest : Digest) (v : Version) → IsRecordAt bytes place digest v → place + 48 ≤ length bytes
place_within bytes place digest v there =
    let long : length (take (16 * version_units v) (drop place bytes)) ≡ 16 * version_units v = ap length there.text ∙ length-text digest v there.fields in
    omega (arith, units_hold (length v.payload), long, length-take (16 * version_units v) (drop place bytes), length-drop place bytes)

-- the record at an index of some records stands where its head was found
pub record Stands (bytes : List ℕ) (records : List Record) (k : ℕ) (found : Found) : Type 0 where
  pub digest : Digest
  pub version : Version
  pub there : IsRecordAt bytes (32 + 16 * found.unit) digest version
  pub next : take (suc k) records ≡ take k records ++ (digest, version) ∷ []

each_stands : (bytes behind : List ℕ) (unit : ℕ) (records : List Record) → AllRecorded records → drop (32 + 16 * unit) bytes ≡ records_text records ++ behind
    → (k : ℕ) (d : Found) → k < length (found_from unit records) → Stands bytes records k (get_or (found_from unit records) k d)
each_stands bytes behind unit [] all text k d below = absurd (omega (arith, below))
each_stands bytes behind unit (r ∷ records) all text zero d below =
    record {
      digest = r.0;
      version = r.1;
      there = subst (λ (t : List ℕ). BeginsWith t r.0 r.1) (sym (text ∙ append_assoc (record_text r.0 r.1) (records_text records) behind)) (begins_text r.0 r.1 (records_text records ++ behind) all.0);
      next = refl;
    }
each_stands bytes behind unit (r ∷ records) all text (suc k) d below =
    let rest = each_stands bytes behind (unit + version_units r.1) records all.1 onward k d (omega (arith, below)) in
    record { digest = rest.digest; version = rest.version; there = rest.there; next = ap (λ (l : List Record). r ∷ l) rest.next }
  where
    place : 32 + 16 * (unit + version_units r.1) ≡ 32 + 16 * unit + 16 * version_units r.1
    place = omega arith

    onward : drop (32 + 16 * (unit + version_units r.1)) bytes ≡ records_text records ++ behind
    onward =
        ap (λ (n : ℕ). drop n bytes) place
        ∙ sym (drop-drop (16 * version_units r.1) (32 + 16 * unit) bytes)
        ∙ ap (drop (16 * version_units r.1)) (text ∙ append_assoc (record_text r.0 r.1) (records_text records) behind)
        ∙ drop_at (record_text r.0 r.1) (records_text records ++ behind) (16 * version_units r.1) (length-text r.0 r.1 all.0)

-- so do those of a body
pub body_stands : (capacity : ℕ) (bytes : List ℕ) (b : Body) (found : List Found) → IsBody capacity bytes b → found ≡ found_from 0 b.records
    → (k : ℕ) (d : Found) → k < length found → Stands bytes b.records k (get_or found k d)
body_stands capacity bytes b found is heads k d below =
    let front : drop (32 + 16 * 0) bytes ≡ records_text b.records ++ is.behind = ap (drop 32) is.text in
    subst (λ (l : List Found). Stands bytes b.records k (get_or l k d)) (sym heads) (each_stands bytes is.behind 0 b.records is.records front k d (omega (arith, below, ap length heads)))

-- the next record comes behind those of a body before it
pub record_more : (capacity : ℕ) (bytes : List ℕ) (b : Body) (found : List Found) → IsBody capacity bytes b → found ≡ found_from 0 b.records → (k : ℕ) (d : Found) → k < length found
    → (r : Record) → IsRecordAt bytes (32 + 16 * (get_or found k d).unit) r.0 r.1 → (old now : List Record) → now ≡ old ++ take k b.records → now ++ r ∷ [] ≡ old ++ take (k + 1) b.records
record_more capacity bytes b found is heads k d below r there old now so_far =
    let at = body_stands capacity bytes b found is heads k d below in
    let one = only_one (drop (32 + 16 * (get_or found k d).unit) bytes) r.0 at.digest r.1 at.version there at.there in
    let same : r ≡ (at.digest, at.version) = λ i. (one.0 i, one.1 i) in
    ap (λ (l : List Record). l ++ r ∷ []) so_far
    ∙ append_assoc old (take k b.records) (r ∷ [])
    ∙ ap (λ (x : Record). old ++ (take k b.records ++ x ∷ [])) same
    ∙ ap (λ (l : List Record). old ++ l) (sym at.next)
    ∙ ap (λ (n : ℕ). old ++ take n b.records) (sym (add-one k))

-- there is a head for each record
length-found : (unit : ℕ) (records : List Record) → length (found_from unit records) ≡ length records
length-found unit [] = refl
length-found unit (r ∷ records) = ap suc (length-found (unit + version_units r.1) records)

pub as_many : (b : Body) (found : List Found) → found ≡ found_from 0 b.records → (k : ℕ) → length found ≤ k → take k b.records ≡ b.records
as_many b found heads k all = take_all k b.records (omega (arith, all, ap length heads, length-found 0 b.records))
