-- Each copy of an image stands where it says.
use Rattle.std.proofs.Common.{◌≡◌, ◌⊎◌, inl, inr, ℕ, ◌+◌, ◌*◌, ◌≤◌, List, [], ◌∷◌, ◌++◌, drop, refl, sym, ◌∙◌, ap, subst, arith}
use Rattle.std.proofs.lemmas.List.{append_assoc, drop-drop, drop_at}
use Rattle.std.proofs.lemmas.List.Elements.{Contains-append_cases}
use Rattle.std.specs.Prelude.{Contains}
use Rattle.std.specs.List.{AllByRecursion}
use Rattle.law_lists.proofs.Each.{all_at}
use Rattle.law_lists.proofs.Members.{first_there, rest_there}
use Rattle.rec_format.specs.Versions.{version_units, block_capacity}
use Rattle.rec_format.specs.RecordText.{BeginsWith, record_text}
use Rattle.rec_format.proofs.RecordFront.{length-text}
use Rattle.block_format.specs.declared.geometry.Geometry.{Geometry}
use Rattle.block_format.specs.Layout.{IsOpen, IsRecordAt, gate_sector, body_bytes, Body, IsBody, records_text, units_of_records}
use Rattle.block_format.specs.Copies.{Copy, HasBodies, copies_from, copies_of}
use Rattle.block_format.proofs.BodyLaws.{begins_text}
use Rattle.block_format.proofs.BodyRecords.{AllRecorded, Record, units-cons}
use Rattle.law_start.specs.Standing.{CopyStands}

-- ---- within a body

-- a copy in these bytes of this block, at so many units at most
record Lies (bytes : List ℕ) (block units : ℕ) (c : Copy) : Type 0 where
  pub block_is : c.block ≡ block
  pub there : IsRecordAt bytes (32 + 16 * c.unit) c.digest c.version
  pub within : c.unit + version_units c.version ≤ units

-- where records stand behind so many units, their copies lie
each_lies : (bytes behind : List ℕ) (block unit : ℕ) (records : List Record) → AllRecorded records → drop (32 + 16 * unit) bytes ≡ records_text records ++ behind
    → AllByRecursion (Lies bytes block (unit + units_of_records records)) (copies_from block unit records)
each_lies bytes behind block unit [] all text = tt
each_lies bytes behind block unit (r ∷ records) all text = (
  record {
    block_is = refl;
    there = subst (λ (t : List ℕ). BeginsWith t r.0 r.1) (sym first) (begins_text r.0 r.1 (records_text records ++ behind) all.0);
    within = omega (arith, units-cons r records);
  },
  subst (λ (n : ℕ). AllByRecursion (Lies bytes block n) (copies_from block (unit + version_units r.1) records)) whole
      (each_lies bytes behind block (unit + version_units r.1) records all.1 rest),
)
  where
    first : drop (32 + 16 * unit) bytes ≡ record_text r.0 r.1 ++ (records_text records ++ behind)
    first = text ∙ append_assoc (record_text r.0 r.1) (records_text records) behind

    whole : unit + version_units r.1 + units_of_records records ≡ unit + units_of_records (r ∷ records)
    whole = omega (arith, units-cons r records)

    place : 32 + 16 * (unit + version_units r.1) ≡ 32 + 16 * unit + 16 * version_units r.1
    place = omega arith

    rest : drop (32 + 16 * (unit + version_units r.1)) bytes ≡ records_text records ++ behind
    rest =
        ap (λ (n : ℕ). drop n bytes) place
        ∙ sym (drop-drop (16 * version_units r.1) (32 + 16 * unit) bytes)
        ∙ ap (drop (16 * version_units r.1)) first
        ∙ drop_at (record_text r.0 r.1) (records_text records ++ behind) (16 * version_units r.1) (length-text r.0 r.1 all.0)

body_lies : (capacity : ℕ) (bytes : List ℕ) (body : Body) → IsBody capacity bytes body → AllByRecursion (Lies bytes body.block (units_of_records body.records)) (copies_from body.block 0 body.records)
body_lies capacity bytes body is =
    let front : drop (32 + 16 * 0) bytes ≡ records_text body.records ++ is.behind = ap (drop 32) is.text in
    let none : 0 + units_of_records body.records ≡ units_of_records body.records = omega arith in
    subst (λ (n : ℕ). AllByRecursion (Lies bytes body.block n) (copies_from body.block 0 body.records)) none (each_lies bytes is.behind body.block 0 body.records is.records front)

-- ---- within an image

later_listed : (g : Geometry) (image : List ℕ) (block : ℕ) (blocks : List ℕ) (c : Copy) → CopyStands g image blocks c → CopyStands g image (block ∷ blocks) c
later_listed g image block blocks c stands = record { there = stands.there; is_open = stands.is_open; listed = rest_there block blocks c.block stands.listed; within = stands.within }

-- a copy of the body of an open block
of_body : (g : Geometry) (image : List ℕ) (block : ℕ) (blocks : List ℕ) (body : Body) (c : Copy) → IsOpen (gate_sector g block image) → body.block ≡ block
    → IsBody (block_capacity g.block_size) (body_bytes g block image) body → Contains (copies_from body.block 0 body.records) c → CopyStands g image (block ∷ blocks) c
of_body g image block blocks body c is_open placed is_body there =
    let capacity = block_capacity g.block_size in
    let bytes = body_bytes g block image in
    let lies = all_at (Lies bytes body.block (units_of_records body.records)) (copies_from body.block 0 body.records) c (body_lies capacity bytes body is_body) there in
    let same : block ≡ c.block = sym (lies.block_is ∙ placed) in
    record {
      there = subst (λ (k : ℕ). IsRecordAt (body_bytes g k image) (32 + 16 * c.unit) c.digest c.version) same lies.there;
      is_open = subst (λ (k : ℕ). IsOpen (gate_sector g k image)) same is_open;
      listed = subst (Contains (block ∷ blocks)) same (first_there block blocks);
      within = omega (arith, lies.within, is_body.units);
    }

stands_at : (g : Geometry) (image : List ℕ) (block : ℕ) (blocks : List ℕ) (bodies : List Body) (c : Copy)
    → ((others : List Body) → HasBodies g image blocks others → Contains (copies_of others) c → CopyStands g image blocks c)
    → HasBodies g image (block ∷ blocks) bodies → Contains (copies_of bodies) c → CopyStands g image (block ∷ blocks) c
stands_at g image block blocks bodies c rest (inl h) there = later_listed g image block blocks c (rest bodies h.1 there)
stands_at g image block blocks bodies c rest (inr h) there =
    by (Contains-append_cases (copies_from h.1.block 0 h.1.records) (copies_of h.2) c (subst (λ (l : List Body). Contains (copies_of l) c) h.5 there))
  where
    by : Contains (copies_from h.1.block 0 h.1.records) c ⊎ Contains (copies_of h.2) c → CopyStands g image (block ∷ blocks) c
    by (inl mine) = of_body g image block blocks h.1 c h.0 h.4 h.3 mine
    by (inr other) = later_listed g image block blocks c (rest h.2 h.6 other)

-- each copy stands behind the open gate of its block, at its unit
pub copy_stands : (g : Geometry) (image : List ℕ) (blocks : List ℕ) (bodies : List Body) → HasBodies g image blocks bodies → (c : Copy) → Contains (copies_of bodies) c → CopyStands g image blocks c
copy_stands g image [] bodies none c there = absurd (omega (arith, (subst (λ (l : List Body). Contains (copies_of l) c) none there).1))
copy_stands g image (block ∷ blocks) bodies has c there = stands_at g image block blocks bodies c (λ others h in_others. copy_stands g image blocks others h c in_others) has there
