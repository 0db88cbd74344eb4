-- The tally takes in the copies of a body, record after record, and those of all bodies, block after block.
use Rattle.std.proofs.Common.{◌≡◌, ◌⊎◌, inl, inr, ℕ, suc, zero, ◌+◌, ◌-◌, ◌*◌, ◌/◌, ◌<◌, ◌≤◌, false, List, [], ◌∷◌, ◌++◌, length, map, take, get_or, refl, sym, ◌∙◌, ap, subst, arith, append_assoc, zero-add}
use Rattle.std.specs.Prelude.{Contains}
use Rattle.std.proofs.lemmas.List.{take_all, take_more, append-nil, get_or-map, length-map}
use Rattle.law_lists.proofs.Members.{cons_cases, first_there, rest_there}
use Rattle.disk_model.specs.Bytes.{range}
use Rattle.rec_format.specs.declared.version.Digest.{Digest}
use Rattle.rec_format.specs.declared.version.Version.{Version}
use Rattle.rec_format.specs.declared.version.Kind.TheVariants.{Put}
use Rattle.rec_format.specs.Versions.{version_units, block_capacity}
use Rattle.rec_format.specs.RecordText.{IsRecord}
use Rattle.block_format.specs.declared.geometry.Geometry.{Geometry}
use Rattle.block_format.specs.declared.geometry.Found.{Found}
use Rattle.block_format.specs.Layout.{Body, IsBody, units_of_records}
use Rattle.block_format.specs.Readings.{found_from, IsReading, body_capacity}
use Rattle.block_format.specs.Copies.{Copy, copies_from}
use Rattle.block_format.proofs.BodyLaws.{one_body}
use Rattle.block_format.proofs.BodyRecords.{units-cons}
use Rattle.block_shelf.specs.Standing.{StandsBehind}
use Rattle.block_shelf.proofs.CopyTexts.{record_in_body, copy_is_record}
use Rattle.sound_scan.specs.declared.tally.Tally.{Tally}
use Rattle.sound_scan.specs.Tallied.{found_copy, Stands, IsTally, TakesCopy, TakesBody}

-- ---- the copies of a body

-- a copy has its record behind so many units, and within those of all records
record Lies (block unit : ℕ) (records : List (Digest × Version)) (c : Copy) : Type 0 where
  block_is : c.block ≡ block
  before : List (Digest × Version)
  behind : List (Digest × Version)
  parts : records ≡ before ++ (c.digest, c.version) ∷ behind
  units : unit + units_of_records before ≡ c.unit
  within : c.unit + version_units c.version ≤ unit + units_of_records records

lies : (block unit : ℕ) (records : List (Digest × Version)) (c : Copy) → Contains (copies_from block unit records) c → Lies block unit records c
lies block unit [] c there = absurd (omega (arith, there.1))
lies block unit (r ∷ records) c there = by (cons_cases own (copies_from block (unit + version_units r.1) records) c there) (lies block (unit + version_units r.1) records c)
  where
    own : Copy
    own = record { digest = r.0; version = r.1; block = block; unit = unit }

    by : (own ≡ c) ⊎ Contains (copies_from block (unit + version_units r.1) records) c → (Contains (copies_from block (unit + version_units r.1) records) c → Lies block (unit + version_units r.1) records c)
        → Lies block unit (r ∷ records) c
    by (inl is) rest = subst (Lies block unit (r ∷ records)) is (record { block_is = refl; before = []; behind = records; parts = refl; units = omega arith; within = omega (arith, units-cons r records) })
    by (inr more) rest =
        let l = rest more in
        let all = units-cons r records in
        let front = units-cons r l.before in
        let at = l.units in
        let end = l.within in
        record {
          block_is = l.block_is;
          before = r ∷ l.before;
          behind = l.behind;
          parts = ap (λ (rs : List (Digest × Version)). r ∷ rs) l.parts;
          units = omega (arith, front, at);
          within = omega (arith, all, end);
        }

-- what was found of a body is what is found of its copies
found_copies : (block unit : ℕ) (records : List (Digest × Version)) → found_from unit records ≡ map found_copy (copies_from block unit records)
found_copies block unit [] = refl
found_copies block unit (r ∷ records) =
    let c : Copy = record { digest = r.0; version = r.1; block = block; unit = unit } in
    ap (λ (l : List Found). found_copy c ∷ l) (found_copies block (unit + version_units r.1) records)

contains_at : (xs : List Copy) (i : ℕ) (d : Copy) → i < length xs → Contains xs (get_or xs i d)
contains_at [] i d lt = absurd (omega arith)
contains_at (x ∷ xs) zero d lt = first_there x xs
contains_at (x ∷ xs) (suc i) d lt = rest_there x xs (get_or xs i d) (contains_at xs i d (omega arith))

-- ---- record after record

-- what stands for a record past the end
abbrev pub no_found : Found
no_found = record { head = record { digest = record { 0 = [] }; kind = Put; stamp = record { lut = 0; gen_ = 0 }; void = 0; cover = false; length = 0 }; unit = 0; units = 0 }

-- so many of the copies of the body were taken in
abbrev pub TakesFront : Geometry → List ℕ → (block : ℕ) → (body : List ℕ) → ℕ → (old new : Tally) → Type 0
TakesFront g bytes block body n old new = (copies : List Copy) (b : Body) → IsBody (block_capacity g.block_size) body b → b.block ≡ block
    → ((c : Copy) → Contains (copies_from block 0 b.records) c → Stands g bytes c) → IsTally g bytes copies old → IsTally g bytes (copies ++ take n (copies_from block 0 b.records)) new

pub takes_none : (g : Geometry) (bytes : List ℕ) (block : ℕ) (body : List ℕ) (tally : Tally) → TakesFront g bytes block body 0 tally tally
takes_none g bytes block body tally copies b is at stands tallied = subst (λ (l : List Copy). IsTally g bytes l tally) (sym (append-nil copies)) tallied

pub one_capacity : (g : Geometry) (body : List ℕ) → length body ≡ g.block_size - 4096 → body_capacity body ≡ block_capacity g.block_size
one_capacity g body long = ap (λ (n : ℕ). n / 16) (omega (arith, long))

-- a copy of the body, at the place of what was found
pub record IsAt (g : Geometry) (block : ℕ) (body : List ℕ) (whole : List Copy) (i : ℕ) (f : Found) : Type 0 where
  pub copy : Copy
  pub there : Contains whole copy
  pub is : f ≡ found_copy copy
  pub block_is : copy.block ≡ block
  pub within : f.unit + f.units ≤ block_capacity g.block_size
  pub text : IsRecord (range (32 + 16 * f.unit) (16 * f.units) body) copy.digest copy.version
  pub next : take (i + 1) whole ≡ take i whole ++ copy ∷ []

module _ (g : Geometry) (block : ℕ) (body : List ℕ) (found : List Found) (long : length body ≡ g.block_size - 4096) (read : (number : ℕ) × IsReading body block number found) where
  abbrev pub whole : List Copy
  whole = copies_from block 0 read.1.body.records

  the_body : IsBody (block_capacity g.block_size) body read.1.body
  the_body = subst (λ (n : ℕ). IsBody n body read.1.body) (one_capacity g body long) read.1.is_body

  same_body : (b : Body) → IsBody (block_capacity g.block_size) body b → b.block ≡ block → read.1.body ≡ b
  same_body b is at = one_body (block_capacity g.block_size) (block_capacity g.block_size) body read.1.body b the_body is (read.1.block_is ∙ sym at)

  found_are : found ≡ map found_copy whole
  found_are = read.1.found_is ∙ found_copies block 0 read.1.body.records

  found_long : length found ≡ length whole
  found_long = ap length found_are ∙ length-map whole found_copy

  pub is_at : (i : ℕ) (d : Found) → i < length found → IsAt g block body whole i (get_or found i d)
  is_at i d lt = by (contains_at whole i none (subst (λ (n : ℕ). i < n) found_long lt))
    where
      none : Copy
      none = record { digest = record { 0 = [] }; version = record { kind = Put; stamp = record { lut = 0; gen_ = 0 }; void = 0; cover = false; payload = [] }; block = 0; unit = 0 }

      short : i < length whole
      short = subst (λ (n : ℕ). i < n) found_long lt

      c : Copy
      c = get_or whole i none

      is : get_or found i d ≡ found_copy c
      is = ap (λ (l : List Found). get_or l i d) found_are ∙ get_or-map found_copy whole i none d short

      by : Contains whole c → IsAt g block body whole i (get_or found i d)
      by there =
          let l = lies block 0 read.1.body.records c there in
          let fits = the_body.units in
          let end = l.within in
          let stands : StandsBehind c.unit c.digest c.version read.1.body.records = record { before = l.before; behind = l.behind; parts = l.parts; units = sym (zero-add (units_of_records l.before)) ∙ l.units } in
          let text = copy_is_record body (16 * version_units c.version) c.unit (version_units c.version) c.digest c.version refl
          (record_in_body (block_capacity g.block_size) body read.1.body c.unit c.digest c.version the_body stands) refl in
          record {
            copy = c;
            there = there;
            is = is;
            block_is = l.block_is;
            within = subst (λ (f : Found). f.unit + f.units ≤ block_capacity g.block_size) (sym is) (omega (arith, fits, end));
            text = subst (λ (f : Found). IsRecord (range (32 + 16 * f.unit) (16 * f.units) body) c.digest c.version) (sym is) text;
            next = take_more whole i none short;
          }

  pub takes_next : (bytes : List ℕ) (i : ℕ) (d : Found) → i < length found → (old mid new : Tally) (text : List ℕ)
      → text ≡ range (32 + 16 * (get_or found i d).unit) (16 * (get_or found i d).units) body → TakesFront g bytes block body i old mid
      → TakesCopy g bytes block text (get_or found i d) mid new → TakesFront g bytes block body (i + 1) old new
  takes_next bytes i d lt old mid new text text_is front takes copies b is at stands tallied =
      let same = same_body b is at in
      let one = is_at i d lt in
      let all : List Copy = copies_from block 0 b.records in
      let whole_is : whole ≡ all = ap (λ (x : Body). copies_from block 0 x.records) same in
      let before : IsTally g bytes (copies ++ take i all) mid = front copies b is at stands tallied in
      let after : IsTally g bytes ((copies ++ take i all) ++ one.copy ∷ []) new =
      takes (copies ++ take i all) one.copy one.is one.block_is (subst (λ (t : List ℕ). IsRecord t one.copy.digest one.copy.version) (sym text_is) one.text)
      (stands one.copy (subst (λ (l : List Copy). Contains l one.copy) whole_is one.there)) before in
      let next : take (i + 1) all ≡ take i all ++ one.copy ∷ [] = subst (λ (l : List Copy). take (i + 1) l ≡ take i l ++ one.copy ∷ []) whole_is one.next in
      subst (λ (l : List Copy). IsTally g bytes l new) (append_assoc copies (take i all) (one.copy ∷ []) ∙ ap (λ (l : List Copy). copies ++ l) (sym next)) after

  -- and then all
  pub takes_all : (bytes : List ℕ) (n : ℕ) (old new : Tally) → length found ≤ n → TakesFront g bytes block body n old new → TakesBody g bytes block body old new
  takes_all bytes n old new enough front copies b is at stands tallied =
      let all : List Copy = copies_from block 0 b.records in
      let whole_is : whole ≡ all = ap (λ (x : Body). copies_from block 0 x.records) (same_body b is at) in
      let few : length all ≤ n = subst (λ (k : ℕ). k ≤ n) (found_long ∙ ap length whole_is) enough in
      subst (λ (l : List Copy). IsTally g bytes (copies ++ l) new) (take_all n all few) (front copies b is at stands tallied)
