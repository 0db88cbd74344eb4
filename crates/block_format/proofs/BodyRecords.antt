-- The records of a body, one after the other.
use Rattle.std.proofs.Common.{◌≡◌, ℕ, ◌+◌, ◌*◌, List, [], ◌∷◌, ◌++◌, take, drop, refl, sym, ap, ◌∙◌, arith}
use Rattle.std.proofs.lemmas.List.{append-nil, drop-drop, length_push}
use Rattle.std.proofs.lemmas.List.Sums.{sum_by-append}
use Rattle.std.proofs.lemmas.Grind.{flat_map-append}
use Rattle.std.proofs.Math.Seq.{take-add}
use Rattle.std.specs.List.{AllByRecursion}
use Rattle.rec_format.specs.declared.version.Digest.{Digest}
use Rattle.rec_format.specs.declared.version.Version.{Version}
use Rattle.rec_format.specs.Versions.{version_units}
use Rattle.rec_format.specs.RecordText.{CanBeRecorded, head_of, record_text}
use Rattle.block_format.specs.declared.geometry.Found.{Found}
use Rattle.block_format.specs.Layout.{records_text, units_of_records}
use Rattle.block_format.specs.Readings.{HasRecords, IsNext, found_from}

abbrev pub Record : Type 0
Record = Digest × Version

abbrev pub AllRecorded : List Record → Type 0
AllRecorded records = AllByRecursion (λ r. CanBeRecorded r.0 r.1) records

pub recorded_push : (rs : List Record) (r : Record) → AllRecorded rs → CanBeRecorded r.0 r.1 → AllRecorded (rs ++ r ∷ [])
recorded_push [] r h one = (one, tt)
recorded_push (s ∷ rs) r h one = (h.0, recorded_push rs r h.1 one)

pub units-push : (rs : List Record) (r : Record) → units_of_records (rs ++ r ∷ []) ≡ units_of_records rs + version_units r.1
units-push rs r = sum_by-append (λ (x : Record). version_units x.1) rs (r ∷ []) ∙ omega arith

pub units-cons : (r : Record) (rs : List Record) → units_of_records (r ∷ rs) ≡ version_units r.1 + units_of_records rs
units-cons r rs = sum_by-append (λ (x : Record). version_units x.1) (r ∷ []) rs ∙ omega arith

pub text-push : (rs : List Record) (r : Record) → records_text (rs ++ r ∷ []) ≡ records_text rs ++ record_text r.0 r.1
text-push rs r =
    flat_map-append (λ (x : Record). record_text x.0 x.1) rs (r ∷ [])
    ∙ ap (λ (t : List ℕ). records_text rs ++ t) (append-nil (record_text r.0 r.1))

abbrev found_at : ℕ → Record → Found
found_at unit r = record { head = head_of r.0 r.1; unit = unit; units = version_units r.1 }

pub found-push : (unit : ℕ) (rs : List Record) (r : Record) → found_from unit (rs ++ r ∷ []) ≡ found_from unit rs ++ found_at (unit + units_of_records rs) r ∷ []
found-push unit [] r = ap (λ (u : ℕ). found_at u r ∷ []) (omega arith)
found-push unit (s ∷ rs) r =
    ap (λ (fs : List Found). found_at unit s ∷ fs) (found-push (unit + version_units s.1) rs r
    ∙ ap (λ (u : ℕ). found_from (unit + version_units s.1) rs ++ found_at u r ∷ []) (omega (arith, units-cons s rs)))

-- no record yet
pub records_none : (bytes : List ℕ) → HasRecords bytes 0 0 []
records_none bytes = record { records = []; each = tt; there = refl; count_is = refl; used_is = refl; found_is = refl }

-- one record more
pub records_more : (bytes : List ℕ) (count used units : ℕ) (found : List Found) (f : Found) → HasRecords bytes count used found → IsNext bytes used units f
    → HasRecords bytes (count + 1) (used + f.units) (found ++ f ∷ [])
records_more bytes count used units found f has next =
    let rs : List Record = has.records in
    let v : Version = next.version in
    let r : Record = (f.head.digest, v) in
    let taken : f.units ≡ version_units v = ap (λ (x : Found). x.units) next.found_is in
    let all : units_of_records (rs ++ r ∷ []) ≡ units_of_records rs + version_units v = units-push rs r in
    let sum : 16 * units_of_records (rs ++ r ∷ []) ≡ 16 * units_of_records rs + 16 * version_units v = omega (arith, all) in
    let place : drop (16 * units_of_records rs) (drop 32 bytes) ≡ drop (32 + 16 * used) bytes =
    drop-drop (16 * units_of_records rs) 32 bytes ∙ ap (λ (u : ℕ). drop (32 + 16 * u) bytes) has.used_is in
    record {
      records = rs ++ r ∷ [];
      each = recorded_push rs r has.each next.there.fields;
      there = ap (λ (k : ℕ). take k (drop 32 bytes)) sum
          ∙ take-add (16 * units_of_records rs) (16 * version_units v) (drop 32 bytes)
          ∙ ap (λ (t : List ℕ). t ++ take (16 * version_units v) (drop (16 * units_of_records rs) (drop 32 bytes))) has.there
          ∙ ap (λ (b : List ℕ). records_text rs ++ take (16 * version_units v) b) place
          ∙ ap (λ (t : List ℕ). records_text rs ++ t) next.there.text
          ∙ sym (text-push rs r);
      count_is = length_push rs r ∙ ap (λ (k : ℕ). k + 1) has.count_is;
      used_is = all ∙ ap (λ (u : ℕ). u + version_units v) has.used_is ∙ ap (λ (u : ℕ). used + u) (sym taken);
      found_is = ap (λ (fs : List Found). fs ++ f ∷ []) has.found_is ∙ ap (λ (x : Found). found_from 0 rs ++ x ∷ []) (next.found_is ∙ ap (λ (u : ℕ). found_at u r) (sym has.used_is ∙ omega arith))
          ∙ sym (found-push 0 rs r);
    }
