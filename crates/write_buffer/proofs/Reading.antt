-- The records of a buffer are those that its bytes are the body of.
use Rattle.std.proofs.Common.{◌≡◌, ℕ, zero, suc, ◌*◌, ◌≤◌, List, [], ◌∷◌, ◌++◌, length, drop, refl, ap, ◌∙◌, arith}
use Rattle.std.proofs.lemmas.List.{append_assoc, drop_at}
use Rattle.rec_format.specs.declared.version.Version.{Version}
use Rattle.rec_format.specs.Versions.{version_units}
use Rattle.rec_format.specs.RecordText.{record_text}
use Rattle.rec_format.proofs.RecordFront.{digest_in, version_in, told, length-text}
use Rattle.block_format.specs.Layout.{records_text, units_of_records}
use Rattle.block_format.proofs.BodyRecords.{AllRecorded, Record, units-cons}
use Rattle.block_format.proofs.BodyLaws.{begins_text}
use Rattle.write_buffer.specs.Buffers.{records_in}

pub length-records_in : (n : ℕ) (bytes : List ℕ) → length (records_in n bytes) ≡ n
unfolding records_in
length-records_in zero bytes = refl
length-records_in (suc n) bytes = ap suc (length-records_in n (drop (16 * version_units (version_in bytes)) bytes))

-- one record, and those behind it
read_one : (n : ℕ) (bytes : List ℕ) → records_in (suc n) bytes ≡ (digest_in bytes, version_in bytes) ∷ records_in n (drop (16 * version_units (version_in bytes)) bytes)
unfolding records_in
read_one n bytes = refl

read_none : (bytes : List ℕ) → records_in 0 bytes ≡ []
unfolding records_in
read_none bytes = refl

pub read_back : (rs : List Record) (rest : List ℕ) → AllRecorded rs → records_in (length rs) (records_text rs ++ rest) ≡ rs
read_back [] rest each = read_none rest
read_back (r ∷ rs) rest each =
    let behind : List ℕ = records_text rs ++ rest in
    let text : List ℕ = record_text r.0 r.1 in
    let shape : records_text (r ∷ rs) ++ rest ≡ text ++ behind = append_assoc text (records_text rs) rest in
    let tells = told (text ++ behind) r.0 r.1 (begins_text r.0 r.1 behind each.0) in
    let next : drop (16 * version_units (version_in (text ++ behind))) (text ++ behind) ≡ behind =
    ap (λ (v : Version). drop (16 * version_units v) (text ++ behind)) tells.version ∙ drop_at text behind (16 * version_units r.1) (length-text r.0 r.1 each.0) in
    ap (records_in (suc (length rs))) shape ∙ read_one (length rs) (text ++ behind)
    ∙ (λ i. (tells.digest i, tells.version i) ∷ records_in (length rs) (next i))
    ∙ ap (λ (l : List Record). r ∷ l) (read_back rs rest each.1)

-- each record takes a unit and more
pub count_within : (rs : List Record) → length rs ≤ units_of_records rs
count_within [] = omega arith
count_within (r ∷ rs) = omega (arith, units-cons r rs, count_within rs)
