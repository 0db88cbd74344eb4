-- The bytes of a buffer, and what they are after one record more.
use Rattle.std.proofs.Common.{◌≡◌, ℕ, ◌+◌, ◌-◌, ◌*◌, ◌≤◌, List, ◌++◌, length, take, drop, replicate, refl, sym, ap, ◌∙◌, arith}
use Rattle.std.proofs.lemmas.List.{append-nil, append_assoc, take_all, take_at, drop_all, drop_at, drop-replicate, length_push, length-append, length-replicate}
use Rattle.rec_format.specs.declared.version.Digest.{Digest}
use Rattle.rec_format.specs.declared.version.Version.{Version}
use Rattle.rec_format.specs.Versions.{top_number, version_units}
use Rattle.rec_format.specs.RecordText.{CanBeRecorded, record_text}
use Rattle.block_format.specs.Layout.{IsBody, body_head_text, records_text, units_of_records}
use Rattle.block_format.proofs.BodyRecords.{AllRecorded, recorded_push, text-push, units-push}
use Rattle.block_format.proofs.BodyLaws.{length-records}
use Rattle.write_buffer.specs.Buffers.{BufferState, KeepsBody, body_in, bytes_of, empty_buffer, records_in, seen_buffer, used_units, with_record}
use Rattle.write_buffer.proofs.Reading.{count_within, read_back}

abbrev head_in : BufferState → List ℕ
head_in b = body_head_text b.number (length b.records) (units_of_records b.records) b.block

abbrev zeros_in : BufferState → List ℕ
zeros_in b = replicate (16 * (b.capacity - used_units b)) 0

-- new items in a vector that has room for just these
pub whole : (size : ℕ) (new items : List ℕ) → length new ≡ length items → size ≡ length items → take size (new ++ drop (length new) items) ≡ new
whole size new items same size_is =
    ap (λ (l : List ℕ). take size (new ++ l)) (drop_all (length new) items (omega arith)) ∙ ap (take size) (append-nil new) ∙ take_all size new (omega arith)

-- ---- the bytes of a buffer

-- the records are read back from the bytes
pub seen_is : (b : BufferState) (count : ℕ) (bytes : List ℕ) → AllRecorded b.records → count ≡ length b.records → bytes ≡ bytes_of b
    → seen_buffer b.number b.block b.capacity count b.phase b.stream bytes ≡ b
seen_is b count bytes each count_is text =
    let behind : drop 32 bytes ≡ records_text b.records ++ zeros_in b = ap (drop 32) text in
    let records : records_in count (drop 32 bytes) ≡ b.records =
    (λ i. records_in (count_is i) (behind i)) ∙ read_back b.records (zeros_in b) each in
    λ i. record b { records = records i }

pub length-front : (b : BufferState) → AllRecorded b.records → length (head_in b ++ records_text b.records) ≡ 32 + 16 * used_units b
length-front b each = length-append (head_in b) (records_text b.records) ∙ ap (λ (k : ℕ). 32 + k) (length-records b.records each)

pub length-bytes : (b : BufferState) (used : ℕ) (bytes : List ℕ) → KeepsBody b used bytes → length bytes ≡ 32 + 16 * b.capacity
length-bytes b used bytes keeps =
    let front = length-front b keeps.each in
    let fits = keeps.fits in
    ap length keeps.text ∙ length-append (head_in b ++ records_text b.records) (zeros_in b)
    ∙ ap (λ (k : ℕ). length (head_in b ++ records_text b.records) + k) (length-replicate (16 * (b.capacity - used_units b)) 0)
    ∙ omega arith

pub is_body : (b : BufferState) (used : ℕ) (bytes : List ℕ) → KeepsBody b used bytes → IsBody b.capacity bytes (body_in b)
is_body b used bytes keeps = record {
  number = keeps.number;
  count = omega (arith, count_within b.records, keeps.fits, keeps.capacity);
  units = keeps.fits;
  records = keeps.each;
  behind = zeros_in b;
  text = keeps.text;
}

-- ---- one record more

module _ (b : BufferState) (used : ℕ) (bytes : List ℕ) (keeps : KeepsBody b used bytes) (d : Digest) (v : Version) (ok : CanBeRecorded d v)
    (room : used_units b + version_units v ≤ b.capacity) where
  abbrev next : BufferState
  next = with_record d v b

  units_next : used_units next ≡ used_units b + version_units v
  units_next = units-push b.records (d, v)

  -- the record behind the others, and a new head over the old one
  pub text_next : (place count units : ℕ) (one two : List ℕ) → place ≡ 32 + 16 * used → count ≡ length b.records + 1 → units ≡ used_units b + version_units v
      → one ≡ take place bytes ++ (record_text d v ++ drop (16 * version_units v) (drop place bytes))
      → two ≡ body_head_text b.number count units b.block ++ drop 32 one → two ≡ bytes_of next
  text_next place count units one two place_is count_is units_are one_is two_is =
      let front : List ℕ = head_in b ++ records_text b.records in
      let at : length front ≡ place = length-front b keeps.each ∙ ap (λ (k : ℕ). 32 + 16 * k) (sym keeps.used_is) ∙ sym place_is in
      let before : take place bytes ≡ front = ap (take place) keeps.text ∙ take_at front (zeros_in b) place at in
      let left : drop place bytes ≡ zeros_in b = ap (drop place) keeps.text ∙ drop_at front (zeros_in b) place at in
      let fewer : 16 * (b.capacity - used_units b) - 16 * version_units v ≡ 16 * (b.capacity - used_units next) = omega (arith, units_next) in
      let zeros : drop (16 * version_units v) (drop place bytes) ≡ zeros_in next =
      ap (drop (16 * version_units v)) left ∙ drop-replicate (16 * version_units v) (16 * (b.capacity - used_units b)) 0 ∙ ap (λ (k : ℕ). replicate k 0) fewer in
      let one_at : one ≡ front ++ (record_text d v ++ zeros_in next) = one_is ∙ (λ i. before i ++ (record_text d v ++ zeros i)) in
      let behind : drop 32 one ≡ records_text next.records ++ zeros_in next =
      ap (drop 32) one_at ∙ sym (append_assoc (records_text b.records) (record_text d v) (zeros_in next))
      ∙ ap (λ (t : List ℕ). t ++ zeros_in next) (sym (text-push b.records (d, v))) in
      let head : body_head_text b.number count units b.block ≡ head_in next =
      λ i. body_head_text b.number ((count_is ∙ sym (length_push b.records (d, v))) i) ((units_are ∙ sym units_next) i) b.block in
      two_is ∙ (λ i. head i ++ behind i) ∙ sym (append_assoc (head_in next) (records_text next.records) (zeros_in next))

  pub keeps_next : (units : ℕ) (two : List ℕ) → units ≡ used_units b + version_units v → two ≡ bytes_of next → KeepsBody next units two
  keeps_next units two units_are text = record {
    number = keeps.number;
    capacity = keeps.capacity;
    used_is = units_are ∙ sym units_next;
    fits = omega (arith, units_next, room);
    each = recorded_push b.records (d, v) keeps.each ok;
    text = text;
  }

  pub seen_next : (count : ℕ) (two : List ℕ) → count ≡ length b.records + 1 → two ≡ bytes_of next → seen_buffer b.number b.block b.capacity count b.phase b.stream two ≡ next
  seen_next count two count_is text =
      seen_is next count two (recorded_push b.records (d, v) keeps.each ok) (count_is ∙ sym (length_push b.records (d, v))) text

-- ---- no record yet

-- a head of no records, and zeros
pub empty_text : (number block capacity size : ℕ) (bytes made : List ℕ) → 32 + 16 * capacity ≡ size → bytes ≡ replicate size 0 → made ≡ body_head_text number 0 0 block ++ drop 32 bytes
    → made ≡ bytes_of (empty_buffer number block capacity)
empty_text number block capacity size bytes made size_is bytes_are made_is =
    let rest : size - 32 ≡ 16 * (capacity - 0) = omega arith in
    let zeros : drop 32 bytes ≡ replicate (16 * (capacity - 0)) 0 = ap (drop 32) bytes_are ∙ drop-replicate 32 size 0 ∙ ap (λ (k : ℕ). replicate k 0) rest in
    made_is ∙ ap (λ (l : List ℕ). body_head_text number 0 0 block ++ l) zeros

pub keeps_empty : (number block capacity : ℕ) (made : List ℕ) → number ≤ top_number → capacity ≤ 65278 → made ≡ bytes_of (empty_buffer number block capacity)
    → KeepsBody (empty_buffer number block capacity) 0 made
keeps_empty number block capacity made small fits text = record {
  number = small;
  capacity = fits;
  used_is = refl;
  fits = omega arith;
  each = tt;
  text = text;
}
