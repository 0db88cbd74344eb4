-- A write buffer as its callers see it, and its bytes.
use Rattle.std.specs.Prelude.{ℕ, zero, suc, ◌-◌, ◌*◌, ◌≤◌, List, [], ◌∷◌, ◌++◌, drop, replicate, ◌≡◌}
use Rattle.std.specs.List.{AllByRecursion}
use Rattle.rec_format.specs.declared.version.Digest.{Digest}
use Rattle.rec_format.specs.declared.version.Version.{Version}
use Rattle.rec_format.specs.Versions.{top_number, version_units}
use Rattle.rec_format.specs.RecordText.{CanBeRecorded}
use Rattle.rec_format.proofs.RecordFront.{digest_in, version_in}
use Rattle.block_format.specs.Layout.{Body, body_text, units_of_records}
use Rattle.write_buffer.specs.declared.phase.Phase.{Phase}
use Rattle.write_buffer.specs.declared.phase.Phase.TheVariants.{Filling}
use Rattle.write_buffer.specs.declared.stream.Stream.{Stream}
use Rattle.write_buffer.specs.declared.stream.Stream.TheVariants.{Client}

-- its number, its block, the units that it can hold, its records in the order in which they came, its phase, and its stream
pub record BufferState : Type 0 where
  pub number : ℕ
  pub block : ℕ
  pub capacity : ℕ
  pub records : List (Digest × Version)
  pub phase : Phase
  pub stream : Stream

abbrev pub used_units : BufferState → ℕ
used_units b = units_of_records b.records

abbrev pub body_in : BufferState → Body
body_in b = record { number = b.number; block = b.block; records = b.records }

-- the whole body: its text, and zeros up to the end of the block
abbrev pub bytes_of : BufferState → List ℕ
bytes_of b = body_text (body_in b) ++ replicate (16 * (b.capacity - used_units b)) 0

abbrev pub empty_buffer : (number block capacity : ℕ) → BufferState
empty_buffer number block capacity = record { number = number; block = block; capacity = capacity; records = []; phase = Filling; stream = Client }

abbrev pub with_record : Digest → Version → BufferState → BufferState
with_record digest v b = record b { records = b.records ++ (digest, v) ∷ [] }

abbrev pub with_phase : Phase → BufferState → BufferState
with_phase phase b = record b { phase = phase }

abbrev pub in_stream : Stream → BufferState → BufferState
in_stream stream b = record b { stream = stream }

-- ---- what a buffer keeps

-- so many records, read one after the other
unfoldable pub records_in : (count : ℕ) → List ℕ → List (Digest × Version)
records_in zero bytes = []
records_in (suc n) bytes = (digest_in bytes, version_in bytes) ∷ records_in n (drop (16 * version_units (version_in bytes)) bytes)

-- the buffer whose bytes these are
abbrev pub seen_buffer : (number block capacity count : ℕ) → Phase → Stream → List ℕ → BufferState
seen_buffer number block capacity count phase stream bytes =
    record { number = number; block = block; capacity = capacity; records = records_in count (drop 32 bytes); phase = phase; stream = stream }

-- the bytes are the body of the records, which take so many units
pub record KeepsBody (b : BufferState) (used : ℕ) (bytes : List ℕ) : Type 0 where
  pub number : b.number ≤ top_number
  pub capacity : b.capacity ≤ 65278
  pub used_is : used ≡ used_units b
  pub fits : used_units b ≤ b.capacity
  pub each : AllByRecursion (λ r. CanBeRecorded r.0 r.1) b.records
  pub text : bytes ≡ bytes_of b
