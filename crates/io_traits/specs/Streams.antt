-- The reads and the writes of a stream, in order, and what came of each.
use Rattle.std.specs.Prelude.{◌≡◌, ◌≤◌, ◌⊎◌, ℕ, ◌==◌, List, [], ◌∷◌, ◌++◌, length, map, take, Result, Ok, Err, if◌then◌else◌}

-- There was room for so many bytes, and a read gave these, of which there are none at the end of the input; or it failed.
pub data Reading : Type 0 where
  gave : (room : ℕ) (bytes : List ℕ) → Reading
  unread : (room : ℕ) → Reading

-- Bytes were given to be written, of which these were taken; or the write failed.
pub data Writing : Type 0 where
  took : (given taken : List ℕ) → Writing
  unwritten : (given : List ℕ) → Writing

-- a read into this buffer, for which there was so much room, as its result tells it
abbrev pub reading_of : {E : Type 0} → (room : ℕ) → Result ℕ E → (buffer : List ℕ) → Reading
reading_of room (Ok n) buffer = gave room (take n buffer)
reading_of room (Err e) buffer = unread room

-- a write of these bytes, as its result tells it
abbrev pub writing_of : {E : Type 0} → (given : List ℕ) → Result ℕ E → Writing
writing_of given (Ok n) = took given (take n given)
writing_of given (Err e) = unwritten given

-- One write of these bytes was made, which took what the result tells. Where it tells a fault the write failed, or took none of some bytes.
abbrev pub IsOneWrite : {E : Type 0} → (given : List ℕ) → Result ℕ E → (old new : List Writing) → Type 0
IsOneWrite given (Ok n) old new = new ≡ old ++ took given (take n given) ∷ []
IsOneWrite given (Err e) old new = (new ≡ old ++ unwritten given ∷ []) ⊎ ((new ≡ old ++ took given [] ∷ []) × (1 ≤ length given))

-- the bytes that reads gave, and those that writes took, in order
abbrev pub bytes_given : List Reading → List ℕ
bytes_given [] = []
bytes_given (gave room bytes ∷ readings) = bytes ++ bytes_given readings
bytes_given (unread room ∷ readings) = bytes_given readings

abbrev pub bytes_taken : List Writing → List ℕ
bytes_taken [] = []
bytes_taken (took given taken ∷ writings) = taken ++ bytes_taken writings
bytes_taken (unwritten given ∷ writings) = bytes_taken writings

-- A read as it is kept, by its room, whether it went well, and its bytes; and a write by how many bytes were taken, whether it went well, and
-- the bytes that were given.
abbrev pub kept_reading : List ℕ × List ℕ → Reading
kept_reading (room ∷ went_well ∷ [], bytes) = if went_well == 1 then gave room bytes else unread room
kept_reading (numbers, bytes) = unread 0

abbrev pub kept_writing : List ℕ × List ℕ → Writing
kept_writing (count ∷ went_well ∷ [], bytes) = if went_well == 1 then took bytes (take count bytes) else unwritten bytes
kept_writing (numbers, bytes) = unwritten bytes

abbrev pub kept_readings : List (List ℕ × List ℕ) → List Reading
kept_readings notes = map kept_reading notes

abbrev pub kept_writings : List (List ℕ × List ℕ) → List Writing
kept_writings notes = map kept_writing notes
