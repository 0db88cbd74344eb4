-- Crate rec_format. The bytes of a stored record.
use Rattle.std.specs.Prelude.{ℕ, ◌+◌, ◌-◌, ◌*◌, ◌^◌, ◌<◌, ◌≤◌, Bool, true, false, List, [], ◌∷◌, ◌++◌, length, take, replicate, codes, ◌≡◌}
use Rattle.std.specs.List.{AllByRecursion}
use Rattle.std.specs.Int.{to_le_bytes, w16, w32, w64}
use Rattle.rec_format.specs.declared.version.Kind.{Kind}
use Rattle.rec_format.specs.declared.version.Kind.TheVariants.{Put, Tomb}
use Rattle.rec_format.specs.declared.version.Digest.{Digest}
use Rattle.rec_format.specs.declared.version.Head.{Head}
use Rattle.rec_format.specs.declared.version.Version.{Version}
use Rattle.rec_format.specs.Places.{IsDigest}
use Rattle.rec_format.specs.Versions.{IsVersion, top_number, version_units}

-- 0 a put, 2 a covered put, 3 a tombstone
abbrev pub flag_byte : Kind → Bool → ℕ
flag_byte Put false = 0
flag_byte Put true = 2
flag_byte Tomb cover = 3

-- ---- the head

-- what the head of a record keeps of it
abbrev pub head_of : Digest → Version → Head
head_of digest v = record { digest = digest; kind = v.kind; stamp = v.stamp; void = v.void; cover = v.cover; length = length v.payload }

-- the 48 bytes before the payload
abbrev pub head_text : Head → List ℕ
head_text head =
    codes "REC1" ++ to_le_bytes w32 head.length ++ to_le_bytes w64 head.stamp.lut ++ to_le_bytes w64 head.void
    ++ to_le_bytes w16 head.stamp.gen_ ++ flag_byte head.kind head.cover ∷ 0 ∷ head.digest.0

-- a head that a record may have
pub record CanBeHead (head : Head) : Type 0 where
  pub named : IsDigest head.digest
  pub tombstone : head.kind ≡ Tomb → (head.cover ≡ true) × (head.void ≡ 0) × (head.length ≡ 0)
  pub time : (1 ≤ head.stamp.lut) × (head.stamp.lut ≤ top_number)
  pub generation : (1 ≤ head.stamp.gen_) × (head.stamp.gen_ < 65536)
  pub void : head.void < 2 ^ 64
  pub length : head.length < 2 ^ 32

-- ---- the record

abbrev pub record_head : Digest → Version → List ℕ
record_head digest v = head_text (head_of digest v)

-- the head, the payload, and zeros up to a whole unit
abbrev pub record_text : Digest → Version → List ℕ
record_text digest v = record_head digest v ++ v.payload ++ replicate (16 * version_units v - (48 + length v.payload)) 0

-- a digest and a version that have a text
pub record CanBeRecorded (digest : Digest) (v : Version) : Type 0 where
  pub named : IsDigest digest
  pub version : IsVersion v
  pub payload : AllByRecursion (λ b. b < 256) v.payload
  pub size : length v.payload < 2 ^ 32

-- these bytes are the record of this digest and this version
pub record IsRecord (bytes : List ℕ) (digest : Digest) (v : Version) : Type 0 where
  pub fields : CanBeRecorded digest v
  pub text : bytes ≡ record_text digest v

-- the record of this digest and this version stands at the front of some bytes
abbrev pub BeginsWith : List ℕ → Digest → Version → Type 0
BeginsWith bytes digest v = IsRecord (take (16 * version_units v) bytes) digest v

-- a record with this head and of so many units does
abbrev pub BeginsWithHead : List ℕ → Head → (units : ℕ) → Type 0
BeginsWithHead bytes head units =
    (v : Version) × BeginsWith bytes head.digest v × (head ≡ head_of head.digest v) × (units ≡ version_units v)

abbrev pub BeginsWithNone : List ℕ → Type 0
BeginsWithNone bytes = (digest : Digest) (v : Version) → BeginsWith bytes digest v → ⊥

-- no record's text is the front of another's, or is another's
abbrev pub NoTextBeginsAnother : Type 0
NoTextBeginsAnother = (d e : Digest) (v w : Version) (rest : List ℕ) → CanBeRecorded d v → CanBeRecorded e w
    → record_text d v ++ rest ≡ record_text e w → (d ≡ e) × (v ≡ w) × (rest ≡ [])
