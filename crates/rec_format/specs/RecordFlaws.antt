-- Crate rec_format. Why bytes have no record at their front, in the order of the checks.
use Rattle.std.specs.Prelude.{ℕ, ◌+◌, ◌-◌, ◌*◌, Bool, not, ◌&&◌, ◌||◌, ◌==◌, nat_lt, List, length, take, drop, slice_index, codes, Option, Some, None, ◌≡◌, if◌then◌else◌}
use Rattle.std.specs.List.{list_any}
use Rattle.std.specs.Int.{Width, from_le_bytes, w16, w32, w64}
use Rattle.std.specs.Ordering.{nat_cmp, is_eq}
use Rattle.std.specs.Cmp.Lexicographic.{slice_cmp}
use Rattle.rec_format.specs.declared.version.Kind.{Kind}
use Rattle.rec_format.specs.declared.version.Kind.TheVariants.{Put, Tomb}
use Rattle.rec_format.specs.declared.version.Head.{Head}
use Rattle.rec_format.specs.declared.version.BadRec.{BadRec}
use Rattle.rec_format.specs.declared.version.BadRec.TheVariants.{Short, Magic, Length, Flags, Padding, Stamp}
use Rattle.rec_format.specs.declared.version.ParseRefusal.{ParseRefusal}
use Rattle.rec_format.specs.declared.version.ParseRefusal.TheVariants.{Bad, Memory}
use Rattle.rec_format.specs.Versions.{units_for, top_number}
use Rattle.rec_format.specs.RecordText.{BeginsWithNone}

pub data Flaw : Type 0 where
  cut_short wrong_magic wrong_length wrong_flags wrong_padding wrong_stamp : Flaw

-- the number at a place
abbrev pub number_at : Width → ℕ → List ℕ → ℕ
number_at width place bytes = from_le_bytes width (drop place bytes)

abbrev pub payload_length_in : List ℕ → ℕ
payload_length_in bytes = number_at w32 4 bytes

abbrev pub void_in : List ℕ → ℕ
void_in bytes = number_at w64 16 bytes

-- the bytes of the whole record, by its payload's length
abbrev pub record_length_in : List ℕ → ℕ
record_length_in bytes = 16 * units_for (payload_length_in bytes)

-- fewer bytes than a head
abbrev pub is_cut_short : List ℕ → Bool
is_cut_short bytes = nat_lt (length bytes) 48

abbrev pub has_wrong_magic : List ℕ → Bool
has_wrong_magic bytes = not (is_eq (slice_cmp nat_cmp (take 4 bytes) (codes "REC1")))

-- the record's units exceed the bytes that are there
abbrev pub has_wrong_length : List ℕ → Bool
has_wrong_length bytes = nat_lt (length bytes) (record_length_in bytes)

-- other flags than those of a put, a covered put and a tombstone, no zero behind them, or a tombstone with a payload or a
-- void time
abbrev pub has_wrong_flags : List ℕ → Bool
has_wrong_flags bytes =
    let flags = slice_index bytes 26 in
    not (flags == 0 || flags == 2 || flags == 3) || not (slice_index bytes 27 == 0)
    || (flags == 3 && not (payload_length_in bytes == 0 && void_in bytes == 0))

-- a byte behind the payload, within the units, isn't zero
abbrev pub has_wrong_padding : List ℕ → Bool
has_wrong_padding bytes =
    let end = 48 + payload_length_in bytes in
    list_any (λ b. not (b == 0)) (take (record_length_in bytes - end) (drop end bytes))

-- generation 0, time 0, or a time over the last one
abbrev pub has_wrong_stamp : List ℕ → Bool
has_wrong_stamp bytes =
    let time = number_at w64 8 bytes in
    number_at w16 24 bytes == 0 || time == 0 || nat_lt top_number time

-- the first flaw of a record at the front of some bytes
abbrev pub record_flaw : List ℕ → Option Flaw
record_flaw bytes =
    if is_cut_short bytes then Some cut_short
    else if has_wrong_magic bytes then Some wrong_magic
    else if has_wrong_length bytes then Some wrong_length
    else if has_wrong_flags bytes then Some wrong_flags
    else if has_wrong_padding bytes then Some wrong_padding
    else if has_wrong_stamp bytes then Some wrong_stamp
    else None

-- the first flaw of 48 bytes as a head alone
abbrev pub head_flaw : List ℕ → Option Flaw
head_flaw bytes =
    if has_wrong_magic bytes then Some wrong_magic
    else if has_wrong_flags bytes then Some wrong_flags
    else if has_wrong_stamp bytes then Some wrong_stamp
    else None

-- ---- as the code tells them

abbrev pub flaw_of : BadRec → Flaw
flaw_of Short = cut_short
flaw_of Magic = wrong_magic
flaw_of Length = wrong_length
flaw_of Flags = wrong_flags
flaw_of Padding = wrong_padding
flaw_of Stamp = wrong_stamp

-- Why bytes were refused: by their first flaw, and then no record stands at their front. Memory may be wanting only where they
-- have no flaw.
abbrev pub IsRefusedBy : List ℕ → ParseRefusal → Type 0
IsRefusedBy bytes (Bad bad) = (record_flaw bytes ≡ Some (flaw_of bad)) × BeginsWithNone bytes
IsRefusedBy bytes Memory = record_flaw bytes ≡ None

-- ---- the fields of a head, as they stand in bytes

abbrev pub kind_in : List ℕ → Kind
kind_in bytes = if slice_index bytes 26 == 3 then Tomb else Put

abbrev pub cover_in : List ℕ → Bool
cover_in bytes = not (slice_index bytes 26 == 0)

abbrev pub head_in : List ℕ → Head
head_in bytes = record {
  digest = record { 0 = take 20 (drop 28 bytes) };
  kind = kind_in bytes;
  stamp = record { lut = number_at w64 8 bytes; gen_ = number_at w16 24 bytes };
  void = void_in bytes;
  cover = cover_in bytes;
  length = payload_length_in bytes;
}
