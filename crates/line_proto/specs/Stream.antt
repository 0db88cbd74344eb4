-- Crate line_proto. How a stream of bytes falls into lines, and what is kept of one that comes in pieces.
use Rattle.std.specs.Prelude.{◌≡◌, ◌≢◌, ℕ, ◌+◌, ◌-◌, ◌^◌, ◌≤◌, ◌==◌, nat_le, min, List, [], ◌∷◌, ◌++◌, length, map, take, Option, Some, None, if◌then◌else◌}
use Rattle.std.specs.List.{AllByRecursion, flat_map}
use Rattle.line_proto.specs.declared.line_end.LineEnd.{LineEnd}
use Rattle.line_proto.specs.declared.line_end.LineEnd.TheVariants.{Whole, TooLong}
use Rattle.line_proto.specs.Lines.{line_limit}

-- none is a line that is too long
abbrev pub as_end : Option (List ℕ) → LineEnd
as_end (Some line) = Whole line
as_end None = TooLong

-- no LF is among the bytes
abbrev pub IsOneLine : List ℕ → Type 0
IsOneLine bytes = AllByRecursion (λ byte. byte ≢ 10) bytes

-- a line and its LF
abbrev pub ended : List ℕ → List ℕ
ended line = line ++ 10 ∷ []

-- A line within the limit is handed on; of a longer one only that it came.
abbrev pub line_end : List ℕ → LineEnd
line_end line = if nat_le (length line) line_limit then Whole line else TooLong

-- the bytes are these lines, each with its LF, and a rest without one
pub record FallInto (bytes : List ℕ) (lines : List (List ℕ)) (rest : List ℕ) : Type 0 where
  pub whole : bytes ≡ flat_map ended lines ++ rest
  pub each : AllByRecursion IsOneLine lines
  pub open_line : IsOneLine rest

-- ---- lines that come in pieces

-- the lines that a piece ends, where it goes on with an open line
unfoldable pub ends_of : (line piece : List ℕ) → List LineEnd
ends_of line [] = []
ends_of line (byte ∷ piece) = if byte == 10 then line_end line ∷ ends_of [] piece else ends_of (line ++ byte ∷ []) piece

-- and the line that is open behind it
unfoldable pub open_of : (line piece : List ℕ) → List ℕ
open_of line [] = line
open_of line (byte ∷ piece) = if byte == 10 then open_of [] piece else open_of (line ++ byte ∷ []) piece

-- what is kept of an open line: no more than shows that it is too long
unfoldable pub kept_of : List ℕ → List ℕ
kept_of line = take (line_limit + 1) line

-- what is kept once the last bytes of a line have come, which are joined to those before
abbrev pub joined : (kept last : List ℕ) → List ℕ
joined [] last = []
joined (byte ∷ kept) last = kept_of ((byte ∷ kept) ++ last)

-- the line, of which all but its last bytes may be kept
abbrev pub lent : (kept last : List ℕ) → List ℕ
lent [] last = last
lent (byte ∷ kept) last = byte ∷ kept

-- ---- lines that are fed piece by piece, and handed on one by one

-- What is kept: the lines that have come whole, and of the bytes after the last LF how many they are, and which, unless they are too many for a line.
pub record Kept : Type 0 where
  pub ready : List LineEnd
  pub partial : List ℕ
  pub size : ℕ

-- what is kept stands for these bytes, which aren't handed on yet
pub record KeepsBytes (kept : Kept) (bytes : List ℕ) : Type 0 where
  pub lines : List (List ℕ)
  pub rest : List ℕ
  pub falls : FallInto bytes lines rest
  pub are_ready : kept.ready ≡ map line_end lines
  pub counted : kept.size ≡ min (length rest) (2 ^ 64 - 1)
  pub is_partial : length rest ≤ line_limit → kept.partial ≡ rest

-- nothing was fed yet
abbrev pub nothing_kept : Kept
nothing_kept = record { ready = []; partial = []; size = 0 }

-- what is kept after more bytes of the open line
abbrev pub with_bytes : Kept → List ℕ → Kept
with_bytes kept bytes =
    let size = min (kept.size + length bytes) (2 ^ 64 - 1) in
    record { ready = kept.ready; partial = if nat_le size line_limit then kept.partial ++ bytes else kept.partial; size = size }

-- the open line, where an LF ends it
abbrev pub open_end : Kept → LineEnd
open_end kept = if nat_le kept.size line_limit then Whole kept.partial else TooLong

-- the first of the lines that these bytes begin with, and the bytes after it
pub record BeginsWithLine (bytes : List ℕ) (end : LineEnd) (kept : Kept) : Type 0 where
  pub line : List ℕ
  pub after : List ℕ
  pub first : bytes ≡ ended line ++ after
  pub one_line : IsOneLine line
  pub is_end : end ≡ line_end line
  pub stands : KeepsBytes kept after
