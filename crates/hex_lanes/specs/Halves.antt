-- The half bytes that hex digits stand for.
use Rattle.std.specs.Prelude.{ℕ, ◌+◌, ◌*◌, ◌≤◌, ◌<◌, ◌≡◌, List, [], ◌∷◌, MatchOption}
use Rattle.std.specs.Simd.Lanes.{Each1}
use Rattle.hex.specs.Hex.{hex_digit_value}

-- what is read of the byte c: the half byte that it stands for as a digit of either case, and a number past all half bytes where it is no digit
abbrev pub IsRead : ℕ → ℕ → Type 0
IsRead c half = MatchOption (hex_digit_value c) (16 ≤ half) (λ value. half ≡ value)

-- each is half a byte
abbrev pub AreHalves : List ℕ → Type 0
AreHalves halves = Each1 (λ half. half < 16) halves

-- the bytes of two halves each, the high one first
unfoldable pub joined : List ℕ → List ℕ
joined [] = []
joined (high ∷ []) = []
joined (high ∷ low ∷ rest) = (high * 16 + low) ∷ joined rest
