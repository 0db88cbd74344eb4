-- What an open file holds, where it tells it, and what a call does to that.
use Rattle.std.specs.Prelude.{◌≡◌, ℕ, ◌+◌, ◌≤◌, List, length, take, Option, Some, None, Result, Ok, Err}
use Rattle.disk_model.specs.Bytes.{range, Torn}
use Rattle.disk_model.specs.Disk.{Written}

-- these bytes stand at a place of a file that tells what it holds
abbrev pub Gives : Option (List ℕ) → ℕ → List ℕ → Type 0
Gives None place bytes = Unit {0}
Gives (Some held) place bytes = bytes ≡ range place (length bytes) held

-- a file that tells what it holds is so long
abbrev pub IsLong : Option (List ℕ) → ℕ → Type 0
IsLong None len = Unit {0}
IsLong (Some held) len = len ≡ length held

-- these bytes were put over what stood at a place, where there were as many, and nothing else was changed
abbrev pub Puts : Option (List ℕ) → ℕ → List ℕ → Option (List ℕ) → Type 0
Puts None place bytes new = Unit {0}
Puts (Some held) place bytes new = place + length bytes ≤ length held → (now : List ℕ) × (new ≡ Some now) × Written place bytes held now

-- n bytes at a place may be any now, where there were as many
abbrev pub Tears : Option (List ℕ) → ℕ → ℕ → Option (List ℕ) → Type 0
Tears None place n new = Unit {0}
Tears (Some held) place n new = place + n ≤ length held → (now : List ℕ) × (new ≡ Some now) × Torn place n held now

-- A write puts the first bytes that it took over what stood there. One that failed may have left anything in their place.
abbrev pub WriteLeaves : {E : Type 0} → Option (List ℕ) → ℕ → List ℕ → Result ℕ E → Option (List ℕ) → Type 0
WriteLeaves held place bytes (Ok n) new = Puts held place (take n bytes) new
WriteLeaves held place bytes (Err e) new = Tears held place (length bytes) new
