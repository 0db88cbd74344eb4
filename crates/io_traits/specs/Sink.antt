-- What a write and a flush do to the bytes of a sink.
use Rattle.std.specs.Prelude.{◌≡◌, ◌⊎◌, ℕ, ◌<◌, ◌≤◌, List, ◌++◌, length, take, Option, Some, None, Result, Ok, Err}
use Rattle.model_faults.specs.Counts.{Rose}

-- The bytes written of a sink that tells them grow by the piece; nothing is asked of one that doesn't tell.
abbrev pub Extends : Option (List ℕ) → Option (List ℕ) → List ℕ → Type 0
Extends None new piece = Unit {0}
Extends (Some bytes) new piece = new ≡ Some (bytes ++ piece)

-- A write takes the first n bytes of the piece. Where it takes none of some, that counts as a fault.
pub record Writes (written written' : Option (List ℕ)) (faults faults' : ℕ) (piece : List ℕ) (n : ℕ) : Type 0 where
  pub fits : n ≤ length piece
  pub extends : Extends written written' (take n piece)
  pub stuck : n ≡ 0 → 0 < length piece → Rose faults faults'

-- A failed write takes nothing.
abbrev pub WriteGives : {E : Type 0} → Option (List ℕ) → Option (List ℕ) → ℕ → ℕ → List ℕ → Result ℕ E → Type 0
WriteGives written written' faults faults' piece (Ok n) = Writes written written' faults faults' piece n
WriteGives written written' faults faults' piece (Err e) = written' ≡ written

-- A write hands on nothing of what waited, or all that was written by then.
abbrev pub MayHandOn : (written' handed handed' : Option (List ℕ)) → Type 0
MayHandOn written' handed handed' = (handed' ≡ handed) ⊎ (handed' ≡ written')

-- A flush hands on all that was written. A failed flush hands on nothing.
abbrev pub FlushGives : {E : Type 0} → (written' handed handed' : Option (List ℕ)) → Result Unit E → Type 0
FlushGives written' handed handed' (Ok u) = handed' ≡ written'
FlushGives written' handed handed' (Err e) = handed' ≡ handed

-- Over some calls all that was written was handed on, or nothing was written.
abbrev pub AllHandedOn : (written written' handed handed' : Option (List ℕ)) → Type 0
AllHandedOn written written' handed handed' = (handed' ≡ written') ⊎ ((written' ≡ written) × (handed' ≡ handed))
