-- Worked values: the use of a block.
use Rattle.std.proofs.Common.{◌≡◌, [], ◌∷◌, refl}
use Rattle.unit_ledger.specs.Uses.{use_at, with_use}

uses : use_at 1 (with_use 1 11 (0 ∷ 0 ∷ [])) ∷ use_at 0 (with_use 1 11 (0 ∷ 0 ∷ [])) ∷ use_at 2 (with_use 1 11 (0 ∷ 0 ∷ [])) ∷ [] ≡ 11 ∷ 0 ∷ 0 ∷ []
uses = refl
