-- Crate node_progress. A door, or none, which gives no link and doesn't fail.
use Rattle.std.specs.Prelude.{ℕ, Bool, true, Option, Some, None}

abbrev pub faults_of : {G : Type 0} → (G → ℕ) → Option G → ℕ
faults_of faults None = 0
faults_of faults (Some door) = faults door

abbrev pub has_ended : {G : Type 0} → (G → Bool) → Option G → Bool
has_ended ended None = true
has_ended ended (Some door) = ended door

abbrev pub given_by : {G : Type 0} → (G → ℕ) → Option G → ℕ
given_by given None = 0
given_by given (Some door) = given door

abbrev pub MayGive : {G L : Type 0} → (G → L → Type 0) → Option G → L → Type 0
MayGive may_give None link = ⊥
MayGive may_give (Some door) link = may_give door link
