-- Crate sound_scan. The least digest that passes a test, and the first of three tests there.
use Rattle.std.specs.Prelude.{◌≡◌, Bool, true, false, Option, Some, None, if◌then◌else◌}
use Rattle.rec_format.specs.declared.version.Digest.{Digest}
use Rattle.rec_format.specs.Places.{same_digest, digest_before}
use Rattle.sound_scan.specs.declared.verdict.Verdict.{Verdict}
use Rattle.sound_scan.specs.declared.verdict.Verdict.TheVariants.{Sound, Stray, Twins, Bare}

-- the lesser of two digests; one that isn't there is above all
abbrev pub lesser : Option Digest → Option Digest → Option Digest
lesser None b = b
lesser (Some a) None = Some a
lesser (Some a) (Some b) = if digest_before b a then Some b else Some a

abbrev pub is_found : Option Digest → Digest → Bool
is_found None digest = false
is_found (Some found) digest = same_digest found digest

-- the least digest that passes, and none where none does
abbrev pub IsLeast : (Digest → Bool) → Option Digest → Type 0
IsLeast p None = (digest : Digest) → p digest ≡ false
IsLeast p (Some least) = (p least ≡ true) × ((digest : Digest) → digest_before digest least ≡ true → p digest ≡ false)

-- no digest before this one passes any of the three tests
abbrev pub NoneBefore : (p q r : Digest → Bool) → Digest → Type 0
NoneBefore p q r least = (digest : Digest) → digest_before digest least ≡ true → (p digest ≡ false) × (q digest ≡ false) × (r digest ≡ false)

-- the verdict by the least digest that passes one of the tests, and the first that it passes
abbrev pub IsFirst : (p q r : Digest → Bool) → Verdict → Type 0
IsFirst p q r Sound = (digest : Digest) → (p digest ≡ false) × (q digest ≡ false) × (r digest ≡ false)
IsFirst p q r (Stray digest) = (p digest ≡ true) × NoneBefore p q r digest
IsFirst p q r (Twins digest) = (p digest ≡ false) × (q digest ≡ true) × NoneBefore p q r digest
IsFirst p q r (Bare digest) = (p digest ≡ false) × (q digest ≡ false) × (r digest ≡ true) × NoneBefore p q r digest
