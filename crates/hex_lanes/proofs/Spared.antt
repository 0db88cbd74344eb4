-- Digits are never refused for want of memory.
use Rattle.std.proofs.Common.{◌≡◌, ℕ, ◌+◌, ◌%◌, Bool, true, false, List, [], ◌∷◌, length, Option, Some, None, Result, Ok, Err, sym, ◌∙◌}
use Rattle.std.specs.Prelude.{⊤, ◌==◌, if◌then◌else◌, MatchResult}
use Rattle.hex.specs.declared.error.FromHexError.{FromHexError}
use Rattle.hex.specs.declared.error.FromHexError.TheVariants.{OddLength, OutOfMemory}
use Rattle.hex.specs.Hex.{◌>>=◌, digit_or_error, value_at, pair_value, hex_digit_value, decode_pairs, decode_of}

abbrev pub Spared : {X : Type 0} → Result X FromHexError → Type 0
Spared (Ok x) = ⊤
Spared (Err e) = e ≡ OutOfMemory → ⊥

spared_then : {A B : Type 0} (r : Result A FromHexError) (f : A → Result B FromHexError) → Spared r → ((x : A) → Spared (f x)) → Spared (r >>= f)
spared_then (Ok x) f p q = q x
spared_then (Err e) f p q = p

spared_digit : (c i : ℕ) (value : Option ℕ) → Spared (digit_or_error c i value)
spared_digit c i (Some v) = tt
spared_digit c i None = λ is. cc

spared_pair : (high low i : ℕ) → Spared (pair_value high low i)
spared_pair high low i = spared_then (value_at high i) _ (spared_digit high i (hex_digit_value high)) (λ h. spared_then (value_at low (i + 1)) _ (spared_digit low (i + 1) (hex_digit_value low)) (λ l. tt))

spared_pairs : (i : ℕ) (text : List ℕ) → Spared (decode_pairs i text)
unfolding decode_pairs
spared_pairs i [] = tt
spared_pairs i (digit ∷ []) = λ is. cc
spared_pairs i (high ∷ low ∷ rest) =
    spared_then (pair_value high low i) _ (spared_pair high low i) (λ byte. spared_then (decode_pairs (i + 2) rest) _ (spared_pairs (i + 2) rest) (λ bytes. tt))

spared_if : (odd : Bool) (text : List ℕ) → Spared (if odd then Err OddLength else decode_pairs 0 text)
spared_if true text = λ is. cc
spared_if false text = spared_pairs 0 text

pub spared : (text : List ℕ) → Spared (decode_of text)
spared text = spared_if (length text % 2 == 1) text

pub never_memory : (told : Result (List ℕ) FromHexError) (result : Result (Unit {0}) FromHexError) (bytes : List ℕ) → Spared told
    → MatchResult told (λ read. (result ≡ Ok tt) × (bytes ≡ read)) (λ e. result ≡ Err e) → result ≡ Err OutOfMemory → ⊥
never_memory (Ok read) result bytes p is wants = let same = sym is.0 ∙ wants in cc
never_memory (Err e) result bytes p is wants = p (let same = sym is ∙ wants in cc)
