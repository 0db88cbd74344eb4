-- Crate line_proto. Text that is written behind other text.
use Rattle.std.specs.Prelude.{◌≡◌, ℕ, List, ◌∷◌, ◌++◌, decimal}

-- the text is still there, and more may stand behind it
pub record GoesOn (text longer : List ℕ) : Type 0 where
  pub more : List ℕ
  pub parts : longer ≡ text ++ more

-- a space and a number
abbrev pub spaced : ℕ → List ℕ
spaced n = 32 ∷ decimal n
