-- Crate node_words. The options in front of some words, as they are asked for one by one.
use Rattle.std.specs.Prelude.{◌≡◌, ℕ, ◌-◌, ◌==◌, Bool, false, List, [], ◌∷◌, Option, Some, None, if◌then◌else◌}
use Rattle.node_words.specs.Words.{Text, Pair, given}

-- whether a word has a dash in front, as each option has and no device name
abbrev pub is_dashed : Text → Bool
is_dashed [] = false
is_dashed (byte ∷ bytes) = byte == 45

-- the options in front with their values, and the words behind them
abbrev pub split : List Text → List Pair × List Text
split [] = ([], [])
split (word ∷ []) = ([], word ∷ [])
split (option ∷ value ∷ words) =
    if is_dashed option then ((option, value) ∷ (split words).0, (split words).1) else ([], option ∷ value ∷ words)

-- the words begin with an option and its value
pub record BeginsWith (words : List Text) (option value : Text) (behind : List Text) : Type 0 where
  pub pairs : (split words).0 ≡ (option, value) ∷ (split behind).0
  pub names : (split words).1 ≡ (split behind).1

-- the options of a list, and how many of them haven't been asked for
pub record Offer : Type 0 where
  pub pairs : List Pair
  pub unread : ℕ

-- how many texts there are
abbrev pub one_if : Option Text → ℕ
one_if None = 0
one_if (Some text) = 1

-- after it was asked for an option
abbrev pub asked : Offer → Text → Offer
asked offer name = record { pairs = offer.pairs; unread = offer.unread - one_if (given name offer.pairs) }

-- after it was asked for several, one behind another
abbrev pub asked_all : Offer → List Text → Offer
asked_all offer [] = offer
asked_all offer (name ∷ names) = asked_all (asked offer name) names
