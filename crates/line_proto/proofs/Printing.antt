-- Text that is written part by part.
use Rattle.std.proofs.Common.{◌≡◌, ℕ, List, [], ◌∷◌, ◌++◌, map, Ok, Err, ◌∙◌, ap, append_assoc}
use Rattle.std.specs.Prelude.{Result, OnOk, decimal}
use Rattle.std.specs.List.{flat_map}
use Rattle.std.proofs.lemmas.List.{append-nil}
use Rattle.line_proto.specs.Lines.{words_line}
use Rattle.line_proto.specs.Printing.{spaced}

-- one part and then another, which are the whole
pub added_on : {E : Type 0} (text one two whole mid longer : List ℕ) (r : Result Unit E) → mid ≡ text ++ one → one ++ two ≡ whole → OnOk r (longer ≡ mid ++ two)
    → OnOk r (longer ≡ text ++ whole)
added_on text one two whole mid longer (Ok u) first parts second =
    second ∙ ap (λ l. l ++ two) first ∙ append_assoc text one two ∙ ap (λ l. text ++ l) parts
added_on text one two whole mid longer (Err e) first parts second = tt

-- a word and numbers
pub words_of : (word : List ℕ) (numbers : List ℕ) → word ++ flat_map spaced numbers ≡ words_line (word ∷ map decimal numbers)
words_of word [] = append-nil word
words_of word (n ∷ rest) = ap (λ l. word ++ 32 ∷ l) (words_of (decimal n) rest)

-- the line of a version, part by part
pub value_line : {E : Type 0} (text words space digits longer : List ℕ) (w a b c d : List ℕ) (r : Result Unit E) → words ≡ text ++ words_line (w ∷ a ∷ b ∷ c ∷ [])
    → space ≡ words ++ 32 ∷ [] → digits ≡ space ++ d → OnOk r (longer ≡ digits ++ 10 ∷ []) → OnOk r (longer ≡ text ++ (words_line (w ∷ a ∷ b ∷ c ∷ d ∷ []) ++ 10 ∷ []))
value_line text words space digits longer w a b c d (Ok u) one two three four =
    four ∙ ap (λ l. l ++ 10 ∷ []) (three ∙ ap (λ l. l ++ d) (two ∙ ap (λ l. l ++ 32 ∷ []) one)) ∙ simp append_assoc
value_line text words space digits longer w a b c d (Err e) one two three four = tt
