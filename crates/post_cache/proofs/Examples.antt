-- Worked values: which bodies a cache with two places keeps.
use Rattle.std.proofs.Common.{◌≡◌, ℕ, List, [], ◌∷◌, refl}
use Rattle.std.specs.Prelude.{Option, Some, None}
use Rattle.post_cache.specs.Bodies.{KeptBody, with_kept_body, without_block, body_of}

-- a body is a number here
abbrev Kept : Type 0
Kept = List (KeptBody ℕ)

abbrev keep : (block body : ℕ) → Kept → Kept
keep block body kept = with_kept_body 2 block body kept

-- those of the blocks 3, 5 and 9
abbrev peeked : Kept → List (Option ℕ)
peeked kept = body_of 3 kept ∷ body_of 5 kept ∷ body_of 9 kept ∷ []

abbrev first : Kept
first = keep 3 10 []

abbrev second : Kept
second = keep 5 50 first

-- block 3 was written again, and its body stands behind that of block 5
third : peeked first ∷ peeked second ∷ peeked (keep 3 11 second) ∷ []
    ≡ (Some 10 ∷ None ∷ None ∷ []) ∷ (Some 10 ∷ Some 50 ∷ None ∷ []) ∷ (Some 11 ∷ Some 50 ∷ None ∷ []) ∷ []
third = refl

-- so the body of block 5 goes first
fourth : peeked (keep 9 90 (keep 3 11 second)) ∷ peeked (without_block 3 (keep 9 90 (keep 3 11 second))) ∷ []
    ≡ (Some 11 ∷ None ∷ Some 90 ∷ []) ∷ (None ∷ None ∷ Some 90 ∷ []) ∷ []
fourth = refl

-- a cache without places keeps nothing
no_places : body_of {B = ℕ} 3 (with_kept_body 0 3 10 []) ≡ None
no_places = refl
