-- Lists of blocks.
use Rattle.std.proofs.Common.{◌≡◌, ℕ, true, List, [], ◌∷◌, refl}
use Rattle.std.proofs.lemmas.Bool.{false≢true}
use Rattle.model_device.specs.Legal.{is_empty}

pub empty_is : (blocks : List ℕ) → is_empty blocks ≡ true → blocks ≡ []
empty_is [] is = refl
empty_is (b ∷ bs) is = absurd (false≢true is)
