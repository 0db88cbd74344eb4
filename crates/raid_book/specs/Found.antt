-- Lists of found copies, and what they have of each part.
use Rattle.std.specs.Prelude.{ℕ, ◌≤◌, ◌<◌, not, ◌==◌, List, [], ◌∷◌, length, map, filter, Option, Some, None}
use Rattle.std.specs.List.{AllPairs, AllWithin}
use Rattle.rec_format.specs.declared.version.Digest.{Digest}
use Rattle.rec_format.specs.declared.version.Stamp.{Stamp}
use Rattle.model_device.specs.Steps.{least}
use Rattle.block_format.specs.declared.geometry.Found.{Found}
use Rattle.raid_book.specs.declared.found.FoundCopy.{FoundCopy}

-- whose copy it is, and its stamp
abbrev pub copy_in : FoundCopy → Digest × Stamp
copy_in c = (c.digest, c.stamp)

-- the found copies of a part, in the order in which they were found
abbrev pub copies_for : ℕ → List FoundCopy → List (Digest × Stamp)
copies_for part found = map copy_in (filter (λ c. c.part == part) found)

abbrev pub without_part : ℕ → List FoundCopy → List FoundCopy
without_part part found = filter (λ c. not (c.part == part)) found

-- the least part with a found copy
abbrev pub least_part : List FoundCopy → Option ℕ
least_part [] = None
least_part (c ∷ found) = Some (least (least_part found) c.part)

-- records that were read, each with a part
abbrev pub with_parts : List Found → List ℕ → List FoundCopy
with_parts [] parts = []
with_parts (f ∷ found) [] = []
with_parts (f ∷ found) (p ∷ parts) = (record { part = p; digest = f.head.digest; stamp = f.head.stamp }) ∷ with_parts found parts

-- no copy's part is above that of an earlier one
abbrev pub Falls : List FoundCopy → Type 0
Falls found = AllPairs (λ a b. b.part ≤ a.part) found

-- the copies of this part and of greater ones end here, and those of lesser ones begin
pub record IsEndOf (part : ℕ) (found : List FoundCopy) (at : ℕ) : Type 0 where
  pub bound : at ≤ length found
  pub front : AllWithin (λ c. part ≤ c.part) found 0 at
  pub rest : AllWithin (λ c. c.part < part) found at (length found)
