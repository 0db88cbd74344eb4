-- Crate law_start. What is found of a digest, copy by copy.
use Rattle.std.specs.Prelude.{ℕ, max, ◌==◌, List, [], ◌∷◌, Option, Some, None, if◌then◌else◌}
use Rattle.rec_format.specs.declared.version.Digest.{Digest}
use Rattle.rec_format.specs.Places.{same_digest}
use Rattle.rec_format.specs.Versions.{is_later}
use Rattle.model_device.specs.Book.{Setup}
use Rattle.model_device.specs.Device.{part_of}
use Rattle.block_format.specs.Copies.{Copy}

-- the same of copies
abbrev pub later_one : Option Copy → Copy → Copy
later_one None c = c
later_one (Some found) c = if is_later c.version found.version then c else found

abbrev pub cold_copy_after : Digest → Option Copy → Copy → Option Copy
cold_copy_after digest found c = if same_digest digest c.digest then Some (later_one found c) else found

-- the greatest last update time of the copies of a part, 0 where there are none
abbrev pub copies_high : Setup → (part : ℕ) → List Copy → ℕ
copies_high setup part [] = 0
copies_high setup part (c ∷ copies) =
    if part_of setup c.digest == part then max c.version.stamp.lut (copies_high setup part copies) else copies_high setup part copies
