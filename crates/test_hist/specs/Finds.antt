-- Crate test_hist. What an image has to be found in it.
use Rattle.std.specs.Prelude.{ℕ, List, map}
use Rattle.rec_format.specs.declared.version.Digest.{Digest}
use Rattle.rec_format.specs.declared.version.Version.{Version}
use Rattle.block_format.specs.declared.geometry.Geometry.{Geometry}
use Rattle.block_format.specs.Layout.{Body}
use Rattle.block_format.specs.Copies.{IsReadable, copies_of}

-- the records of some bodies, in order
abbrev pub records_of : List Body → List (Digest × Version)
records_of bodies = map (λ c. (c.digest, c.version)) (copies_of bodies)

-- no header and no bodies make it an image that can be read
abbrev pub IsUnreadable : List ℕ → Type 0
IsUnreadable image = (g : Geometry) (bodies : List Body) → IsReadable image g bodies → ⊥
