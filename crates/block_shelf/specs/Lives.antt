-- Crate block_shelf. The live copies of a device, block by block. They are in no memory: a shelf keeps how many units they take.
use Rattle.std.specs.Prelude.{◌≡◌, ℕ, not, ◌==◌, List, [], ◌∷◌, ◌++◌, map, filter, find, sum_by, slice_index_or, slice_set, Option, None}
use Rattle.std.specs.List.{AllByRecursion}
use Rattle.rec_format.specs.declared.version.Digest.{Digest}
use Rattle.model_device.specs.Book.{Live}

-- a live copy of a record: whose it is, the unit at which it begins in its block, and how many units it takes
pub record LiveCopy : Type 0 where
  pub digest : Digest
  pub unit : ℕ
  pub units : ℕ

-- those of one block, in the order in which they were added
abbrev pub copies_in : ℕ → List (List LiveCopy) → List LiveCopy
copies_in block lives = slice_index_or lives block []

abbrev pub units_of : List LiveCopy → ℕ
units_of copies = sum_by (λ c. c.units) copies

-- the units that are live in a block
abbrev pub use_in : ℕ → List (List LiveCopy) → ℕ
use_in block lives = units_of (copies_in block lives)

-- the same of each block
abbrev pub uses_of : List (List LiveCopy) → List ℕ
uses_of lives = map units_of lives

-- the copy that begins at a unit
abbrev pub copy_at : ℕ → List LiveCopy → Option LiveCopy
copy_at unit copies = find (λ c. c.unit == unit) copies

abbrev pub without_unit : ℕ → List LiveCopy → List LiveCopy
without_unit unit copies = filter (λ c. not (c.unit == unit)) copies

-- no two copies begin at one unit
abbrev pub HaveOwnUnits : List LiveCopy → Type 0
HaveOwnUnits [] = Unit {0}
HaveOwnUnits (c ∷ cs) = (copy_at c.unit cs ≡ None) × HaveOwnUnits cs

-- a live copy as the block book lists it
abbrev pub live_in_block : ℕ → LiveCopy → Live
live_in_block block copy = record { digest = copy.digest; block = block; unit = copy.unit; units = copy.units }

-- one block has other copies, and all others are as before
abbrev pub with_list : ℕ → List LiveCopy → List (List LiveCopy) → List (List LiveCopy)
with_list block copies lives = slice_set lives block copies

-- the copy at a unit of a block is no longer live
abbrev pub lives_without : (block unit : ℕ) → List (List LiveCopy) → List (List LiveCopy)
lives_without block unit lives = with_list block (without_unit unit (copies_in block lives)) lives

-- one copy more is live in a block
abbrev pub lives_with : (block : ℕ) → LiveCopy → List (List LiveCopy) → List (List LiveCopy)
lives_with block copy lives = with_list block (copies_in block lives ++ copy ∷ []) lives

-- The number of each block is the sum of the units that are live in it, and no two copies of a block begin at one unit.
pub record AreCounted (uses : List ℕ) (lives : List (List LiveCopy)) : Type 0 where
  pub sums : uses ≡ uses_of lives
  pub own : AllByRecursion HaveOwnUnits lives
