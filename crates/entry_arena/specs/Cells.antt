-- What the memory of a stage holds, cell by cell.
use Rattle.std.specs.Prelude.{ℕ, suc, List, [], ◌∷◌, length, Option, None, Some}
use Rattle.std.specs.Ptr.{ptr_add}
use Rattle.std.specs.Allocator.{array_of}
use base.Fml.{Fml, Lft, ftrue, fsep, feq, flt}
use base.Fraction.{full_share}
use denote.RattleType.{RattleType}
use denote.RawPtr.{Ptr, lies_at, room_at, in_block}
use denote.Sharing.{nothing, said, beside}
use denote.Struct.Lending.{lent_at}
use mir.Syntax.{Ty}

-- a cell has an entry, or room for one
abbrev pub cell_owns : (R : RattleType) → Ptr → Option R.Denot → Fml
cell_owns R p None = room_at R p
cell_owns R p (Some e) = lies_at R full_share p e

-- cells side by side, from the one of this number on
abbrev pub cells_own : (R : RattleType) → Ptr → ℕ → List (Option R.Denot) → Fml
cells_own R p first [] = ftrue
cells_own R p first (x ∷ xs) = fsep (cell_owns R (ptr_add R first p) x) (cells_own R p (suc first) xs)

-- all cells of a stage, at most 4,096, and the right to free the block of so many
abbrev pub stage_owns : (R : RattleType) → (Ty → Ptr → Fml) → Ptr → ℕ → List (Option R.Denot) → Fml
stage_owns R token p count xs =
    fsep (fsep (cells_own R p 0 xs) (flt (length xs) 4097)) (fsep (feq ℕ (length xs) count) (in_block p (token (array_of R count) p)))

-- what a reader has of a cell: its entry
abbrev pub cell_lends : (R : RattleType) → Ptr → Option R.Denot → Lft → Fml
cell_lends R p None = nothing
cell_lends R p (Some e) = lent_at R p e

-- what a reader has of cells side by side
abbrev pub cells_lend : (R : RattleType) → Ptr → ℕ → List (Option R.Denot) → Lft → Fml
cells_lend R p first [] = nothing
cells_lend R p first (x ∷ xs) = beside (cell_lends R (ptr_add R first p) x) (cells_lend R p (suc first) xs)

-- what a reader has of a stage
abbrev pub stage_lends : (R : RattleType) → Ptr → List (Option R.Denot) → Lft → Fml
stage_lends R p xs = beside (cells_lend R p 0 xs) (said (flt (length xs) 4097))
