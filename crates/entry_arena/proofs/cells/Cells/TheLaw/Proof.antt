use Rattle.entry_arena.proofs.Steps.{ℕ, suc, List, [], ◌∷◌, Option, None, Some, Logic, Ura, Ptr, RattleType, length}
use Rattle.entry_arena.proofs.cells.Cells.TheLaw.Statement.{statement}
use Rattle.entry_arena.specs.Cells.{cell_owns, cells_own, cell_lends, cells_lend, stage_lends}
use Rattle.entry_arena.specs.contracts.cells.Cells.{struct, the_codes, the_heap, the_lent, the_row}
use Rattle.rec_format.specs.contracts.entry.Entry.{the_row as E}
use Rattle.rec_format.proofs.entry.Entry.TheLaws as entry
use Rattle.std.specs.Ptr.{ptr_add}
use Rattle.std.specs.contracts.alloc.Global as global
use Rattle.std.proofs.alloc.Global.TheLaws as global_laws
use base.Fml.{Fml, Lft, flt, fsep}
use denote.Memory.{shared_of}
use denote.Param.Shared.{copy_shared}
use denote.RattleType.{RowLaws}
use denote.Sharing.{ShrLaws, said}
use denote.SharingLaws.{nothing_shr_laws, beside_shr_laws, said_shr_laws}
use denote.Shares.{SharesAt}
use denote.Struct.Field.{RawPtr-field, usize-field}
use denote.Struct.Laws.{RawPtr-copy, usize-copy}
use denote.Struct.Lending.{Lends, Lends-both, Lends-nothing, Lends-lies, Lends-said, Lends-first, of_Lends, lent_at_shr_laws}

abbrev few : List (Option E.Denot) → Lft → Fml
few xs = said (flt (length xs) 4097)

module _ (R : RattleType) (p : Ptr) where
  cell_laws : RowLaws R → (at : ℕ) (x : Option R.Denot) → ShrLaws (cell_lends R (ptr_add R at p) x)
  cell_laws laws at None = nothing_shr_laws
  cell_laws laws at (Some e) = lent_at_shr_laws R laws (ptr_add R at p) e

  cells_laws : RowLaws R → (first : ℕ) (xs : List (Option R.Denot)) → ShrLaws (cells_lend R p first xs)
  cells_laws laws first [] = nothing_shr_laws
  cells_laws laws first (x ∷ xs) =
      beside_shr_laws (cell_lends R (ptr_add R first p) x) (cells_lend R p (suc first) xs) (cell_laws laws first x) (cells_laws laws (suc first) xs)

  module _ {M : Type 1} {𝓤 : Ura M} (𝓛 : Logic 𝓤) (l : Lft) (shares : (e : R.Denot) → SharesAt 𝓛 R e (shared_of R e) l) where
    lends_cell : (at : ℕ) (x : Option R.Denot) → Lends 𝓛 (cell_owns R (ptr_add R at p) x) (cell_lends R (ptr_add R at p) x) l
    lends_cell at None = Lends-nothing 𝓛 (cell_owns R (ptr_add R at p) None) l
    lends_cell at (Some e) = Lends-lies 𝓛 R l (ptr_add R at p) e (shares e)

    lends_cells : (first : ℕ) (xs : List (Option R.Denot)) → Lends 𝓛 (cells_own R p first xs) (cells_lend R p first xs) l
    lends_cells first [] = Lends-nothing 𝓛 (cells_own R p first []) l
    lends_cells first (x ∷ xs) =
        Lends-both 𝓛 (cell_owns R (ptr_add R first p) x) (cells_own R p (suc first) xs) (cell_lends R (ptr_add R first p) x) (cells_lend R p (suc first) xs) l
        (lends_cell first x) (lends_cells (suc first) xs)

pub shares : statement
shares =
    of_Lends struct (the_codes (global.the_row).coded) the_heap the_lent
    (λ c p. beside_shr_laws (cells_lend E c.at 0 c.cells) (few c.cells) (cells_laws E c.at (entry.the_row_laws).shr_laws 0 c.cells) (said_shr_laws (flt (length c.cells) 4097) tt))
    (copy_shared RawPtr-field RawPtr-copy, (copy_shared usize-field usize-copy, (global_laws.the_field_shared, tt)))
    (λ M 𝓤 𝓛 c p. Lends-first 𝓛 (fsep (cells_own E c.at 0 c.cells) (flt (length c.cells) 4097)) _ (stage_lends E c.at c.cells) the_row.lives
    (Lends-both 𝓛 (cells_own E c.at 0 c.cells) (flt (length c.cells) 4097) (cells_lend E c.at 0 c.cells) (few c.cells) the_row.lives
    (lends_cells E c.at 𝓛 the_row.lives ((entry.the_row_laws).shares 𝓛) 0 c.cells) (Lends-said 𝓛 (flt (length c.cells) 4097) tt the_row.lives)))
