-- How entries lie in stages.
use Rattle.std.specs.Prelude.{⊤, ◌≡◌, ℕ, zero, suc, ◌+◌, ◌*◌, ◌^◌, ◌<◌, min, List, [], ◌∷◌, ◌++◌, length, flat_map, Option}
use Rattle.rec_format.specs.declared.entry.Entry.{Entry}
use Rattle.entry_arena.specs.declared.cells.Cells.{Cells}

-- the number of slots of a stage: 4 of the first, twice as many of each further one, and 4,096 at most
abbrev pub width_of : ℕ → ℕ
width_of stage = min (4 * 2 ^ stage) 4096

-- the number of a stage's first slot
abbrev pub first_of : ℕ → ℕ
first_of zero = 0
first_of (suc stage) = first_of stage + width_of stage

-- a slot is at this place of this stage
pub record IsAt (slot stage place : ℕ) : Type 0 where
  pub within : place < width_of stage
  pub there : first_of stage + place ≡ slot

-- the cells of stages, one after another
abbrev pub flat : List Cells → List (Option Entry)
flat stages = flat_map (λ c. c.cells) stages

-- each stage has all its slots; the first is the stage of this number
abbrev pub HaveWidths : ℕ → List Cells → Type 0
HaveWidths stage [] = ⊤
HaveWidths stage (c ∷ cs) = (length c.cells ≡ width_of stage) × HaveWidths (suc stage) cs

-- the stages are whole, the first and those behind it, and this is the number of their slots
pub record IsStaged (first : List (Option Entry)) (more : List Cells) (total : ℕ) : Type 0 where
  pub begins : length first ≡ width_of 0
  pub widths : HaveWidths 1 more
  pub counted : total ≡ length (first ++ flat more)
