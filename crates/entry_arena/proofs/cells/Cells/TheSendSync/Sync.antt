use Rattle.entry_arena.proofs.Steps.{ℕ, suc, List, [], ◌∷◌, Option, None, Some, Ptr, block_ptr, null_ptr}
use Rattle.entry_arena.specs.Cells.{cell_lends, cells_lend}
use Rattle.entry_arena.specs.contracts.cells.Cells.{the_row, the_type}
use Rattle.rec_format.specs.contracts.entry.Entry.{the_row as E}
use Rattle.std.specs.Ptr.{ptr_add}
use denote.Param.Send.{IsSync, sendable, struct_sync, Common}
use denote.RawPtr.{block_of, count_of}
use denote.Struct.Struct.{Struct}
use denote.Struct.Owning.{shape, to}
use Rattle.std.proofs.Crossing.{crosses}

entry_sync : IsSync E
entry_sync = search sendable depth 20

cell_common : (p : Ptr) (x : Option E.Denot) → Common (cell_lends E p x)
cell_common p None κ = tt
cell_common (block_ptr b o) (Some e) κ = (tt, entry_sync.shared e b o κ)
cell_common null_ptr (Some e) κ = (tt, entry_sync.shared e (block_of null_ptr) (count_of null_ptr) κ)

cells_common : (p : Ptr) (first : ℕ) (xs : List (Option E.Denot)) → Common (cells_lend E p first xs)
cells_common p first [] κ = tt
cells_common p first (x ∷ xs) κ = (cell_common (ptr_add E first p) x κ, cells_common p (suc first) xs κ)

fields_are_common : (c : the_type.D) (b o : ℕ) → Common (λ κ. (Struct (shape the_type)).shr_at (to the_type c) b o κ)
fields_are_common c b o κ = (struct_sync (shape the_type) (search sendable depth 6, (search sendable depth 6, (search (sendable, crosses) depth 20, tt)))).shared (to the_type c) b o κ

pub sync : IsSync the_row
sync = record { shared = λ c b o κ. (fields_are_common c b o κ, (cells_common c.at 0 c.cells κ, tt)) }
