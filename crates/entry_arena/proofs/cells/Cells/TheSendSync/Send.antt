use Rattle.entry_arena.proofs.Steps.{ℕ, suc, List, [], ◌∷◌, Option, None, Some, Ptr, block_ptr, null_ptr, Val, full_share}
use Rattle.entry_arena.specs.Cells.{cell_owns, cells_own}
use Rattle.entry_arena.specs.contracts.cells.Cells.{the_row, the_type}
use Rattle.rec_format.specs.contracts.entry.Entry.{the_row as E, the_type as E-type}
use Rattle.rec_format.proofs.entry.Entry.TheLaws as entry
use Rattle.std.specs.Ptr.{ptr_add}
use Rattle.std.specs.contracts.impls.GlobalAllocator.TheImpl.{ghosts}
use Rattle.std.specs.declared.alloc.Global.{Global}
use Rattle.std.proofs.Crossing.{frees}
use base.Shift.{Keyless}
use denote.Param.Send.{IsSend, owning_send, sendable, Pure-keyless, whole-keyless}
use denote.Memory.{raw_all}
use denote.Struct.Laws.{field_plain}
use denote.RawPtr.{in_block}
use mir.Syntax.{Ty}

-- what an entry owns and where it lies says nothing of a thread
entry_keyless : (e : E.Denot) (vs : List Val) → Keyless (E.own_val e vs)
entry_keyless e vs = Pure-keyless (E.own_val e vs) (field_plain E-type entry.the_plain (E-type.to e) vs)

cell_keyless : (p : Ptr) (x : Option E.Denot) → Keyless (cell_owns E p x)
cell_keyless (block_ptr b o) None = tt
cell_keyless null_ptr None = tt
cell_keyless (block_ptr b o) (Some e) = whole-keyless (raw_all E.mir) E.own_val entry_keyless full_share e b o
cell_keyless null_ptr (Some e) = tt

cells_keyless : (p : Ptr) (first : ℕ) (xs : List (Option E.Denot)) → Keyless (cells_own E p first xs)
cells_keyless p first [] = tt
cells_keyless p first (x ∷ xs) = (cell_keyless (ptr_add E first p) x, cells_keyless p (suc first) xs)

token_keyless : (p : Ptr) (g : Global) (τ : Ty) → Keyless (in_block p (ghosts.dealloc_token g τ p))
token_keyless (block_ptr b o) g τ = frees.frees g τ (block_ptr b o)
token_keyless null_ptr g τ = tt

pub send : IsSend the_row
send = owning_send the_type (search sendable, (search sendable, (search sendable, tt))) (λ c. ((cells_keyless c.at 0 c.cells, tt), (tt, token_keyless c.at c.alloc _))) (λ k _ _. tt)
