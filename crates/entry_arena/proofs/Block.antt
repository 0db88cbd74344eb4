-- The block of a stage: its room is the room of empty cells, and what cells own is at last such room.
use Rattle.entry_arena.proofs.Steps.{◌≡◌, ℕ, zero, suc, ◌+◌, ◌<◌, List, [], ◌∷◌, Option, None, refl, sym, id⊢, ent, ftrue, fsep, froom, Logic, sem, Ura, ‵, ◌$◌, ◌∵◌, !, qed, done, move, drop, use0, use1, use2, fsplit, fjoin, rewrite, block_ptr, length, arith, ap, ◌^◌}
use Rattle.entry_arena.specs.Cells.{cell_owns, cells_own}
use Rattle.entry_arena.proofs.Cell.{cell_room}
use Rattle.rec_format.specs.contracts.entry.Entry.{the_row as E}
use Rattle.rec_format.proofs.entry.Entry.TheLaws as entry
use Rattle.std.specs.Allocator.{array_of}
use Rattle.std.specs.Ptr.{array_size}
use Rattle.std.specs.Prelude.{replicate}
use Rattle.std.proofs.Common.{Bool, cond}
use Rattle.std.proofs.lemmas.Bool.{lt-ltb}
use mir.Syntax.{ty_array}
use prog.Memory.{capped}

-- a size that fits a number is told as it is
pub capped_is : (n : ℕ) → n < 2 ^ 64 → capped n ≡ n
capped_is n few = ap (λ (b : Bool). cond b n 18446744073709551615) (lt-ltb n (2 ^ 64) few)

module _ {M : Type 1} {𝓤 : Ura M} (𝓛 : Logic 𝓤) (b o : ℕ) where
  pub cells_room : (first at : ℕ) (xs : List (Option E.Denot)) → at ≡ array_size E first + o
      → ent 𝓤 (sem 𝓛 (cells_own E (block_ptr b o) first xs)) (sem 𝓛 (froom (ty_array entry.mir (length xs)) b at))
  cells_room first at [] e = 𝓛.laws.room_nil entry.mir b at
  cells_room first at (x ∷ xs) e =
      qed 𝓛 (‵ (fsep (cell_owns E (block_ptr b (array_size E first + o)) x) (cells_own E (block_ptr b o) (suc first) xs)) ∷ []) ∵ fsplit ! $
      use1 𝓛 (‵ (froom entry.mir b (array_size E first + o))) (cell_room 𝓛 b (array_size E first + o) x) $
      rewrite ! 0 (λ n. ‵ (froom entry.mir b n)) (sym e) refl $ move ! (1 ∷ []) $
      use1 𝓛 (‵ (froom (ty_array entry.mir (length xs)) b (at + 72))) (cells_room (suc first) (at + 72) xs (omega arith)) $ move ! (1 ∷ []) $
      use2 𝓛 (‵ (froom (ty_array entry.mir (suc (length xs))) b at)) (𝓛.laws.room_cons entry.mir (length xs) b at) $ done !

  pub room_cells : (first at n : ℕ) → at ≡ array_size E first + o
      → ent 𝓤 (sem 𝓛 (froom (ty_array entry.mir n) b at)) (sem 𝓛 (cells_own E (block_ptr b o) first (replicate n None)))
  room_cells first at zero e = qed 𝓛 (‵ (froom (ty_array entry.mir 0) b at) ∷ []) ∵ drop ! $ use0 𝓛 (‵ ftrue) (id⊢ 𝓤 _) $ done !
  room_cells first at (suc n) e =
      qed 𝓛 (‵ (froom (ty_array entry.mir (suc n)) b at) ∷ []) ∵
      use1 𝓛 (‵ (fsep (froom entry.mir b at) (froom (ty_array entry.mir n) b (at + 72)))) (𝓛.laws.room_uncons entry.mir n b at) $ fsplit ! $
      rewrite ! 0 (λ m. ‵ (froom entry.mir b m)) e refl $ move ! (1 ∷ []) $
      use1 𝓛 (‵ (cells_own E (block_ptr b o) (suc first) (replicate n None))) (room_cells (suc first) (at + 72) n (omega arith)) $ move ! (1 ∷ []) $ fjoin ! $ done !

  -- room for all cells, as the allocator has it
  pub array_room : (n : ℕ) → ent 𝓤 (sem 𝓛 (froom (ty_array entry.mir n) b o)) (sem 𝓛 (froom (array_of E n) b o))
  array_room n = 𝓛.laws.room-raw (ty_array entry.mir n) b o

  pub room_array : (n : ℕ) → ent 𝓤 (sem 𝓛 (froom (array_of E n) b o)) (sem 𝓛 (froom (ty_array entry.mir n) b o))
  room_array n = 𝓛.laws.raw-room (ty_array entry.mir n) b o
