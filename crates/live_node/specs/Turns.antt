-- Crate live_node. The turns of a worker at the table: calls that make one event, or none where there is nothing to do.
use Rattle.std.specs.Prelude.{◌≡◌, ℕ, Bool, true, false, ◌&&◌, List, [], Option, Some, None, Result, Ok, IfOk, IfSome, is_some, slice_get}
use Rattle.rec_format.specs.declared.version.Digest.{Digest}
use Rattle.disk_model.specs.Disk.{DiskView}
use Rattle.model_device.specs.Book.{live_of}
use Rattle.model_device.specs.Device.{State}
use Rattle.model_device.specs.Events.{choose_call, move_call, expire_call}
use Rattle.model_device.specs.Legal.{queue_front, is_in_block}
use Rattle.model_device.specs.Vacating.{can_gain}
use Rattle.block_shelf.specs.declared.refusals.VacateRefusal.{VacateRefusal}
use Rattle.block_shelf.specs.Vacating.{ListsLive}
use Rattle.defrag_pass.specs.declared.refusal.MoveRefusal.{MoveRefusal}
use Rattle.defrag_pass.specs.Choosing.{choose_answer}
use Rattle.defrag_pass.specs.Moves.{Answers}
use Rattle.shard_core.specs.declared.refusals.WriteRefusal.{WriteRefusal}
use Rattle.shard_core.specs.Calls.{delete_answer}
use Rattle.live_node.specs.Opening.{Opening, WasSafe, state_at}
use Rattle.live_node.specs.Fits.{Is}
use Rattle.live_node.specs.Calls.{LiveView, seen_by, AnswersBy, AnswersOnce, IsRight}
use Rattle.live_node.specs.Sweeps.{left_behind}

-- ---- the choice of a block

-- a block is queued, and to vacate it gains room
abbrev pub can_vacate : State → Bool
can_vacate s = can_gain s.book && is_some (queue_front s.book.queue)

-- A choice is one event, and a block could be vacated with gain before it. Over a disk that was honest, and whose image was sound, each record that
-- is live in the block is listed.
pub record Chooses {D : Type 0} (view : D → DiskView) (o : Opening D) (before after : LiveView D) (list : List Digest)
    (result : Result (Option ℕ) VacateRefusal) : Type 0 where
  pub once : AnswersOnce view o before after choose_call (choose_answer result)
  pub gains : can_vacate (state_at o once.past) ≡ true
  pub lists : WasSafe view o → IfOk result (λ chosen. IfSome chosen (λ block. ListsLive (state_at o once.past).book block list))

-- where none can be vacated with gain in the state that the pass has then seen, none is chosen, and there is no event
abbrev pub ChoosesGaining : {D : Type 0} → (view : D → DiskView) → Opening D → (before after : LiveView D) → List Digest
    → Result (Option ℕ) VacateRefusal → Type 0
ChoosesGaining view o before after list (Ok None) = IsRight view o before after [] × (can_vacate (state_at o (seen_by after)) ≡ false)
ChoosesGaining view o before after list result = Chooses view o before after list result

-- ---- the move of a record

-- A move is one event, and answers whether the record was in the block before it.
pub record MovesRecord {D : Type 0} (view : D → DiskView) (o : Opening D) (before after : LiveView D) (digest : Digest) (block : ℕ)
    (result : Result Bool MoveRefusal) : Type 0 where
  pub once : AnswersBy view o before after (Is (move_call digest block) (Answers result))
  pub there : IfOk result (λ was_there. was_there ≡ is_in_block block (live_of digest (state_at o once.past).book.live))

-- ---- the removal of an entry

-- The first entry of the part that is expired is removed, by one event.
pub record ExpiresFirst {D : Type 0} (view : D → DiskView) (o : Opening D) (before after : LiveView D) (part now : ℕ)
    (result : Result Bool WriteRefusal) : Type 0 where
  pub digest : Digest
  pub once : AnswersOnce view o before after (expire_call digest now) (delete_answer result)
  pub first : slice_get (left_behind o part now None once.past) 0 ≡ Some digest

-- where none is expired in the state that the pass has then seen, none is removed, and there is no event
abbrev pub ExpiresNext : {D : Type 0} → (view : D → DiskView) → Opening D → (before after : LiveView D) → (part now : ℕ) → Result Bool WriteRefusal → Type 0
ExpiresNext view o before after part now (Ok false) = IsRight view o before after [] × (left_behind o part now None (seen_by after) ≡ [])
ExpiresNext view o before after part now result = ExpiresFirst view o before after part now result
