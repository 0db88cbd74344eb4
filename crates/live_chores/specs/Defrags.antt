-- Crate live_chores. A turn of a defragmenter.
use Rattle.std.specs.Prelude.{◌≡◌, ◌⊎◌, ℕ, Bool, List, [], ◌∷◌, ◌++◌, Option, Some, None, Result, Ok, Err, IfOk, IfSome}
use Rattle.disk_model.specs.Disk.{DiskView}
use Rattle.rec_format.specs.declared.version.Digest.{Digest}
use Rattle.block_shelf.specs.declared.refusals.VacateRefusal.{VacateRefusal}
use Rattle.block_shelf.specs.declared.refusals.VacateRefusal.TheVariants as vacate
use Rattle.block_shelf.specs.Vacating.{ListsNone}
use Rattle.defrag_pass.specs.declared.refusal.MoveRefusal.{MoveRefusal}
use Rattle.defrag_pass.specs.declared.refusal.MoveRefusal.TheVariants as move
use Rattle.node_workers.specs.declared.chore.Did.{Did}
use Rattle.node_workers.specs.declared.chore.Did.TheVariants.{Worked, Idle, Refused, Memory}
use Rattle.live_node.specs.Opening.{Opening, IsOwn}
use Rattle.live_node.specs.Calls.{LiveView}
use Rattle.live_node.specs.Turns.{ChoosesGaining, MovesRecord}
use Rattle.live_chores.specs.declared.defrag.DefragChore.{DefragChore}
use Rattle.live_chores.specs.declared.station.Station.{Station}
use Rattle.live_chores.specs.Stations.{opened_at, known_at, Stays}

-- A block in hand, and the digests of its records that it hasn't come to. Where none are left it has no block in hand.
pub record Hand : Type 0 where
  pub block : ℕ
  pub left : List Digest

module _ {R D : Type 0} where
  abbrev pub defragger : DefragChore R D → Station R D
  defragger chore = chore.station

  abbrev pub hand_of : DefragChore R D → Hand
  hand_of chore = record { block = chore.block; left = chore.left.items }

-- ---- with no block in hand

-- what came of a choice
abbrev pub did_choose : Result (Option ℕ) VacateRefusal → Did
did_choose (Ok (Some block)) = Worked
did_choose (Ok None) = Idle
did_choose (Err (vacate.Damaged block place)) = Refused
did_choose (Err vacate.Memory) = Memory
did_choose (Err vacate.Fault) = Refused

-- The block that has waited longest is chosen, where that gains room, and it has that in hand with the digests that were listed; else none.
pub record ChoosesBlock {D : Type 0} (view : D → DiskView) (o : Opening D) (before after : LiveView D) (did : Did) (new : Hand) : Type 0 where
  pub result : Result (Option ℕ) VacateRefusal
  pub came : did ≡ did_choose result
  pub chooses : ChoosesGaining view o before after new.left result
  pub taken : IfOk result (λ chosen. IfSome chosen (λ block. new.block ≡ block))
  pub none : ListsNone result new.left

-- ---- with a block in hand

-- what came of a move, whether the record was there or not
abbrev pub did_move : Result Bool MoveRefusal → Did
did_move (Ok there) = Worked
did_move (Err move.Spent) = Refused
did_move (Err move.Load) = Refused
did_move (Err move.Space) = Refused
did_move (Err (move.Damaged kept read)) = Refused
did_move (Err move.Memory) = Memory
did_move (Err move.Fault) = Refused

-- behind a refusal nothing is left in hand
abbrev pub left_by : {E : Type 0} → Result Bool E → List Digest → List Digest
left_by (Ok there) left = left
left_by (Err refusal) left = []

-- one of the device's is moved out of the block by one event
pub record MovesOwn {D : Type 0} (view : D → DiskView) (o : Opening D) (before after : LiveView D) (digest : Digest) (old : Hand) (did : Did) (new : Hand) : Type 0 where
  pub own : IsOwn o digest
  pub result : Result Bool MoveRefusal
  pub came : did ≡ did_move result
  pub moves : MovesRecord view o before after digest old.block result
  pub left : new ≡ record { block = old.block; left = left_by result old.left }

-- and any other is passed over
pub record PassesOver {D : Type 0} (o : Opening D) (before after : LiveView D) (digest : Digest) (old : Hand) (did : Did) (new : Hand) : Type 0 where
  pub other : IsOwn o digest → ⊥
  pub came : did ≡ Worked
  pub none : after ≡ before
  pub left : new ≡ old

abbrev pub MovesOn : {D : Type 0} → (view : D → DiskView) → Opening D → (before after : LiveView D) → Digest → (old : Hand) → Did → (new : Hand) → Type 0
MovesOn view o before after digest old did new = MovesOwn view o before after digest old did new ⊎ PassesOver o before after digest old did new

-- ---- a turn

-- the digest that comes next is the last of those in hand
abbrev pub TurnsHand : {D : Type 0} → (view : D → DiskView) → Opening D → (before after : LiveView D) → (old : Hand) → Did → (new : Hand) → Type 0
TurnsHand view o before after old did new =
    ((old.left ≡ []) × ChoosesBlock view o before after did new)
    ⊎ ((digest : Digest) × (rest : List Digest) × (old.left ≡ rest ++ digest ∷ []) × MovesOn view o before after digest (record { block = old.block; left = rest }) did new)

-- With no block in hand a turn chooses one, where that gains room. Else it moves the record of the next digest in hand out of the block. Either is
-- one event, or none where nothing can be gained, or where the digest isn't one of the device's.
pub record DefragsOnce {R D : Type 0} (view : D → DiskView) (old : Station R D) (hand : Hand) (did : Did) (new : Station R D) (then : Hand) : Type 0 where
  pub stays : Stays old new
  pub turns : TurnsHand view (opened_at old) (known_at old) (known_at new) hand did then
