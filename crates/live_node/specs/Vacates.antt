-- Crate live_node. How a block is vacated by events of the list.
use Rattle.std.specs.Prelude.{◌≡◌, ◌⊎◌, ◌≤◌, ◌<◌, ℕ, Bool, true, false, List, [], ◌∷◌, ◌++◌, Option, Some, None, Result, Ok, Err, Contains, IsTrue, MatchBool}
use Rattle.std.specs.List.{AllByRecursion}
use Rattle.rec_format.specs.declared.version.Digest.{Digest}
use Rattle.rec_format.specs.Versions.{block_capacity}
use Rattle.disk_model.specs.Disk.{DiskView}
use mathlib.Core.List.{IsPrefix}
use Rattle.model_device.specs.Book.{Book, live_of}
use Rattle.model_device.specs.Device.{part_of}
use Rattle.model_device.specs.Steps.{part_total}
use Rattle.model_device.specs.Events.{Event, happened, choose_call, move_call, flush_sealed_call}
use Rattle.model_device.specs.Legal.{is_in_block}
use Rattle.model_device.specs.Vacating.{can_gain, moved_by, moved_count}
use Rattle.law_trail.specs.Trail.{IsBooked}
use Rattle.block_format.specs.Layout.{most_records}
use Rattle.block_shelf.specs.declared.refusals.VacateRefusal.{VacateRefusal}
use Rattle.defrag_pass.specs.declared.refusal.MoveRefusal.{MoveRefusal}
use Rattle.defrag_pass.specs.Choosing.{HasFew, choose_answer}
use Rattle.defrag_pass.specs.Moves.{Answers}
use Rattle.shard_core.specs.declared.defrag.Vacated.{Vacated}
use Rattle.shard_core.specs.declared.refusals.DefragRefusal.{DefragRefusal}
use Rattle.shard_core.specs.declared.refusals.DefragCause.{DefragCause}
use Rattle.shard_core.specs.Vacating.{move_cause, vacate_cause}
use Rattle.live_node.specs.Opening.{Opening, IsOwn, WasSafe, setup_at, state_at}
use Rattle.live_node.specs.Fits.{Is}
use Rattle.live_node.specs.Calls.{LiveView, seen_by, AnswersBy, IsRight}
use Rattle.live_node.specs.Several.{Placed, placed_events, Shows}

-- the list has room for the digests of the most records that a block can have
abbrev pub HasListRoom : {D : Type 0} → Opening D → (room : ℕ) → Type 0
HasListRoom o room = most_records (block_capacity o.shelf.geometry.block_size) ≤ room

-- ---- moves out of a block

-- the record of this digest was moved out of the block, or wasn't there
abbrev pub IsMoveOf : (block : ℕ) → Digest → Event → Type 0
IsMoveOf block digest e = (there : Bool) × Is (move_call digest block) (λ answer. answer ≡ happened there) e

-- so it was with some record
abbrev pub IsDone : (block : ℕ) → Event → Type 0
IsDone block e = (digest : Digest) × IsMoveOf block digest e

-- a move that was refused for this cause
abbrev pub IsStop : (block : ℕ) → DefragCause → Event → Type 0
IsStop block cause e = (digest : Digest) × (stop : MoveRefusal) × (cause ≡ move_cause stop) × Is (move_call digest block) (Answers (Err stop)) e

abbrev pub HasMove : (block : ℕ) → List Event → Digest → Type 0
HasMove block moves digest = (e : Event) × Contains moves e × IsMoveOf block digest e

-- each of these digests that is the device's has its move
abbrev pub HaveMoves : {D : Type 0} → Opening D → (block : ℕ) → List Event → List Digest → Type 0
HaveMoves o block moves digests = AllByRecursion (λ digest. IsOwn o digest → HasMove block moves digest) digests

-- some moves out of the block, and then one that was refused, so that the vacating was refused after so many records
abbrev pub StopsAfter : (block : ℕ) → DefragRefusal → List Event → Type 0
StopsAfter block refusal moves =
    (done : List Event) × (last : Event) × (moves ≡ done ++ last ∷ []) × AllByRecursion (IsDone block) done × (refusal.moved ≡ moved_count done) × IsStop block refusal.cause last

-- So many records were moved out of the block, by moves of which none was refused, one for each of these digests; or a further one was refused.
abbrev pub MovesOut : {D : Type 0} → Opening D → (block : ℕ) → List Digest → Result ℕ DefragRefusal → List Event → Type 0
MovesOut o block digests (Ok moved) moves = AllByRecursion (IsDone block) moves × (moved ≡ moved_count moves) × HaveMoves o block moves digests
MovesOut o block digests (Err refusal) moves = StopsAfter block refusal moves

-- one move, where the digest is the device's; else nothing
abbrev pub MovesOne : {D : Type 0} → Opening D → (block : ℕ) → Digest → Result Bool DefragCause → List Event → Type 0
MovesOne o block digest (Ok there) events = AllByRecursion (IsDone block) events × (moved_by (happened there) ≡ moved_count events) × (IsOwn o digest → HasMove block events digest)
MovesOne o block digest (Err cause) events = (last : Event) × (events ≡ last ∷ []) × IsStop block cause last

-- ---- a vacating

-- what a vacating answers, by its choice and by the moves behind it
abbrev pub DefragsSo : Result (Option Vacated) DefragRefusal → (chosen : Result (Option ℕ) VacateRefusal) → (moves : List Event) → Type 0
DefragsSo (Ok None) chosen moves = (chosen ≡ Ok None) × (moves ≡ [])
DefragsSo (Ok (Some vacated)) chosen moves = (chosen ≡ Ok (Some vacated.block)) × AllByRecursion (IsDone vacated.block) moves × (vacated.moved ≡ moved_count moves)
DefragsSo (Err refusal) chosen moves =
    ((why : VacateRefusal) × (chosen ≡ Err why) × (moves ≡ []) × (refusal.moved ≡ 0) × (refusal.cause ≡ vacate_cause why))
    ⊎ ((block : ℕ) × (chosen ≡ Ok (Some block)) × StopsAfter block refusal moves)

-- each record of the device that was live in the block after these events has its move, where nothing was refused
abbrev pub EachMoves : {D : Type 0} → Opening D → Result (Option Vacated) DefragRefusal → (past moves : List Event) → Type 0
EachMoves o (Ok None) past moves = Unit {0}
EachMoves o (Ok (Some vacated)) past moves =
    (digest : Digest) → IsOwn o digest → IsTrue (is_in_block vacated.block (live_of digest (state_at o past).book.live)) → HasMove vacated.block moves digest
EachMoves o (Err refusal) past moves = Unit {0}

-- ---- what has left the block

-- Nothing but what is live in the block now has to leave it: it has no buffer, and the book is in order.
pub record CanEmpty (block : ℕ) (book : Book) : Type 0 where
  pub booked : IsBooked book
  pub few : HasFew block book

-- Between these two of the list there is a state in which the record of the digest isn't in the block.
pub record HasLeft {D : Type 0} (o : Opening D) (from to : List Event) (block : ℕ) (digest : Digest) : Type 0 where
  pub later : List Event
  pub begins : IsPrefix from later
  pub ends : IsPrefix later to
  pub out : is_in_block block (live_of digest (state_at o later).book.live) ≡ false

abbrev pub AllLeft : {D : Type 0} → Opening D → (from to : List Event) → (block : ℕ) → Type 0
AllLeft o from to block = (digest : Digest) → HasLeft o from to block digest

-- that of each digest of the device
abbrev pub OwnLeft : {D : Type 0} → Opening D → (from to : List Event) → (block : ℕ) → Type 0
OwnLeft o from to block = (digest : Digest) → IsOwn o digest → HasLeft o from to block digest

-- and that of each digest of these parts, from one on and below another
abbrev pub PartsLeft : {D : Type 0} → Opening D → (from to : List Event) → (block first last : ℕ) → Type 0
PartsLeft o from to block first last = (digest : Digest) → first ≤ part_of (setup_at o) digest → part_of (setup_at o) digest < last → HasLeft o from to block digest

-- wherever before these events a block waited, each record of the device has left it since
abbrev pub LeavesNone : {D : Type 0} → Opening D → (seen to : List Event) → (block : ℕ) → Type 0
LeavesNone o seen to block = (from : List Event) → IsPrefix from seen → CanEmpty block (state_at o from).book → OwnLeft o from to block

-- each record of the device has left the block since it was chosen, where nothing was refused
abbrev pub EachLeaves : {D : Type 0} → Opening D → Result (Option Vacated) DefragRefusal → (first : Placed) → (to : List Event) → Type 0
EachLeaves o (Ok None) first to = Unit {0}
EachLeaves o (Ok (Some vacated)) first to = OwnLeft o (first.past ++ first.event ∷ []) to vacated.block
EachLeaves o (Err refusal) first to = Unit {0}

-- ---- what lies in the block besides what was listed

-- a record was there, and was moved out of the block
abbrev pub IsGone : (block : ℕ) → Event → Type 0
IsGone block e = (digest : Digest) × Is (move_call digest block) (λ answer. answer ≡ happened true) e

-- no record of a digest of the part lies in the block after these events
abbrev pub NoneLies : {D : Type 0} → Opening D → List Event → (part block : ℕ) → Type 0
NoneLies o events part block = (digest : Digest) → part_of (setup_at o) digest ≡ part → is_in_block block (live_of digest (state_at o events).book.live) ≡ false

-- One record of the part is moved out of the block, by one event; or none of the part lies there, and there is no event.
abbrev pub MovesFirst : {D : Type 0} → (view : D → DiskView) → Opening D → (before after : LiveView D) → (part block : ℕ) → Result Bool DefragCause → Type 0
MovesFirst view o before after part block (Ok true) = AnswersBy view o before after (IsGone block)
MovesFirst view o before after part block (Ok false) = IsRight view o before after [] × NoneLies o (seen_by after) part block
MovesFirst view o before after part block (Err cause) = AnswersBy view o before after (IsStop block cause)

-- One record is moved out of the block, and all of the parts from one on and below this one have left it; or all of those from that one on have.
abbrev pub MovesNext : {D : Type 0} → (view : D → DiskView) → Opening D → (before after : LiveView D) → (first block : ℕ) → Result (Option ℕ) DefragCause → Type 0
MovesNext view o before after first block (Ok (Some part)) =
    AnswersBy view o before after (IsGone block) × PartsLeft o (seen_by before) (seen_by after) block first part
MovesNext view o before after first block (Ok None) =
    IsRight view o before after [] × PartsLeft o (seen_by before) (seen_by after) block first (part_total (setup_at o))
MovesNext view o before after first block (Err cause) = AnswersBy view o before after (IsStop block cause)

-- ---- a vacating as a whole

-- A vacating is the choice of a block and then moves out of it, each an event of the pass. Over every disk each record of the device has left
-- the block in a later state. Over a disk that was honest, and whose image was sound, each that was live in it as it was chosen has its move.
pub record Defrags {D : Type 0} (view : D → DiskView) (o : Opening D) (before after : LiveView D) (result : Result (Option Vacated) DefragRefusal) : Type 0 where
  pub first : Placed
  pub moves : List Placed
  pub chosen : Result (Option ℕ) VacateRefusal
  pub chose : Is choose_call (λ answer. answer ≡ choose_answer chosen) first.event
  pub shows : Shows view o before after (first ∷ moves)
  pub answers : DefragsSo result chosen (placed_events moves)
  pub each : WasSafe view o → EachMoves o result first.past (placed_events moves)
  pub leaves : EachLeaves o result first (seen_by after)

-- A tending is a flush of what is sealed, and then, where the state that the pass has seen next says that this can gain room, a vacating,
-- whatever comes of either.
abbrev pub TendsSo : {D : Type 0} → (view : D → DiskView) → Opening D → (before after : LiveView D) → Type 0
TendsSo {D = D} view o before after =
    (one : LiveView D) × AnswersBy view o before one (λ e. e.call ≡ flush_sealed_call)
    × ((two : LiveView D) × IsRight view o one two []
    × MatchBool (can_gain (state_at o (seen_by two)).book) ((result : Result (Option Vacated) DefragRefusal) × Defrags view o two after result) (after ≡ two))
