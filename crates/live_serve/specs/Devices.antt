-- Crate live_serve. Devices that come under tables, are served there, and come out again.
use Rattle.std.specs.Prelude.{◌≡◌, ◌≢◌, ◌≤◌, ℕ, List, [], ◌∷◌, ◌++◌, length, Some, slice_get, Result, OnOk, OnErr}
use Rattle.disk_model.specs.Disk.{DiskView}
use Rattle.disk_model.specs.declared.disk.DiskFault.{DiskFault}
use Rattle.model_device.specs.Device.{State}
use Rattle.model_device.specs.Events.{Event, flush_call}
use Rattle.shard_core.specs.Calls.{flush_answer}
use Rattle.shard_core.specs.Stands.{Agrees}
use Rattle.shard_core.specs.View.{ShardView}
use Rattle.turn_table.specs.declared.noted.Noted.{Noted}
use Rattle.turn_table.specs.Rule.{all_numbers, newcomer}
use Rattle.turn_table.specs.Passes.{view, own_count, joined_count}
use Rattle.live_node.specs.Opening.{Opening, WasSafe, opened, state_at, faults_at}
use Rattle.live_node.specs.Fits.{IsSafeSince, Is}
use Rattle.live_node.specs.Calls.{seen_by, IsLegalFrom}
use Rattle.live_node.specs.Lives.{Live, LivePass, opening_at, IsPassAt}
use Rattle.live_store.specs.Pairs.{EachPair}
use Rattle.live_store.specs.Known.{Known}
use Rattle.live_serve.specs.declared.closing.Closing.{Closing}

-- ---- before

-- A device, with a state that is named for it.
pub record Named (D : Type 0) : Type 0 where
  pub shard : ShardView D
  pub state : State

abbrev pub named_each : {D : Type 0} → List (ShardView D) → List (Noted State) → List (Named D)
named_each [] notes = []
named_each (shard ∷ shards) [] = []
named_each (shard ∷ shards) (note ∷ notes) = record { shard = shard; state = note.value } ∷ named_each shards notes

-- what it opens with, as it comes under its table
abbrev pub opening_for : {D : Type 0} → Named D → Opening D
opening_for named = opened named.shard named.state

-- it stands for the state that the note names
abbrev pub StandsAsNoted : {D : Type 0} → ShardView D → Noted State → Type 0
StandsAsNoted shard note = Agrees shard note.value

-- These are all devices of a node, 1 to 16, in order, with the same settings.
pub record AreOfOneNode {D : Type 0} (shards : List (ShardView D)) : Type 0 where
  pub some : 1 ≤ length shards
  pub few : length shards ≤ 16
  pub numbered : (device : ℕ) (shard : ShardView D) → slice_get shards device ≡ Some shard
      → (shard.shelf.geometry.device ≡ device) × (shard.shelf.geometry.devices ≡ length shards)
  pub alike : (a b : ℕ) (one other : ShardView D) → slice_get shards a ≡ Some one → slice_get shards b ≡ Some other → one.set ≡ other.set

-- ---- under its table

abbrev pub IsUnderTable : {D : Type 0} → Named D → Live D → Type 0
IsUnderTable named live = opening_at live ≡ opening_for named

-- It is the first pass of the device: it has seen nothing, made no call, and has all pass numbers.
pub record IsFirstPass {D : Type 0} (named : Named D) (pass : LivePass D) : Type 0 where
  pub knows : view pass ≡ newcomer (opening_for named)
  pub numbers : (own_count pass ≡ all_numbers) × (joined_count pass ≡ 0)

-- These are under their tables, each with its first pass.
pub record AreOpened {D : Type 0} (all : List (Named D)) (lives : List (Live D)) (passes : List (LivePass D)) : Type 0 where
  pub under : EachPair IsUnderTable all lives
  pub first : EachPair IsFirstPass all passes
  pub seated : EachPair IsPassAt lives passes

-- Those in front of a device are under their tables, it isn't, and those behind it are left.
pub record StopsAt {D : Type 0} (all : List (Named D)) (shard : ShardView D) (shards : List (ShardView D)) (notes : List (Noted State)) (lives : List (Live D)) (passes : List (LivePass D)) : Type 0 where
  pub done : List (Named D)
  pub state : State
  pub parts : all ≡ done ++ record { shard = shard; state = state } ∷ named_each shards notes
  pub opened : AreOpened done lives passes
  pub agrees : Agrees shard state
  pub rest : EachPair StandsAsNoted shards notes

-- ---- behind

-- A device comes out of its table behind these events: one legal list from what it opened with. It stands for the state at its end, its shape and
-- its settings are as they were, and its disk has failed as often as the list tells. Over a disk that was honest, and whose image was sound, each
-- image that it might have left since survives a state after some of the events, or after some of the steps of the next one.
pub record ComesOut {D : Type 0} (view : D → DiskView) (o : Opening D) (list : List Event) (after : ShardView D) : Type 0 where
  pub legal : IsLegalFrom view o list
  pub stands : Agrees after (state_at o list)
  pub set : after.set ≡ o.set
  pub geometry : after.shelf.geometry ≡ o.shelf.geometry
  pub faults : (view after.shelf.disk).faults ≡ faults_at view o list
  pub safe : WasSafe view o → IsSafeSince view o list after.shelf

-- with the events that the pass has seen
abbrev pub ComesOutAt : {D : Type 0} → (view : D → DiskView) → Known D → ShardView D → Type 0
ComesOutAt view known after = ComesOut view known.opening (seen_by known.pass) after

-- The last of its events is the closing flush, which answers so; those before it are these. Where that went well nothing is pending, and where
-- it didn't something is.
pub record IsClosed {D : Type 0} (view : D → DiskView) (o : Opening D) (past : List Event) (flushed : Result ℕ DiskFault) (after : ShardView D) : Type 0 where
  pub flush : Event
  pub is_flush : Is flush_call (λ answer. answer ≡ flush_answer flushed) flush
  pub out : ComesOut view o (past ++ flush ∷ []) after
  pub quiet : OnOk flushed (after.shelf.buffers ≡ [])
  pub left : OnErr flushed (after.shelf.buffers ≢ [])

-- Whatever it came out of, its closing flush is the last of its events.
abbrev pub IsFlushed : {D : Type 0} → (view : D → DiskView) → ShardView D → Closing D → Type 0
IsFlushed {D} view before closing = (o : Opening D) (past : List Event) → ComesOut view o past before → IsClosed view o past closing.flushed closing.shard

-- with the events that the pass has seen before it
abbrev pub IsClosedAt : {D : Type 0} → (view : D → DiskView) → Known D → Closing D → Type 0
IsClosedAt view known closing = IsClosed view known.opening (seen_by known.pass) closing.flushed closing.shard

-- A device comes back with no event.
abbrev pub ComesBack : {D : Type 0} → (view : D → DiskView) → Named D → ShardView D → Type 0
ComesBack view named after = ComesOut view (opening_for named) [] after
