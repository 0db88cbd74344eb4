-- Crate shard_core. What the turns of a raid make of a shard.
use Rattle.std.specs.Prelude.{◌≡◌, ◌≤◌, ◌^◌, ℕ, Result, Ok, IfOk}
use Rattle.disk_model.specs.Disk.{DiskView}
use Rattle.model_device.specs.Device.{State}
use Rattle.raid_book.specs.declared.turn.RaidNext.{RaidNext}
use Rattle.shard_raid.specs.Raids.{RaidView, turns_left}
use Rattle.shard_raid.specs.Turns as turns
use Rattle.shard_raid.specs.declared.scan.RaidRefusal.{RaidRefusal}
use Rattle.shard_raid.specs.declared.turn.RaidDid.{RaidDid}
use Rattle.shard_raid.specs.declared.turn.RaidDid.TheVariants.{Dropped, Done}
use Rattle.shard_core.specs.View.{ShardView, SameSetup, setup_of}
use Rattle.shard_core.specs.Stands.{Agrees}

-- a turn of a raid makes one event, as the shelf tells it
abbrev pub TurnMakes : {D : Type 0} → (view : D → DiskView) → RaidView → (now : ℕ) → Result RaidDid RaidRefusal → (old : ShardView D) → State → (new : ShardView D) → Type 0
TurnMakes view raid now result old s new = turns.TurnMakes view (setup_of old) raid now result old.shelf s new.shelf (Agrees new)

-- A part has at most 2^32 entries of each kind, and of the ends of parts there are at most 2^20.
abbrev pub AreFewEnds : (left : ℕ) → RaidDid → Type 0
AreFewEnds left (Dropped removed cleared) = (removed ≤ 2 ^ 32) × (cleared ≤ 2 ^ 32) × (left ≤ 2 ^ 20)
AreFewEnds left _ = Unit {0}

-- What the turn of the raid that runs makes of a shard, by its answer: one event, and of its shelf what a turn makes of one. Where the raid is
-- over nothing changes.
pub record TakesTurn {D : Type 0} (view : D → DiskView) (next : RaidNext) (now : ℕ) (result : Result RaidDid RaidRefusal) (old new : ShardView D) : Type 0 where
  pub makes : (s : State) → Agrees old s → TurnMakes view (record { number = old.shelf.raid.number; next = next }) now result old s new
  pub shelf : turns.TakesTurn view next result old.shelf new.shelf
  pub over : result ≡ Ok Done → new ≡ old
  pub few : IfOk result (AreFewEnds (turns_left old.shelf.raid))
  pub shape : SameSetup old new
