-- Crate live_crew. The chore of a worker, whichever of the four of a device it is.
use Rattle.std.specs.Prelude.{◌≡◌, ℕ, [], None}
use Rattle.disk_model.specs.Disk.{DiskView}
use Rattle.node_workers.specs.declared.chore.Did.{Did}
use Rattle.live_chores.specs.declared.station.Station.{Station}
use Rattle.live_chores.specs.Flushes.{flusher, FlushesOnce}
use Rattle.live_chores.specs.Defrags.{defragger, hand_of, DefragsOnce}
use Rattle.live_chores.specs.Expires.{expirer, looks_at, ExpiresOnce}
use Rattle.live_chores.specs.Raids.{raider, raiding_of, RaidsOnce}
use Rattle.live_crew.specs.declared.chore.LiveChore.{LiveChore}
use Rattle.live_crew.specs.declared.chore.LiveChore.TheVariants.{Flush, Defrag, Expire, Raid}

module _ {R D : Type 0} where
  -- its device and its pass
  abbrev pub station_of : LiveChore R D → Station R D
  station_of (Flush chore) = flusher chore
  station_of (Defrag chore) = defragger chore
  station_of (Expire chore) = expirer chore
  station_of (Raid chore) = raider chore

  -- its place among the four of a device
  abbrev pub place_of : LiveChore R D → ℕ
  place_of (Flush chore) = 0
  place_of (Defrag chore) = 1
  place_of (Expire chore) = 2
  place_of (Raid chore) = 3

  -- as it is made: no block is in hand, the first part is looked at next, there is no raid and no rest
  abbrev pub IsAtFirst : LiveChore R D → Type 0
  IsAtFirst (Flush chore) = Unit {0}
  IsAtFirst (Defrag chore) = (hand_of chore).left ≡ []
  IsAtFirst (Expire chore) = looks_at chore ≡ 0
  IsAtFirst (Raid chore) = raiding_of chore ≡ record { raid = None; ended = None }

  -- A turn is one of its kind, and it stays of that kind.
  abbrev pub TurnsAny : (view : D → DiskView) → (old : LiveChore R D) → (now : ℕ) → Did → (new : LiveChore R D) → Type 0
  TurnsAny view (Flush old) now did (Flush new) = FlushesOnce view (flusher old) did (flusher new)
  TurnsAny view (Defrag old) now did (Defrag new) = DefragsOnce view (defragger old) (hand_of old) did (defragger new) (hand_of new)
  TurnsAny view (Expire old) now did (Expire new) = ExpiresOnce view (expirer old) (looks_at old) now did (expirer new) (looks_at new)
  TurnsAny view (Raid old) now did (Raid new) = RaidsOnce view (raider old) (raiding_of old) now did (raider new) (raiding_of new)
  TurnsAny view _ now did _ = ⊥
