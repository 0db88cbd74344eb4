-- Crate live_chores. A turn of an expirer.
use Rattle.std.specs.Prelude.{◌≡◌, ◌≢◌, ℕ, ◌+◌, ◌%◌, ◌/◌, ◌<◌, true, List, [], Option, Some, None, Ok, Err}
use Rattle.disk_model.specs.Disk.{DiskView}
use Rattle.model_device.specs.Steps.{part_total}
use Rattle.model_device.specs.Events.{Event}
use Rattle.shard_core.specs.declared.refusals.WriteRefusal.{WriteRefusal}
use Rattle.shard_core.specs.declared.refusals.WriteRefusal.TheVariants as write
use Rattle.node_workers.specs.declared.chore.Did.{Did}
use Rattle.node_workers.specs.declared.chore.Did.TheVariants.{Worked, Idle, Refused, Memory}
use Rattle.live_node.specs.Opening.{Opening, setup_at}
use Rattle.live_node.specs.Calls.{LiveView, seen_by, IsRight}
use Rattle.live_node.specs.Sweeps.{left_behind}
use Rattle.live_node.specs.Turns.{ExpiresFirst}
use Rattle.live_chores.specs.declared.expire.ExpireChore.{ExpireChore}
use Rattle.live_chores.specs.declared.station.Station.{Station}
use Rattle.live_chores.specs.Stations.{opened_at, known_at, Stays}
use Rattle.live_chores.specs.Turns.{IsFresh}

module _ {R D : Type 0} where
  abbrev pub expirer : ExpireChore R D → Station R D
  expirer chore = chore.station

  -- the part that it looks at next
  abbrev pub looks_at : ExpireChore R D → ℕ
  looks_at chore = chore.part

-- the part so many behind one; behind the last comes the first
abbrev pub part_behind : {D : Type 0} → Opening D → (part passed : ℕ) → ℕ
part_behind o part passed = (part + passed) % part_total (setup_at o)

-- Behind a removal it stays at the part, and behind a refusal it goes on with the next.
abbrev pub goes_on : {D : Type 0} → Opening D → Did → (part : ℕ) → ℕ
goes_on o Worked part = part
goes_on o Idle part = part
goes_on o Refused part = part_behind o part 1
goes_on o Memory part = part_behind o part 1

-- At most so many parts are looked at in one turn: in 4,096 turns that is each part of the device.
abbrev pub most_looks : {D : Type 0} → Opening D → ℕ
most_looks o = part_total (setup_at o) / 4096 + 1

module _ {D : Type 0} (view : D → DiskView) (o : Opening D) (before after : LiveView D) (now : ℕ) where
  -- in a state that was seen in the turn nothing of the part was expired
  abbrev pub SawNone : (part : ℕ) → Type 0
  SawNone part = (events : List Event) × IsFresh before after events × (left_behind o part now None events ≡ [])

  -- the first expired entry of the part is removed by one event, or that is refused, by what came of the turn
  abbrev pub Removes : (part : ℕ) → Did → Type 0
  Removes part Worked = ExpiresFirst view o before after part now (Ok true)
  Removes part Idle = ⊥
  Removes part Refused = (why : WriteRefusal) × (why ≢ write.Memory) × ExpiresFirst view o before after part now (Err why)
  Removes part Memory = ExpiresFirst view o before after part now (Err write.Memory)

  -- one look: an entry of the part is removed, or that is refused; or none is expired, there is no event, and it goes on
  abbrev pub Looks : (part next : ℕ) → Option Did → Type 0
  Looks part next None = IsRight view o before after [] × (left_behind o part now None (seen_by after) ≡ []) × (next ≡ part_behind o part 1)
  Looks part next (Some did) = Removes part did × (next ≡ goes_on o did part)

  -- behind some parts in which none was expired an entry of the next is removed; or the turn is idle, and none was in as many as are looked at
  abbrev pub EndsLooks : (passed last : ℕ) → Did → Type 0
  EndsLooks passed last Worked = (passed < most_looks o) × Removes last Worked
  EndsLooks passed last Idle = (passed ≡ most_looks o) × IsRight view o before after []
  EndsLooks passed last Refused = (passed < most_looks o) × Removes last Refused
  EndsLooks passed last Memory = (passed < most_looks o) × Removes last Memory

-- A turn passes over parts in which nothing is expired, from its part on, and removes the first expired entry of the part behind them, by one
-- event. Behind a refusal it goes on with the part behind that. It makes no event where it has looked at as many parts as it may.
pub record ExpiresOnce {R D : Type 0} (view : D → DiskView) (old : Station R D) (part now : ℕ) (did : Did) (new : Station R D) (next : ℕ) : Type 0 where
  pub stays : Stays old new
  pub passed : ℕ
  pub none : (k : ℕ) → k < passed → SawNone view (opened_at old) (known_at old) (known_at new) now (part_behind (opened_at old) part k)
  pub stands : next ≡ goes_on (opened_at old) did (part_behind (opened_at old) part passed)
  pub ends : EndsLooks view (opened_at old) (known_at old) (known_at new) now passed (part_behind (opened_at old) part passed) did
