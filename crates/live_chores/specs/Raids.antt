-- Crate live_chores. A turn of a tomb raider.
use Rattle.std.specs.Prelude.{◌≡◌, ◌⊎◌, ℕ, ◌-◌, ◌*◌, Bool, true, false, nat_lt, [], Option, Some, None, Result, Ok, Err, MatchOption}
use Rattle.disk_model.specs.Disk.{DiskView}
use Rattle.model_device.specs.Device.{State}
use Rattle.model_device.specs.Events.{begin_call, raid_numbered}
use Rattle.shard_core.specs.Numbers.{counts_of}
use Rattle.shard_raid.specs.Raids.{RaidView, number_of}
use Rattle.shard_raid.specs.declared.turn.RaidDid.{RaidDid}
use Rattle.shard_raid.specs.declared.turn.RaidDid.TheVariants as turn
use Rattle.shard_raid.specs.declared.scan.RaidRefusal.{RaidRefusal}
use Rattle.shard_raid.specs.declared.scan.RaidRefusal.TheVariants as refusal
use Rattle.node_workers.specs.declared.chore.Did.{Did}
use Rattle.node_workers.specs.declared.chore.Did.TheVariants.{Worked, Idle, Refused, Memory}
use Rattle.live_node.specs.Opening.{Opening}
use Rattle.live_node.specs.Calls.{LiveView, AnswersOnce, IsRight}
use Rattle.live_node.specs.Raids.{TakesRaidTurn}
use Rattle.live_chores.specs.declared.raid.RaidChore.{RaidChore}
use Rattle.live_chores.specs.declared.station.Station.{Station}
use Rattle.live_chores.specs.Stations.{opened_at, known_at, Stays}
use Rattle.live_chores.specs.Turns.{HoldsFresh}

-- What a raider has: its raid, if it has one, and the time in milliseconds at which the last one ended.
pub record Raiding : Type 0 where
  pub raid : Option RaidView
  pub ended : Option ℕ

module _ {R D : Type 0} where
  abbrev pub raider : RaidChore R D → Station R D
  raider chore = chore.station

  -- how long it rests behind a raid, in seconds: the raid age of its device
  abbrev pub rest_at : Station R D → ℕ
  rest_at station = (opened_at station).set.raid_age

  abbrev pub raiding_of : RaidChore R D → Raiding
  raiding_of chore = record { raid = chore.raid; ended = chore.ended }

-- it rests as long as the age hasn't gone by since the last raid ended
abbrev pub is_resting : (age : ℕ) → Option ℕ → (now : ℕ) → Bool
is_resting age None now = false
is_resting age (Some ended) now = nat_lt (now - ended) (age * 1000)

-- there is neither a tombstone nor a covered record
abbrev pub HasNoTombs : State → Type 0
HasNoTombs s = ((counts_of s).tombstones ≡ 0) × ((counts_of s).covered ≡ 0)

-- what came of the begin of a raid: none begins where the numbers are used up
abbrev pub did_begin : Option RaidView → Did
did_begin None = Idle
did_begin (Some raid) = Worked

-- what came of a raid's turn
abbrev pub did_step : Result RaidDid RaidRefusal → Did
did_step (Ok (turn.Marked marks)) = Worked
did_step (Ok (turn.Scanned block)) = Worked
did_step (Ok (turn.Applied unmarked)) = Worked
did_step (Ok (turn.Dropped removed cleared)) = Worked
did_step (Ok turn.Done) = Idle
did_step (Err (refusal.Stale number next)) = Refused
did_step (Err (refusal.Damaged block place)) = Refused
did_step (Err refusal.Memory) = Memory
did_step (Err refusal.Fault) = Refused

-- it has the raid as its turn left it; none behind the end and behind a refusal, and it rests from this time on
abbrev pub raiding_by : Did → (now : ℕ) → (ended : Option ℕ) → RaidView → Raiding
raiding_by Worked now ended raid = record { raid = Some raid; ended = ended }
raiding_by Idle now ended raid = record { raid = None; ended = Some now }
raiding_by Refused now ended raid = record { raid = None; ended = Some now }
raiding_by Memory now ended raid = record { raid = None; ended = Some now }

module _ {D : Type 0} (view : D → DiskView) (o : Opening D) (before after : LiveView D) (age now : ℕ) (old : Raiding) (did : Did) (new : Raiding) where
  -- ---- without a raid

  -- It rests: it doesn't ask the device.
  pub record Rests : Type 0 where
    pub resting : is_resting age old.ended now ≡ true
    pub none : after ≡ before
    pub came : did ≡ Idle
    pub same : new ≡ old

  -- There is nothing that a raid may take, and no event.
  pub record FindsNone : Type 0 where
    pub awake : is_resting age old.ended now ≡ false
    pub right : IsRight view o before after []
    pub nothing : HoldsFresh o before after HasNoTombs
    pub came : did ≡ Idle
    pub same : new ≡ old

  -- There is, and a raid is begun by one event; none where the numbers are used up.
  pub record Begins : Type 0 where
    pub awake : is_resting age old.ended now ≡ false
    pub something : HoldsFresh o before after (λ s. HasNoTombs s → ⊥)
    pub once : AnswersOnce view o before after begin_call (raid_numbered (number_of new.raid))
    pub came : did ≡ did_begin new.raid
    pub ended : new.ended ≡ old.ended

  abbrev pub StartsRaid : Type 0
  StartsRaid = Rests ⊎ FindsNone ⊎ Begins

  -- ---- with a raid

  -- The next turn of its raid is taken, by one event.
  pub record StepsRaid (raid : RaidView) : Type 0 where
    pub result : Result RaidDid RaidRefusal
    pub then : RaidView
    pub turn : TakesRaidTurn view o before after now raid then result
    pub came : did ≡ did_step result
    pub left : new ≡ raiding_by did now old.ended then

  abbrev pub TurnsRaid : Type 0
  TurnsRaid = MatchOption old.raid StartsRaid (λ raid. StepsRaid raid)

-- Without a raid a turn begins one, but where it rests, or where there is nothing that a raid may take. With a raid it takes the next turn of that.
-- Either is one event.
module _ {R D : Type 0} (view : D → DiskView) (old : Station R D) (had : Raiding) (now : ℕ) where
  pub record RaidsOnce (did : Did) (new : Station R D) (has : Raiding) : Type 0 where
    pub stays : Stays old new
    pub turns : TurnsRaid view (opened_at old) (known_at old) (known_at new) (rest_at old) now had did has
