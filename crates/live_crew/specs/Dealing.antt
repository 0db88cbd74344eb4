-- Crate live_crew. How duties are dealt out.
use Rattle.std.specs.Prelude.{◌≡◌, ℕ, ◌+◌, ◌*◌, ◌%◌, ◌<◌, ◌≤◌, List, All, length, Some, slice_get}
use Rattle.node_workers.specs.Turns.{Times}
use Rattle.turn_table.specs.Passes.{own_count, joined_count}
use Rattle.turn_table.specs.Rule.{all_numbers}
use Rattle.live_node.specs.Lives.{Live, LivePass, IsPassAt}
use Rattle.live_store.specs.Pairs.{EachPair}
use Rattle.node_serve.specs.declared.duty.Duty.TheVariants.{Seat, Worker}
use Rattle.node_serve.specs.Serving.{seat_count}
use Rattle.live_chores.specs.Stations.{live_at, pass_at}
use Rattle.live_crew.specs.declared.chore.LiveChore.{LiveChore}
use Rattle.live_crew.specs.Chores.{station_of, place_of, IsAtFirst}
use Rattle.live_crew.specs.Crews.{LiveDuty, AreAtWork, HasAllNumbers, IsNew, IsNewPass, numbers_at, numbers_of, numbers_there}

-- there are never so many duties
abbrev pub many_duties : ℕ
many_duties = 1024

-- A pass from which passes can be dealt out: no other of its device is out, enough numbers are its own, and it has seen nothing.
pub record CanBeDealt {D : Type 0} (pass : LivePass D) : Type 0 where
  pub all : HasAllNumbers pass
  pub enough : many_duties ≤ own_count pass
  pub new : IsNewPass pass

-- ---- what is split off

-- The pass of a device gave one number to a new one, of a chore at this place, which is as it is made.
pub record GivesChore {R D : Type 0} (live : Live D) (before after : LivePass D) (place : ℕ) (chore : LiveChore R D) : Type 0 where
  pub seated : IsPassAt live after
  pub numbers : (numbers_of after + 1 ≡ numbers_of before) × (joined_count after ≡ joined_count before)
  pub kept : IsNewPass after
  pub at : live_at (station_of chore) ≡ live
  pub is_place : place_of chore ≡ place
  pub first : IsAtFirst chore
  pub one : numbers_of (pass_at (station_of chore)) ≡ 1
  pub new : IsNewPass (pass_at (station_of chore))

-- The pass of each device gave one number to a new one.
pub record GiveEach {D : Type 0} (lives : List (Live D)) (olds news others : List (LivePass D)) : Type 0 where
  pub seated : EachPair IsPassAt lives news
  pub numbers : (device : ℕ) → numbers_there (slice_get news device) + numbers_there (slice_get others device) ≡ numbers_there (slice_get olds device)
  pub joined : EachPair (λ old new. joined_count new ≡ joined_count old) olds news
  pub kept : All IsNewPass news
  pub others_seated : EachPair IsPassAt lives others
  pub one : All (λ pass. numbers_of pass ≡ 1) others
  pub new : All IsNewPass others

-- ---- what was dealt out

module _ {R D C : Type 0} (times : C → Times) where
  -- the clock of a duty
  abbrev pub clock_of : LiveDuty R D C → C
  clock_of (Seat store clock) = clock
  clock_of (Worker chore clock who) = clock

  -- its clock tells these times
  abbrev pub Tells : Times → LiveDuty R D C → Type 0
  Tells told duty = times (clock_of duty) ≡ told

  -- All are at work, and none has seen anything. A duty has at most one number of each device.
  pub record AreDealt (told : Times) (lives : List (Live D)) (passes : List (LivePass D)) (duties : List (LiveDuty R D C)) : Type 0 where
    pub at_work : AreAtWork lives passes duties
    pub new : All (IsNew lives) duties
    pub kept : All IsNewPass passes
    pub clocks : All (Tells told) duties
    pub single : (device : ℕ) → All (λ duty. numbers_at device duty ≤ 1) duties
    pub left : All (λ pass. joined_count pass + many_duties ≤ all_numbers) passes

-- ---- in which order

module _ {R D C : Type 0} where
  -- the workers of all devices stand in front, by their numbers, four of each device, each at its place; behind them come the seats
  abbrev pub StandsAt : (devices place : ℕ) → LiveDuty R D C → Type 0
  StandsAt devices place (Seat store clock) = 4 * devices ≤ place
  StandsAt devices place (Worker chore clock who) = (place < 4 * devices) × (who ≡ place) × (place_of chore ≡ place % 4)

  abbrev pub AreInOrder : (devices : ℕ) → List (LiveDuty R D C) → Type 0
  AreInOrder devices duties = (place : ℕ) (duty : LiveDuty R D C) → slice_get duties place ≡ Some duty → StandsAt devices place duty

  -- Of so many devices these are the first workers, so many, and so many seats.
  pub record IsCrew (devices workers seats : ℕ) (duties : List (LiveDuty R D C)) : Type 0 where
    pub in_order : AreInOrder devices duties
    pub many : length duties ≡ workers + seats
    pub seated : seat_count duties ≡ seats
