-- Crate live_crew. What works over the devices of a node, each under its table: workers and seats, and the passes that they have.
use Rattle.std.specs.Prelude.{◌≡◌, ℕ, ◌+◌, ◌/◌, ◌<◌, ◌≤◌, ◌==◌, List, [], length, Option, Some, slice_get, unwrap_or, option_map, sum_by, All, IsSomeAnd, if◌then◌else◌}
use mathlib.Core.List.{IsPrefix}
use Rattle.turn_table.specs.Passes.{view, own_count, joined_count}
use Rattle.turn_table.specs.Rule.{all_numbers}
use Rattle.live_node.specs.Calls.{LiveView, seen_by}
use Rattle.live_node.specs.Lives.{Live, LivePass, opening_at, IsPassAt}
use Rattle.live_chores.specs.Stations.{live_at, pass_at, known_at}
use Rattle.live_store.specs.declared.store.LiveStore.{LiveStore}
use Rattle.live_store.specs.Pairs.{EachPair}
use Rattle.live_store.specs.Known.{Known, EachLive, IsDevice}
use Rattle.live_store.specs.Stores.{lives_of, passes_of, known_by}
use Rattle.node_serve.specs.declared.duty.Duty.{Duty}
use Rattle.node_serve.specs.declared.duty.Duty.TheVariants.{Seat, Worker}
use Rattle.live_crew.specs.declared.chore.LiveChore.{LiveChore}
use Rattle.live_crew.specs.Chores.{station_of, IsAtFirst}

-- a duty over such devices: a seat with a store of them, or a worker at one of them
abbrev pub LiveDuty : Type 0 → Type 0 → Type 0 → Type 0
LiveDuty R D C = Duty (LiveStore D R) (LiveChore R D) C

-- These are the devices of a node, in order, all run with the same settings.
pub record AreOfNode {D : Type 0} (lives : List (Live D)) : Type 0 where
  pub some : 1 ≤ length lives
  pub few : length lives ≤ 16
  pub numbered : EachLive (IsDevice (length lives)) lives
  pub alike : EachLive (λ _ one. EachLive (λ _ other. (opening_at one).set ≡ (opening_at other).set) lives) lives

-- ---- where a duty is done

-- four workers are of each device, one after the other
abbrev pub device_of : (who : ℕ) → ℕ
device_of who = who / 4

module _ {R D C : Type 0} where
  -- a seat is over all these devices, a worker at the one that its number tells
  abbrev pub IsAt : List (Live D) → LiveDuty R D C → Type 0
  IsAt lives (Seat store clock) = lives_of store ≡ lives
  IsAt lives (Worker chore clock who) = slice_get lives (device_of who) ≡ Some (live_at (station_of chore))

-- ---- pass numbers

module _ {D : Type 0} where
  -- those of a pass: its own, and those that were joined into it
  abbrev pub numbers_of : LivePass D → ℕ
  numbers_of pass = own_count pass + joined_count pass

  abbrev pub numbers_there : Option (LivePass D) → ℕ
  numbers_there pass = unwrap_or (option_map numbers_of pass) 0

  -- no other pass of its device is out: all numbers are its own, or were joined into it
  abbrev pub HasAllNumbers : LivePass D → Type 0
  HasAllNumbers pass = numbers_of pass ≡ all_numbers

module _ {R D C : Type 0} where
  -- those of this device that a duty has
  abbrev pub numbers_at : (device : ℕ) → LiveDuty R D C → ℕ
  numbers_at device (Seat store clock) = numbers_there (slice_get (passes_of store) device)
  numbers_at device (Worker chore clock who) = if device_of who == device then numbers_of (pass_at (station_of chore)) else 0

  -- Each duty is done at these devices, and all pass numbers of each device are there: with the pass that stands here, or with the passes of
  -- the duties.
  pub record AreAtWork (lives : List (Live D)) (passes : List (LivePass D)) (duties : List (LiveDuty R D C)) : Type 0 where
    pub at : All (IsAt lives) duties
    pub seated : EachPair IsPassAt lives passes
    pub counted : (device : ℕ) → device < length lives → numbers_there (slice_get passes device) + sum_by (numbers_at device) duties ≡ all_numbers

-- ---- what is known at first

-- nothing but what the device opened with: no event was seen, and none was entered
pub record KnowsNothing {D : Type 0} (v : LiveView D) : Type 0 where
  pub seen : v.seen ≡ []
  pub mine : v.mine ≡ []

abbrev pub IsNewPass : {D : Type 0} → LivePass D → Type 0
IsNewPass pass = KnowsNothing (view pass)

-- that is known of the device
pub record IsNewAt {D : Type 0} (live : Live D) (known : Known D) : Type 0 where
  pub opening : known.opening ≡ opening_at live
  pub pass : KnowsNothing known.pass

module _ {R D C : Type 0} where
  -- a seat knows that of each device, a worker of its own, and its chore is as it is made
  abbrev pub IsNew : List (Live D) → LiveDuty R D C → Type 0
  IsNew lives (Seat store clock) = EachPair IsNewAt lives (known_by store)
  IsNew lives (Worker chore clock who) = KnowsNothing (known_at (station_of chore)) × IsAtFirst chore

-- ---- what all have seen in the end

module _ {D : Type 0} where
  -- what the pass has seen is a beginning of what the other has
  abbrev pub HasSeenFirst : (pass whole : LivePass D) → Type 0
  HasSeenFirst pass whole = IsPrefix (seen_by (view pass)) (seen_by (view whole))

module _ {R D C : Type 0} where
  -- what each pass of the duty has seen is a beginning of what the pass of its device here has
  abbrev pub IsSeenBy : List (LivePass D) → LiveDuty R D C → Type 0
  IsSeenBy passes (Seat store clock) = EachPair HasSeenFirst (passes_of store) passes
  IsSeenBy passes (Worker chore clock who) = IsSomeAnd (slice_get passes (device_of who)) (λ whole. HasSeenFirst (pass_at (station_of chore)) whole)
