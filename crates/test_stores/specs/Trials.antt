-- Crate test_stores. The devices of a trial, the passes of each, and a store of some of them.
use Rattle.std.specs.Prelude.{◌≡◌, ℕ, ◌+◌, false, List}
use Rattle.std.specs.List.{AllByRecursion}
use Rattle.model_device.specs.Device.{State}
use Rattle.shard_core.specs.declared.settings.Settings.{Settings}
use Rattle.shard_core.specs.View.{ShardView}
use Rattle.shard_core.specs.Stands.{Agrees}
use Rattle.turn_table.specs.Rule.{all_numbers}
use Rattle.turn_table.specs.Passes.{own_count, joined_count}
use Rattle.live_node.specs.Lives.{Live, LivePass, opening_at, IsPassAt}
use Rattle.live_node.specs.Vacates.{HasListRoom}
use Rattle.live_store.specs.declared.store.LiveStore.{LiveStore}
use Rattle.live_store.specs.Known.{IsDevice}
use Rattle.live_store.specs.Stores.{lives_of, passes_of}

-- how each device is run
abbrev pub trial_settings : Settings
trial_settings = record { sprigs = 1; lwm = 50; pending = 4; cache = 0; commit = false; raid_age = 0 }

module _ {D : Type 0} where
  -- It is this device of so many, and stands for some state.
  pub record IsShard (device devices : ℕ) (shard : ShardView D) : Type 0 where
    pub number : shard.shelf.geometry.device ≡ device
    pub all : shard.shelf.geometry.devices ≡ devices
    pub set : shard.set ≡ trial_settings
    pub stands : (s : State) × Agrees shard s

  -- It is this device of so many.
  pub record IsMade (device devices : ℕ) (live : Live D) : Type 0 where
    pub is_device : IsDevice devices device live
    pub set : (opening_at live).set ≡ trial_settings

  -- a list with this room can be lent to it
  abbrev pub HasRoom : (room : ℕ) → Live D → Type 0
  HasRoom room live = HasListRoom (opening_at live) room

  -- It has all pass numbers.
  pub record IsFirst (live : Live D) (pass : LivePass D) : Type 0 where
    pub at : IsPassAt live pass
    pub own : own_count pass ≡ all_numbers
    pub joined : joined_count pass ≡ 0

  -- So many pass numbers are out.
  pub record IsBeside (live : Live D) (out : ℕ) (pass : LivePass D) : Type 0 where
    pub at : IsPassAt live pass
    pub numbers : own_count pass + joined_count pass + out ≡ all_numbers

  -- it has one number
  pub record HasOne (pass : LivePass D) : Type 0 where
    pub own : own_count pass ≡ 1
    pub joined : joined_count pass ≡ 0

  pub record IsShare (live : Live D) (pass : LivePass D) : Type 0 where
    pub at : IsPassAt live pass
    pub one : HasOne pass

  -- It is a store of these devices, with a pass of one number of each.
  pub record IsStoreOf {R : Type 0} (lives : List (Live D)) (store : LiveStore D R) : Type 0 where
    pub lives_are : lives_of store ≡ lives
    pub ones : AllByRecursion HasOne (passes_of store)
