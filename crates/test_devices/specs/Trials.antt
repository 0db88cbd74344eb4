-- Crate test_devices. A device without others, and passes of it.
use Rattle.std.specs.Prelude.{◌≡◌, ◌+◌}
use Rattle.turn_table.specs.Rule.{all_numbers}
use Rattle.turn_table.specs.Passes.{own_count, joined_count}
use Rattle.shard_core.specs.View.{ShardView}
use Rattle.live_node.specs.Lives.{Live, LivePass, opening_at, IsPassAt}

module _ {D : Type 0} where
  -- The device has no others beside it.
  pub record IsAlone (live : Live D) : Type 0 where
    pub device : (opening_at live).shelf.geometry.device ≡ 0
    pub devices : (opening_at live).shelf.geometry.devices ≡ 1

  pub record IsShardAlone (shard : ShardView D) : Type 0 where
    pub device : shard.shelf.geometry.device ≡ 0
    pub devices : shard.shelf.geometry.devices ≡ 1

  -- It is the pass with which the device was opened.
  pub record IsFirst (live : Live D) (pass : LivePass D) : Type 0 where
    pub at : IsPassAt live pass
    pub own : own_count pass ≡ all_numbers
    pub joined : joined_count pass ≡ 0

  -- It is a pass of the device, and no other has a number.
  pub record HasAll (live : Live D) (pass : LivePass D) : Type 0 where
    pub at : IsPassAt live pass
    pub numbers : own_count pass + joined_count pass ≡ all_numbers

  -- It is a pass of the device with one number.
  pub record IsGiven (live : Live D) (pass : LivePass D) : Type 0 where
    pub at : IsPassAt live pass
    pub own : own_count pass ≡ 1
    pub joined : joined_count pass ≡ 0
