-- Crate test_chores. A device, the pass of a trial, and a chore that works beside it.
use Rattle.std.specs.Prelude.{◌≡◌, ◌+◌}
use Rattle.turn_table.specs.Rule.{all_numbers}
use Rattle.turn_table.specs.Passes.{own_count, joined_count}
use Rattle.live_node.specs.Lives.{Live, LivePass, opening_at, IsPassAt}
use Rattle.live_chores.specs.declared.station.Station.{Station}
use Rattle.live_chores.specs.Stations.{live_at, pass_at}

module _ {D : Type 0} where
  -- The device has no others beside it.
  pub record IsAlone (live : Live D) : Type 0 where
    pub device : (opening_at live).shelf.geometry.device ≡ 0
    pub devices : (opening_at live).shelf.geometry.devices ≡ 1

  -- All numbers but those of a chore are the trial's.
  pub record IsBeside (live : Live D) (pass : LivePass D) : Type 0 where
    pub at : IsPassAt live pass
    pub numbers : own_count pass + joined_count pass + 1 ≡ all_numbers

  -- It works at this device, with one number.
  pub record IsHired {R : Type 0} (live : Live D) (station : Station R D) : Type 0 where
    pub at : live_at station ≡ live
    pub own : own_count (pass_at station) ≡ 1
    pub joined : joined_count (pass_at station) ≡ 0

  -- Its pass is given back.
  pub record IsGiven (live : Live D) (pass : LivePass D) : Type 0 where
    pub at : IsPassAt live pass
    pub own : own_count pass ≡ 1
    pub joined : joined_count pass ≡ 0
