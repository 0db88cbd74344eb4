-- Crate live_chores. The device and the pass of a chore, and what a turn keeps of them.
use Rattle.std.specs.Prelude.{◌≡◌}
use Rattle.turn_table.specs.Passes.{view, KeepsNumbers}
use Rattle.live_node.specs.Opening.{Opening}
use Rattle.live_node.specs.Calls.{LiveView}
use Rattle.live_node.specs.Lives.{Live, LivePass, opening_at}
use Rattle.live_chores.specs.declared.station.Station.{Station}

module _ {R D : Type 0} where
  abbrev pub live_at : Station R D → Live D
  live_at station = station.live.now

  abbrev pub pass_at : Station R D → LivePass D
  pass_at station = station.pass

  -- what the device opened with, and what the pass knows
  abbrev pub opened_at : Station R D → Opening D
  opened_at station = opening_at (live_at station)

  abbrev pub known_at : Station R D → LiveView D
  known_at station = view (pass_at station)

  -- it is at the same device, and its pass has as many numbers
  pub record Stays (old new : Station R D) : Type 0 where
    pub live : live_at new ≡ live_at old
    pub numbers : KeepsNumbers (pass_at old) (pass_at new)
