-- A chore that stays at its device with its numbers is hired still.
use Rattle.std.proofs.Common.{◌∙◌}
use Rattle.live_node.specs.Lives.{Live}
use Rattle.live_chores.specs.declared.station.Station.{Station}
use Rattle.live_chores.specs.Stations.{Stays}
use Rattle.test_chores.specs.Trials.{IsHired}

pub stays_hired : {R D : Type 0} (live : Live D) (old new : Station R D) → Stays old new → IsHired live old → IsHired live new
stays_hired live old new stays is = record { at = stays.live ∙ is.at; own = stays.numbers.0 ∙ is.own; joined = stays.numbers.1 ∙ is.joined }
