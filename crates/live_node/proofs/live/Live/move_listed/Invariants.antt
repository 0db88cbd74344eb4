use Rattle.std.proofs.Common.{◌≤◌, List, take}
use Rattle.std.specs.Prelude.{Ok}
use Rattle.turn_table.specs.Passes.{view, KeepsNumbers}
use Rattle.live_node.specs.Lives.{opening_at, IsPassAt}
use Rattle.live_node.specs.Several.{Placed, placed_events, Shows}
use Rattle.live_node.specs.Vacates.{MovesOut}
use Rattle.live_node.proofs.live.Live.move_listed.Given as goal

-- the records of the digests before this one have their moves
abbrev pub invariant-loop-digest : goal.invariant-loop-digest
invariant-loop-digest g l = record {
  few : l.moved ≤ l.digest-index;
  pass : IsPassAt l.fn.self l.pass;
  numbers : KeepsNumbers l.fn.pass l.pass;
  moves : (events : List Placed) × Shows g.D.Disk.view (opening_at l.fn.self) (view l.fn.pass) (view l.pass) events
      × MovesOut (opening_at l.fn.self) l.fn.block (take l.digest-index l.fn.list) (Ok l.moved) (placed_events events);
}
