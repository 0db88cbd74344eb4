use Rattle.std.proofs.Common.{◌≤◌, ◌^◌, List, []}
use Rattle.std.specs.Prelude.{Ok}
use mathlib.Core.List.{IsPrefix}
use Rattle.model_device.specs.Events.{Event}
use Rattle.turn_table.specs.Passes.{view, KeepsNumbers}
use Rattle.live_node.specs.Opening.{state_at}
use Rattle.live_node.specs.Calls.{seen_by}
use Rattle.live_node.specs.Lives.{opening_at, IsPassAt}
use Rattle.live_node.specs.Several.{Placed, placed_events, Shows}
use Rattle.live_node.specs.Vacates.{CanEmpty, MovesOut, PartsLeft}
use Rattle.live_node.proofs.Leaving.{Wanes}
use Rattle.live_node.proofs.live.Live.move_rest.Given as goal

-- so many were moved, all of the parts before this one have left the block, and what is used of it wanes
abbrev pub invariant-loop-moved : goal.invariant-loop-moved
invariant-loop-moved g l = record {
  few : l.left ≤ 2 ^ 16;
  pass : IsPassAt l.fn.self l.pass;
  numbers : KeepsNumbers l.fn.pass l.pass;
  moves : (events : List Placed) × Shows g.D.Disk.view (opening_at l.fn.self) (view l.fn.pass) (view l.pass) events × MovesOut (opening_at l.fn.self) l.fn.block [] (Ok l.moved) (placed_events events);
  left : PartsLeft (opening_at l.fn.self) (seen_by (view l.fn.pass)) (seen_by (view l.pass)) l.fn.block 0 l.part;
  wanes : (from : List Event) → IsPrefix from (seen_by (view l.fn.pass)) → CanEmpty l.fn.block (state_at (opening_at l.fn.self) from).book
      → Wanes (opening_at l.fn.self) from (seen_by (view l.pass)) l.fn.block l.moved l.left;
}
