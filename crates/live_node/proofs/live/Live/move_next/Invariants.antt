use Rattle.std.proofs.Common.{[]}
use Rattle.turn_table.specs.Passes.{view, KeepsNumbers}
use Rattle.live_node.specs.Calls.{seen_by, IsRight}
use Rattle.live_node.specs.Lives.{opening_at, IsPassAt}
use Rattle.live_node.specs.Vacates.{PartsLeft}
use Rattle.live_node.proofs.live.Live.move_next.Given as goal

-- nothing was moved, and of the parts before this one all have left the block
abbrev pub invariant-loop-part : goal.invariant-loop-part
invariant-loop-part g l = record {
  pass : IsPassAt l.fn.self l.pass;
  numbers : KeepsNumbers l.fn.pass l.pass;
  right : IsRight g.D.Disk.view (opening_at l.fn.self) (view l.fn.pass) (view l.pass) [];
  left : PartsLeft (opening_at l.fn.self) (seen_by (view l.fn.pass)) (seen_by (view l.pass)) l.fn.block l.fn.first l.part;
}
