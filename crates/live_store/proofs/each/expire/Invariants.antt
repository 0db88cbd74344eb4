use Rattle.turn_table.specs.Passes.{view, KeepsNumbers}
use Rattle.live_node.specs.Lives.{opening_at, IsPassAt}
use Rattle.live_store.proofs.Working.{SweptSoFar}
use Rattle.live_store.proofs.each.expire.Given as goal

-- what is swept from here on completes what was swept before
abbrev pub invariant-loop-part : goal.invariant-loop-part
invariant-loop-part g l = record {
  pass : IsPassAt l.live l.pass;
  numbers : KeepsNumbers l.initial.pass l.pass;
  so_far : SweptSoFar g.D.Disk.view (opening_at l.live) l.now l.part-end (view l.initial.pass) l.part l.removed (view l.pass);
}
