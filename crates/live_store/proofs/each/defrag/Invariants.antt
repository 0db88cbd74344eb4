use Rattle.std.proofs.Common.{◌≡◌, ◌-◌, ◌≤◌}
use Rattle.std.specs.Prelude.{vec_capacity}
use Rattle.turn_table.specs.Passes.{view, KeepsNumbers}
use Rattle.live_node.specs.Lives.{opening_at, IsPassAt}
use Rattle.live_store.proofs.Working.{VacatedSoFar}
use Rattle.live_store.proofs.each.defrag.Given as goal

-- what is done from here on completes what was done since the numbers were looked at
abbrev pub invariant-loop-vacated : goal.invariant-loop-vacated
invariant-loop-vacated g l = record {
  pass : IsPassAt l.live l.pass;
  numbers : KeepsNumbers l.initial.pass l.pass;
  room : vec_capacity l.list ≡ vec_capacity l.initial.list;
  most : l.vacated ≤ l.queued;
  so_far : VacatedSoFar g.D.Disk.view (opening_at l.live) l.queued (view l.initial.pass) l.moved l.vacated (view l.pass);
}

abbrev pub decreases-loop-vacated : goal.decreases-loop-vacated
decreases-loop-vacated g l = l.queued - l.vacated
