use Rattle.std.proofs.Common.{◌≡◌, ◌+◌, ◌≤◌, false, List, Some, None, length}
use Rattle.std.specs.List.{AllByRecursion}
use Rattle.shard_core.specs.Expiring.{expired_among}
use Rattle.turn_table.specs.Passes.{view, KeepsNumbers}
use Rattle.live_node.specs.Fits.{PartFits}
use Rattle.live_node.specs.Calls.{seen_by}
use Rattle.live_node.specs.Lives.{opening_at, Holds}
use Rattle.live_node.specs.Several.{Placed, placed_events, Shows}
use Rattle.live_node.specs.Sweeps.{AreSwept, WasDone, removed_count}
use Rattle.live_node.proofs.live.Live.sweep.Given as goal

-- the entries up to the last digest that were expired had their turn
abbrev pub invariant-loop-digest : goal.invariant-loop-digest
invariant-loop-digest g l = record {
  pass : Holds l.fn.self (Some l.fn.part) false l.pass;
  numbers : KeepsNumbers l.fn.pass l.pass;
  fits : PartFits (opening_at l.fn.self) (seen_by (view l.pass)) l.fn.part l.sprig;
  few : l.removed + length (expired_among l.sprig.entries l.fn.now l.last) ≤ length l.fn.sprig.entries;
  sweeps : (list : List Placed) × Shows g.D.Disk.view (opening_at l.fn.self) (view l.fn.pass) (view l.pass) list × AreSwept (opening_at l.fn.self) l.fn.part l.fn.now (λ x. x ≡ l.last) None list
      × AllByRecursion WasDone (placed_events list) × (l.removed ≡ removed_count (placed_events list));
}

abbrev pub decreases-loop-digest : goal.decreases-loop-digest
decreases-loop-digest g l = length (expired_among l.sprig.entries l.now l.last)
