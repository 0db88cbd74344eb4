use Rattle.std.proofs.Common.{◌≤◌, ℕ}
use Rattle.rec_format.specs.declared.entry.Entry.{Entry}
use Rattle.arena_sprig.specs.declared.links.Gap.{Gap}
use Rattle.arena_sprig.specs.Tree.{Slots, Tree, Node, Path, size, IsPlaced}
use Rattle.arena_sprig.proofs.Lasts.{IsNearing}
use Rattle.arena_sprig.proofs.walks.last_below.Given as goal

abbrev pub invariant-loop-step : goal.invariant-loop-step
invariant-loop-step l =
    (slots : Slots) (outer : Path) (outer_gap : Gap) (entry : Entry) (a : Tree) (low : ℕ) (below : Entry) (b r : Tree)
    → IsPlaced slots l.fn.links l.fn.root outer outer_gap l.slot (Node (Node a low below b) l.slot entry r) → size (Node a low below b) ≤ l.count
    → IsNearing slots l.links l.root outer l.slot entry r (Node a low below b) l.gap l.at l.step l.count
