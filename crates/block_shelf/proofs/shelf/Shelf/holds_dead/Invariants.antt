use Rattle.std.proofs.Common.{◌≡◌, ◌<◌, ◌≤◌, ◌-◌, ℕ, []}
use Rattle.std.specs.Prelude.{IsTrue}
use Rattle.block_shelf.specs.Lives.{copies_in}
use Rattle.hold_book.specs.Holds.{has_hold}
use Rattle.block_shelf.proofs.shelf.Shelf.holds_dead.Given as goal

abbrev pub invariant-loop-block : goal.invariant-loop-block
invariant-loop-block g l = record {
  alive : (b : ℕ) → b < l.from → IsTrue (has_hold l.fn.self.holds.holds l.number b) → copies_in b l.fn.self.lives ≡ [] → ⊥;
  within : l.from ≤ l.fn.self.geometry.blocks;
}

abbrev pub decreases-loop-block : goal.decreases-loop-block
decreases-loop-block g l = l.fn.self.geometry.blocks - l.from
