use Rattle.std.proofs.Common.{◌≡◌, ℕ, take, length}
use Rattle.block_shelf.specs.Lives.{copies_in}
use Rattle.block_shelf.specs.Starting.{copies_at}
use Rattle.block_shelf.proofs.start.ledger_of.Given as goal

abbrev pub invariant-loop-digest : goal.invariant-loop-digest
invariant-loop-digest l = (length l.ledger ≡ l.geometry.blocks) × ((block : ℕ) → copies_in block l.ledger ≡ copies_at block (take l.digest-index l.live))
