use Rattle.std.proofs.Common.{◌≡◌, ◌≢◌, ℕ, length}
use Rattle.raid_book.specs.Found.{copies_for}
use Rattle.shard_raid.proofs.Comparing.{HasCompared}
use Rattle.shard_raid.proofs.compare.compare_found.Given as goal

abbrev pub invariant-loop-digest : goal.invariant-loop-digest
invariant-loop-digest g l = record {
  compared : HasCompared l.number (copies_for l.part l.fn.shelf.raid.found) (copies_for l.part l.shelf.raid.found) l.fn.sprig l.sprig l.undone;
  rest : l.shelf ≡ record l.fn.shelf { raid = record l.fn.shelf.raid { found = l.shelf.raid.found } };
  others : (other : ℕ) → other ≢ l.part → copies_for other l.shelf.raid.found ≡ copies_for other l.fn.shelf.raid.found;
}

abbrev pub decreases-loop-digest : goal.decreases-loop-digest
decreases-loop-digest g l = length (copies_for l.part l.shelf.raid.found)
