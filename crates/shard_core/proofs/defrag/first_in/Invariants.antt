use Rattle.std.proofs.Common.{◌≡◌, length}
use Rattle.std.specs.Prelude.{Some, filter, MatchOption}
use Rattle.sprig_tree.specs.Entries.{entry_of}
use Rattle.law_sprig.proofs.Behind.{walk_from}
use Rattle.shard_core.proofs.Lying.{here}
use Rattle.shard_core.proofs.defrag.first_in.Given as goal

-- what lies in the block is from the next entry on
abbrev pub invariant-loop-next : goal.invariant-loop-next
invariant-loop-next l = record {
  rest : filter (here l.block) (walk_from (λ e. e.digest) l.next l.sprig.entries) ≡ filter (here l.block) l.sprig.entries;
  own : MatchOption l.next (Unit {0}) (λ e. entry_of e.digest l.sprig.entries ≡ Some e);
}

abbrev pub decreases-loop-next : goal.decreases-loop-next
decreases-loop-next l = length (walk_from (λ e. e.digest) l.next l.sprig.entries)
