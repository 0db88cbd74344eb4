use Rattle.std.proofs.Common.{◌≡◌, length}
use Rattle.std.specs.Prelude.{filter}
use Rattle.expiry_rule.specs.Seen.{is_expired_entry}
use Rattle.law_sprig.proofs.Behind.{behind, walk_from}
use Rattle.shard_core.proofs.expire.next_expired.Given as goal

-- what is expired behind the last digest is from the next entry on
abbrev pub invariant-loop-next : goal.invariant-loop-next
invariant-loop-next l =
    filter (is_expired_entry l.now) (walk_from (λ e. e.digest) l.next l.sprig.entries) ≡ filter (is_expired_entry l.now) (behind (λ e. e.digest) l.fn.last l.sprig.entries)

abbrev pub decreases-loop-next : goal.decreases-loop-next
decreases-loop-next l = length (walk_from (λ e. e.digest) l.next l.sprig.entries)
