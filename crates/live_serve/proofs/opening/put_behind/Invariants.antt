use Rattle.std.proofs.Common.{◌≡◌, ◌≤◌, ◌+◌, ◌++◌, vec_len, vec_capacity}
use Rattle.live_serve.proofs.opening.put_behind.Given as goal

abbrev pub invariant-loop-first : goal.invariant-loop-first
invariant-loop-first g l = record {
  all : l.list.items ++ l.rest.items ≡ l.fn.list.items ++ l.fn.rest.items;
  room : vec_len l.list + vec_len l.rest ≤ vec_capacity l.list;
}

abbrev pub decreases-loop-first : goal.decreases-loop-first
decreases-loop-first g l = vec_len l.rest
