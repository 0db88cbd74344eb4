use Rattle.std.proofs.Common.{◌≡◌, ◌≤◌, ◌+◌, ◌++◌, map, vec_len, vec_capacity}
use Rattle.std.specs.List.{sum_by}
use Rattle.node_serve.specs.Manning.{duty_of, links_of, ends_of}
use Rattle.node_serve.proofs.manning.relieve_all.Given as goal

abbrev pub invariant-loop-done : goal.invariant-loop-done
invariant-loop-done g l = record {
  all : l.duties.items ++ map duty_of l.manned.items ≡ l.fn.duties.items ++ map duty_of l.fn.manned.items;
  room : vec_len l.duties + vec_len l.manned ≤ vec_capacity l.duties;
  link_parts : l.links.parts + vec_len l.manned ≡ l.fn.links.parts + vec_len l.fn.manned;
  end_parts : l.ends.parts + vec_len l.manned ≡ l.fn.ends.parts + vec_len l.fn.manned;
  links : l.links.amount + sum_by links_of l.manned.items ≡ l.fn.links.amount + sum_by links_of l.fn.manned.items;
  ends : l.ends.amount + sum_by ends_of l.manned.items ≡ l.fn.ends.amount + sum_by ends_of l.fn.manned.items;
}

abbrev pub decreases-loop-done : goal.decreases-loop-done
decreases-loop-done g l = vec_len l.manned
