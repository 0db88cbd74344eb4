use Rattle.std.proofs.Common.{◌≡◌, ◌≤◌, ◌+◌, ◌++◌, map, vec_len, vec_capacity}
use Rattle.std.specs.List.{sum_by}
use Rattle.node_serve.specs.Manning.{duty_of, links_of}
use Rattle.node_serve.proofs.manning.man_all.Given as goal

abbrev pub invariant-loop-duty : goal.invariant-loop-duty
invariant-loop-duty g l = record {
  all : map duty_of l.manned.items ++ l.duties.items ≡ l.fn.duties.items;
  room : vec_len l.manned + vec_len l.duties ≤ vec_capacity l.manned;
  kept : vec_capacity l.duties ≡ vec_capacity l.fn.duties;
  parts : (l.links.parts ≡ vec_len l.duties) × (l.ends.parts ≡ vec_len l.duties);
  idle : (l.links.amount ≡ 0) × (l.ends.amount ≡ 0);
  none : sum_by links_of l.manned.items ≡ 0;
}

abbrev pub decreases-loop-duty : goal.decreases-loop-duty
decreases-loop-duty g l = vec_len l.duties
