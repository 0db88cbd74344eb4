use Rattle.std.proofs.Common.{List, length, arith, sym, subst, ap, ◌∙◌}
use Rattle.std.specs.Prelude.{vec_capacity}
use Rattle.shard_core.specs.View.{ShardView}
use Rattle.core_run.specs.Standing.{Each, StandsOn}
use Rattle.core_run.specs.Views.{NodeView}
use Rattle.core_run.proofs.Keeping.{few_served}
use Rattle.core_run.proofs.node.Node.counts.Goals as goal

pub counts_of-requires : goal.counts_of-requires
counts_of-requires g c =
    let few = few_served c.self.inside.set (vec_capacity c.self.inside.shards)
    (vec_capacity c.self.inside.disks) c.self.inside.shards.items c.self.inside.refused c.self.inside.disks.items c.self.invariant in
    let same = ap length c.deref.ensures.value in
    record { few = omega (arith, few, same) }

pub returns : goal.returns
returns g c = λ node stands.
    let shards = c.deref.ensures.value ∙ ap (λ (n : NodeView g.row.D.Denot). n.shards) (c.self.view_is ∙ stands.1) in
    c.counts_of.ensures node (subst (λ (s : List (ShardView g.row.D.Denot)). Each (StandsOn g.D.Disk.view) s node) (sym shards) stands.2)
